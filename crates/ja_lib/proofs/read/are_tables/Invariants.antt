use Rattle.std.proofs.Common.{◌≡◌, List, drop}
use Rattle.toml.specs.Data.{Members, as_table}
use Rattle.toml.specs.View.{items_view}
use Rattle.ja_lib.specs.File.{read_items, tables_in}
use Rattle.ja_lib.proofs.read.are_tables.Given as goal

-- the tables so far, and what is read behind them, are what is read
abbrev pub invariant-loop-value : goal.invariant-loop-value
invariant-loop-value l = (seen : List Members) × (read_items (λ seen. as_table) seen (items_view (drop l.value-index l.array)) ≡ tables_in (items_view l.array))
