use Rattle.std.proofs.Common.{◌≡◌, List, Some, drop, length}
use Rattle.toml.specs.Data.{Members, as_table}
use Rattle.toml.specs.View.{items_view}
use Rattle.ja_lib.specs.File.{read_items, SpellAll}
use Rattle.ja_lib.specs.InnerReading.{AreTables}
use Rattle.ja_lib.proofs.spelled.read_all.Given as goal

-- the tables so far spell the things so far, and with those behind them they are the array's tables
abbrev pub invariant-loop-place : goal.invariant-loop-place
invariant-loop-place g l = (tables : List Members) → AreTables l.values tables →
    (done : List Members) × (length done ≡ l.place) × SpellAll (g.T.Spelled.spells l.categories) done l.things
    × (read_items (λ seen. as_table) done (items_view (drop l.place l.values)) ≡ Some tables)
