use Rattle.std.proofs.Common.{◌≡◌, drop}
use Rattle.toml.specs.Data.{as_str}
use Rattle.toml.specs.View.{items_view}
use Rattle.ja_lib.specs.File.{read_items, texts_in}
use Rattle.ja_lib.proofs.values.texts_in.Given as goal

-- the texts so far, and what is read behind them, are what is read
abbrev pub invariant-loop-item : goal.invariant-loop-item
invariant-loop-item l = read_items (λ seen. as_str) l.texts (items_view (drop l.item-index l.items)) ≡ texts_in (items_view l.items)
