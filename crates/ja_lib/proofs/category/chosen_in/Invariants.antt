use Rattle.std.proofs.Common.{◌≡◌, drop}
use Rattle.toml.specs.View.{items_view}
use Rattle.ja_lib.specs.File.{read_items, new_mark, chosen_in}
use Rattle.ja_lib.proofs.category.chosen_in.Given as goal

-- the names so far, and what is read behind them, are what is read
abbrev pub invariant-loop-item : goal.invariant-loop-item
invariant-loop-item l = read_items (new_mark l.categories) l.chosen (items_view (drop l.item-index l.items)) ≡ chosen_in l.categories (items_view l.items)
