use Rattle.std.proofs.Common.{◌≡◌, drop}
use Rattle.toml.specs.View.{items_view}
use Rattle.ja_lib.specs.File.{read_items, new_category, categories_in}
use Rattle.ja_lib.proofs.category.categories_in.Given as goal

-- the names so far, and what is read behind them, are what is read
abbrev pub invariant-loop-item : goal.invariant-loop-item
invariant-loop-item l = read_items new_category l.names (items_view (drop l.item-index l.items)) ≡ categories_in (items_view l.items)
