use Rattle.std.proofs.Common.{◌≡◌, drop}
use Rattle.toml.specs.View.{items_view}
use Rattle.ja_lib.specs.File.{read_items, new_position, positions_in}
use Rattle.ja_lib.proofs.values.positions_in.Given as goal

-- the positions so far, and what is read behind them, are what is read
abbrev pub invariant-loop-item : goal.invariant-loop-item
invariant-loop-item l = read_items new_position l.positions (items_view (drop l.item-index l.items)) ≡ positions_in (items_view l.items)
