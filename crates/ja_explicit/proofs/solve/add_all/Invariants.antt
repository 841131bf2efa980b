use Rattle.std.proofs.Common.{◌≡◌, ◌⊎◌, ◌↔◌, false, take}
use Rattle.std.specs.Prelude.{Contains}
use Rattle.ja_explicit.specs.declared.item.Item.{Item}
use Rattle.ja_explicit.specs.Tables.{items_of}
use Rattle.ja_explicit.proofs.solve.add_all.Given as goal

abbrev pub invariant-loop-item : goal.invariant-loop-item
invariant-loop-item l = record {
  members : (x : Item) → Contains (items_of l.table) x ↔ (Contains (items_of l.fn.table) x ⊎ Contains (take l.item-index l.items) x);
  idle : l.new ≡ false → items_of l.table ≡ items_of l.fn.table;
}
