use Rattle.std.proofs.Common.{subst, ◌↔◌, ◌⊎◌, List, get_or}
use Rattle.std.proofs.lemmas.List.{get_or_default}
use Rattle.ja_explicit.specs.declared.item.Item.TheVariants.{Context}
use Rattle.std.specs.Prelude.{Contains}
use Rattle.ja_explicit.specs.declared.item.Item.{Item}
use Rattle.ja_explicit.specs.Tables.{items_of}
use Rattle.ja_explicit.proofs.Adding.{added, nothing_new}
use Rattle.ja_explicit.proofs.Looping.{taken_all}
use Rattle.ja_explicit.proofs.solve.add_all.Goals as goal

pub loop-item-preserved : goal.loop-item-preserved
loop-item-preserved c = record {
  members = added (items_of c.args.table.now) (items_of c.loop-item.table) (items_of c.add.new.self) c.args.items.now c.loop-item.item-index _ c.in_ok-new.field-0 c.loop-item-test.true (get_or_default c.args.items.now c.loop-item.item-index (Context 0 0) (get_or c.args.items.now c.loop-item.item-index (Context 0 0)) c.loop-item-test.true) c.in_ok-new.ensures.new c.in_ok-new.ensures.has c.loop-item.invariant.members;
  idle = nothing_new (items_of c.args.table.now) (items_of c.loop-item.table) (items_of c.add.new.self) c.args.items.now c.loop-item.item-index _ c.in_ok-new.field-0 c.loop-item-test.true (get_or_default c.args.items.now c.loop-item.item-index (Context 0 0) (get_or c.args.items.now c.loop-item.item-index (Context 0 0)) c.loop-item-test.true) c.in_ok-new.ensures.new c.in_ok-new.ensures.has c.loop-item.invariant.members c.loop-item.new c.loop-item.invariant.idle;
}

pub returns-clause-members : goal.returns-clause-members
returns-clause-members c =
    subst (λ (xs : List Item). (x : Item) → Contains (items_of c.loop-item.table) x ↔ (Contains (items_of c.args.table.now) x ⊎ Contains xs x)) (taken_all c.args.items.now c.loop-item.item-index c.loop-item-test.false) c.loop-item.invariant.members
