use Rattle.std.proofs.Common.{ℕ, sym, ap, subst, ◌∙◌}
use Rattle.std.specs.Prelude.{IsTrue}
use Rattle.ja_pool.specs.declared.slot.Slot.{Slot}
use Rattle.ja_pool.specs.Table.{is_constant_tag}
use Rattle.ja_pool.specs.InnerSlot.{form_tag}
use Rattle.ja_pool.specs.Constant.{IsConstant}
use Rattle.ja_pool.proofs.Tables.{tag_is, constant_at}
use Rattle.ja_pool.proofs.look.constant_in.Goals as goal

pub constant_of-requires-clause-constant : goal.constant_of-requires-clause-constant
constant_of-requires-clause-constant c =
    subst (λ (n : ℕ). IsTrue (is_constant_tag n)) (tag_is c.args._bytes.now c.args.slots.now c.args.i ∙ ap (λ (s : Slot). form_tag s.form) (sym c.slot_at.ensures)) c.requires.constant

pub returns : goal.returns
returns c = constant_at c.args._bytes.now c.args.slots.now c.args.i c.constant_of.result (subst (λ (s : Slot). IsConstant s.form c.constant_of.result) c.slot_at.ensures c.constant_of.ensures)
