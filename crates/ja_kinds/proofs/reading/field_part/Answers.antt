use Rattle.std.proofs.Common.{subst, Option}
use Rattle.ja_base.specs.declared.java_type.Kind.{Kind}
use Rattle.ja_kinds.specs.InnerReading.{FindsField}
use Rattle.ja_kinds.proofs.Effects.{ok_is, field_found, field_lost}
use Rattle.ja_kinds.proofs.reading.field_part.Goals as goal

pub returns-in-Some : goal.returns-in-Some
returns-in-Some c =
    ok_is _ _ _ c.field_effect.ensures (field_found c.args.pool.now c.args.instr.now c.args.behaviour c.in-Some.kind c.requires
    (subst (λ (found : Option Kind). FindsField c.args.pool.now c.args.instr.now found) c.in-Some.is c.in_ok-found.ensures))

pub returns-in-None : goal.returns-in-None
returns-in-None c =
    field_lost c.args.pool.now c.args.instr.now c.args.behaviour c.requires
    (subst (λ (found : Option Kind). FindsField c.args.pool.now c.args.instr.now found) c.in-None.is c.in_ok-found.ensures)
