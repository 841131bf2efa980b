use Rattle.std.proofs.Common.{subst, Option}
use Rattle.ja_kinds.specs.declared.pool_kinds.MethodKinds.{MethodKinds}
use Rattle.ja_kinds.specs.InnerReading.{FindsMethod}
use Rattle.ja_kinds.proofs.Effects.{ok_is, method_found, method_lost}
use Rattle.ja_kinds.proofs.reading.method_part.Goals as goal

pub returns-in-Some : goal.returns-in-Some
returns-in-Some c =
    ok_is _ _ _ c.method_effect.ensures (method_found c.args.pool.now c.args.instr.now c.args.behaviour c.in-Some.kinds.taken c.in-Some.kinds.given c.requires
    (subst (λ (found : Option MethodKinds). FindsMethod c.args.pool.now c.args.instr.now found) c.in-Some.is c.in_ok-found.ensures))

pub returns-in-None : goal.returns-in-None
returns-in-None c =
    method_lost c.args.pool.now c.args.instr.now c.args.behaviour c.requires
    (subst (λ (found : Option MethodKinds). FindsMethod c.args.pool.now c.args.instr.now found) c.in-None.is c.in_ok-found.ensures)
