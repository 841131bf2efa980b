use Rattle.std.proofs.Common.{◌≤◌, ◌^◌, List, length, sym, subst}
use Rattle.std.specs.Prelude.{◌≡◌, IfErr, IfOk}
use Rattle.ja_ir.specs.declared.head.ClassHead.{ClassHead}
use Rattle.ja_supertypes.specs.Faults.{AreClasses}
use Rattle.ja_hier.specs.Faults.{IsFault}
use Rattle.ja_hier.specs.InnerIndex.{AreForks}
use Rattle.ja_hier.proofs.hier.ways_of.Goals as goal

pub with_forks-requires-clause-few : goal.with_forks-requires-clause-few
with_forks-requires-clause-few c = subst (λ (heads : List ClassHead). length heads ≤ 2 ^ 26) (sym c.in-Ok.ensures.heads) c.requires

pub with_forks-requires-clause-valid : goal.with_forks-requires-clause-valid
with_forks-requires-clause-valid c = subst AreClasses (sym c.in-Ok.ensures.heads) c.in-Ok.ensures.valid

pub returns-in-Ok-clause-heads : goal.returns-in-Ok-clause-heads
returns-in-Ok-clause-heads c = subst (λ (heads : List ClassHead). IfOk c.with_forks.result (λ ways. ways.classes ≡ heads)) c.in-Ok.ensures.heads c.with_forks.ensures.classes

pub returns-in-Ok-clause-forks : goal.returns-in-Ok-clause-forks
returns-in-Ok-clause-forks c = subst (λ (heads : List ClassHead). IfOk c.with_forks.result (λ ways. AreForks heads ways.forks)) c.in-Ok.ensures.heads c.with_forks.ensures.forks

pub returns-in-Ok-clause-fault : goal.returns-in-Ok-clause-fault
returns-in-Ok-clause-fault c = subst (λ (heads : List ClassHead). IfErr c.with_forks.result (IsFault heads)) c.in-Ok.ensures.heads c.with_forks.ensures.fault
