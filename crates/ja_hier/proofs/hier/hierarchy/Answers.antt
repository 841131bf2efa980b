use Rattle.std.proofs.Common.{List, subst}
use Rattle.std.specs.Prelude.{◌≡◌, IfErr, IfOk, OnOk}
use Rattle.ja_ir.specs.declared.head.ClassHead.{ClassHead}
use Rattle.ja_hier.specs.Faults.{IsFault, IsHierarchy}
use Rattle.ja_hier.proofs.hier.hierarchy.Goals as goal

pub returns-in-Ok-clause-heads : goal.returns-in-Ok-clause-heads
returns-in-Ok-clause-heads c = subst (λ (heads : List ClassHead). IfOk c.checked.result (λ hier. hier ≡ heads)) c.in-Ok.ensures.heads c.checked.ensures.heads

pub returns-in-Ok-clause-valid : goal.returns-in-Ok-clause-valid
returns-in-Ok-clause-valid c = subst (λ (heads : List ClassHead). OnOk c.checked.result (IsHierarchy heads)) c.in-Ok.ensures.heads c.checked.ensures.valid

pub returns-in-Ok-clause-fault : goal.returns-in-Ok-clause-fault
returns-in-Ok-clause-fault c = subst (λ (heads : List ClassHead). IfErr c.checked.result (IsFault heads)) c.in-Ok.ensures.heads c.checked.ensures.fault
