use Rattle.std.proofs.Common.{◌≤◌, arith}
use Rattle.std.proofs.lemmas.Result.{IfErr-weaker}
use Rattle.ja_pool.specs.Pool.{IsFirstFault}
use Rattle.ja_pool.specs.InnerShape.{OrMemory, IsFaultBehind}
use Rattle.ja_pool.proofs.ReadParts.{or_weaker, fault_first}
use Rattle.ja_pool.proofs.read.pool_from.Goals as goal

pub returns-clause-fault : goal.returns-clause-fault
returns-clause-fault c =
    let old = c.args.c.now in
    let mid = c.u2.new.self in
    let count = c.in-Ok.count in
    let some : 1 ≤ count = omega arith in
    IfErr-weaker c.pool_behind.result (OrMemory (IsFaultBehind mid count)) (OrMemory (IsFirstFault old))
    (λ f. or_weaker (IsFaultBehind mid count) (IsFirstFault old) f (λ f h. fault_first old mid count f c.in-Ok.ensures.ok some (omega arith) h)) c.pool_behind.ensures.fault
