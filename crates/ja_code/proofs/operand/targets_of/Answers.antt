use Rattle.std.proofs.Common.{◌≡◌, ◌+◌, ◌≤◌, arith}
use Rattle.std.proofs.Math.Nat.{mul-le-mul_left}
use Rattle.ja_code.specs.Bytes.{far, u4_at}
use Rattle.ja_code.proofs.Places.{places_more}
use Rattle.ja_code.proofs.operand.targets_of.Goals as goal

pub overflow_add-at : goal.overflow_add-at
overflow_add-at c =
    let more : c.loop.counter + 1 ≤ c.args.table.now.count = omega arith in
    omega (arith, mul-le-mul_left c.args.table.now.stride more)

pub loop-preserved : goal.loop-preserved
loop-preserved c =
    let target : c.from-in-loop.result ≡ far c.args.pc (u4_at c.args.bytes.now c.loop.at) = cc in
    (omega arith, rw (c.in_ok-push-2.ensures.ok, target) (places_more c.loop.targets c.args.pc c.args.bytes.now c.args.table.now.stride c.loop.at c.loop.counter c.args.table.now.count _ c.loop-test.true c.loop.invariant.1))
