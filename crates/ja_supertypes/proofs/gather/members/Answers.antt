use Rattle.std.proofs.Common.{◌<◌, length, arith}
use Rattle.ja_supertypes.proofs.ListSteps.{members-more}
use Rattle.ja_supertypes.proofs.gather.members.Goals as goal

pub loop-set-preserved : goal.loop-set-preserved
loop-set-preserved c =
    let lt : c.loop-set.set-index < length c.args.sets.now = omega arith in
    members-more c.args.sets.now c.loop-set.set-index c.set-item.result c.loop-set.lists c.push.new.self c.in_ok-list.list lt c.set-item.is c.loop-set.invariant c.in_ok-list.ensures c.in_ok-push.ensures.ok
