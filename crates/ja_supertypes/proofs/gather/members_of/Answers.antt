use Rattle.std.proofs.Common.{sym, subst, arith}
use Rattle.ja_supertypes.proofs.ListSteps.{IsMembersBelow, members-begin, members-step, members-end}
use Rattle.ja_supertypes.proofs.gather.members_of.Goals as goal

pub loop-d-init : goal.loop-d-init
loop-d-init c = subst (IsMembersBelow c.args.set.now 0) (sym c.new-list.ensures) (members-begin c.args.set.now)

pub loop-d-preserved : goal.loop-d-preserved
loop-d-preserved c =
    members-step c.args.set.now c.loop-d.list c.push_if.new.list c.loop-d.d c.contains-wanted.result (omega (arith, c.requires)) c.contains-wanted.ensures c.loop-d.invariant c.in_ok-push_if.ensures

pub returns : goal.returns
returns c = members-end c.args.set.now c.loop-d.list c.loop-d.d (omega (arith, c.requires)) c.loop-d.invariant
