use Rattle.ja_supertypes.proofs.ListSteps.{IsMembersBelow}
use Rattle.ja_supertypes.proofs.gather.members_of.Given as goal

abbrev pub invariant-loop-d : goal.invariant-loop-d
invariant-loop-d l = IsMembersBelow l.set l.d l.list
