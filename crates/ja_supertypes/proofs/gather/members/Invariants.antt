use Rattle.std.proofs.Common.{take}
use Rattle.ja_supertypes.specs.InnerRows.{AreMembers}
use Rattle.ja_supertypes.proofs.gather.members.Given as goal

abbrev pub invariant-loop-set : goal.invariant-loop-set
invariant-loop-set l = AreMembers (take l.set-index l.sets) l.lists
