use Rattle.ja_supertypes.proofs.Climbs.{Gathers}
use Rattle.ja_supertypes.proofs.Ranks.{height_of}
use Rattle.ja_supertypes.proofs.superclasses.superclass_set.Given as goal

abbrev pub invariant-loop-at : goal.invariant-loop-at
invariant-loop-at l = Gathers l.heads l.class l.at l.set

abbrev pub decreases-loop-at : goal.decreases-loop-at
decreases-loop-at l = height_of l.heads l.at
