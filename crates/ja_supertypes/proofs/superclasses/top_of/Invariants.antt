use Rattle.ja_supertypes.proofs.Climbs.{Stands}
use Rattle.ja_supertypes.proofs.Ranks.{rank_of}
use Rattle.ja_supertypes.proofs.superclasses.top_of.Given as goal

abbrev pub invariant-loop-top : goal.invariant-loop-top
invariant-loop-top l = Stands l.heads l.class l.top

abbrev pub decreases-loop-top : goal.decreases-loop-top
decreases-loop-top l = rank_of l.heads l.top
