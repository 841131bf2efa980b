use Rattle.std.proofs.Common.{◌<◌, length}
use Rattle.ja_supertypes.proofs.Ranks.{rank_of}
use Rattle.ja_hier.specs.InnerIndex.{IsStraight}
use Rattle.ja_hier.proofs.forks.fork_of.Given as goal

abbrev pub invariant-loop-next : goal.invariant-loop-next
invariant-loop-next l = record {
  inside : l.at < length l.classes;
  way : IsStraight l.classes l.class l.at;
}

abbrev pub decreases-loop-next : goal.decreases-loop-next
decreases-loop-next l = rank_of l.classes l.at
