use Rattle.std.proofs.Common.{take}
use Rattle.ja_supertypes.specs.InnerRows.{IsGathered}
use Rattle.ja_supertypes.proofs.gather.gathered.Given as goal

abbrev pub invariant-loop-above : goal.invariant-loop-above
invariant-loop-above l = IsGathered l.own l.class (take l.above-index l.supers) l.len l.set
