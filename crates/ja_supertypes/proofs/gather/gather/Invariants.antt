use Rattle.std.proofs.Common.{take}
use Rattle.ja_supertypes.specs.InnerRows.{AreGathered}
use Rattle.ja_supertypes.proofs.gather.gather.Given as goal

abbrev pub invariant-loop-class : goal.invariant-loop-class
invariant-loop-class l = AreGathered l.own (take l.class l.supers) l.len l.sets.items
