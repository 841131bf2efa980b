use Rattle.std.proofs.Common.{take}
use Rattle.ja_supertypes.specs.InnerForeign.{AreRaised}
use Rattle.ja_supertypes.proofs.foreign.raise.Given as goal

abbrev pub invariant-loop-class : goal.invariant-loop-class
invariant-loop-class l = AreRaised l.own (take l.class l.supers) l.flags
