use Rattle.std.proofs.Common.{take}
use Rattle.ja_supertypes.specs.InnerRows.{IsSetOf}
use Rattle.ja_supertypes.proofs.direct.set_of.Given as goal

abbrev pub invariant-loop-place : goal.invariant-loop-place
invariant-loop-place l = IsSetOf (take l.place-index l.places) l.len l.set
