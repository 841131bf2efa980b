use Rattle.std.proofs.Common.{◌≡◌, take}
use Rattle.ja_supertypes.proofs.copy.copy_heads.Given as goal

abbrev pub invariant-loop-head : goal.invariant-loop-head
invariant-loop-head l = l.copies ≡ take l.head-index l.heads
