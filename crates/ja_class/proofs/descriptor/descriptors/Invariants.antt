use Rattle.std.proofs.Common.{ℕ, ◌<◌, get_or, None}
use Rattle.ja_class.specs.Member.{HasDescriptor}
use Rattle.ja_class.proofs.descriptor.descriptors.Given as goal

abbrev pub invariant-loop-i : goal.invariant-loop-i
invariant-loop-i l = (k : ℕ) → k < l.i → HasDescriptor l.pool (get_or l.pool k None)
