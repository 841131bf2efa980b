use Rattle.std.proofs.Common.{ℕ, ◌<◌}
use Rattle.ja_supertypes.specs.Faults.{IsPlatform}
use Rattle.ja_supertypes.proofs.names.check_platform.Given as goal

abbrev pub invariant-loop-class : goal.invariant-loop-class
invariant-loop-class l = (b : ℕ) → b < l.class → IsPlatform l.heads b → ⊥
