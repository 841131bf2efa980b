use Rattle.std.proofs.Common.{ℕ, ◌<◌}
use Rattle.ja_supertypes.specs.Faults.{IsCyclic}
use Rattle.ja_supertypes.proofs.cycle.check_cycles.Given as goal

abbrev pub invariant-loop-class : goal.invariant-loop-class
invariant-loop-class l = (b : ℕ) → b < l.class → IsCyclic l.heads b → ⊥
