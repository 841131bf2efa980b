use Rattle.std.proofs.Common.{ℕ, ◌<◌}
use Rattle.ja_hier.specs.Faults.{IsCrossing}
use Rattle.ja_hier.proofs.crossing.check_packages.Given as goal

abbrev pub invariant-loop-class : goal.invariant-loop-class
invariant-loop-class l = (b : ℕ) → b < l.class → IsCrossing l.tables.classes b → ⊥
