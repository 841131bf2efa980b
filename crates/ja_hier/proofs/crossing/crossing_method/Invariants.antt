use Rattle.std.proofs.Common.{ℕ, ◌<◌}
use Rattle.ja_hier.specs.Faults.{CrossesPackage}
use Rattle.ja_hier.proofs.crossing.crossing_method.Given as goal

abbrev pub invariant-loop-k : goal.invariant-loop-k
invariant-loop-k l = (j : ℕ) → j < l.k → CrossesPackage l.tables.classes l.class j → ⊥
