use Rattle.std.proofs.Common.{ℕ, ◌<◌, get_or}
use Rattle.ja_hier.specs.InnerIndex.{HidesAt}
use Rattle.ja_hier.proofs.crossing.crosses.Given as goal

abbrev pub invariant-loop-other : goal.invariant-loop-other
invariant-loop-other l = (j : ℕ) → j < l.other-index → HidesAt l.tables.classes l.class l.head l.method (get_or l.listed j 0) → ⊥
