use Rattle.std.proofs.Common.{ℕ, ◌<◌, get_or}
use Rattle.ja_hier.specs.InnerIndex.{DeclaresFor}
use Rattle.ja_hier.proofs.fields.is_declared_above.Given as goal

abbrev pub invariant-loop-other : goal.invariant-loop-other
invariant-loop-other l = (j : ℕ) → j < l.other-index → DeclaresFor l.tables.classes l.name l.desc l.class (get_or l.listed j 0) → ⊥
