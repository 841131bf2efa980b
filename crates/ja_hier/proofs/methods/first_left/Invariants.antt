use Rattle.std.proofs.Common.{ℕ, ◌<◌, get_or}
use Rattle.ja_hier.specs.InnerIndex.{IsSomeLeft}
use Rattle.ja_hier.proofs.methods.first_left.Given as goal

abbrev pub invariant-loop-interface : goal.invariant-loop-interface
invariant-loop-interface l = (j : ℕ) → j < l.interface-index → IsSomeLeft l.tables.classes l.name l.desc l.class (get_or l.listed j 0) → ⊥
