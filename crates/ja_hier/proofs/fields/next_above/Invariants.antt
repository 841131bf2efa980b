use Rattle.std.proofs.Common.{ℕ, ◌<◌, get_or}
use Rattle.ja_hier.specs.InnerIndex.{IsDeclaredAbove}
use Rattle.ja_hier.proofs.fields.next_above.Given as goal

abbrev pub invariant-loop-next : goal.invariant-loop-next
invariant-loop-next l = (j : ℕ) → j < l.next-index → IsDeclaredAbove l.tables.classes l.name l.desc (get_or l.supertypes j 0) → ⊥
