use Rattle.std.proofs.Common.{ℕ, take}
use Rattle.ja_kinds.specs.Solution.{HandledAt}
use Rattle.ja_kinds.proofs.solve.is_covered.Given as goal

-- no entry so far has the pc
abbrev pub invariant-loop-row : goal.invariant-loop-row
invariant-loop-row l = (place : ℕ) → HandledAt (take l.row-index l.rows) l.pc place → ⊥
