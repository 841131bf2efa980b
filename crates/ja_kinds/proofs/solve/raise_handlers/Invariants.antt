use Rattle.std.proofs.Common.{ℕ, take}
use Rattle.ja_kinds.specs.Solution.{HandledAt}
use Rattle.ja_kinds.specs.InnerSolving.{Hands}
use Rattle.ja_kinds.proofs.solve.raise_handlers.Given as goal

-- the state was handed to the handlers so far
abbrev pub invariant-loop-row : goal.invariant-loop-row
invariant-loop-row l = Hands l.max_locals (λ (p : ℕ). HandledAt (take l.row-index l.rows) l.pc p) l.state l.initial.states l.states l.initial.dirty l.dirty l.changed
