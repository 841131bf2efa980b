use Rattle.std.proofs.Common.{ℕ, take}
use Rattle.ja_kinds.specs.Effect.{IsOneOf}
use Rattle.ja_kinds.specs.InnerSolving.{Hands}
use Rattle.ja_kinds.proofs.solve.raise_all.Given as goal

-- the state was handed to the places so far
abbrev pub invariant-loop-place : goal.invariant-loop-place
invariant-loop-place l = Hands l.max_locals (λ (p : ℕ). IsOneOf p (take l.place-index l.places)) l.state l.initial.states l.states l.initial.dirty l.dirty l.changed
