use Rattle.std.proofs.Common.{ℕ, [], get_or}
use Rattle.ja_moves.specs.Carrying.{Meets}
use Rattle.ja_moves.specs.Growing.{Grows}
use Rattle.ja_moves.proofs.Carried.{IsMoveBelow}
use Rattle.ja_moves.proofs.steps.carry_moved.Given as goal

abbrev pub invariant-loop-k : goal.invariant-loop-k
invariant-loop-k l = Grows l.count l.count l.initial.after l.after l.changed (λ c d. (a : ℕ) × IsMoveBelow l.moves l.k a c × Meets (get_or l.kept 0 []) l.moves l.whole a d)
