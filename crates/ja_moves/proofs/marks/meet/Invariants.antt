use Rattle.std.proofs.Common.{◌⊎◌}
use Rattle.ja_moves.specs.Growing.{Grows}
use Rattle.ja_moves.proofs.Carried.{IsMoveBelow}
use Rattle.ja_moves.proofs.marks.meet.Given as goal

abbrev pub invariant-loop-k : goal.invariant-loop-k
invariant-loop-k l = Grows l.count l.count l.initial.after l.after l.changed (λ c d. IsMoveBelow l.fresh l.k c d ⊎ IsMoveBelow l.fresh l.k d c)
