use Rattle.std.proofs.Common.{◌≡◌, [], get_or}
use Rattle.ja_moves.specs.Growing.{Grows}
use Rattle.ja_moves.proofs.Carried.{MeetsBelow}
use Rattle.ja_moves.proofs.steps.carry_row.Given as goal

abbrev pub invariant-loop-k : goal.invariant-loop-k
invariant-loop-k l = Grows l.count l.count l.fn.after l.after l.changed (λ c d. (c ≡ l.to) × MeetsBelow (get_or l.kept 0 []) l.moves l.k l.whole l.from d)
