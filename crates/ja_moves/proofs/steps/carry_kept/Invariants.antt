use Rattle.std.proofs.Common.{◌<◌, [], get_or}
use Rattle.ja_sets.specs.Sets.{Has}
use Rattle.ja_moves.specs.Carrying.{Meets}
use Rattle.ja_moves.specs.Growing.{Grows}
use Rattle.ja_moves.proofs.steps.carry_kept.Given as goal

abbrev pub invariant-loop-a : goal.invariant-loop-a
invariant-loop-a l = Grows l.count l.count l.initial.after l.after l.changed (λ c d. (c < l.a) × Has (get_or l.kept 0 []) c × Meets (get_or l.kept 0 []) l.moves l.whole c d)
