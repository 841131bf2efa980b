use Rattle.std.proofs.Common.{◌<◌, [], get_or}
use Rattle.ja_matrix.specs.Matrices.{IsTable, Gains}
use Rattle.ja_moves.specs.Carrying.{IsWidened}
use Rattle.ja_moves.proofs.wide.widen.Given as goal

abbrev pub invariant-loop-a : goal.invariant-loop-a
invariant-loop-a l = record {
  gains : Gains l.initial.whole l.whole (λ c d. (c < l.a) × IsWidened (get_or l.affected 0 []) (get_or l.met 0 []) c d);
  shape : IsTable l.count l.count l.whole;
}
