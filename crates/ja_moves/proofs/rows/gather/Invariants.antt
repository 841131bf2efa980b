use Rattle.std.proofs.Common.{◌≡◌, [], get_or}
use Rattle.ja_matrix.specs.Matrices.{IsTable, Gains}
use Rattle.ja_moves.specs.Carrying.{IsGathered}
use Rattle.ja_moves.proofs.rows.gather.Given as goal

abbrev pub invariant-loop-a : goal.invariant-loop-a
invariant-loop-a l = record {
  gains : Gains l.initial.row l.row (λ c d. (c ≡ 0) × IsGathered (get_or l.kept 0 []) l.whole l.from l.a d);
  shape : IsTable 1 l.count l.row;
}
