use Rattle.std.proofs.Common.{◌↔◌, ℕ, ◌<◌}
use Rattle.ja_sets.specs.Sets.{HasPair}
use Rattle.ja_matrix.specs.Matrices.{IsTable}
use Rattle.ja_moves.proofs.rows.take.Given as goal

abbrev pub invariant-loop-a : goal.invariant-loop-a
invariant-loop-a l = record {
  same : (c d : ℕ) → HasPair l.table c d ↔ ((c < l.a) × HasPair l.other c d);
  shape : IsTable l.rows l.columns l.table;
}
