use Rattle.std.proofs.Common.{◌≡◌, ℕ, ◌<◌, length, get_or}
use Rattle.ja_facts.specs.FactTables.{no_targets}
use Rattle.ja_class_tables.specs.InnerPool.{Grows}
use Rattle.ja_class_tables.specs.InnerNotes.{IsSaid}
use Rattle.ja_class_tables.proofs.targets.method_targets.Given as goal

abbrev pub invariant-loop-i : goal.invariant-loop-i
invariant-loop-i l = record {
  grows : Grows l.initial.pool l.pool;
  size : length l.row ≡ l.i;
  said : (b : ℕ) → b < l.i → IsSaid l.pool (get_or l.noted b no_targets) (get_or l.row b 0);
}
