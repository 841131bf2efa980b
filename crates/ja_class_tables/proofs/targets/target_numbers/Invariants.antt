use Rattle.std.proofs.Common.{◌≡◌, ℕ, ◌<◌, [], length, get_or}
use Rattle.ja_class_tables.specs.InnerPool.{Grows}
use Rattle.ja_class_tables.specs.InnerNotes.{AreTargets}
use Rattle.ja_class_tables.proofs.targets.target_numbers.Given as goal

abbrev pub invariant-loop-m : goal.invariant-loop-m
invariant-loop-m l = record {
  grows : Grows l.initial.pool l.pool;
  size : length l.table ≡ l.m;
  said : (a : ℕ) → a < l.m → AreTargets l.pool (get_or l.noted a []) (get_or l.table a []);
}
