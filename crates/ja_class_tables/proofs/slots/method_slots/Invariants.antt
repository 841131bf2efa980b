use Rattle.std.proofs.Common.{◌≡◌, ℕ, ◌<◌, length}
use Rattle.ja_class_tables.specs.InnerPool.{AreNamed, Grows, IsPool, cells_before, row_of}
use Rattle.ja_class_tables.proofs.slots.method_slots.Given as goal

abbrev pub invariant-loop-i : goal.invariant-loop-i
invariant-loop-i l = record {
  is_pool : IsPool l.net l.pool;
  grows : Grows l.initial.pool.sets l.pool.sets;
  size : length l.rows ≡ l.i;
  named : (b : ℕ) → b < l.i → AreNamed l.net l.pool.sets (cells_before l.names l.graph l.m b) (row_of l.rows b);
}
