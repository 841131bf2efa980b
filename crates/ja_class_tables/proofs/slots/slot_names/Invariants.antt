use Rattle.std.proofs.Common.{◌≡◌, ℕ, ◌<◌, length}
use Rattle.ja_class_tables.specs.InnerPool.{AreRowsNamed, Grows, IsPool, row_of}
use Rattle.ja_class_tables.proofs.slots.slot_names.Given as goal

abbrev pub invariant-loop-m : goal.invariant-loop-m
invariant-loop-m l = record {
  is_pool : IsPool l.net l.pool;
  grows : Grows l.initial.pool.sets l.pool.sets;
  size : length l.table ≡ l.m;
  named : (a : ℕ) → a < l.m → AreRowsNamed l.net l.names l.graph l.pool.sets a (row_of l.table a);
}
