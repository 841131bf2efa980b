use Rattle.std.proofs.Common.{◌≡◌, ℕ, ◌<◌, length}
use Rattle.ja_class_tables.specs.InnerPool.{AreNumbers, Grows, IsPool, row_of}
use Rattle.ja_class_tables.proofs.numbers.numbers_of.Given as goal

abbrev pub invariant-loop-m : goal.invariant-loop-m
invariant-loop-m l = record {
  is_pool : IsPool l.net l.pool;
  grows : Grows l.initial.pool.sets l.pool.sets;
  size : length l.table ≡ l.m;
  numbers : (a : ℕ) → a < l.m → AreNumbers l.p l.net l.part l.graph l.pool.sets a (row_of l.table a);
}
