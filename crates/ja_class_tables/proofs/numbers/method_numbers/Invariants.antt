use Rattle.std.proofs.Common.{◌≡◌, ℕ, ◌<◌, length, get_or}
use Rattle.ja_ir.specs.Lookup.{instr_at}
use Rattle.ja_class_tables.specs.InnerPool.{Grows, IsNumber, IsPool, part_of}
use Rattle.ja_class_tables.proofs.numbers.method_numbers.Given as goal

abbrev pub invariant-loop-i : goal.invariant-loop-i
invariant-loop-i l = record {
  is_pool : IsPool l.net l.pool;
  grows : Grows l.initial.pool.sets l.pool.sets;
  size : length l.row ≡ l.i;
  numbers : (b : ℕ) → b < l.i → IsNumber l.net l.pool.sets (part_of l.part l.graph l.m b (instr_at l.p l.m b)) (get_or l.row b 0);
}
