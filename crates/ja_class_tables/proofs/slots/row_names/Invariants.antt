use Rattle.std.proofs.Common.{take}
use Rattle.ja_class_tables.specs.InnerPool.{AreNamed, Grows, IsPool}
use Rattle.ja_class_tables.proofs.slots.row_names.Given as goal

abbrev pub invariant-loop-cell : goal.invariant-loop-cell
invariant-loop-cell l = record {
  is_pool : IsPool l.net l.pool;
  grows : Grows l.initial.pool.sets l.pool.sets;
  named : AreNamed l.net l.pool.sets (take l.cell-index l.cells) l.row;
}
