use Rattle.std.proofs.Common.{◌≡◌, length}
use Rattle.ja_cells.specs.Names.{AreRows}
use Rattle.ja_cells.proofs.names.rows_of.Given as goal

abbrev pub invariant-loop-j : goal.invariant-loop-j
invariant-loop-j l = record { size : length l.rows ≡ l.j; rows : AreRows l.p l.m l.method l.j l.rows }
