use Rattle.ja_holds.specs.Inner.{HasCells}
use Rattle.ja_holds.proofs.classes.declared_cells.Given as goal

abbrev pub invariant-loop-f : goal.invariant-loop-f
invariant-loop-f l = HasCells l.p l.f l.rows
