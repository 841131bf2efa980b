use Rattle.ja_cells.specs.Joins.{Keeps, HasAllJumps}
use Rattle.ja_cells.proofs.joins.add_code.Given as goal

abbrev pub invariant-loop-index : goal.invariant-loop-index
invariant-loop-index l = record { keeps : Keeps l.fn.joins l.joins; jumps : HasAllJumps l.joins l.code l.index }
