use Rattle.std.proofs.Common.{◌≡◌, ◌++◌, ◌-◌, replicate}
use Rattle.ja_network.specs.declared.cell.Cell.TheVariants.{Nothing}
use Rattle.ja_cells.proofs.made.add_nothing.Given as goal

abbrev pub invariant-loop-i : goal.invariant-loop-i
invariant-loop-i l = l.row ++ replicate (l.count - l._i) Nothing ≡ l.fn.row ++ replicate l.count Nothing
