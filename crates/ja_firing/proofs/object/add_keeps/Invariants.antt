use Rattle.std.proofs.Common.{◌≡◌, ◌-◌, ◌++◌}
use Rattle.ja_network.specs.declared.cell.Cell.TheVariants.{Before}
use Rattle.ja_cells.specs.Rows.{cell_in}
use Rattle.ja_constraints.specs.Links.{over, copy}
use Rattle.ja_firing.specs.Tokens.{keeps}
use Rattle.ja_firing.proofs.object.add_keeps.Given as goal

abbrev pub invariant-loop-slot : goal.invariant-loop-slot
invariant-loop-slot l =
    l.told ++ over (λ slot. copy (cell_in l.row slot) (Before l.method l.index slot)) l.slot (l.locals - l.slot) ≡ l.fn.told ++ keeps l.method l.index l.row l.locals
