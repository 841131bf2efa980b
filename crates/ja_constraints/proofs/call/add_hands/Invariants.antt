use Rattle.std.proofs.Common.{◌≡◌, ◌-◌, ◌++◌}
use Rattle.ja_network.specs.declared.cell.Cell.TheVariants.{Param}
use Rattle.ja_constraints.specs.Links.{over, copy}
use Rattle.ja_constraints.specs.Places.{argument_cell}
use Rattle.ja_constraints.specs.Calls.{hands}
use Rattle.ja_constraints.proofs.call.add_hands.Given as goal

abbrev pub invariant-loop-param : goal.invariant-loop-param
invariant-loop-param l =
    l.told ++ over (λ k. copy (argument_cell l.row l.locals l.height l.call k) (Param l.method k)) l.param (l.count - l.param) ≡ l.fn.told ++ hands l.row l.locals l.height l.call l.method
