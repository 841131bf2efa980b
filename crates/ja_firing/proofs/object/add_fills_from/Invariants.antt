use Rattle.std.proofs.Common.{◌≡◌, ◌-◌, ◌++◌}
use Rattle.ja_network.specs.declared.cell.Cell.TheVariants.{Bag}
use Rattle.ja_constraints.specs.Links.{over, copy}
use Rattle.ja_constraints.specs.Places.{argument_cell}
use Rattle.ja_firing.specs.Tokens.{fills_from}
use Rattle.ja_firing.proofs.object.add_fills_from.Given as goal

abbrev pub invariant-loop-k : goal.invariant-loop-k
invariant-loop-k l =
    l.told ++ over (λ k. copy (argument_cell l.row l.locals l.height l.call k) (Bag l.token)) l.k (l.count - l.k) ≡ l.fn.told ++ fills_from l.row l.locals l.height l.token l.call
