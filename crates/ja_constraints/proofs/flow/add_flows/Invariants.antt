use Rattle.std.proofs.Common.{◌≡◌, ◌++◌, drop}
use Rattle.ja_constraints.specs.Flows as flows
use Rattle.ja_constraints.proofs.flow.add_flows.Given as goal

abbrev pub invariant-loop-cell : goal.invariant-loop-cell
invariant-loop-cell l = l.told ++ flows.flows l.m l.j l.next (drop l.cell-index l.there) ≡ l.fn.told ++ flows.flows l.m l.j l.next l.there
