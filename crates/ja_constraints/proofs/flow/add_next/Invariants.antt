use Rattle.std.proofs.Common.{◌≡◌, ◌++◌, drop}
use Rattle.ja_constraints.specs.Flows as flows
use Rattle.ja_constraints.proofs.flow.add_next.Given as goal

abbrev pub invariant-loop-j : goal.invariant-loop-j
invariant-loop-j l = l.told ++ flows.goes_on l.names l.m l.next (drop l.j-index l.targets) ≡ l.fn.told ++ flows.goes_on l.names l.m l.next l.targets
