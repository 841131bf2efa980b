use Rattle.std.proofs.Common.{◌≡◌, ◌++◌, drop}
use Rattle.ja_constraints.specs.Flows as flows
use Rattle.ja_constraints.proofs.flow.add_begins.Given as goal

abbrev pub invariant-loop-method : goal.invariant-loop-method
invariant-loop-method l = l.told ++ flows.begin_each (drop l.method-index l.methods) ≡ l.fn.told ++ flows.begin_each l.methods
