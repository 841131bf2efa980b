use Rattle.std.proofs.Common.{◌≡◌, ◌++◌, drop}
use Rattle.ja_constraints.specs.Starts as starts
use Rattle.ja_constraints.proofs.start.add_makes.Given as goal

abbrev pub invariant-loop-token : goal.invariant-loop-token
invariant-loop-token l = l.told ++ starts.makes_each (drop l.token-index l.made) ≡ l.fn.told ++ starts.makes_each l.made
