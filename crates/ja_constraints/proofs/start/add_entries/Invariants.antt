use Rattle.std.proofs.Common.{◌≡◌, ◌++◌, drop}
use Rattle.ja_constraints.specs.Starts as starts
use Rattle.ja_constraints.proofs.start.add_entries.Given as goal

abbrev pub invariant-loop-entry : goal.invariant-loop-entry
invariant-loop-entry l = l.told ++ starts.enter_all l.p (drop l.entry-index l.list) ≡ l.fn.told ++ starts.enter_all l.p l.list
