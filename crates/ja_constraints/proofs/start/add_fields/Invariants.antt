use Rattle.std.proofs.Common.{◌≡◌, ◌++◌, drop}
use Rattle.ja_constraints.specs.Starts as starts
use Rattle.ja_constraints.proofs.start.add_fields.Given as goal

abbrev pub invariant-loop-f : goal.invariant-loop-f
invariant-loop-f l = l.told ++ starts.begin_fields l.p l.f (drop l.f l.fields) ≡ l.fn.told ++ starts.begin_fields l.p 0 l.fields
