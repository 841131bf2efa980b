use Rattle.std.proofs.Common.{◌≡◌, ◌++◌, ◌+◌, drop}
use Rattle.ja_constraints.specs.Starts as starts
use Rattle.ja_constraints.proofs.start.add_gives_each.Given as goal

abbrev pub invariant-loop-type_ : goal.invariant-loop-type_
invariant-loop-type_ l = record {
  count : l.k ≡ l.first + l.type_-index;
  told : l.told ++ starts.gives_each l.p l.m l.k (drop l.type_-index l.types) ≡ l.fn.told ++ starts.gives_each l.p l.m l.first l.types;
}
