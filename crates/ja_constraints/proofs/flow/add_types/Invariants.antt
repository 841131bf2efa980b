use Rattle.std.proofs.Common.{◌≡◌, ◌≤◌, ◌+◌, ◌++◌, drop}
use Rattle.ja_base.specs.Descriptor.{words_of_all}
use Rattle.ja_constraints.specs.Flows as flows
use Rattle.ja_constraints.proofs.flow.add_types.Given as goal

abbrev pub invariant-loop-type_ : goal.invariant-loop-type_
invariant-loop-type_ l = record {
  words : l.local + words_of_all (drop l.type_-index l.types) ≤ 256;
  params : l.param ≤ l.local;
  told : l.told ++ flows.enter_types l.method l.param l.local (drop l.type_-index l.types) ≡ l.fn.told ++ flows.enter_types l.method l.first l.first l.types;
}
