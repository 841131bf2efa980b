use Rattle.std.proofs.Common.{◌≡◌, map, take}
use Rattle.ja_facts.specs.Shared.{zero_calls_of}
use Rattle.ja_facts.proofs.graph.call_names.Given as goal

abbrev pub invariant-loop-method : goal.invariant-loop-method
invariant-loop-method l = l.rows ≡ map zero_calls_of (take l.method-index l.p.methods)
