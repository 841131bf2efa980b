use Rattle.std.proofs.Common.{◌≡◌, false, length, map, replicate, take}
use Rattle.ja_ir.specs.declared.method.Method.{Method}
use Rattle.ja_facts.proofs.graph.reached_flags.Given as goal

abbrev pub invariant-loop-method : goal.invariant-loop-method
invariant-loop-method l = l.rows ≡ map (λ (method : Method). replicate (length method.code) false) (take l.method-index l.p.methods)
