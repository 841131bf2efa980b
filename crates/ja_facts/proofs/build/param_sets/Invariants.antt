use Rattle.std.proofs.Common.{◌≡◌, map, replicate, take}
use Rattle.ja_ir.specs.declared.method.Method.{Method}
use Rattle.ja_facts.specs.ClassTables.{no_members}
use Rattle.ja_ir.specs.Params.{param_count}
use Rattle.ja_facts.proofs.build.param_sets.Given as goal

abbrev pub invariant-loop-method : goal.invariant-loop-method
invariant-loop-method l = l.rows ≡ map (λ (method : Method). replicate (param_count method) (no_members l.n)) (take l.method-index l.p.methods)
