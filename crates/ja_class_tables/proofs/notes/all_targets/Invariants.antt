use Rattle.std.proofs.Common.{◌≡◌, length, map, replicate, take}
use Rattle.ja_ir.specs.declared.method.Method.{Method}
use Rattle.ja_facts.specs.FactTables.{no_targets}
use Rattle.ja_class_tables.proofs.notes.all_targets.Given as goal

abbrev pub invariant-loop-method : goal.invariant-loop-method
invariant-loop-method l = l.rows ≡ map (λ (method : Method). replicate (length method.code) no_targets) (take l.method-index l.p.methods)
