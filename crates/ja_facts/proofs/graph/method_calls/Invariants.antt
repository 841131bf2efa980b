use Rattle.std.proofs.Common.{◌≡◌, map, take}
use Rattle.ja_ir.specs.declared.method.Instr.{Instr}
use Rattle.ja_facts.specs.FactTables.{calls_of}
use Rattle.ja_facts.proofs.graph.method_calls.Given as goal

abbrev pub invariant-loop-instr : goal.invariant-loop-instr
invariant-loop-instr l = l.row ≡ map (λ (instr : Instr). calls_of instr.op) (take l.instr-index l.method.code)
