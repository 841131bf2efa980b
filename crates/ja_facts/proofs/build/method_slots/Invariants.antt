use Rattle.std.proofs.Common.{◌≡◌, map, replicate, take}
use Rattle.ja_ir.specs.declared.method.Instr.{Instr}
use Rattle.ja_facts.specs.ClassTables.{slots_before}
use Rattle.ja_facts.proofs.build.method_slots.Given as goal

abbrev pub invariant-loop-instr : goal.invariant-loop-instr
invariant-loop-instr l = l.rows ≡ map (λ (instr : Instr). replicate (slots_before l.method instr) 0) (take l.instr-index l.method.code)
