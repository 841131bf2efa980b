use Rattle.std.proofs.Common.{◌≡◌, map, take}
use Rattle.ja_ir.specs.Categories.{instr_in}
use Rattle.ja_ir.proofs.project.code_in.Given as goal

abbrev pub invariant-loop-instr : goal.invariant-loop-instr
invariant-loop-instr l = l.list ≡ map (instr_in l.category) (take l.instr-index l.code)
