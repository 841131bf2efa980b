use Rattle.std.proofs.Common.{◌≡◌, take, sum_by}
use Rattle.ja_code.specs.declared.instr.RawInstr.{RawInstr}
use Rattle.ja_kinds.proofs.method.size_of.Given as goal

-- the length of the instructions so far
abbrev pub invariant-loop-instr : goal.invariant-loop-instr
invariant-loop-instr l = l.size ≡ sum_by (λ (i : RawInstr). i.length) (take l.instr-index l.instrs)
