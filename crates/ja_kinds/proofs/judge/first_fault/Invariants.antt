use Rattle.std.proofs.Common.{take}
use Rattle.ja_code.specs.declared.instr.RawInstr.{RawInstr}
use Rattle.ja_kinds.specs.Effect.{IsOneOf}
use Rattle.ja_kinds.specs.Solution.{IsRight}
use Rattle.ja_kinds.specs.InnerSolving.{state_at}
use Rattle.ja_kinds.proofs.judge.first_fault.Given as goal

-- the instructions so far have no fault
abbrev pub invariant-loop-instr : goal.invariant-loop-instr
invariant-loop-instr l = (i : RawInstr) → IsOneOf i (take l.instr-index l.instrs) → IsRight l.pool l.frame (state_at l.states) i
