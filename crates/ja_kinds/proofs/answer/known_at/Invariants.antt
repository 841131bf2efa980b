use Rattle.std.proofs.Common.{◌≡◌, take}
use Rattle.ja_kinds.specs.Answer.{known_at}
use Rattle.ja_kinds.specs.InnerSolving.{state_at}
use Rattle.ja_kinds.proofs.answer.known_at.Given as goal

-- what is known before the instructions so far
abbrev pub invariant-loop-instr : goal.invariant-loop-instr
invariant-loop-instr l = l.all ≡ known_at (state_at l.states) (take l.instr-index l.instrs)
