use Rattle.std.proofs.Common.{take}
use Rattle.ja_kinds.specs.InnerSolving.{Sweeps}
use Rattle.ja_kinds.proofs.sweep.sweep.Given as goal

-- the instructions so far were visited
abbrev pub invariant-loop-instr : goal.invariant-loop-instr
invariant-loop-instr l =
    Sweeps l.pool l.code l.frame (take l.instr-index l.code.instrs) l.initial.states l.states l.initial.dirty l.dirty l.changed
