use Rattle.std.proofs.Common.{◌≡◌, ◌+◌, false, length}
use Rattle.ja_code.specs.declared.instr.RawInstr.{RawInstr}
use Rattle.ja_kinds.specs.Effect.{IsOneOf}
use Rattle.ja_kinds.specs.Solution.{IsClosed}
use Rattle.ja_kinds.specs.InnerSolving.{state_at, room, AreOnTheWay}
use Rattle.ja_kinds.proofs.Visits.{due}
use Rattle.ja_kinds.proofs.sweep.settle.Given as goal

-- the states are on the way, and where nothing changed each instruction is closed
abbrev pub invariant-loop-changed : goal.invariant-loop-changed
invariant-loop-changed l = record {
  way : AreOnTheWay l.pool l.code l.frame l.states l.dirty;
  closed : l.changed ≡ false → (i : RawInstr) → IsOneOf i l.code.instrs → IsClosed l.pool l.code l.frame (state_at l.states) i;
  size : length l.states ≡ length l.initial.states;
}

abbrev pub decreases-loop-changed : goal.decreases-loop-changed
decreases-loop-changed l = room l.frame.max_locals l.states + due l.changed
