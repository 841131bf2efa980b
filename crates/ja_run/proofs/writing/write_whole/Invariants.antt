use Rattle.std.proofs.Common.{◌≤◌, ◌-◌, length, take}
use Rattle.std.specs.Io.KnownBytes.{Appends}
use Rattle.ja_run.proofs.writing.write_whole.Given as goal

-- the front of the text is written
abbrev pub invariant-loop-at : goal.invariant-loop-at
invariant-loop-at g l = record {
  within : l.at ≤ length l.text;
  front : Appends (g.O.Out.written l.fn.out) (g.O.Out.written l.out) (take l.at l.text);
  counted : g.O.Out.faults l.fn.out ≤ g.O.Out.faults l.out;
}

abbrev pub decreases-loop-at : goal.decreases-loop-at
decreases-loop-at g l = length l.text - l.at
