use Rattle.std.proofs.Common.{take}
use Rattle.ja_hier.specs.InnerIndex.{member_names, IsNoted}
use Rattle.ja_hier.proofs.index.note_class.Given as goal

abbrev pub invariant-loop-place : goal.invariant-loop-place
invariant-loop-place l = IsNoted l.class (take l.place (member_names l.member l.head)) l.initial.index l.index
