use Rattle.std.proofs.Common.{false, take}
use Rattle.ja_bytes.proofs.ClassName.{Runs}
use Rattle.ja_bytes.proofs.type_text.class_text_len.Given as goal

abbrev pub invariant-loop-i : goal.invariant-loop-i
invariant-loop-i l = Runs false (take l.i l.bytes) l.inside
