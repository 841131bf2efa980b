use Rattle.std.proofs.Common.{◌≡◌, ◌≤◌, take, replicate}
use Rattle.ja_bytes.proofs.type_text.dims_of.Given as goal

abbrev pub invariant-loop-i : goal.invariant-loop-i
invariant-loop-i l = (l.i ≤ 255) × (take l.i l.bytes ≡ replicate l.i 91)
