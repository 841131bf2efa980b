use Rattle.std.proofs.Common.{◌≡◌, false, replicate}
use Rattle.ja_facts.proofs.build.flag_row.Given as goal

abbrev pub invariant-loop-i : goal.invariant-loop-i
invariant-loop-i l = l.row ≡ replicate l._i false
