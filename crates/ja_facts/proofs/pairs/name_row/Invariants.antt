use Rattle.std.proofs.Common.{◌≡◌, replicate}
use Rattle.ja_facts.proofs.pairs.name_row.Given as goal

abbrev pub invariant-loop-i : goal.invariant-loop-i
invariant-loop-i l = l.row ≡ replicate l._i l.name
