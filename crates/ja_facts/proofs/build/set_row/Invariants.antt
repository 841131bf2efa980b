use Rattle.std.proofs.Common.{◌≡◌, replicate}
use Rattle.ja_facts.specs.ClassTables.{no_members}
use Rattle.ja_facts.proofs.build.set_row.Given as goal

abbrev pub invariant-loop-i : goal.invariant-loop-i
invariant-loop-i l = l.row ≡ replicate l._i (no_members l.n)
