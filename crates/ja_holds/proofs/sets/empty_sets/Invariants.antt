use Rattle.std.proofs.Common.{◌≡◌, replicate}
use Rattle.ja_facts.specs.ClassTables.{no_members}
use Rattle.ja_holds.proofs.sets.empty_sets.Given as goal

abbrev pub invariant-loop-i : goal.invariant-loop-i
invariant-loop-i l = l.rows ≡ replicate l._i (no_members l.n)
