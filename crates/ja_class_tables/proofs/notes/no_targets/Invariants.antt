use Rattle.std.proofs.Common.{◌≡◌, replicate}
use Rattle.ja_facts.specs.FactTables.{no_targets}
use Rattle.ja_class_tables.proofs.notes.no_targets.Given as goal

abbrev pub invariant-loop-i : goal.invariant-loop-i
invariant-loop-i l = l.row ≡ replicate l._i no_targets
