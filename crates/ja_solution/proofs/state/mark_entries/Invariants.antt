use Rattle.std.specs.Prelude.{take}
use Rattle.ja_solution.specs.InnerMarks.{AreMarked, BeginsOneOf}
use Rattle.ja_solution.proofs.state.mark_entries.Given as goal

abbrev pub invariant-loop-entry : goal.invariant-loop-entry
invariant-loop-entry l = AreMarked l.initial.dirty.items l.dirty.items (BeginsOneOf l.layout (take l.entry-index l.entries))
