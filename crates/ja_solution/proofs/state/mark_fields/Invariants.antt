use Rattle.std.specs.Prelude.{take}
use Rattle.ja_solution.specs.InnerMarks.{AreMarked, ReadsOneOf}
use Rattle.ja_solution.proofs.state.mark_fields.Given as goal

abbrev pub invariant-loop-field : goal.invariant-loop-field
invariant-loop-field l = AreMarked l.initial.dirty.items l.dirty.items (ReadsOneOf l.readers (take l.field-index l.fields))
