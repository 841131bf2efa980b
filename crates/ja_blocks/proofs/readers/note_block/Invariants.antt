use Rattle.std.specs.Prelude.{◌≡◌}
use Rattle.ja_blocks.specs.Index.{IsNoted}
use Rattle.ja_blocks.specs.Readers.{ReadsEnd, GetsAt}
use Rattle.ja_blocks.specs.Inner.{HasInstrBelow}
use Rattle.ja_blocks.proofs.readers.note_block.Given as goal

abbrev pub invariant-loop-i : goal.invariant-loop-i
invariant-loop-i l =
    (l.readers.begins ≡ l.initial.readers.begins)
    × IsNoted l.initial.readers.ends.items l.readers.ends.items (λ k x. HasInstrBelow l.block l.i (λ m i. ReadsEnd l.p l.graph m i k) × (x ≡ l.number))
    × IsNoted l.initial.readers.fields.items l.readers.fields.items (λ k x. HasInstrBelow l.block l.i (λ m i. GetsAt l.p m i k) × (x ≡ l.number))
