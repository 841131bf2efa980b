use Rattle.std.specs.Prelude.{◌≡◌, Contains, take}
use Rattle.ja_blocks.specs.Index.{IsNoted}
use Rattle.ja_blocks.proofs.note.note_all.Given as goal

abbrev pub invariant-loop-key : goal.invariant-loop-key
invariant-loop-key l = IsNoted l.initial.lists.items l.lists.items (λ k x. Contains (take l.key-index l.keys) k × (x ≡ l.number))
