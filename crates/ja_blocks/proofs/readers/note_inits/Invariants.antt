use Rattle.std.specs.Prelude.{◌≡◌, Contains, take}
use Rattle.ja_blocks.specs.Index.{IsNoted}
use Rattle.ja_blocks.proofs.readers.note_inits.Given as goal

abbrev pub invariant-loop-init : goal.invariant-loop-init
invariant-loop-init l = IsNoted l.initial.lists.items l.lists.items (λ k x. Contains (take l.init-index l.inits) (record { 0 = k }) × (x ≡ l.number))
