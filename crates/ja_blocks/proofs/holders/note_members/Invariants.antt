use Rattle.std.specs.Prelude.{◌≡◌, ◌<◌}
use Rattle.ja_sets.specs.Sets.{Has}
use Rattle.ja_blocks.specs.Index.{IsNoted}
use Rattle.ja_blocks.proofs.holders.note_members.Given as goal

abbrev pub invariant-loop-cell : goal.invariant-loop-cell
invariant-loop-cell l = IsNoted l.initial.lists.items l.lists.items (λ k x. ((k < l.cell) × Has l.set k) × (x ≡ l.field))
