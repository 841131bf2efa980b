use Rattle.std.specs.Prelude.{◌≡◌, ℕ, Some, length, slice_get}
use Rattle.ja_node_core.specs.declared.word.Node.{Node}
use Rattle.ja_node_table.specs.Seats.{IsOf, known}
use Rattle.ja_bdd.specs.Meaning.{meaning, IsMeant}
use Rattle.ja_bdd.specs.Workers.{IsWorkerOf, seen}
use Rattle.ja_grow.specs.Inner.{nodes_of, AreCopies}
use Rattle.ja_grow.proofs.growth.Growth.copy_roots.Given as goal

abbrev pub invariant-loop-root : goal.invariant-loop-root
invariant-loop-root g l =
    IsOf l.old l.seat × (known l.seat ≡ known l.fn.seat) × IsWorkerOf l.table l.self.worker
    × AreCopies (known l.fn.seat) (seen l.self.worker) (nodes_of l.self.copies)
    × (length l.grown ≡ l.root-index)
    × ((i : ℕ) (n m : Node) → slice_get l.roots i ≡ Some n → slice_get l.grown i ≡ Some m → IsMeant (seen l.self.worker) m.number (meaning (known l.fn.seat) n.number))
