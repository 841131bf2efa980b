-- Words of the private functions: what the copies mean.
use Rattle.std.specs.Prelude.{◌≡◌, ℕ, ◌<◌, List, Some, slice_get}
use Rattle.ja_node_core.specs.declared.word.Node.{Node}
use Rattle.ja_node_core.specs.Node.{Words, Knows}
use Rattle.ja_bdd.specs.Meaning.{meaning, IsMeant}
use Rattle.ja_grow.specs.declared.copies.Copies.{Copies}

abbrev pub nodes_of : Copies → List Node
nodes_of copies = copies.nodes.items

-- each copy that is not the constant false means what the old node at its place does, where that is known
abbrev pub AreCopies : Words → Words → List Node → Type 0
AreCopies old new copies = (i : ℕ) (m : Node) → slice_get copies i ≡ Some m → 0 < m.number → Knows old i → IsMeant new m.number (meaning old i)
