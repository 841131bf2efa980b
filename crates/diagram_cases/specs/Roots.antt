-- Lists of nodes that a worker knows.
use Rattle.std.specs.Prelude.{◌≡◌, ℕ, List, Some, slice_get}
use Rattle.ja_node_core.specs.declared.word.Node.{Node}
use Rattle.ja_node_core.specs.Node.{Words, Knows}

abbrev pub AreKnown : Words → List Node → Type 0
AreKnown k roots = (i : ℕ) (n : Node) → slice_get roots i ≡ Some n → Knows k n.number
