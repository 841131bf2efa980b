-- What is known of nodes and parts that were asked for.
use Rattle.std.specs.Prelude.{ℕ}
use Rattle.ja_node_core.specs.Tree.{Tree}
use Rattle.ja_node_core.specs.Node.{Words}
use Rattle.ja_node_core.specs.Machine.{IsKnownChild}
use Rattle.ja_node_core.specs.declared.word.Node.{Node}
use Rattle.ja_node_core.specs.declared.word.Parts.{Parts}

-- the node may be a child of this variable
pub record IsUnder (known : Words) (var : ℕ) (n : Node) : Type 0 where
  pub tree : Tree
  pub child : IsKnownChild known var n.number tree

-- the children of these parts may be that
pub record IsAsked (known : Words) (p : Parts) : Type 0 where
  pub low : IsUnder known p.var p.lo
  pub high : IsUnder known p.var p.hi
