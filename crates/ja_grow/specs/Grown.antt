-- What contracts say of a table that was made anew, and of its roots.
use Rattle.std.specs.Prelude.{◌≡◌, ℕ, List, Some, length, slice_get}
use Rattle.ja_node_core.specs.declared.aim.Aim.{Ghosts}
use Rattle.ja_node_core.specs.declared.word.Node.{Node}
use Rattle.ja_node_core.specs.Tree.{Tree}
use Rattle.ja_node_core.specs.Node.{Words, Knows}
use Rattle.ja_node_table.specs.declared.table.NodeTable.{NodeTable}
use Rattle.ja_node_table.specs.declared.full.Full.{Full}
use Rattle.ja_node_table.specs.Seats.{aim_of, slots_of}
use Rattle.ja_bdd.specs.Functions.{IsAimed}
use Rattle.ja_bdd.specs.Meaning.{meaning, IsMeant}
use Rattle.ja_bdd.specs.Room.{LacksRoomUnder}

-- each root is known, and what it means is of the aim
abbrev pub AreDue : (Tree → Type 0) → Words → List Node → Type 0
AreDue aim old roots = (i : ℕ) (n : Node) → slice_get roots i ≡ Some n → Knows old n.number × IsAimed aim (meaning old n.number)

-- there are as many new roots as old ones, and each is known and means what the old one at its place does
abbrev pub AreSameRoots : Words → List Node → Words → List Node → Type 0
AreSameRoots old roots new grown = (length grown ≡ length roots) × ((i : ℕ) (n m : Node) → slice_get roots i ≡ Some n → slice_get grown i ≡ Some m → IsMeant new m.number (meaning old n.number))

-- a table of this aim and so many slots has no room for a word under what one of the roots means
pub record LacksRoomToGrow {A : Type 0} {G : Ghosts A} (aim : A) (slots : ℕ) (old : Words) (roots : List Node) (full : Full A G) : Type 0 where
  pub table : NodeTable A
  pub is : (aim_of table ≡ aim) × (slots_of table ≡ slots)
  pub seen : Words
  pub place : ℕ
  pub root : Node
  pub at : slice_get roots place ≡ Some root
  pub lacks : LacksRoomUnder table seen (meaning old root.number) full
