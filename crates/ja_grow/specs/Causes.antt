-- When no table is made.
use Rattle.std.specs.Prelude.{ℕ, List}
use Rattle.ja_node_core.specs.declared.aim.Aim.{Ghosts}
use Rattle.ja_node_core.specs.declared.word.Node.{Node}
use Rattle.ja_node_core.specs.Node.{Words}
use Rattle.ja_grow.specs.declared.fault.GrowFault.{GrowFault}
use Rattle.ja_grow.specs.declared.fault.GrowFault.TheVariants.{Memory, Full}
use Rattle.ja_grow.specs.Grown.{LacksRoomToGrow}

-- a full table of this aim and so many slots is one that has no room for a word under what one of the roots means
abbrev pub IsCause : {A : Type 0} {G : Ghosts A} → A → ℕ → Words → List Node → GrowFault A G → Type 0
IsCause aim slots old roots Memory = Unit {0}
IsCause aim slots old roots (Full full) = LacksRoomToGrow aim slots old roots full
