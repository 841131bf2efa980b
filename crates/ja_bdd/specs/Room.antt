-- When an operation has no room.
use Rattle.ja_node_core.specs.declared.aim.Aim.{Ghosts}
use Rattle.ja_node_core.specs.Node.{Words}
use Rattle.ja_node_table.specs.declared.table.NodeTable.{NodeTable}
use Rattle.ja_node_table.specs.declared.full.Full.{Full}
use Rattle.ja_node_table.specs.Seats.{wanted_word, LacksRoom}
use Rattle.ja_bdd.specs.Functions.{Function}
use Rattle.ja_bdd.specs.Meaning.{IsUnder}

-- the table has no room for a word under the function
pub record LacksRoomUnder {A : Type 0} {G : Ghosts A} (t : NodeTable A) (seen : Words) (φ : Function) (full : Full A G) : Type 0 where
  pub under : IsUnder seen φ (wanted_word full)
  pub room : LacksRoom t seen (wanted_word full) full
