-- What contracts say of tables, of what seats know, and of a table that is full.
use Rattle.std.specs.Prelude.{◌≡◌, ◌≢◌, ℕ, ◌<◌, Option, Some}
use Rattle.atomic_table.specs.Seated.{TableId}
use Rattle.ja_node_core.specs.declared.aim.Aim.{Ghosts}
use Rattle.ja_node_core.specs.Tree.{Tree, branch}
use Rattle.ja_node_core.specs.Word.{word_of, places, place}
use Rattle.ja_node_core.specs.Node.{Words, Means, IsOther}
use Rattle.ja_node_core.specs.Machine.{word_at, IsKnownChild}
use Rattle.ja_node_table.specs.declared.view.Plan.{Plan}
use Rattle.ja_node_table.specs.declared.seat.NodeSeat.{NodeSeat}
use Rattle.ja_node_table.specs.declared.table.NodeTable.{NodeTable}
use Rattle.ja_node_table.specs.declared.full.Full.{Full}

-- which table: what no other table shares with it, and its aim and number of slots
pub record Home (A : Type 0) : Type 0 where
  pub table : TableId
  pub plan : Option (Plan A)

module _ {A : Type 0} where
  abbrev pub table_home : NodeTable A → Home A
  table_home t = record { table = t.table.shared.table_id; plan = Some t.table.shared.key }

  -- the aim that the table is for
  abbrev pub aim_of : NodeTable A → A
  aim_of t = t.table.shared.key.aim

  abbrev pub slots_of : NodeTable A → ℕ
  slots_of t = t.table.shared.key.slots

module _ {A : Type 0} {G : Ghosts A} where
  abbrev pub seat_home : NodeSeat A G → Home A
  seat_home s = record { table = s.seat.table_id; plan = s.seat.me.0.plan }

  -- the seat belongs to the table
  abbrev pub IsOf : NodeTable A → NodeSeat A G → Type 0
  IsOf t s = seat_home s ≡ table_home t

  -- the words that the seat has seen, by their places
  abbrev pub known : NodeSeat A G → Words
  known s = word_at s.seat.me.0.known

  -- the word that a full table had no room for, and the table's number of slots and aim
  abbrev pub wanted_word : Full A G → ℕ
  wanted_word f = f.word

  abbrev pub full_slots : Full A G → ℕ
  full_slots f = f.slots

  abbrev pub full_aim : Full A G → A
  full_aim f = f.aim

  -- the table has no room for the word w, by what a seat knows: another node stands at each place of its path
  pub record LacksRoom (t : NodeTable A) (seen : Words) (w : ℕ) (f : Full A G) : Type 0 where
    pub word : wanted_word f ≡ w
    pub slots : full_slots f ≡ slots_of t
    pub aim : full_aim f ≡ aim_of t
    pub others : (i : ℕ) → i < places (slots_of t) → IsOther seen w (place (slots_of t) w i)

-- what is asked of a new node: both children are known, their variables are greater, and what the node means is of the aim where the children differ
pub record MayMake (aim : Tree → Type 0) (seen : Words) (var lo hi : ℕ) : Type 0 where
  pub low : (t : Tree) × IsKnownChild seen var lo t
  pub high : (t : Tree) × IsKnownChild seen var hi t
  pub aimed : lo ≢ hi → aim (branch var low.0 high.0)

-- the number is that of the word with these parts, and the node is known
pub record IsMade (old new : Words) (var lo hi n : ℕ) : Type 0 where
  pub word : new n ≡ word_of var lo hi
  pub means : (low high : Tree) → Means old low lo → Means old high hi → Means new (branch var low high) n
