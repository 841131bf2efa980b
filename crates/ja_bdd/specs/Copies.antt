-- What is left of a function where all variables of some copies are forgotten.
use Rattle.std.specs.Prelude.{◌≡◌, ℕ, zero, suc, ◌≤◌, ◌%◌, ◌==◌, Bool, false, if◌then◌else◌}
use Rattle.ja_node_core.specs.declared.aim.Aim.{Ghosts}
use Rattle.ja_node_core.specs.Tree.{Tree, Assignment}
use Rattle.ja_node_core.specs.Node.{Words}
use Rattle.ja_node_table.specs.declared.table.NodeTable.{NodeTable}
use Rattle.ja_node_table.specs.declared.full.Full.{Full}
use Rattle.ja_bdd.specs.declared.copies.Copies.{Copies}
use Rattle.ja_bdd.specs.Functions.{Function, forgotten, IsAimed}
use Rattle.ja_bdd.specs.Meaning.{with_below}
use Rattle.ja_bdd.specs.Room.{LacksRoomUnder}
use Rattle.ja_base.specs.Limit.{last_variable, max_variables}

-- whether the variable is of one of these copies
abbrev pub in_copies : Copies → ℕ → Bool
in_copies c v = (if v % 4 == 0 then c.at_entry else (if v % 4 == 1 then c.at_present else (if v % 4 == 2 then c.at_next else c.at_callee)))

-- the variable is forgotten where it goes
abbrev pub forgotten_if : Bool → ℕ → Function → Function
forgotten_if goes v φ = (if goes then forgotten v φ else φ)

-- the variables below n that go are forgotten, one after the other
unfoldable pub forgotten_below : ℕ → (ℕ → Bool) → Function → Function
forgotten_below zero goes φ = φ
forgotten_below (suc n) goes φ = forgotten_if (goes n) n (forgotten_below n goes φ)

-- all variables that go are forgotten. No node has a variable above 4,094
unfoldable pub all_forgotten : (ℕ → Bool) → Function → Function
all_forgotten goes φ = forgotten_below max_variables goes φ

-- the assignments have one value for each variable that stays
abbrev pub AgreeOnRest : (ℕ → Bool) → Assignment → Assignment → Type 0
AgreeOnRest goes b a = (u : ℕ) → (u ≤ last_variable → goes u ≡ false) → b u ≡ a u

-- the function with the variables below v fixed to their values in an assignment
abbrev pub fixed_below : ℕ → Assignment → Function → Function
fixed_below v below φ a = φ (with_below v below a)

-- to whatever values the variables below some one are fixed, what is left of the function is of the aim
abbrev pub IsAimedThroughout : (Tree → Type 0) → (ℕ → Bool) → Function → Type 0
IsAimedThroughout aim goes φ = (v : ℕ) (below : Assignment) → IsAimed aim (all_forgotten goes (fixed_below v below φ))

-- the table has no room for a word under what is left of the function, with the variables below some one fixed
pub record LacksRoomWithin {A : Type 0} {G : Ghosts A} (t : NodeTable A) (seen : Words) (goes : ℕ → Bool) (φ : Function) (full : Full A G) : Type 0 where
  pub var : ℕ
  pub below : Assignment
  pub lacks : LacksRoomUnder t seen (all_forgotten goes (fixed_below var below φ)) full
