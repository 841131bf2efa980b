-- The facts that a network tells, and which of them are settled: worked on.
use Rattle.std.specs.Prelude.{◌≡◌, ℕ, ◌⊎◌, ◌↔◌, ◌≤◌, Bool, true, List, [], ◌∷◌, ◌++◌, Some, Contains, length, take, drop, slice_get, if◌then◌else◌}
use Rattle.std.specs.Option.{unwrap_or}
use Rattle.std.specs.HashMap.{get}
use Rattle.ja_sets.specs.Sets.{Has, Lacks}
use Rattle.ja_network.specs.declared.cell.Cell.{Cell}
use Rattle.ja_network.specs.declared.cell.Action.{Action}
use Rattle.ja_network.specs.declared.cell.Event.{Event}
use Rattle.ja_network.specs.declared.cell.Event.TheVariants.{Linked}
use Rattle.ja_network.specs.declared.state.CellState.{CellState}
use Rattle.ja_network.specs.declared.network.Network.{Network}
use Rattle.ja_network.specs.contracts.cell.CellPartialEq.TheImpl as cells
use Rattle.ja_network.specs.contracts.cell.ActionPartialEq.TheImpl as actions
use Rattle.ja_network.specs.contracts.cell.EventPartialEq.TheImpl as events
use Rattle.ja_network.specs.Cells.{empty_state}

-- what a network tells: a cell has a token; something happens
pub data Fact : Type 0 where
  HasToken : (c : Cell) (t : ℕ) → Fact
  Happens : (e : Event) → Fact

-- whether two cells are the same, as `==` compares them
abbrev pub same_cell : Cell → Cell → Bool
same_cell = cells.ghosts.eq

-- whether two actions are the same, as `==` compares them
abbrev pub same_action : Action → Action → Bool
same_action = actions.ghosts.eq

-- whether two events are the same, as `==` compares them
abbrev pub same_event : Event → Event → Bool
same_event = events.ghosts.eq

-- the state of a cell
abbrev pub state_of : Network → Cell → CellState
state_of net c = unwrap_or (get same_cell net.cells c) (empty_state net.tokens)

-- the events that happen
abbrev pub events_of : Network → List Event
events_of net = net.events.keys

-- the network tells the fact
abbrev pub Tells : Network → Fact → Type 0
Tells net (HasToken c t) = Has (state_of net c).has t
Tells net (Happens e) = Contains (events_of net) e

-- the network tells the fact, and it has been worked on
abbrev pub IsSettled : Network → Fact → Type 0
IsSettled net (HasToken c t) = Has (state_of net c).has t × Lacks (state_of net c).fresh t
IsSettled net (Happens e) = Contains (take net.seen (events_of net)) e

-- what each network keeps
pub record IsNetwork (net : Network) : Type 0 where
  -- sets are of tokens below the bound, and what is fresh in a cell is in it
  pub has_size : (c : Cell) → length (state_of net c).has ≡ net.tokens
  pub fresh_size : (c : Cell) → length (state_of net c).fresh ≡ net.tokens
  pub within : (c : Cell) (t : ℕ) → Has (state_of net c).fresh t → Has (state_of net c).has t
  -- a cell's links are the settled ones
  pub links : (c : Cell) (a : Action) → Contains (state_of net c).links a ↔ Contains (take net.seen (events_of net)) (Linked c a)
  -- a cell with something fresh waits for its turn
  pub waits : (c : Cell) (t : ℕ) → Has (state_of net c).fresh t → (state_of net c).queued ≡ true
  pub queued : (c : Cell) → (state_of net c).queued ≡ true → Contains (drop net.turned net.turns.items) c
  pub seen : net.seen ≤ length (events_of net)
  pub turned : net.turned ≤ length net.turns.items

-- the network tells these facts more, and has settled none more
pub record Extends (old new : Network) (S : Fact → Type 0) : Type 0 where
  pub same_tokens : new.tokens ≡ old.tokens
  pub tells : (f : Fact) → Tells new f ↔ (Tells old f ⊎ S f)
  pub settled : (f : Fact) → IsSettled new f ↔ IsSettled old f
  -- what comes next comes next, and links stay
  pub same_seen : new.seen ≡ old.seen
  pub same_turned : new.turned ≡ old.turned
  pub events : (k : ℕ) (e : Event) → slice_get (events_of old) k ≡ Some e → slice_get (events_of new) k ≡ Some e
  pub turns : (k : ℕ) (c : Cell) → slice_get old.turns.items k ≡ Some c → slice_get new.turns.items k ≡ Some c
  pub links : (c : Cell) → (state_of new c).links ≡ (state_of old c).links

-- the network tells the same, and has settled these facts more
pub record Settles (old new : Network) (S : Fact → Type 0) : Type 0 where
  pub same_tokens : new.tokens ≡ old.tokens
  pub tells : (f : Fact) → Tells new f ↔ Tells old f
  pub settled : (f : Fact) → IsSettled new f ↔ (IsSettled old f ⊎ S f)

-- the cell has one of these tokens
abbrev pub IsIn : Cell → (ℕ → Type 0) → Fact → Type 0
IsIn c S (HasToken d t) = (d ≡ c) × S t
IsIn c S (Happens e) = ⊥

-- the event happens that is the first not to have been worked on
abbrev pub IsNext : Network → Fact → Type 0
IsNext net (HasToken c t) = ⊥
IsNext net (Happens e) = slice_get (events_of net) net.seen ≡ Some e

-- everything that the network tells is settled
abbrev pub IsQuiet : Network → Type 0
IsQuiet net = (f : Fact) → Tells net f → IsSettled net f

-- the networks differ at most in what their cells have
pub record SameOutside (old new : Network) : Type 0 where
  pub tokens : new.tokens ≡ old.tokens
  pub events : events_of new ≡ events_of old
  pub seen : new.seen ≡ old.seen
  pub turned : new.turned ≡ old.turned

-- the network has this state at the cell, and all others as they were
pub record Puts (old new : Network) (c : Cell) (state : CellState) : Type 0 where
  pub here : state_of new c ≡ state
  pub elsewhere : (d : Cell) → (d ≡ c → ⊥) → state_of new d ≡ state_of old d
  pub outside : SameOutside old new

-- the turns with one more, where a cell is to wait and does not yet
abbrev pub with_turn : List Cell → Cell → (waits queued : Bool) → List Cell
with_turn turns c waits queued = if waits then (if queued then turns else turns ++ c ∷ []) else turns

-- the network has one link more where the event is one
pub record KeepsLink (old new : Network) (e : Event) : Type 0 where
  pub outside : SameOutside old new
  pub turns : new.turns.items ≡ old.turns.items
  pub has : (c : Cell) → (state_of new c).has ≡ (state_of old c).has
  pub fresh : (c : Cell) → (state_of new c).fresh ≡ (state_of old c).fresh
  pub queued : (c : Cell) → (state_of new c).queued ≡ (state_of old c).queued
  pub links : (c : Cell) (a : Action) → Contains (state_of new c).links a ↔ (Contains (state_of old c).links a ⊎ (Linked c a ≡ e))
