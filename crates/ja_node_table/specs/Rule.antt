-- The rule of the table's words and views, and what each step tells its seat.
use Rattle.std.specs.Prelude.{◌≡◌, ℕ, ◌<◌, [], ◌++◌, map, Option, Some, None, List, if◌then◌else◌, ◌==◌}
use mathlib.Core.Option.{some}
use lib.ListN.{get_elem?}
use Rattle.atomic_table.specs.Table.{State, Me, Step}
use Rattle.ja_node_core.specs.Tree.{Tree}
use Rattle.ja_node_core.specs.Word.{places, place}
use Rattle.ja_node_core.specs.Node.{Words, IsOther, IsCanonical}
use Rattle.ja_node_core.specs.Machine.{Known, word_at, learned, AllStand, Actor, gone, active, Event, start, Runs}
use Rattle.ja_node_table.specs.declared.view.View.{View}
use Rattle.ja_node_table.specs.declared.view.Plan.{Plan}

module _ {A : Type 0} where
  -- the actor of a seat with this plan, which is gone where the plan is lost
  abbrev pub acting : Option (Plan A) → Known → Actor
  acting None known = gone
  acting (Some x) known = active known

  abbrev pub actor_of : View A → Actor
  actor_of v = acting v.plan v.known

  -- the view of a table's first seat
  abbrev pub first_view : Plan A → View A
  first_view x = record { plan = Some x; known = [] }

  -- the view of a seat that was joined to another
  abbrev pub spent_view : View A
  spent_view = record { plan = None; known = [] }

  -- the view of a seat that has seen w at p
  abbrev pub with_word : View A → ℕ → ℕ → View A
  with_word v p w = record { plan = v.plan; known = learned v.known p w }

  -- the view of a seat that another was joined to
  abbrev pub with_both : View A → View A → View A
  with_both v u = record { plan = v.plan; known = v.known ++ u.known }

  module _ (aims : A → Tree → Type 0) where
    -- the words and the views are what some list of events makes, and all views have this plan
    pub record IsReached (x : Plan A) (s : State (Unit {0}) (View A)) : Type 0 where
      pub events : List Event
      pub run : Runs x.slots (aims x.aim) events (start x.slots) record { words = s.words; actors = map actor_of s.views }
      pub one_plan : (id : ℕ) (v : View A) → get_elem? s.views id ≡ some v → (y : Plan A) → v.plan ≡ Some y → y ≡ x

    -- what is known stands in canonical words of a table with this plan
    pub record IsPartOf (x : Plan A) (known : Known) : Type 0 where
      pub words : Words
      pub canonical : IsCanonical x.slots (aims x.aim) words
      pub stands : AllStand words known

    -- the view is of a seat that was not joined to another, and what it knows stands in canonical words
    abbrev pub IsView : View A → Type 0
    IsView v = (x : Plan A) × (v.plan ≡ Some x) × IsPartOf x v.known

    -- the seat has seen that w stands at p, and nothing else has changed for it
    pub record HasSeen (before : View A) (p w : ℕ) (after : View A) : Type 0 where
      pub is : after ≡ with_word before p w
      pub here : word_at after.known p ≡ w
      pub view : IsView after

    -- after a load the seat has seen what was found
    abbrev pub Looked : Step (Unit {0}) → Me (Unit {0}) (View A) → ℕ → Me (Unit {0}) (View A) → Type 0
    Looked step me found after = (after.1 ≡ me.1) × HasSeen me.0 step.word found after.0

    -- after an exchange the seat has seen what stands now: the word that it asked for where 0 was found, else what was found
    abbrev pub Claimed : Step (Unit {0}) → Me (Unit {0}) (View A) → ℕ → Me (Unit {0}) (View A) → Type 0
    Claimed step me found after = (after.1 ≡ me.1) × HasSeen me.0 step.word (if found == 0 then step.second else found) after.0

    -- at every place of the word's path another node was seen, and these nodes stand in canonical words of a table with this plan
    pub record IsTaken (x : Plan A) (word : ℕ) : Type 0 where
      pub known : Known
      pub part : IsPartOf x known
      pub others : (i : ℕ) → i < places x.slots → IsOther (word_at known) word (place x.slots word i)
