-- Program runs: what the environment may do, in any order and number.
use Rattle.std.specs.Prelude.{ℕ, ◌||◌, ◌&&◌, Bool, not, List, [], ◌∷◌, ◌++◌, Option, Some, None, length, slice_get, nat_lt, if◌then◌else◌}
use Rattle.std.specs.List.{list_any}
use Rattle.ja_class.specs.declared.first.FirstMethod.{FirstMethod}
use Rattle.ja_plain.specs.Operation.{ResultType, ArrayOf, StringClass}
use Rattle.ja_plain.specs.State.{Value, Prim, Null, Ref, Object, Event, World, Made, change_at, put_in_bag}
use Rattle.ja_plain.specs.Reach.{all_links, reaches}
use Rattle.ja_plain.specs.Library.{fresh, fits_at, absorbs_at}
use Rattle.ja_plain.specs.Run.{Point, Outcome, Returned, Threw, Stuck, Cut, run, start}

-- the type of the parameter of `main`
abbrev pub parameter : ResultType
parameter = ArrayOf StringClass

-- the bag of the object at a place takes an environment object, by its number
pub record Taking : Type 0 where
  pub place : ℕ
  pub object : ℕ

-- what the environment does: it makes a value of the parameter's type, with marks or without, where bags of what it makes may take environment objects; or it calls `main` with null or an environment object, by at most so many steps
pub data Action : Type 0 where
  Make : (marked : Bool) (takings : List Taking) (choices : List ℕ) → Action
  CallMain : (argument : Option ℕ) (bound : ℕ) (choices : List ℕ) → Action

-- an object of the environment; it is noted where it was made with marks, or reached a noted object when it was made
pub record EnvironmentObject : Type 0 where
  pub place : ℕ
  pub noted : Bool

-- between two actions: the heap, the environment's objects in the order made, and the events so far; or a call that was stuck or cut, which ends the run
pub data State : Type 0 where
  Idle : (heap : List Object) (objects : List EnvironmentObject) (events : List Event) → State
  Over : (frames : List Point) (world : World) → State

-- one taking: the object at the place must be made now, which is at the first number or after it, and must absorb
abbrev pub take_object : ℕ → ℕ → World → Option EnvironmentObject → World
take_object from place w None = w
take_object from place w (Some e) = if not (nat_lt place from) && absorbs_at w.heap place then change_at place (put_in_bag e.place) w else w

-- the bags of absorbing objects at places from the first number on take environment objects; other takings are none
abbrev pub take_all : ℕ → List EnvironmentObject → List Taking → World → World
take_all from objects [] w = w
take_all from objects (t ∷ ts) w = take_all from objects ts (take_object from t.place w (slice_get objects t.object))

-- a noted object is reached from this place
abbrev pub reaches_noted : List Object → ℕ → List EnvironmentObject → Bool
reaches_noted heap place objects = list_any (λ e. e.noted && reaches all_links heap place e.place) objects

-- what was made is an environment object, unless it is null
abbrev pub with_object : List EnvironmentObject → Bool → Value → World → State
with_object objects marked (Prim mark) w = Idle w.heap objects w.events
with_object objects marked Null w = Idle w.heap objects w.events
with_object objects marked (Ref place) w = Idle w.heap (objects ++ record { place = place; noted = marked || reaches_noted w.heap place objects } ∷ []) w.events

-- what the environment's making leads to
abbrev pub makes : List Object → List EnvironmentObject → List Event → Bool → List Taking → List ℕ → State
makes heap objects events marked takings choices =
    let made : Made = fresh parameter marked (record { heap = heap; choices = choices; events = events }) in
    with_object objects marked made.value (take_all (length heap) objects takings made.world)

-- after a call of `main` has ended
abbrev pub ended : List EnvironmentObject → Outcome → State
ended objects (Returned value dirt w left) = Idle w.heap objects w.events
ended objects (Threw place dirt w left) = Idle w.heap objects w.events
ended objects (Stuck frames w) = Over frames w
ended objects (Cut frames w) = Over frames w

-- `main` has no marked position, so no noted object goes to it
abbrev pub may_pass : List Object → EnvironmentObject → Bool
may_pass heap e = fits_at heap parameter e.place && not e.noted

-- a call of `main` with this value
abbrev pub calls_with : FirstMethod → List Object → List EnvironmentObject → List Event → ℕ → List ℕ → Value → State
calls_with m heap objects events bound choices v =
    ended objects (run m bound (start m (v ∷ []) heap) (record { heap = heap; choices = choices; events = events }))

-- a call of `main` with an environment object, if it may be passed
abbrev pub calls_object : FirstMethod → List Object → List EnvironmentObject → List Event → ℕ → List ℕ → Option EnvironmentObject → State
calls_object m heap objects events bound choices None = Idle heap objects events
calls_object m heap objects events bound choices (Some e) =
    if may_pass heap e then calls_with m heap objects events bound choices (Ref e.place) else Idle heap objects events

-- one action; one that the environment may not do changes nothing
abbrev pub happens : FirstMethod → State → Action → State
happens m (Over frames w) a = Over frames w
happens m (Idle heap objects events) (Make marked takings choices) = makes heap objects events marked takings choices
happens m (Idle heap objects events) (CallMain None bound choices) = calls_with m heap objects events bound choices Null
happens m (Idle heap objects events) (CallMain (Some k) bound choices) = calls_object m heap objects events bound choices (slice_get objects k)

-- a list of actions, one after another
abbrev pub happen : FirstMethod → State → List Action → State
happen m s [] = s
happen m s (a ∷ rest) = happen m (happens m s a) rest

-- a program run: any list of actions from the empty heap
abbrev pub program_run : FirstMethod → List Action → State
program_run m actions = happen m (Idle [] [] []) actions

-- the events of a program run, in order
abbrev pub events_in : State → List Event
events_in (Idle heap objects events) = events
events_in (Over frames w) = w.events
