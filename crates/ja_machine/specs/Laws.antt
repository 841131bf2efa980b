-- What the laws over all runs say: what objects and stores become in a run, and what a run comes to with more steps.
use Rattle.std.specs.Prelude.{◌≡◌, ℕ, ◌+◌, true, List, ◌++◌, map, Option, Some, Contains, slice_get}
use Rattle.ja_ir.specs.declared.program.Parts.{Parts}
use Rattle.ja_machine.specs.declared.heap.Value.{Value}
use Rattle.ja_machine.specs.declared.heap.FieldValue.{FieldValue}
use Rattle.ja_machine.specs.declared.heap.Object.{Object}
use Rattle.ja_machine.specs.Marks.{has}
use Rattle.ja_machine.specs.State.{Store, World, Point, Outcome, Returned, Threw, Stuck, Cut, Failed}
use Rattle.ja_machine.specs.Objects.{defaults}
use Rattle.ja_machine.specs.Run.{store_in}
use Rattle.ja_machine.specs.Environment.{State, heap_in, events_of}

-- the second list begins with the first
abbrev pub BeginsWith : {X : Type 0} → (front all : List X) → Type 0
BeginsWith {X} front all = (rest : List X) × (all ≡ front ++ rest)

-- what an object may become: its token and its fields stay, whatever their values, it keeps its marks, and its bag only takes more
pub record Becomes (old new : Object) : Type 0 where
  pub token : new.token ≡ old.token
  pub fields : map (λ (f : FieldValue). f.field) new.fields ≡ map (λ (f : FieldValue). f.field) old.fields
  pub mark : (c : ℕ) → has old.mark c ≡ true → has new.mark c ≡ true
  pub bag : BeginsWith old.bag new.bag

-- the object has exactly the fields of its class, in the order of the program's fields
abbrev pub HasItsFields : Parts → Object → Type 0
HasItsFields p object = map (λ (f : FieldValue). f.field) object.fields ≡ map (λ (f : FieldValue). f.field) (defaults p object.token.0 0 p.fields)

-- an object still stands at its place, as what it has become
pub record IsStill (heap : List Object) (place : ℕ) (old : Object) : Type 0 where
  pub new : Object
  pub found : slice_get heap place ≡ Some new
  pub became : Becomes old new

-- a store comes after another: each object stands at its place, and as it was unless the writes since then have its place; each static field
-- has its value unless it was set since then; and the events go on
pub record IsLater (before after : Store) : Type 0 where
  pub objects : (place : ℕ) (object : Object) → slice_get before.heap place ≡ Some object → IsStill after.heap place object
  pub writes : List ℕ
  pub written : after.written ≡ before.written ++ writes
  pub unwritten : (place : ℕ) (object : Object) → (Contains writes place → ⊥) → slice_get before.heap place ≡ Some object → slice_get after.heap place ≡ Some object
  pub sets : List ℕ
  pub set : after.set ≡ before.set ++ sets
  pub unset : (field : ℕ) → (Contains sets field → ⊥) → slice_get after.statics field ≡ slice_get before.statics field
  pub events : BeginsWith before.events after.events

-- what a run comes to with k steps more: the same, if it was not cut, with k more steps left where it ended; and if it was cut, something later
pub data Extends (k : ℕ) : Outcome → Outcome → Type 0 where
  returned : (value : Option Value) (dirt : ℕ) (world : World) (left more : ℕ) → more ≡ left + k → Extends k (Returned value dirt world left) (Returned value dirt world more)
  threw : (place : ℕ) (from : Point) (world : World) (left more : ℕ) → more ≡ left + k → Extends k (Threw place from world left) (Threw place from world more)
  stuck : (innermost : Point) (callers : List Point) (world : World) → Extends k (Stuck innermost callers world) (Stuck innermost callers world)
  failed : (innermost : Point) (callers : List Point) (world : World) → Extends k (Failed innermost callers world) (Failed innermost callers world)
  cut : (innermost : Point) (callers : List Point) (world : World) (outcome : Outcome) → IsLater world.store (store_in outcome) → Extends k (Cut innermost callers world) outcome

-- a program run has gone on from one state to another: each object stands at its place, and the events go on
pub record HasGoneOn (before after : State) : Type 0 where
  pub objects : (place : ℕ) (object : Object) → slice_get (heap_in before) place ≡ Some object → IsStill (heap_in after) place object
  pub events : BeginsWith (events_of before) (events_of after)
