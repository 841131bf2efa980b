-- The states of the marked machine.
use Rattle.std.specs.Prelude.{ℕ, zero, suc, ◌%◌, ◌||◌, Bool, List, [], ◌∷◌, ◌++◌, Option, Some, None, length, slice_get, slice_set}
use Rattle.ja_plain.specs.Token.{Token}

-- a primitive value, which only has a mark; null; or a reference to the object at a place of the heap
pub data Value : Type 0 where
  Prim : (mark : Bool) → Value
  Null : Value
  Ref : (place : ℕ) → Value

-- a field of an object, by its number, with its value
pub record FieldValue : Type 0 where
  pub field : ℕ
  pub value : Value

-- an object: its fields; whether it is marked itself; and its bag, the places of what it holds beside its fields
pub record Object : Type 0 where
  pub token : Token
  pub fields : List FieldValue
  pub mark : Bool
  pub bag : List ℕ

-- a call of a method as it stands; `dirt` says that it gave something tainted to an object
pub record Frame : Type 0 where
  pub locals : List Value
  -- the topmost first
  pub stack : List Value
  pub dirt : Bool

-- a sink call was made: its place in the code, and those of its listed positions at which the value was tainted
pub record Event : Type 0 where
  pub site : ℕ
  pub positions : List ℕ

-- what all calls of a run share: the objects, the choices that are left, and what has happened at sites, in order
pub record World : Type 0 where
  pub heap : List Object
  pub choices : List ℕ
  pub events : List Event

-- the world with this heap
abbrev pub with_heap : List Object → World → World
with_heap heap w = record { heap = heap; choices = w.choices; events = w.events }

-- the world with these choices left
abbrev pub with_choices : List ℕ → World → World
with_choices choices w = record { heap = w.heap; choices = choices; events = w.events }

-- a decision of so many ways by the next of these choices
abbrev pub decide_by : {X : Type 0} → ℕ → World → List ℕ → (ℕ → World → X) → X
decide_by ways w [] go = go 0 w
decide_by ways w (c ∷ cs) go = go (c % ways) (with_choices cs w)

-- a decision of so many ways: the next choice settles it, or the first way is taken where none is left. Where there is one way only no choice is used up
abbrev pub decide : {X : Type 0} → ℕ → World → (ℕ → World → X) → X
decide zero w go = go 0 w
decide (suc zero) w go = go 0 w
decide (suc (suc n)) w go = decide_by (suc (suc n)) w w.choices go

-- the first way, or another
abbrev pub first_way : {X : Type 0} → ℕ → X → X → X
first_way zero a b = a
first_way (suc k) a b = b

-- a value that was made, and the world after that
pub record Made : Type 0 where
  pub value : Value
  pub world : World

-- a new object stands at the end of the heap
abbrev pub make : Token → (mark : Bool) → (bag : List ℕ) → World → Made
make token mark bag w = record {
  value = Ref (length w.heap);
  world = with_heap (w.heap ++ record { token = token; fields = []; mark = mark; bag = bag } ∷ []) w;
}

-- the object that stands at the place, if any, is changed
abbrev pub change_found : ℕ → (Object → Object) → World → Option Object → World
change_found place change w None = w
change_found place change w (Some o) = with_heap (slice_set w.heap place (change o)) w

-- the object at a place is changed
abbrev pub change_at : ℕ → (Object → Object) → World → World
change_at place change w = change_found place change w (slice_get w.heap place)

-- an object's mark rises
abbrev pub raise : Bool → Object → Object
raise mark o = record { token = o.token; fields = o.fields; mark = o.mark || mark; bag = o.bag }

-- an object's bag takes a place
abbrev pub put_in_bag : ℕ → Object → Object
put_in_bag place o = record { token = o.token; fields = o.fields; mark = o.mark; bag = o.bag ++ place ∷ [] }
