-- The search for the objects that are reached from one: which were seen, and which of them are still to be looked at.
use Rattle.std.specs.Prelude.{◌≡◌, ℕ, ◌<◌, ◌&&◌, ◌↔◌, Bool, true, false, List, [], ◌∷◌, ◌++◌, length, replicate, slice_index_or, slice_set, zip, if◌then◌else◌}
use Rattle.std.specs.List.{list_any}
use Rattle.ja_machine.specs.declared.heap.Value.{Value}
use Rattle.ja_machine.specs.declared.heap.Value.TheVariants.{Prim, Null, Ref}
use Rattle.ja_machine.specs.declared.heap.FieldValue.{FieldValue}
use Rattle.ja_machine.specs.declared.heap.Object.{Object}
use Rattle.ja_machine.specs.Reach.{is_marked, Reaches}

-- a flag for each object that says whether it was seen, and the places that are still to be looked at
pub record Seen : Type 0 where
  pub flags : List Bool
  pub work : List ℕ

-- the search after a place was met: where it is new, it is seen and still to be looked at
abbrev pub meets_place : ℕ → Seen → Seen
meets_place place s = if slice_index_or s.flags place true then s else record { flags = slice_set s.flags place true; work = s.work ++ place ∷ [] }

-- the search after a value was met: its place, where it is a reference
abbrev pub meets_value : Value → Seen → Seen
meets_value (Prim mark) s = s
meets_value Null s = s
meets_value (Ref place) s = meets_place place s

-- the search after the values of fields were met
abbrev pub meets_fields : List FieldValue → Seen → Seen
meets_fields [] s = s
meets_fields (field ∷ fields) s = meets_fields fields (meets_value field.value s)

-- the search after places were met
abbrev pub meets_places : List ℕ → Seen → Seen
meets_places [] s = s
meets_places (place ∷ places) s = meets_places places (meets_place place s)

-- the search after an object was looked at
abbrev pub meets_object : Object → Seen → Seen
meets_object object s = meets_places object.bag (meets_fields object.fields s)

-- some object has a mark of the category whose flag is set
abbrev pub is_any_marked : (c : ℕ) → List Object → List Bool → Bool
is_any_marked c heap flags = list_any (λ (p : Object × Bool). p.1 && is_marked c p.0) (zip heap flags)

-- a search in a heap of so many objects that has met one place
abbrev pub begun : (size place : ℕ) → Seen
begun size place = meets_place place (record { flags = replicate size false; work = [] })

-- the flag of each object tells whether it is reached from the one at this place
abbrev pub Tells : (heap : List Object) (place : ℕ) → (flags : List Bool) → Type 0
Tells heap place flags = (b : ℕ) → b < length heap → (slice_index_or flags b false ≡ true) ↔ Reaches heap place b
