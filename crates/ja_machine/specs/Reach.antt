-- Which objects of a heap reach which, and in which categories values are tainted.
use Rattle.std.specs.Prelude.{◌≡◌, ℕ, zero, suc, ◌+◌, ◌<◌, ◌==◌, ◌||◌, All, Bool, true, List, [], ◌∷◌, ◌++◌, Option, Some, None, Contains, length, slice_get, if◌then◌else◌}
use Rattle.std.specs.List.{list_any}
use Rattle.ja_machine.specs.Marks.{has, none, union}
use Rattle.ja_machine.specs.declared.heap.Value.{Value}
use Rattle.ja_machine.specs.declared.heap.Value.TheVariants.{Prim, Null, Ref}
use Rattle.ja_machine.specs.declared.heap.FieldValue.{FieldValue}
use Rattle.ja_machine.specs.declared.heap.Object.{Object}

-- the place to which a value refers, where it is a reference, before others
abbrev pub reference_of : Value → (others : List ℕ) → List ℕ
reference_of (Prim mark) others = others
reference_of Null others = others
reference_of (Ref place) others = place ∷ others

-- the places to which values refer
abbrev pub references : List Value → List ℕ
references [] = []
references (value ∷ values) = reference_of value (references values)

-- the places to which fields refer
abbrev pub field_references : List FieldValue → List ℕ
field_references [] = []
field_references (field ∷ fields) = reference_of field.value (field_references fields)

-- where the links of an object lead: through its fields and its bag
abbrev pub links : Object → List ℕ
links object = field_references object.fields ++ object.bag

-- where the links lead that go through the bag alone
abbrev pub bag_links : Object → List ℕ
bag_links object = object.bag

-- the object at a has a link of this kind to b
pub record Linked (out : Object → List ℕ) (heap : List Object) (a b : ℕ) : Type 0 where
  pub object : Object
  pub found : slice_get heap a ≡ Some object
  pub listed : Contains (out object) b

-- b is reached from a by no or more links of this kind
pub data Path (out : Object → List ℕ) (heap : List Object) : ℕ → ℕ → Type 0 where
  here : {a : ℕ} → Path out heap a a
  along : {a c b : ℕ} → Linked out heap a c → Path out heap c b → Path out heap a b

-- b is reached from a by no or more links
abbrev pub Reaches : List Object → (a b : ℕ) → Type 0
Reaches heap a b = Path links heap a b

-- the marks of a primitive value
abbrev pub mark_of : Value → ℕ
mark_of (Prim mark) = mark
mark_of Null = none
mark_of (Ref place) = none

-- the object has a mark of the category, or a field with a primitive value that has one
abbrev pub is_marked : (c : ℕ) → Object → Bool
is_marked c object = has object.mark c || list_any (λ (field : FieldValue). has (mark_of field.value) c) object.fields

-- the value is a primitive with a mark of the category, or a reference that reaches an object with one
pub data IsTainted (c : ℕ) (heap : List Object) : Value → Type 0 where
  marked : (mark : ℕ) → has mark c ≡ true → IsTainted c heap (Prim mark)
  reaches : (place a : ℕ) (object : Object) → Reaches heap place a → slice_get heap a ≡ Some object → is_marked c object ≡ true → IsTainted c heap (Ref place)

-- the same as functions, which the machine uses

-- some place of this kind is reached from a by at most n steps
abbrev pub finds : ℕ → (good : ℕ → Bool) (next : ℕ → List ℕ) → (a : ℕ) → Bool
finds zero good next a = good a
finds (suc n) good next a = good a || list_any (finds n good next) (next a)

-- where the links of an object lead, if there is one
abbrev pub out_of : (out : Object → List ℕ) → Option Object → List ℕ
out_of out None = []
out_of out (Some object) = out object

-- where the links of this kind of the object at a place lead
abbrev pub next_of : (out : Object → List ℕ) (heap : List Object) → (a : ℕ) → List ℕ
next_of out heap a = out_of out (slice_get heap a)

-- whether b is reached from a by links of this kind; no path needs more links than there are objects
abbrev pub is_reached : (out : Object → List ℕ) (heap : List Object) → (a b : ℕ) → Bool
is_reached out heap a b = finds (length heap) (λ c. c == b) (next_of out heap) a

-- the marks of primitive values in fields
abbrev pub field_marks : List FieldValue → ℕ
field_marks [] = none
field_marks (field ∷ fields) = union (mark_of field.value) (field_marks fields)

-- the marks of an object: its own and those in its fields
abbrev pub object_marks : Object → ℕ
object_marks object = union object.mark (field_marks object.fields)

-- the marks of those of the objects, whose places are k and the following, that are reached from a
abbrev pub marks_reached : (heap : List Object) (a : ℕ) → (k : ℕ) → List Object → ℕ
marks_reached heap a k [] = none
marks_reached heap a k (object ∷ objects) =
    if is_reached links heap a k then union (object_marks object) (marks_reached heap a (k + 1) objects) else marks_reached heap a (k + 1) objects

-- the categories in which the value is tainted: the marks of a primitive value, or of all objects that a reference reaches
abbrev pub taints : List Object → Value → ℕ
taints heap (Prim mark) = mark
taints heap Null = none
taints heap (Ref place) = marks_reached heap place 0 heap

-- the categories in which some of the values is
abbrev pub all_taints : List Object → List Value → ℕ
all_taints heap [] = none
all_taints heap (value ∷ values) = union (taints heap value) (all_taints heap values)

-- whether the value is tainted in the category
abbrev pub is_tainted : (c : ℕ) → List Object → Value → Bool
is_tainted c heap value = has (taints heap value) c

-- the places, from number k on, whose objects pass the test, in ascending order
abbrev pub places_from : (k : ℕ) → (test : ℕ → Object → Bool) → List Object → List ℕ
places_from k test [] = []
places_from k test (object ∷ heap) = if test k object then k ∷ places_from (k + 1) test heap else places_from (k + 1) test heap

-- each place in the heap is that of an object
abbrev pub IsClosed : List Object → Type 0
IsClosed heap = All (λ object. All (λ b. b < length heap) (links object)) heap

-- the place of a reference is that of an object
abbrev pub IsInside : List Object → Value → Type 0
IsInside heap (Ref place) = place < length heap
IsInside heap _ = Unit {0}
