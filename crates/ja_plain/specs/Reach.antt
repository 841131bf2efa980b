-- What an object reaches, and which values are tainted.
use Rattle.std.specs.Prelude.{◌≡◌, ℕ, zero, suc, ◌==◌, ◌||◌, ◌&&◌, Bool, true, false, List, [], ◌∷◌, ◌++◌, Option, Some, None, length, slice_get, Contains}
use Rattle.std.specs.List.{list_any}
use Rattle.ja_plain.specs.State.{Value, Prim, Null, Ref, FieldValue, Object}

-- the place of a reference
abbrev pub place_of : Value → List ℕ
place_of (Prim mark) = []
place_of Null = []
place_of (Ref place) = place ∷ []

-- the places of the references among values
abbrev pub places_of : List Value → List ℕ
places_of [] = []
places_of (v ∷ vs) = place_of v ++ places_of vs

-- the places of the references in fields
abbrev pub field_links : List FieldValue → List ℕ
field_links [] = []
field_links (x ∷ xs) = place_of x.value ++ field_links xs

-- the links of an object, through its fields and its bag
abbrev pub all_links : Object → List ℕ
all_links o = field_links o.fields ++ o.bag

-- the links of an object through its bag
abbrev pub bag_links : Object → List ℕ
bag_links o = o.bag

-- the links of an object, if there is one
abbrev pub links_of : (Object → List ℕ) → Option Object → List ℕ
links_of links None = []
links_of links (Some o) = links o

-- the places to which the object at a place links
abbrev pub links_at : (Object → List ℕ) → List Object → ℕ → List ℕ
links_at links heap a = links_of links (slice_get heap a)

-- a place is reached from another by no or more links
pub data Reaches (links : Object → List ℕ) (heap : List Object) : ℕ → ℕ → Type 0 where
  itself : {a : ℕ} → Reaches links heap a a
  linked : {a b c : ℕ} → Contains (links_at links heap a) b → Reaches links heap b c → Reaches links heap a c

-- a field that is a marked primitive
abbrev pub field_marked : FieldValue → Bool
field_marked x = elim x.value [ Prim mark ↦ mark | Null ↦ false | Ref place ↦ false ]

-- there is an object that has a mark, or a field that is a marked primitive
abbrev pub object_marked : Option Object → Bool
object_marked None = false
object_marked (Some o) = o.mark || list_any field_marked o.fields

-- the object at a place has a mark, or a field that is a marked primitive
abbrev pub marked_at : List Object → ℕ → Bool
marked_at heap a = object_marked (slice_get heap a)

-- a value is tainted: a marked primitive, or a reference from which an object with a mark is reached
abbrev pub IsTainted : List Object → Value → Type 0
IsTainted heap (Prim mark) = mark ≡ true
IsTainted heap Null = ⊥
IsTainted heap (Ref place) = (c : ℕ) × Reaches all_links heap place c × (marked_at heap c ≡ true)

-- the test for `Reaches` by so many links at most
abbrev pub reaches_by : (ℕ → List ℕ) → ℕ → ℕ → ℕ → Bool
reaches_by next zero a c = a == c
reaches_by next (suc n) a c = (a == c) || list_any (λ b. reaches_by next n b c) (next a)

-- the test for `Reaches`: no more links are needed than there are objects
abbrev pub reaches : (Object → List ℕ) → List Object → ℕ → ℕ → Bool
reaches links heap a c = reaches_by (links_at links heap) (length heap) a c

-- the numbers below one, ascending
abbrev pub below : ℕ → List ℕ
below zero = []
below (suc n) = below n ++ n ∷ []

-- the test for `IsTainted`
abbrev pub tainted : List Object → Value → Bool
tainted heap (Prim mark) = mark
tainted heap Null = false
tainted heap (Ref place) = list_any (λ c. reaches all_links heap place c && marked_at heap c) (below (length heap))

-- there is a value, and it is tainted
abbrev pub tainted_if : List Object → Option Value → Bool
tainted_if heap None = false
tainted_if heap (Some v) = tainted heap v
