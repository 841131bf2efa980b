-- What the tables of a hierarchy hold, and what look-ups by them find on the way. Only private functions cite this.
use Rattle.std.specs.Prelude.{◌≡◌, ℕ, suc, ◌<◌, ◌⊎◌, ◌&&◌, Bool, true, false, not, List, [], ◌∷◌, ◌++◌, Option, Some, None, Contains, bytes_eq, length, map, slice_get, slice_index_or, sum_by, take, if◌then◌else◌}
use Rattle.ja_base.specs.declared.index.NumbersByName.{NumbersByName}
use Rattle.ja_base.specs.Index.{numbers_at, number_if}
use Rattle.ja_ir.specs.declared.head.ClassHead.{ClassHead}
use Rattle.ja_ir.specs.declared.head.HeadField.{HeadField}
use Rattle.ja_ir.specs.declared.head.HeadMethod.{HeadMethod}
use Rattle.ja_supertypes.specs.Faults.{AreClasses}
use Rattle.ja_supertypes.specs.Supertypes.{supertypes_of, IsAtOrAbove, IsDirect, IsSuperclass, IsSuperinterface, IsSupertype}
use Rattle.ja_hier.specs.declared.tables.Tables.{Tables}
use Rattle.ja_hier.specs.declared.skip.Skip.{Skip}
use Rattle.ja_hier.specs.declared.skip.Skip.TheVariants.{NoDefault}
use Rattle.ja_hier.specs.declared.starts.Member.{Member}
use Rattle.ja_hier.specs.declared.starts.Member.TheVariants.{Field, Method}
use Rattle.ja_hier.specs.Faults.{Hides, is_package_private}
use Rattle.ja_hier.specs.Members.{count_of, IsNumbered}
use Rattle.ja_hier.specs.LookUps.{field_in, method_in, method_number, IsCandidate, IsLeft, FieldSearch, skips}

-- for each class the number of the members that the classes before it declare
pub record AreStarts (heads : List ClassHead) (members : ClassHead → ℕ) (starts : List ℕ) : Type 0 where
  pub size : length starts ≡ length heads
  pub each : (c : ℕ) → c < length heads → slice_index_or starts c 0 ≡ sum_by members (take c heads)

-- the names of the members of a kind that a class declares
abbrev pub member_names : Member → ClassHead → List (List ℕ)
member_names Field head = map (λ (field : HeadField). field.name) head.fields
member_names Method head = map (λ (method : HeadMethod). method.name) head.methods

-- the index has for each name only classes of the list, and each that declares a member of this name
pub record IsIndexOf (member : Member) (heads : List ClassHead) (index : NumbersByName) : Type 0 where
  pub inside : (name : List ℕ) (c : ℕ) → Contains (numbers_at index name) c → c < length heads
  pub complete : (name : List ℕ) (c : ℕ) (head : ClassHead) → slice_get heads c ≡ Some head → Contains (member_names member head) name → Contains (numbers_at index name) c

-- class c is noted for each of the names, and nothing else has changed
pub record IsNoted (c : ℕ) (names : List (List ℕ)) (old new : NumbersByName) : Type 0 where
  pub kept : (name : List ℕ) (d : ℕ) → Contains (numbers_at old name) d → Contains (numbers_at new name) d
  pub only : (name : List ℕ) (d : ℕ) → Contains (numbers_at new name) d → Contains (numbers_at old name) d ⊎ (d ≡ c)
  pub noted : (name : List ℕ) → Contains names name → Contains (numbers_at new name) c

-- the places of the members of this name, in ascending order, where the first member stands at this place
abbrev pub places_from : (first : ℕ) → (names : List (List ℕ)) → (name : List ℕ) → List ℕ
places_from first [] name = []
places_from first (declared ∷ names) name = number_if first declared name ++ places_from (suc first) names name

-- the index has for each name the places of the members of this name, in ascending order
abbrev pub HasPlaces : (names : List (List ℕ)) → NumbersByName → Type 0
HasPlaces names index = (name : List ℕ) → numbers_at index name ≡ places_from 0 names name

-- for each class such an index of its members of a kind
pub record ArePlaces (member : Member) (heads : List ClassHead) (places : List NumbersByName) : Type 0 where
  pub size : length places ≡ length heads
  pub each : (c : ℕ) (head : ClassHead) (index : NumbersByName) → slice_get heads c ≡ Some head → slice_get places c ≡ Some index → HasPlaces (member_names member head) index

-- class t is class c, or is met on the way up from c on which each class before t has one direct supertype
pub data IsStraight (heads : List ClassHead) : (c t : ℕ) → Type 0 where
  stays : {c : ℕ} → IsStraight heads c c
  upwards : {c t : ℕ} (d : ℕ) → supertypes_of heads c ≡ d ∷ [] → IsStraight heads d t → IsStraight heads c t

-- for each class such a class
pub record AreForks (heads : List ClassHead) (forks : List ℕ) : Type 0 where
  pub size : length forks ≡ length heads
  pub each : (c : ℕ) → c < length heads → IsStraight heads c (slice_index_or forks c 0)

-- the tables are those of a hierarchy
pub record IsIndexed (tables : Tables) : Type 0 where
  pub valid : AreClasses tables.classes
  pub numbered : IsNumbered tables.classes
  pub field_starts : AreStarts tables.classes (count_of Field) tables.field_starts
  pub method_starts : AreStarts tables.classes (count_of Method) tables.method_starts
  pub forks : AreForks tables.classes tables.forks
  pub fields : IsIndexOf Field tables.classes tables.fields.classes
  pub methods : IsIndexOf Method tables.classes tables.methods.classes
  pub field_places : ArePlaces Field tables.classes tables.fields.places
  pub method_places : ArePlaces Method tables.classes tables.methods.places

-- there is a field of this descriptor
abbrev pub is_field : (desc : List ℕ) → Option HeadField → Bool
is_field desc None = false
is_field desc (Some field) = bytes_eq field.desc desc

-- there is a method of this descriptor, which the look-up does not pass over
abbrev pub is_method : Skip → (desc : List ℕ) → Option HeadMethod → Bool
is_method skip desc None = false
is_method skip desc (Some method) = bytes_eq method.desc desc && not (skips skip method.flags)

-- there is a package-private method of this descriptor
abbrev pub is_hidden : (desc : List ℕ) → Option HeadMethod → Bool
is_hidden desc None = false
is_hidden desc (Some method) = bytes_eq method.desc desc && is_package_private method.flags

-- the first of the places at which what a list has, if it has anything there, meets a test
abbrev pub first_place : {X : Type 0} → (test : Option X → Bool) → List X → (places : List ℕ) → Option ℕ
first_place test xs [] = None
first_place test xs (place ∷ places) = if test (slice_get xs place) then Some place else first_place test xs places

-- there is a place
abbrev pub IsSomePlace : Option ℕ → Type 0
IsSomePlace place = (k : ℕ) × (place ≡ Some k)

-- a list that stands for the listed classes at class c: it has only classes, and each listed one that is a proper supertype of c
pub record Covers (heads : List ClassHead) (c : ℕ) (listed chosen : List ℕ) : Type 0 where
  pub inside : (d : ℕ) → Contains chosen d → d < length heads
  pub complete : (d : ℕ) → IsSupertype heads c d → Contains listed d → Contains chosen d

-- the lowest class so far, if there is one, is above class e
abbrev pub IsBelow : (Above : (c d : ℕ) → Type 0) → (lowest : Option ℕ) → (e : ℕ) → Type 0
IsBelow Above None e = Unit {0}
IsBelow Above (Some d) e = Above e d

-- each class that is sought is class d or above it
pub record IsLowest (Sought : ℕ → Type 0) (Above : (c d : ℕ) → Type 0) (d : ℕ) : Type 0 where
  pub sought : Sought d
  pub lowest : (e : ℕ) → Sought e → (d ≡ e) ⊎ Above d e

-- class d is a proper superclass of class c and declares a method that the look-up does not pass over
pub record Inherits (heads : List ClassHead) (skip : Skip) (name desc : List ℕ) (c d : ℕ) : Type 0 where
  pub superclass : IsSuperclass heads c d
  pub declared : IsSomePlace (method_in heads skip name desc d)

-- class e is class c or above it and declares the field
pub record DeclaresFor (heads : List ClassHead) (name desc : List ℕ) (c e : ℕ) : Type 0 where
  pub above : IsAtOrAbove heads c e
  pub declared : IsSomePlace (field_in heads name desc e)

-- class e is a proper supertype of class c, and class t is at or above it
pub record IsBetween (heads : List ClassHead) (c t e : ℕ) : Type 0 where
  pub above : IsSupertype heads c e
  pub below : IsAtOrAbove heads e t

-- class e lies between the classes c and t and declares the field
pub record Meets (heads : List ClassHead) (name desc : List ℕ) (c t e : ℕ) : Type 0 where
  pub between : IsBetween heads c t e
  pub declared : IsSomePlace (field_in heads name desc e)

-- no class from c up to t declares the field
abbrev pub IsNowhereOn : List ClassHead → (name desc : List ℕ) → (c t : ℕ) → Type 0
IsNowhereOn heads name desc c t = (e : ℕ) → IsAtOrAbove heads c e → IsAtOrAbove heads e t → IsSomePlace (field_in heads name desc e) → ⊥

-- a superclass d of class c, whose head is given, hides a method of class c
pub record HidesAt (heads : List ClassHead) (c : ℕ) (head : ClassHead) (method : HeadMethod) (d : ℕ) : Type 0 where
  pub superclass : IsSuperclass heads c d
  pub above : ClassHead
  pub found : slice_get heads d ≡ Some above
  pub hides : Hides head above method

-- some class at or above class c declares the field
abbrev pub IsDeclaredAbove : List ClassHead → (name desc : List ℕ) → (c : ℕ) → Type 0
IsDeclaredAbove heads name desc c = (e : ℕ) × (k : ℕ) × IsAtOrAbove heads c e × (field_in heads name desc e ≡ Some k)

-- the search for a field that goes on from class c finds at class d what it finds at c
pub record LeadsOn (heads : List ClassHead) (name desc : List ℕ) (c d : ℕ) : Type 0 where
  pub direct : IsDirect heads c d
  pub declared : IsDeclaredAbove heads name desc d
  pub finds : (f : ℕ) → FieldSearch heads name desc (d ∷ []) (Some f) → FieldSearch heads name desc (c ∷ []) (Some f)

-- class c may inherit a method with code of interface i
abbrev pub IsSomeCandidate : List ClassHead → (name desc : List ℕ) → (c i : ℕ) → Type 0
IsSomeCandidate heads name desc c i = (k : ℕ) × IsCandidate heads name desc c i k

-- class c may inherit a method with code of interface j, which is a proper subinterface of i
pub record Overrides (heads : List ClassHead) (name desc : List ℕ) (c j i : ℕ) : Type 0 where
  pub candidate : IsSomeCandidate heads name desc c j
  pub below : IsSuperinterface heads j i

-- there is such an interface
abbrev pub IsOverridden : List ClassHead → (name desc : List ℕ) → (c i : ℕ) → Type 0
IsOverridden heads name desc c i = (j : ℕ) × Overrides heads name desc c j i

-- some method of i is left
abbrev pub IsSomeLeft : List ClassHead → (name desc : List ℕ) → (c i : ℕ) → Type 0
IsSomeLeft heads name desc c i = (k : ℕ) × IsLeft heads name desc c i k

-- a method of another interface than i is left
abbrev pub IsOtherLeft : List ClassHead → (name desc : List ℕ) → (c i : ℕ) → Type 0
IsOtherLeft heads name desc c i = (j : ℕ) × IsSomeLeft heads name desc c j × (i ≡ j → ⊥)

-- m is the number of the method with code that interface i declares
abbrev pub IsLeftNumber : List ClassHead → (name desc : List ℕ) → (i m : ℕ) → Type 0
IsLeftNumber heads name desc i m = (k : ℕ) × (method_in heads NoDefault name desc i ≡ Some k) × (m ≡ method_number heads i k)

-- one of the methods is package-private and has the name and descriptor of the method
pub record IsHiddenAmong (methods : List HeadMethod) (method : HeadMethod) : Type 0 where
  pub hidden : HeadMethod
  pub declared : Contains methods hidden
  pub local : is_package_private hidden.flags ≡ true
  pub same_name : hidden.name ≡ method.name
  pub same_desc : hidden.desc ≡ method.desc
