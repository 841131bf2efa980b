-- Program classes by their names, and their supertypes (JVM specification 4.1, 4.10). A class is named by its place in the list.
use Rattle.std.specs.Prelude.{◌≡◌, ℕ, ◌++◌, ◌⊎◌, ◌↔◌, List, [], Option, Some, None, Contains, bytes_eq, codes, filter_map, map, option_to_list, position, slice_get}
use Rattle.std.specs.List.Sorted.{IsStrictlyIncreasing}
use Rattle.ja_ir.specs.declared.head.ClassHead.{ClassHead}

-- the names of the classes, in order
abbrev pub names_of : List ClassHead → List (List ℕ)
names_of heads = map (λ (head : ClassHead). head.name) heads

-- the first place of a name among names
abbrev pub place_of : (names : List (List ℕ)) (name : List ℕ) → Option ℕ
place_of names name = position (bytes_eq name) names

-- the program class of a name: the first that has it; a name that no class of the list has is one of the library
abbrev pub class_named : List ClassHead → (name : List ℕ) → Option ℕ
class_named heads name = place_of (names_of heads) name

-- the place of a name among names, where there is a name
abbrev pub place_of_some : (names : List (List ℕ)) (name : Option (List ℕ)) → Option ℕ
place_of_some names None = None
place_of_some names (Some name) = place_of names name

-- the direct superclass that a class names
abbrev pub superclass_name : Option ClassHead → Option (List ℕ)
superclass_name None = None
superclass_name (Some head) = head.superclass

-- the direct superinterfaces that a class names, in declared order
abbrev pub interface_names : Option ClassHead → List (List ℕ)
interface_names None = []
interface_names (Some head) = head.interfaces

-- the direct superclass of class c, where it is a program class
abbrev pub superclass_of : List ClassHead → (c : ℕ) → Option ℕ
superclass_of heads c = place_of_some (names_of heads) (superclass_name (slice_get heads c))

-- the program classes among the direct superinterfaces of class c, in declared order
abbrev pub interfaces_of : List ClassHead → (c : ℕ) → List ℕ
interfaces_of heads c = filter_map (place_of (names_of heads)) (interface_names (slice_get heads c))

-- the program classes among the direct supertypes of class c: its superinterfaces in declared order, then its superclass
abbrev pub supertypes_of : List ClassHead → (c : ℕ) → List ℕ
supertypes_of heads c = interfaces_of heads c ++ option_to_list (superclass_of heads c)

-- class d is a direct supertype of class c
abbrev pub IsDirect : List ClassHead → (c d : ℕ) → Type 0
IsDirect heads c d = Contains (supertypes_of heads c) d

-- class d is a proper supertype of class c through program classes
pub data IsSupertype (heads : List ClassHead) : (c d : ℕ) → Type 0 where
  direct : {c d : ℕ} → IsDirect heads c d → IsSupertype heads c d
  through : {c d : ℕ} (middle : ℕ) → IsSupertype heads c middle → IsSupertype heads middle d → IsSupertype heads c d

-- the list has just the proper program supertypes of class c, in ascending order
pub record AreSupertypes (heads : List ClassHead) (c : ℕ) (list : List ℕ) : Type 0 where
  pub ascending : IsStrictlyIncreasing list
  pub exact : (d : ℕ) → Contains list d ↔ IsSupertype heads c d

-- class d is class c or a proper supertype of it
abbrev pub IsAtOrAbove : List ClassHead → (c d : ℕ) → Type 0
IsAtOrAbove heads c d = (c ≡ d) ⊎ IsSupertype heads c d

-- class d is a proper superclass of class c through program classes
pub data IsSuperclass (heads : List ClassHead) : (c d : ℕ) → Type 0 where
  next : {c d : ℕ} → superclass_of heads c ≡ Some d → IsSuperclass heads c d
  further : {c d : ℕ} (middle : ℕ) → superclass_of heads c ≡ Some middle → IsSuperclass heads middle d → IsSuperclass heads c d

-- class i is a proper superinterface of class c: a direct one of c or of a program supertype of c
pub data IsSuperinterface (heads : List ClassHead) (c i : ℕ) : Type 0 where
  declared : (d : ℕ) → IsAtOrAbove heads c d → Contains (interfaces_of heads d) i → IsSuperinterface heads c i

-- the name of the class that is above every other one
abbrev pub object_name : List ℕ
object_name = codes "java/lang/Object"

-- class c itself names this direct supertype
pub data Names (heads : List ClassHead) (c : ℕ) (name : List ℕ) : Type 0 where
  as_superclass : superclass_name (slice_get heads c) ≡ Some name → Names heads c name
  as_interface : Contains (interface_names (slice_get heads c)) name → Names heads c name

-- a library class other than `java/lang/Object` is above class c
pub record HasLibrarySupertype (heads : List ClassHead) (c : ℕ) : Type 0 where
  pub d : ℕ
  pub name : List ℕ
  pub above : IsAtOrAbove heads c d
  pub named : Names heads d name
  pub library : class_named heads name ≡ None
  pub other : name ≡ object_name → ⊥
