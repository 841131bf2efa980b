-- What the tables behind the classes hold. Only private functions cite this.
use Rattle.std.specs.Prelude.{◌≡◌, ℕ, ◌<◌, ◌≤◌, ◌^◌, ◌↔◌, ◌⊎◌, ◌++◌, Bool, true, false, List, [], Option, None, Contains, filter_map, length, map, option_to_list, slice_index_or}
use Rattle.std.specs.List.Sorted.{IsStrictlyIncreasing}
use Rattle.ja_sets.specs.Sets.{Has}
use Rattle.ja_ir.specs.declared.head.ClassHead.{ClassHead}
use Rattle.ja_supertypes.specs.declared.tables.Tables.{Tables}
use Rattle.ja_supertypes.specs.Faults.{AreClasses}
use Rattle.ja_supertypes.specs.InnerRows.{ShowsAll}
use Rattle.ja_supertypes.specs.Supertypes.{names_of, place_of, place_of_some, superclass_of, IsDirect, IsSuperclass, IsSuperinterface, IsSupertype, HasLibrarySupertype}
use Rattle.ja_base.specs.Limit.{max_numbered}

-- the place of the direct superclass of each class, where it is a program class
abbrev pub superclass_places : List ClassHead → List (Option ℕ)
superclass_places heads = map (λ (head : ClassHead). place_of_some (names_of heads) head.superclass) heads

-- the places of the program classes among the direct superinterfaces of each class
abbrev pub interface_places : List ClassHead → List (List ℕ)
interface_places heads = map (λ (head : ClassHead). filter_map (place_of (names_of heads)) head.interfaces) heads

-- the places of the direct supertypes of each class that are program classes
abbrev pub supertype_places : List ClassHead → List (List ℕ)
supertype_places heads =
    map (λ (head : ClassHead). filter_map (place_of (names_of heads)) head.interfaces ++ option_to_list (place_of_some (names_of heads) head.superclass)) heads

-- each class has a list of those that the relation says of it
pub record Lists (heads : List ClassHead) (R : (c d : ℕ) → Type 0) (lists : List (List ℕ)) : Type 0 where
  pub size : length lists ≡ length heads
  pub exact : (c d : ℕ) → c < length heads → Contains (slice_index_or lists c []) d ↔ R c d
  pub increasing : (c : ℕ) → c < length heads → IsStrictlyIncreasing (slice_index_or lists c [])

-- the set, below a bound, has just what is said
pub record HasJust (P : ℕ → Type 0) (len : ℕ) (set : List Bool) : Type 0 where
  pub width : length set ≡ len
  pub exact : (d : ℕ) → Has set d ↔ P d

-- each class has a set of those that the relation says of it
pub record Shows (heads : List ClassHead) (R : (c d : ℕ) → Type 0) (sets : List (List Bool)) : Type 0 where
  pub size : length sets ≡ length heads
  pub each : (c : ℕ) → c < length heads → HasJust (R c) (length heads) (slice_index_or sets c [])

-- the flags say which classes have a library class other than `java/lang/Object` above them
pub record ShowsForeign (heads : List ClassHead) (flags : List Bool) : Type 0 where
  pub size : length flags ≡ length heads
  pub exact : (c : ℕ) → c < length heads → (slice_index_or flags c false ≡ true) ↔ HasLibrarySupertype heads c

-- the class at the top of the superclasses of class c: itself or a superclass, without a program superclass
pub record IsTop (heads : List ClassHead) (c top : ℕ) : Type 0 where
  pub above : (c ≡ top) ⊎ IsSuperclass heads c top
  pub last : superclass_of heads top ≡ None

-- for each class the class at the top of its superclasses
pub record AreTops (heads : List ClassHead) (tops : List ℕ) : Type 0 where
  pub size : length tops ≡ length heads
  pub each : (c : ℕ) → c < length heads → IsTop heads c (slice_index_or tops c 0)

-- the tables are those of classes with well-founded supertypes
pub record IsIndexed (tables : Tables) : Type 0 where
  pub few : length tables.heads ≤ max_numbered
  pub valid : AreClasses tables.heads
  pub names : tables.names.keys ≡ names_of tables.heads
  pub superclasses : tables.superclasses ≡ superclass_places tables.heads
  pub direct : tables.direct ≡ supertype_places tables.heads
  pub above : ShowsAll tables.heads tables.above
  pub supertypes : Lists tables.heads (IsSupertype tables.heads) tables.supertypes
  pub above_superclasses : Shows tables.heads (IsSuperclass tables.heads) tables.above_superclasses
  pub superinterfaces : Shows tables.heads (IsSuperinterface tables.heads) tables.superinterfaces
  pub foreign : ShowsForeign tables.heads tables.foreign
  pub tops : AreTops tables.heads tables.tops
  pub falling : (c d : ℕ) → IsDirect tables.heads c d → length (slice_index_or tables.supertypes d []) < length (slice_index_or tables.supertypes c [])
