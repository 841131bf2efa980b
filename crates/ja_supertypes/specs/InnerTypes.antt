-- How the library types of each class are made from those of the classes above it. Only private functions cite this.
use Rattle.std.specs.Prelude.{◌≡◌, ℕ, ◌<◌, ◌++◌, List, [], ◌∷◌, Option, Some, None, bytes_eq, length, slice_get, slice_index_or, if◌then◌else◌}
use Rattle.ja_ir.specs.declared.head.ClassHead.{ClassHead}
use Rattle.ja_supertypes.specs.declared.tables.Tables.{Tables}
use Rattle.ja_supertypes.specs.InnerIndex.{IsIndexed}
use Rattle.ja_supertypes.specs.LibraryTypes.{AreLibraryTypes, Expands, first_places}
use Rattle.ja_supertypes.specs.Supertypes.{place_of, interface_names, object_name}

-- what stands for a name: the names at its place, or itself where it has none
abbrev pub standing_for : (types : List (List (List ℕ))) (name : List ℕ) (place : Option ℕ) → List (List ℕ)
standing_for types name None = name ∷ []
standing_for types name (Some place) = slice_index_or types place []

-- the name of a superclass as a list, where it is not `java/lang/Object`
abbrev pub other_than_object : Option (List ℕ) → List (List ℕ)
other_than_object None = []
other_than_object (Some name) = if bytes_eq name object_name then [] else name ∷ []

-- the first places of the library interfaces of a class itself, without its superclasses
pub record AreOwnTypes (heads : List ClassHead) (c : ℕ) (names : List (List ℕ)) : Type 0 where
  pub interfaces : List (List ℕ)
  pub expands : Expands heads (interface_names (slice_get heads c)) interfaces
  pub are : names ≡ first_places interfaces

-- both lists stand at a class
pub record AreNoted (heads : List ClassHead) (own all : List (List (List ℕ))) (c : ℕ) : Type 0 where
  pub interfaces : AreOwnTypes heads c (slice_index_or own c [])
  pub library : AreLibraryTypes heads c (slice_index_or all c [])

-- both lists stand at each class with fewer supertypes than so many
pub record AreNotedBelow (tables : Tables) (own all : List (List (List ℕ))) (count : ℕ) : Type 0 where
  pub own_size : length own ≡ length tables.heads
  pub all_size : length all ≡ length tables.heads
  pub each : (c : ℕ) → c < length tables.heads → length (slice_index_or tables.supertypes c []) < count → AreNoted tables.heads own all c

-- names, of which each program class gives way to the names that stand for it
abbrev pub spliced : (keys : List (List ℕ)) (types : List (List (List ℕ))) (names : List (List ℕ)) → List (List ℕ)
spliced keys types [] = []
spliced keys types (name ∷ names) = standing_for types name (place_of keys name) ++ spliced keys types names

-- the names that stand at a class, if there is one
abbrev pub names_at : (types : List (List (List ℕ))) → Option ℕ → List (List ℕ)
names_at types None = []
names_at types (Some class) = slice_index_or types class []

-- for each class its library types
pub record AreTypes (heads : List ClassHead) (types : List (List (List ℕ))) : Type 0 where
  pub size : length types ≡ length heads
  pub each : (c : ℕ) → c < length heads → AreLibraryTypes heads c (slice_index_or types c [])

-- the tables are those of classes with well-founded supertypes, and the library types are listed
pub record IsTyped (tables : Tables) (types : List (List (List ℕ))) : Type 0 where
  pub indexed : IsIndexed tables
  pub listed : AreTypes tables.heads types
