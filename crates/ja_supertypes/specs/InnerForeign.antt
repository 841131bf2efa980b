-- Which classes have a library class other than `java/lang/Object` above them, as flags. Only private functions cite this.
use Rattle.std.specs.Prelude.{◌≡◌, ℕ, ◌<◌, ◌&&◌, ◌||◌, Bool, false, not, List, [], Option, Some, None, bytes_eq, is_none, length, slice_index_or}
use Rattle.std.specs.List.{list_any}
use Rattle.ja_ir.specs.declared.head.ClassHead.{ClassHead}
use Rattle.ja_supertypes.specs.Supertypes.{place_of, object_name}

-- the name is one of the library and not `java/lang/Object`
abbrev pub is_foreign : (names : List (List ℕ)) (name : List ℕ) → Bool
is_foreign names name = is_none (place_of names name) && not (bytes_eq name object_name)

-- the same of a name, if there is one
abbrev pub is_some_foreign : (names : List (List ℕ)) → Option (List ℕ) → Bool
is_some_foreign names None = false
is_some_foreign names (Some name) = is_foreign names name

-- a class itself names such a class
abbrev pub names_foreign : (names : List (List ℕ)) → ClassHead → Bool
names_foreign names head = is_some_foreign names head.superclass || list_any (is_foreign names) head.interfaces

-- one of the classes has the flag
abbrev pub is_raised : (flags : List Bool) (classes : List ℕ) → Bool
is_raised flags classes = list_any (λ d. slice_index_or flags d false) classes

-- for each class whether it or a class above it has the flag
pub record AreRaised (own : List Bool) (supers : List (List ℕ)) (flags : List Bool) : Type 0 where
  pub size : length flags ≡ length supers
  pub each : (c : ℕ) → c < length supers → slice_index_or flags c false ≡ (slice_index_or own c false || is_raised own (slice_index_or supers c []))
