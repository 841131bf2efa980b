-- The library classes by which a program class is known: its nearest library superclass, and the library interfaces that it has
-- through its own and its superclasses' interfaces (JVM specification 4.1, 4.10).
use Rattle.std.specs.Prelude.{◌≡◌, ℕ, List, [], ◌∷◌, ◌++◌, Some, None, bytes_eq, slice_get, if◌then◌else◌}
use Rattle.std.specs.List.{list_any}
use Rattle.ja_ir.specs.declared.head.ClassHead.{ClassHead}
use Rattle.ja_supertypes.specs.Supertypes.{class_named, superclass_name, interface_names, superclass_of, object_name}

-- the first class on the way up the superclasses of class c that no program class is
pub data IsNearest (heads : List ClassHead) : (c : ℕ) (name : List ℕ) → Type 0 where
  named : {c : ℕ} {name : List ℕ} → superclass_name (slice_get heads c) ≡ Some name → class_named heads name ≡ None → IsNearest heads c name
  inherited : {c : ℕ} {name : List ℕ} (d : ℕ) → superclass_of heads c ≡ Some d → IsNearest heads d name → IsNearest heads c name

-- names of interfaces, of which each program interface has given way to its own interfaces, in place
pub data Expands (heads : List ClassHead) : (names expanded : List (List ℕ)) → Type 0 where
  nothing : Expands heads [] []
  of_library : {name : List ℕ} {names expanded : List (List ℕ)} → class_named heads name ≡ None → Expands heads names expanded → Expands heads (name ∷ names) (name ∷ expanded)
  of_program : {name : List ℕ} {names own expanded : List (List ℕ)} (i : ℕ) → class_named heads name ≡ Some i → Expands heads (interface_names (slice_get heads i)) own
      → Expands heads names expanded → Expands heads (name ∷ names) (own ++ expanded)

-- the same of the interfaces of class c and of its program superclasses, one class after the other upwards
pub data ExpandsUp (heads : List ClassHead) : (c : ℕ) (expanded : List (List ℕ)) → Type 0 where
  at_top : {c : ℕ} {own : List (List ℕ)} → Expands heads (interface_names (slice_get heads c)) own → superclass_of heads c ≡ None → ExpandsUp heads c own
  upwards : {c : ℕ} {own above : List (List ℕ)} (d : ℕ) → Expands heads (interface_names (slice_get heads c)) own → superclass_of heads c ≡ Some d
      → ExpandsUp heads d above → ExpandsUp heads c (own ++ above)

-- the nearest library superclass of class c, where there is one other than `java/lang/Object`
pub data Begins (heads : List ClassHead) (c : ℕ) : (names : List (List ℕ)) → Type 0 where
  with_superclass : {name : List ℕ} → IsNearest heads c name → (name ≡ object_name → ⊥) → Begins heads c (name ∷ [])
  with_object : IsNearest heads c object_name → Begins heads c []
  with_none : ((name : List ℕ) → IsNearest heads c name → ⊥) → Begins heads c []

-- the names that are kept, and behind them each further name that is not there yet
abbrev pub with_new : (kept names : List (List ℕ)) → List (List ℕ)
with_new kept [] = kept
with_new kept (name ∷ names) = with_new (if list_any (bytes_eq name) kept then kept else kept ++ name ∷ []) names

-- each name at its first place
abbrev pub first_places : (names : List (List ℕ)) → List (List ℕ)
first_places names = with_new [] names

-- the nearest library superclass, then the library interfaces, each at its first place
pub record AreLibraryTypes (heads : List ClassHead) (c : ℕ) (names : List (List ℕ)) : Type 0 where
  pub superclass : List (List ℕ)
  pub interfaces : List (List ℕ)
  pub begins : Begins heads c superclass
  pub expands : ExpandsUp heads c interfaces
  pub are : names ≡ first_places (superclass ++ interfaces)
