-- The methods of the classes by their numbers. Only private functions cite this.
use Rattle.std.specs.Prelude.{◌≡◌, ℕ, zero, suc, ◌<◌, List, [], ◌∷◌, ◌++◌, Some, length, slice_get}
use Rattle.ja_class.specs.Meaning.{ClassSpelled}
use Rattle.ja_lower.specs.declared.place.Place.{Place}

-- this class declares this method
pub record IsPlace (classes : List ClassSpelled) (place : Place) : Type 0 where
  pub class : ClassSpelled
  pub at : slice_get classes place.class ≡ Some class
  pub declared : place.method < length class.head.methods

-- the methods of the classes before class c and the first k of class c, in order
pub data PlacesUpTo (classes : List ClassSpelled) : (c k : ℕ) → List Place → Type 0 where
  no_place : PlacesUpTo classes zero zero []
  next_place : {c k : ℕ} {before : List Place} (class : ClassSpelled) (place : Place) → slice_get classes c ≡ Some class → k < length class.head.methods
      → PlacesUpTo classes c k before → place.class ≡ c → place.method ≡ k → PlacesUpTo classes c (suc k) (before ++ place ∷ [])
  next_class : {c k : ℕ} {before : List Place} (class : ClassSpelled) → slice_get classes c ≡ Some class → k ≡ length class.head.methods
      → PlacesUpTo classes c k before → PlacesUpTo classes (suc c) zero before

-- the methods of the classes from method k of class c on, in order
pub data PlacesFrom (classes : List ClassSpelled) : (c k : ℕ) → List Place → Type 0 where
  all_passed : {c k : ℕ} → c ≡ length classes → k ≡ zero → PlacesFrom classes c k []
  place_left : {c k : ℕ} {rest : List Place} (class : ClassSpelled) (place : Place) → slice_get classes c ≡ Some class → k < length class.head.methods
      → place.class ≡ c → place.method ≡ k → PlacesFrom classes c (suc k) rest → PlacesFrom classes c k (place ∷ rest)
  class_passed : {c k : ℕ} {rest : List Place} (class : ClassSpelled) → slice_get classes c ≡ Some class → k ≡ length class.head.methods
      → PlacesFrom classes (suc c) zero rest → PlacesFrom classes c k rest
