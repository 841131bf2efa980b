-- Lists of which some items are known.
use Rattle.std.proofs.Common.{◌≡◌, ℕ, List, [], ◌∷◌, Option, Some, None, IfSome, get_or, length, drop, ◌≤◌, refl, arith}
use Rattle.std.specs.Prelude.{slice_get}

-- a list of no item
pub no_item : {X : Type 0} (xs : List X) → None ≡ slice_get xs 0 → xs ≡ []
no_item [] first = refl
no_item (x ∷ xs) first = cc

-- a list of one item
pub one_item : {X : Type 0} (xs : List X) (a : X) → Some a ≡ slice_get xs 0 → None ≡ slice_get xs 1 → xs ≡ a ∷ []
one_item [] a first second = cc
one_item (x ∷ []) a first second = cc
one_item (x ∷ y ∷ xs) a first second = cc

-- a list of two items
pub two_items : {X : Type 0} (xs : List X) (a b : X) → Some a ≡ slice_get xs 0 → Some b ≡ slice_get xs 1 → None ≡ slice_get xs 2 → xs ≡ a ∷ b ∷ []
two_items [] a b first second third = cc
two_items (x ∷ []) a b first second third = cc
two_items (x ∷ y ∷ []) a b first second third = cc
two_items (x ∷ y ∷ z ∷ xs) a b first second third = cc

-- a list is its first item and the others
pub first_and_others : (xs : List (List ℕ)) (a : List ℕ) → 1 ≤ length xs → a ≡ get_or xs 0 a → xs ≡ a ∷ drop 1 xs
first_and_others [] a some first = absurd (omega arith)
first_and_others (x ∷ xs) a some first = cc

-- a fact of what an option holds
pub weaker : {X : Type 0} (o : Option X) (P Q : X → Type 0) → ((x : X) → P x → Q x) → IfSome o P → IfSome o Q
weaker None P Q step h = tt
weaker (Some x) P Q step h = step x h
