-- Places in lists, and lists of which some elements pass a test.
use Rattle.std.proofs.Common.{◌≡◌, ℕ, zero, suc, ◌<◌, ◌⊎◌, inl, inr, Bool, true, false, ◌||◌, cond, List, [], ◌∷◌, ◌++◌, length, get_or, Some, Contains, refl, ap, ◌∙◌, arith}
use Rattle.std.specs.Prelude.{slice_get}
use Rattle.std.specs.List.{filter}

-- an item of a list stands at its place in a longer one
pub kept : {X : Type 0} (xs ys : List X) (k : ℕ) (x : X) → slice_get xs k ≡ Some x → slice_get (xs ++ ys) k ≡ Some x
kept [] ys k x at = cc
kept (y ∷ xs) ys zero x at = at
kept (y ∷ xs) ys (suc k) x at = kept xs ys k x at

-- what stands at a place of the front of a list
pub in_front : {X : Type 0} (xs ys : List X) (k : ℕ) (x : X) → k < length xs → slice_get (xs ++ ys) k ≡ Some x → slice_get xs k ≡ Some x
in_front [] ys k x below at = absurd (omega arith)
in_front (y ∷ xs) ys zero x below at = at
in_front (y ∷ xs) ys (suc k) x below at = in_front xs ys k x (omega arith) at

-- the item behind a list
pub last : {X : Type 0} (xs : List X) (x : X) → slice_get (xs ++ x ∷ []) (length xs) ≡ Some x
last [] x = refl
last (y ∷ xs) x = last xs x

-- an item of a list with one more is one of the list or the one more
pub push_cases : {X : Type 0} (xs : List X) (y : X) (k : ℕ) (x : X) → slice_get (xs ++ y ∷ []) k ≡ Some x → (slice_get xs k ≡ Some x) ⊎ ((k ≡ length xs) × (y ≡ x))
push_cases [] y zero x at = inr (refl, cc)
push_cases [] y (suc k) x at = cc
push_cases (z ∷ xs) y zero x at = inl at
push_cases (z ∷ xs) y (suc k) x at = elim (push_cases xs y k x at) [ inl there ↦ inl there | inr here ↦ inr (ap suc here.0, here.1) ]

-- those of the elements that pass one of two tests, which pass the first
filter_step : {X : Type 0} (p q : X → Bool) (x : X) (xs : List X) → filter p (filter (λ y. p y || q y) xs) ≡ filter p xs → (a b : Bool) → p x ≡ a → q x ≡ b
    → filter p (cond (a || b) (x ∷ filter (λ y. p y || q y) xs) (filter (λ y. p y || q y) xs)) ≡ cond a (x ∷ filter p xs) (filter p xs)
filter_step {X} p q x xs rest true b is other = rw is (ap (λ (l : List X). x ∷ l) rest)
filter_step p q x xs rest false true is other = rw is rest
filter_step p q x xs rest false false is other = rest

pub filter_within : {X : Type 0} (p q : X → Bool) (xs : List X) → filter p (filter (λ x. p x || q x) xs) ≡ filter p xs
filter_within p q [] = refl
filter_within p q (x ∷ xs) = filter_step p q x xs (filter_within p q xs) (p x) (q x) refl refl

-- an element that passes is among those that do
pub passes : {X : Type 0} (p : X → Bool) (xs : List X) (y : X) → p y ≡ true → Contains xs y → Contains (filter p xs) y
passes p xs y is held = at p xs y is held.0 held.1 held.2
  where
    front : {X : Type 0} (b : Bool) (x : X) (rest : List X) (y : X) → Contains rest y → Contains (cond b (x ∷ rest) rest) y
    front true x rest y held = let below = held.1 in (suc held.0, omega arith, held.2)
    front false x rest y held = held

    here : {X : Type 0} (b : Bool) (x : X) (rest : List X) (y : X) → b ≡ true → x ≡ y → Contains (cond b (x ∷ rest) rest) y
    here true x rest y is same = (0, omega arith, same)
    here false x rest y is same = cc

    at : {X : Type 0} (p : X → Bool) (xs : List X) (y : X) → p y ≡ true → (k : ℕ) → k < length xs → get_or xs k y ≡ y → Contains (filter p xs) y
    at p [] y is k below e = absurd (omega arith)
    at p (x ∷ xs) y is zero below e = here (p x) x (filter p xs) y (ap p e ∙ is) e
    at p (x ∷ xs) y is (suc k) below e = front (p x) x (filter p xs) y (at p xs y is k (omega arith) e)

-- what is among the elements that pass is an element
further : {X : Type 0} (x : X) (xs : List X) (y : X) → Contains xs y → Contains (x ∷ xs) y
further x xs y there = let below = there.1 in (suc there.0, omega arith, there.2)

passed_first : {X : Type 0} (x : X) (xs kept_items : List X) (y : X) → (Contains kept_items y → Contains xs y) → (k : ℕ) → k < length (x ∷ kept_items)
    → get_or (x ∷ kept_items) k y ≡ y → Contains (x ∷ xs) y
passed_first x xs kept_items y rest zero below e = (0, omega arith, e)
passed_first x xs kept_items y rest (suc k) below e = further x xs y (rest (k, omega arith, e))

passed_step : {X : Type 0} (x : X) (xs kept_items : List X) (y : X) → (Contains kept_items y → Contains xs y) → (b : Bool)
    → Contains (cond b (x ∷ kept_items) kept_items) y → Contains (x ∷ xs) y
passed_step x xs kept_items y rest true among = passed_first x xs kept_items y rest among.0 among.1 among.2
passed_step x xs kept_items y rest false among = further x xs y (rest among)

pub passed : {X : Type 0} (p : X → Bool) (xs : List X) (y : X) → Contains (filter p xs) y → Contains xs y
passed p [] y held = held
passed p (x ∷ xs) y held = passed_step x xs (filter p xs) y (passed p xs y) (p x) held
