-- Lists with the same elements, in one strict order, are one.
use Rattle.std.proofs.Common.{◌≡◌, ℕ, zero, suc, ◌<◌, ◌⊎◌, inl, inr, List, [], ◌∷◌, length, get_or, refl, sym, ◌∙◌, subst, arith}
use Rattle.std.specs.Prelude.{AllPairs, Contains}

-- an element of a list is its first or one of the others
first-or-later : {X : Type 0} (x : X) (xs : List X) (y : X) → Contains (x ∷ xs) y → (x ≡ y) ⊎ Contains xs y
first-or-later {X} x xs y held = by held.0 held.1 held.2
  where
    by : (k : ℕ) → k < length (x ∷ xs) → get_or (x ∷ xs) k y ≡ y → (x ≡ y) ⊎ Contains xs y
    by zero lt at = inl at
    by (suc k) lt at = inr (k, omega arith, at)

here : {X : Type 0} (x : X) (xs : List X) → Contains (x ∷ xs) x
here x xs = (0, omega arith, refl)

later : {X : Type 0} (x : X) (xs : List X) (y : X) → Contains xs y → Contains (x ∷ xs) y
later x xs y held = let lt = held.1 in (suc held.0, omega arith, held.2)

-- the first stands before the others
before-later : {X : Type 0} (R : X → X → Type 0) (x : X) (xs : List X) (y : X) → AllPairs R (x ∷ xs) → Contains xs y → R x y
before-later {X} R x xs y pairs held = let lt = held.1 in subst (λ (z : X). R x z) held.2 (pairs 0 (suc held.0) y (omega arith) (omega arith))

others-ordered : {X : Type 0} (R : X → X → Type 0) (x : X) (xs : List X) → AllPairs R (x ∷ xs) → AllPairs R xs
others-ordered R x xs pairs i j d lt within = pairs (suc i) (suc j) d (omega arith) (omega arith)

-- the others of one list stand among the others of the other
others-held : {X : Type 0} (R : X → X → Type 0) → ((x y : X) → R x y → R y x → ⊥) → (x y : X) (xs ys : List X) → AllPairs R (x ∷ xs) → x ≡ y → ((z : X) → Contains (x ∷ xs) z → Contains (y ∷ ys) z)
    → (z : X) → Contains xs z → Contains ys z
others-held {X} R once x y xs ys pairs same to z held = elim (first-or-later y ys z (to z (later x xs z held))) [
  | inl e ↦ let twice : R z z = subst (λ (w : X). R w z) (same ∙ e) (before-later R x xs z pairs held) in absurd (once z z twice twice)
  | inr other ↦ other
]

pub one-list : {X : Type 0} (R : X → X → Type 0) → ((x y : X) → R x y → R y x → ⊥) → (xs ys : List X) → AllPairs R xs → AllPairs R ys
    → ((z : X) → Contains xs z → Contains ys z) → ((z : X) → Contains ys z → Contains xs z) → xs ≡ ys
one-list R once [] [] p q to from = refl
one-list R once [] (y ∷ ys) p q to from = let lt = (from y (here y ys)).1 in absurd (omega arith)
one-list R once (x ∷ xs) [] p q to from = let lt = (to x (here x xs)).1 in absurd (omega arith)
one-list {X} R once (x ∷ xs) (y ∷ ys) p q to from =
    let first : x ≡ y = elim (first-or-later y ys x (to x (here x xs))) [
      | inl e ↦ sym e
      | inr behind ↦ elim (first-or-later x xs y (from y (here y ys))) [ inl e ↦ e | inr ahead ↦ absurd (once x y (before-later R x xs y p ahead) (before-later R y ys x q behind)) ]
    ] in
    let others : xs ≡ ys =
    one-list R once xs ys (others-ordered R x xs p) (others-ordered R y ys q) (others-held R once x y xs ys p first to) (others-held R once y x ys xs q (sym first) from) in
    λ i. (first i) ∷ (others i)
