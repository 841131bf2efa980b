-- What is in a list, and whether it is.
use Rattle.std.proofs.Common.{◌≡◌, ◌⊎◌, inl, inr, ℕ, zero, suc, List, [], ◌∷◌, refl, ap, arith}
use Rattle.std.specs.Prelude.{Contains}
use Rattle.std.proofs.lemmas.Bool.Decides.{eqb_tells}
use Rattle.ja_facts.specs.Held.{Cell, OfField, OfBag}

pub in_first : {X : Type 0} (x : X) (xs : List X) → Contains (x ∷ xs) x
in_first x xs = (0, omega arith, refl)

pub in_rest : {X : Type 0} (y x : X) (xs : List X) → Contains xs x → Contains (y ∷ xs) x
in_rest y x xs (k, below, e) = (suc k, omega (arith, below), e)

pub split_item : {X : Type 0} (y x : X) (xs : List X) → Contains (y ∷ xs) x → (y ≡ x) ⊎ Contains xs x
split_item y x xs (zero, below, e) = inl e
split_item y x xs (suc k, below, e) = inr (k, omega (arith, below), e)

pub no_item : {X : Type 0} (x : X) → Contains {X = X} [] x → ⊥
no_item x c = omega (arith, c.1)

-- whether an item is in a list, where it is told whether items are equal
joined : {X : Type 0} (x y : X) (xs : List X) → (x ≡ y) ⊎ (x ≡ y → ⊥) → Contains xs y ⊎ (Contains xs y → ⊥) → Contains (x ∷ xs) y ⊎ (Contains (x ∷ xs) y → ⊥)
joined x y xs (inl e) rest = inl (0, omega arith, e)
joined x y xs (inr other) (inl c) = inl (in_rest x y xs c)
joined x y xs (inr other) (inr absent) = inr (λ c. elim (split_item x y xs c) [ inl e ↦ other e | inr c ↦ absent c ])

pub is_in : {X : Type 0} (same : (x y : X) → (x ≡ y) ⊎ (x ≡ y → ⊥)) (xs : List X) (y : X) → Contains xs y ⊎ (Contains xs y → ⊥)
is_in same [] y = inr (no_item y)
is_in same (x ∷ xs) y = joined x y xs (same x y) (is_in same xs y)

pub same_number : (x y : ℕ) → (x ≡ y) ⊎ (x ≡ y → ⊥)
same_number x y = elim (eqb_tells x y) [ inl e ↦ inl e.1 | inr e ↦ inr e.1 ]

field-of : {f g : ℕ} → OfField f ≡ OfField g → f ≡ g
field-of e = cc e

bag-of : {t u : ℕ} → OfBag t ≡ OfBag u → t ≡ u
bag-of e = cc e

pub same_cell : (x y : Cell) → (x ≡ y) ⊎ (x ≡ y → ⊥)
same_cell (OfField f) (OfField g) = elim (same_number f g) [ inl e ↦ inl (ap OfField e) | inr e ↦ inr (λ h. e (field-of h)) ]
same_cell (OfField f) (OfBag u) = inr (λ h. cc h)
same_cell (OfBag t) (OfField g) = inr (λ h. cc h)
same_cell (OfBag t) (OfBag u) = elim (same_number t u) [ inl e ↦ inl (ap OfBag e) | inr e ↦ inr (λ h. e (bag-of h)) ]
