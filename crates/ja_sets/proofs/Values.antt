-- Truth values by a test, and unions.
use Rattle.std.proofs.Common.{◌≡◌, ℕ, zero, suc, ◌+◌, ◌<◌, ◌⊎◌, Bool, true, false, ◌||◌, List, [], ◌∷◌, length, get_or, refl, ap, ◌∙◌, inl, inr, arith}
use Rattle.ja_sets.specs.Sets.{Has, union, Adds}
use Rattle.ja_sets.specs.InnerWords.{values_from}

pub length-values_from : (test : ℕ → Bool) (from count : ℕ) → length (values_from test from count) ≡ count
length-values_from test from zero = refl
length-values_from test from (suc count) = ap suc (length-values_from test (suc from) count)

pub values_from-at : (test : ℕ → Bool) (from count i : ℕ) → i < count → get_or (values_from test from count) i false ≡ test (from + i)
values_from-at test from zero i h = absurd (omega arith)
values_from-at test from (suc count) zero h = ap test (omega arith)
values_from-at test from (suc count) (suc i) h =
    values_from-at test (suc from) count i (omega arith) ∙ ap test (omega arith)

pub length-union : (xs ys : List Bool) → length xs ≡ length ys → length (union xs ys) ≡ length xs
length-union [] [] h = refl
length-union [] (y ∷ ys) h = absurd (cc h)
length-union (x ∷ xs) [] h = absurd (cc h)
length-union (x ∷ xs) (y ∷ ys) h = ap suc (length-union xs ys (omega (arith, h)))

pub union-at : (xs ys : List Bool) (i : ℕ) → length xs ≡ length ys → get_or (union xs ys) i false ≡ (get_or xs i false || get_or ys i false)
union-at [] [] i h = refl
union-at [] (y ∷ ys) i h = absurd (cc h)
union-at (x ∷ xs) [] i h = absurd (cc h)
union-at (x ∷ xs) (y ∷ ys) zero h = refl
union-at (x ∷ xs) (y ∷ ys) (suc i) h = union-at xs ys i (omega (arith, h))

-- what is in the second set is in the union
pub Has-union : (xs ys : List Bool) (i : ℕ) → length xs ≡ length ys → Has ys i → Has (union xs ys) i
Has-union [] [] i h has = has
Has-union [] (y ∷ ys) i h has = absurd (cc h)
Has-union (x ∷ xs) [] i h has = absurd (cc h)
Has-union (true ∷ xs) (y ∷ ys) zero h has = refl
Has-union (false ∷ xs) (y ∷ ys) zero h has = has
Has-union (x ∷ xs) (y ∷ ys) (suc i) h has = Has-union xs ys i (omega (arith, h)) has

-- either the one set adds a number to the other, or it adds none and the union is the other
pub adds_or_not : (other self : List Bool) → length self ≡ length other → Adds other self ⊎ (union self other ≡ self)
adds_or_not [] [] h = inr refl
adds_or_not (y ∷ ys) [] h = absurd (cc h)
adds_or_not [] (x ∷ xs) h = absurd (cc h)
adds_or_not (true ∷ ys) (false ∷ xs) h = inl (0, refl, refl)
adds_or_not (true ∷ ys) (true ∷ xs) h =
    elim (adds_or_not ys xs (omega (arith, h))) [ inl a ↦ inl (suc a.0, a.1, a.2) | inr e ↦ inr (ap (λ (rest : List Bool). true ∷ rest) e) ]
adds_or_not (false ∷ ys) (true ∷ xs) h =
    elim (adds_or_not ys xs (omega (arith, h))) [ inl a ↦ inl (suc a.0, a.1, a.2) | inr e ↦ inr (ap (λ (rest : List Bool). true ∷ rest) e) ]
adds_or_not (false ∷ ys) (false ∷ xs) h =
    elim (adds_or_not ys xs (omega (arith, h))) [ inl a ↦ inl (suc a.0, a.1, a.2) | inr e ↦ inr (ap (λ (rest : List Bool). false ∷ rest) e) ]

-- a set that adds a number changes the other
pub union-changes : (xs ys : List Bool) → length xs ≡ length ys → Adds ys xs → union xs ys ≡ xs → ⊥
union-changes xs ys h a e =
    let has : Has (union xs ys) a.0 = Has-union xs ys a.0 h a.1 in
    let lacks : get_or (union xs ys) a.0 false ≡ false = ap (λ (zs : List Bool). get_or zs a.0 false) e ∙ a.2 in
    cc (has, lacks)
