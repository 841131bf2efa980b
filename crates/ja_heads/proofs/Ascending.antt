-- Ascending lists of numbers.
use Rattle.std.proofs.Common.{◌≡◌, ℕ, zero, suc, ◌+◌, ◌<◌, ◌⊎◌, inl, inr, Bool, true, false, List, [], ◌∷◌, ◌++◌, filter, refl, sym, ap, ◌∙◌, subst, arith, true≢false}
use Rattle.std.specs.Prelude.{◌↔◌, All, AllPairs, Contains, nat_lt, if◌then◌else◌}
use Rattle.std.specs.List.Sorted.{IsStrictlyIncreasing}
use Rattle.std.proofs.lemmas.Bool.{cases_Bool}
use Rattle.std.proofs.lemmas.List.Elements.{All-cons, All-tail, All-append, All-weaker, filter_passes, Contains-append_left, Contains-append_right, Contains-append_cases}
use Rattle.std.proofs.lemmas.List.Kept.{AllPairs-cons, AllPairs-from_increasing, IsStrictlyIncreasing-filter}
use Rattle.std.proofs.lemmas.Bool.Decides.{nat_tests}
use borrow.Author.Tests.{ltb-true, lt-ltb}
use Rattle.ja_heads.specs.InnerSupers.{with_own}

-- ---- members

pub in-cons : {A : Type 0} (x : A) (xs : List A) (d : A) → Contains (x ∷ xs) d → (x ≡ d) ⊎ Contains xs d
in-cons x xs d (zero, lt, e) = inl e
in-cons x xs d (suc k, lt, e) = inr (k, omega arith, e)

pub cons-here : {A : Type 0} (x : A) (xs : List A) (d : A) → x ≡ d → Contains (x ∷ xs) d
cons-here x xs d e = (zero, omega arith, e)

pub cons-later : {A : Type 0} (x : A) (xs : List A) (d : A) → Contains xs d → Contains (x ∷ xs) d
cons-later x xs d c = (suc c.0, omega (arith, c.1), c.2)

pub from-filter : {A : Type 0} (p : A → Bool) (xs : List A) (d : A) → Contains (filter p xs) d → Contains xs d
from-filter p [] d c = c
from-filter p (x ∷ xs) d c = by (p x) c (from-filter p xs d)
  where
    by : (b : Bool) → Contains (if b then x ∷ filter p xs else filter p xs) d → (Contains (filter p xs) d → Contains xs d) → Contains (x ∷ xs) d
    by true h rest = elim (in-cons x (filter p xs) d h) [ inl e ↦ cons-here x xs d e | inr later ↦ cons-later x xs d (rest later) ]
    by false h rest = cons-later x xs d (rest h)

pub in-filter : {A : Type 0} (p : A → Bool) (xs : List A) (d : A) → Contains xs d → p d ≡ true → Contains (filter p xs) d
in-filter p [] d c e = c
in-filter p (x ∷ xs) d c e = by (p x) refl (λ later. in-filter p xs d later e)
  where
    by : (b : Bool) → p x ≡ b → (Contains xs d → Contains (filter p xs) d) → Contains (if b then x ∷ filter p xs else filter p xs) d
    by true f rest = elim (in-cons x xs d c) [ inl here ↦ cons-here x (filter p xs) d here | inr later ↦ cons-later x (filter p xs) d (rest later) ]
    by false f rest = elim (in-cons x xs d c) [ inl here ↦ absurd (true≢false (sym e ∙ ap p (sym here) ∙ f)) | inr later ↦ rest later ]

-- ---- pairs

pairs-tail : (x : ℕ) (xs : List ℕ) → AllPairs (λ a b. a < b) (x ∷ xs) → AllPairs (λ a b. a < b) xs
pairs-tail x xs h i j d lt within = h (suc i) (suc j) d (omega arith) (omega arith)

pairs-head : (x : ℕ) (xs : List ℕ) → AllPairs (λ a b. a < b) (x ∷ xs) → All (λ b. x < b) xs
pairs-head x xs h k d within = h zero (suc k) d (omega arith) (omega arith)

pairs-append : (xs ys : List ℕ) → AllPairs (λ a b. a < b) xs → AllPairs (λ a b. a < b) ys → All (λ a. All (λ b. a < b) ys) xs → AllPairs (λ a b. a < b) (xs ++ ys)
pairs-append [] ys h g across = g
pairs-append (x ∷ xs) ys h g across =
    AllPairs-cons (λ a b. a < b) x (xs ++ ys)
    (All-append (λ b. x < b) xs ys (pairs-head x xs h) (across zero x (omega arith)))
    (pairs-append xs ys (pairs-tail x xs h) g (All-tail (λ a. All (λ b. a < b) ys) x xs across))

increasing : (xs : List ℕ) → AllPairs (λ a b. a < b) xs → IsStrictlyIncreasing xs
increasing xs h k within = h k (k + 1) 0 (omega arith) within

-- ---- a number at its place

lower : (c : ℕ) (above : List ℕ) → All (λ d. d < c) (filter (λ d. nat_lt d c) above)
lower c above =
    All-weaker (λ d. nat_lt d c ≡ true) (λ d. d < c) (λ d e. ltb-true d c e) (filter (λ d. nat_lt d c) above) (filter_passes (λ d. nat_lt d c) above)

higher : (c : ℕ) (above : List ℕ) → All (λ d. c < d) (filter (λ d. nat_lt c d) above)
higher c above =
    All-weaker (λ d. nat_lt c d ≡ true) (λ d. c < d) (λ d e. ltb-true c d e) (filter (λ d. nat_lt c d) above) (filter_passes (λ d. nat_lt c d) above)

pub with_own-ascending : (c : ℕ) (above : List ℕ) → IsStrictlyIncreasing above → IsStrictlyIncreasing (with_own c above)
with_own-ascending c above h =
    let low : List ℕ = filter (λ d. nat_lt d c) above in
    let high : List ℕ = filter (λ d. nat_lt c d) above in
    let low-up : AllPairs (λ a b. a < b) low = AllPairs-from_increasing low (IsStrictlyIncreasing-filter (λ d. nat_lt d c) above h) in
    let high-up : AllPairs (λ a b. a < b) high = AllPairs-from_increasing high (IsStrictlyIncreasing-filter (λ d. nat_lt c d) above h) in
    increasing (low ++ c ∷ high)
    (pairs-append low (c ∷ high) low-up (AllPairs-cons (λ a b. a < b) c high (higher c above) high-up)
    (All-weaker (λ a. a < c) (λ a. All (λ b. a < b) (c ∷ high))
    (λ a lt. All-cons (λ b. a < b) c high lt (All-weaker (λ b. c < b) (λ b. a < b) (λ b more. omega arith) high (higher c above))) low (lower c above)))

pub with_own-members : (c : ℕ) (above : List ℕ) (d : ℕ) → Contains (with_own c above) d ↔ ((c ≡ d) ⊎ Contains above d)
with_own-members c above d = (there, back)
  where
    there : Contains (with_own c above) d → (c ≡ d) ⊎ Contains above d
    there h = elim (Contains-append_cases (filter (λ e. nat_lt e c) above) (c ∷ filter (λ e. nat_lt c e) above) d h) [
      | inl low ↦ inr (from-filter (λ e. nat_lt e c) above d low)
      | inr rest ↦ elim (in-cons c (filter (λ e. nat_lt c e) above) d rest) [ inl same ↦ inl same | inr high ↦ inr (from-filter (λ e. nat_lt c e) above d high) ]
    ]

    placed : (c d : ℕ) → (c ≡ d) ⊎ ((d < c) ⊎ (c < d))
    placed c d = elim (cases_Bool (nat_lt d c)) [
      | inl low ↦ inr (inl (ltb-true d c low))
      | inr not-low ↦ elim (cases_Bool (nat_lt c d)) [
        | inl high ↦ inr (inr (ltb-true c d high))
        | inr not-high ↦ inl (grind (arith, nat_tests))
      ]
    ]

    back : (c ≡ d) ⊎ Contains above d → Contains (with_own c above) d
    back either = elim (placed c d) [
      | inl same ↦ Contains-append_right (filter (λ e. nat_lt e c) above) (c ∷ filter (λ e. nat_lt c e) above) d (cons-here c (filter (λ e. nat_lt c e) above) d same)
      | inr apart ↦
          let inside : Contains above d = elim either [ inl same ↦ absurd (elim apart [ inl low ↦ omega arith | inr high ↦ omega arith ]) | inr it ↦ it ] in
          elim apart [
            | inl low ↦ Contains-append_left (filter (λ e. nat_lt e c) above) (c ∷ filter (λ e. nat_lt c e) above) d (in-filter (λ e. nat_lt e c) above d inside (lt-ltb d c low))
            | inr high ↦
                Contains-append_right (filter (λ e. nat_lt e c) above) (c ∷ filter (λ e. nat_lt c e) above) d
                (cons-later c (filter (λ e. nat_lt c e) above) d (in-filter (λ e. nat_lt c e) above d inside (lt-ltb c d high)))
          ]
    ]

-- ---- ascending lists of the same numbers

same-pairs : (xs ys : List ℕ) → AllPairs (λ a b. a < b) xs → AllPairs (λ a b. a < b) ys → ((d : ℕ) → Contains xs d → Contains ys d) → ((d : ℕ) → Contains ys d → Contains xs d) → xs ≡ ys
same-pairs [] [] h g to from = refl
same-pairs [] (y ∷ ys) h g to from = absurd (omega (arith, (from y (cons-here y ys y refl)).1))
same-pairs (x ∷ xs) [] h g to from = absurd (omega (arith, (to x (cons-here x xs x refl)).1))
same-pairs (x ∷ xs) (y ∷ ys) h g to from =
    let first : x ≡ y = heads (in-cons y ys x (to x (cons-here x xs x refl))) (in-cons x xs y (from y (cons-here y ys y refl))) in
    ap (λ n. n ∷ xs) first
    ∙ ap (λ l. y ∷ l) (same-pairs xs ys (pairs-tail x xs h) (pairs-tail y ys g)
    (λ d c. elim (in-cons y ys d (to d (cons-later x xs d c))) [ inl same ↦ absurd (omega (arith, above x xs h d c)) | inr rest ↦ rest ])
    (λ d c. elim (in-cons x xs d (from d (cons-later y ys d c))) [ inl same ↦ absurd (omega (arith, above y ys g d c)) | inr rest ↦ rest ]))
  where
    above : (z : ℕ) (zs : List ℕ) → AllPairs (λ a b. a < b) (z ∷ zs) → (d : ℕ) → Contains zs d → z < d
    above z zs up d c = subst (λ n. z < n) c.2 (up zero (suc c.0) d (omega arith) (omega (arith, c.1)))

    heads : (y ≡ x) ⊎ Contains ys x → (x ≡ y) ⊎ Contains xs y → x ≡ y
    heads (inl same) other = sym same
    heads (inr later) (inl same) = same
    heads (inr later) (inr after) = absurd (omega (arith, above y ys g x later, above x xs h y after))

pub same-ascending : (xs ys : List ℕ) → IsStrictlyIncreasing xs → IsStrictlyIncreasing ys → ((d : ℕ) → Contains xs d → Contains ys d) → ((d : ℕ) → Contains ys d → Contains xs d) → xs ≡ ys
same-ascending xs ys h g to from = same-pairs xs ys (AllPairs-from_increasing xs h) (AllPairs-from_increasing ys g) to from
