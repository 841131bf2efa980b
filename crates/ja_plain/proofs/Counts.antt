-- How many numbers below one pass a test.
use Rattle.std.proofs.Common.{◌≡◌, ℕ, zero, suc, ◌+◌, ◌<◌, ◌≤◌, ◌⊎◌, inl, inr, Bool, true, false, refl, sym, arith, ◌∙◌}
use Rattle.std.proofs.lemmas.Bool.{cases_order}

abbrev pub one_if : Bool → ℕ
one_if true = 1
one_if false = 0

abbrev pub count : (ℕ → Bool) → ℕ → ℕ
count p zero = 0
count p (suc n) = one_if (p n) + count p n

one_if-below : (b : Bool) → one_if b ≤ 1
one_if-below true = omega arith
one_if-below false = omega arith

one_if-less : (b c : Bool) → (b ≡ true → c ≡ true) → one_if b ≤ one_if c
one_if-less false c h = omega arith
one_if-less true true h = omega arith
one_if-less true false h = let e : false ≡ true = h refl in cc

one_if-full : (b : Bool) → 1 ≤ one_if b → b ≡ true
one_if-full true h = refl
one_if-full false h = absurd (omega arith)

pub count-below : (p : ℕ → Bool) (n : ℕ) → count p n ≤ n
count-below p zero = omega arith
count-below p (suc n) = omega (arith, count-below p n, one_if-below (p n))

pub count-less : (p q : ℕ → Bool) → ((a : ℕ) → p a ≡ true → q a ≡ true) → (n : ℕ) → count p n ≤ count q n
count-less p q h zero = omega arith
count-less p q h (suc n) = omega (arith, count-less p q h n, one_if-less (p n) (q n) (h n))

-- one more passes the second test
pub count-more : (p q : ℕ → Bool) → ((a : ℕ) → p a ≡ true → q a ≡ true) → (n a : ℕ) → a < n → q a ≡ true → p a ≡ false → count p n + 1 ≤ count q n
count-more p q h zero a room in-q out-p = absurd (omega arith)
count-more p q h (suc n) a room in-q out-p =
    let go : ((a ≡ n) ⊎ ((a < n) ⊎ (n < a))) → one_if (p n) + count p n + 1 ≤ one_if (q n) + count q n =
    elim [
      | inl e ↦ (let zero-p : one_if (p n) ≡ 0 = rw (sym e) (rw out-p refl) in let one-q : one_if (q n) ≡ 1 = rw (sym e) (rw in-q refl) in omega (arith, zero-p, one-q, count-less p q h n))
      | inr o ↦ elim o [
        | inl lt ↦ omega (arith, count-more p q h n a lt in-q out-p, one_if-less (p n) (q n) (h n))
        | inr gt ↦ absurd (omega arith)
      ]
    ] in
    go (cases_order a n)

-- where as many pass as there are, each does
pub count-full : (p : ℕ → Bool) (n : ℕ) → n ≤ count p n → (a : ℕ) → a < n → p a ≡ true
count-full p zero full a room = absurd (omega arith)
count-full p (suc n) full a room =
    let last : p n ≡ true = one_if-full (p n) (omega (arith, count-below p n)) in
    let go : ((a ≡ n) ⊎ ((a < n) ⊎ (n < a))) → p a ≡ true =
    elim [
      | inl e ↦ rw e last
      | inr o ↦ elim o [
        | inl lt ↦ count-full p n (omega (arith, one_if-below (p n))) a lt
        | inr gt ↦ absurd (omega arith)
      ]
    ] in
    go (cases_order a n)

-- a number below that passes the second test alone
pub record Only (p q : ℕ → Bool) (n : ℕ) : Type 0 where
  pub number : ℕ
  pub inside : number < n
  pub in-q : q number ≡ true
  pub out-p : p number ≡ false

-- either there is none that passes the second test alone, or there is one
pub search-only : (p q : ℕ → Bool) (n : ℕ) → ((a : ℕ) → a < n → q a ≡ true → p a ≡ true) ⊎ Only p q n
search-only p q zero = inl (λ a room. absurd (omega arith))
search-only p q (suc n) = go (search-only p q n) (p n) refl (q n) refl where
  all-with : ((a : ℕ) → a < n → q a ≡ true → p a ≡ true) → (q n ≡ true → p n ≡ true) → (a : ℕ) → a < suc n → q a ≡ true → p a ≡ true
  all-with all last a room in-q =
      let by : ((a ≡ n) ⊎ ((a < n) ⊎ (n < a))) → p a ≡ true =
      elim [
        | inl e ↦ rw e (last (rw (sym e) in-q))
        | inr o ↦ elim o [ inl lt ↦ all a lt in-q | inr gt ↦ absurd (omega arith) ]
      ] in
      by (cases_order a n)

  go : (((a : ℕ) → a < n → q a ≡ true → p a ≡ true) ⊎ Only p q n) → (b : Bool) → p n ≡ b → (c : Bool) → q n ≡ c → ((a : ℕ) → a < suc n → q a ≡ true → p a ≡ true) ⊎ Only p q (suc n)
  go (inr o) b eb c ec = inr (record { number = o.number; inside = omega (arith, o.inside); in-q = o.in-q; out-p = o.out-p })
  go (inl all) true eb c ec = inl (all-with all (λ h. eb))
  go (inl all) false eb true ec = inr (record { number = n; inside = omega arith; in-q = ec; out-p = eb })
  go (inl all) false eb false ec = inl (all-with all (λ h. let e : false ≡ true = sym ec ∙ h in cc))
