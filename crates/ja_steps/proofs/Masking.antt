-- Masks of cases.
use Rattle.std.proofs.Common.{◌≡◌, ◌≢◌, ℕ, ◌+◌, ◌-◌, ◌*◌, ◌^◌, ◌%◌, ◌<◌, Bool, true, false, refl, sym, ap, ◌∙◌, subst, arith, bit_and, bit_or, ⊎_elim, min, max}
use Rattle.std.specs.Prelude.{◌&&◌, ◌||◌, ◌==◌, nat_lt}
use Rattle.std.specs.Int.{bit_at}
use Rattle.std.specs.Int.{w32}
use mathlib.Core.Logic.{dite}
use native.Mathlib.Decide.{ℕ_discrete}
use Rattle.std.proofs.lemmas.Bool.{cases_lt, lt-ltb, le-ltb}
use Rattle.std.proofs.lemmas.Nat.Bits.{bit_at_and, bit_at_or, bit_at-lt, bit_at-zero, bit_at_ones, bit_at_set_same, bit_at_set_other, same_from_bits}
use Rattle.ja_steps.specs.Inner.{has}

-- a place that is not the last is before the next one as before the last
lt_more : (j k : ℕ) → j ≢ k → nat_lt j k ≡ nat_lt j (k + 1)
lt_more j k ne = ⊎_elim (λ lt. lt-ltb j k lt ∙ sym (lt-ltb j (k + 1) (omega arith))) (λ ge. le-ltb j k ge ∙ sym (le-ltb j (k + 1) (omega (arith, ne)))) (cases_lt j k)

module _ (m k : ℕ) (P : ℕ → Bool) (is : (j : ℕ) → has m j ≡ (nat_lt j k && P j)) where
  -- the mask with one more case that is to be there
  pub more_set : k < 32 → P k ≡ true → (j : ℕ) → has (bit_or m (1 * 2 ^ k % 2 ^ 32)) j ≡ (nat_lt j (k + 1) && P j)
  more_set within e j = dite (ℕ_discrete j k)
      (λ same. subst (λ i. has (bit_or m (1 * 2 ^ k % 2 ^ 32)) i ≡ (nat_lt i (k + 1) && P i)) (sym same)
      (ap (λ x. x == 1) (bit_at_set_same w32 m k within) ∙ sym (ap (λ c. c && P k) (lt-ltb k (k + 1) (omega arith)) ∙ e)))
      (λ other. ap (λ x. x == 1) (bit_at_set_other w32 m k within j other) ∙ is j ∙ ap (λ c. c && P j) (lt_more j k other))

  -- and with one that is not
  pub more_unset : P k ≡ false → (j : ℕ) → has m j ≡ (nat_lt j (k + 1) && P j)
  more_unset e j = dite (ℕ_discrete j k)
      (λ same. subst (λ i. has m i ≡ (nat_lt i (k + 1) && P i)) (sym same)
      (is k ∙ ap (λ c. c && P k) (le-ltb k k (omega arith)) ∙ sym (ap (λ c. c && P k) (lt-ltb k (k + 1) (omega arith)) ∙ e)))
      (λ other. is j ∙ ap (λ c. c && P j) (lt_more j k other))

-- the bits of both numbers, and of either
bit_cases : (x : ℕ) → x < 2 → (P : ℕ → Type 0) → P 0 → P 1 → P x
bit_cases x lt P none one = dite (ℕ_discrete x 0) (λ e. subst P (sym e) none) (λ ne. subst P (omega (arith, lt, ne)) one)

pub has_and : (a b j : ℕ) → has (bit_and a b) j ≡ (has a j && has b j)
has_and a b j = ap (λ x. x == 1) (bit_at_and a b j) ∙ bit_cases (bit_at a j) (bit_at-lt a j) (λ x. (min x (bit_at b j) == 1) ≡ ((x == 1) && (bit_at b j == 1)))
    (bit_cases (bit_at b j) (bit_at-lt b j) (λ y. (min 0 y == 1) ≡ ((0 == 1) && (y == 1))) refl refl)
    (bit_cases (bit_at b j) (bit_at-lt b j) (λ y. (min 1 y == 1) ≡ ((1 == 1) && (y == 1))) refl refl)

pub has_or : (a b j : ℕ) → has (bit_or a b) j ≡ (has a j || has b j)
has_or a b j = ap (λ x. x == 1) (bit_at_or a b j) ∙ bit_cases (bit_at a j) (bit_at-lt a j) (λ x. (max x (bit_at b j) == 1) ≡ ((x == 1) || (bit_at b j == 1)))
    (bit_cases (bit_at b j) (bit_at-lt b j) (λ y. (max 0 y == 1) ≡ ((0 == 1) || (y == 1))) refl refl)
    (bit_cases (bit_at b j) (bit_at-lt b j) (λ y. (max 1 y == 1) ≡ ((1 == 1) || (y == 1))) refl refl)

pub has_zero : (j : ℕ) → has 0 j ≡ false
has_zero j = ap (λ x. x == 1) (bit_at-zero j)

pub has_ones : (j : ℕ) → j < 32 → has (2 ^ 32 - 1) j ≡ true
has_ones j lt = ap (λ x. x == 1) (bit_at_ones 32 j lt)

-- a number none of whose bits is set is zero
pub has_none : (a : ℕ) → ((j : ℕ) → has a j ≡ false) → a ≡ 0
has_none a none = same_from_bits a 0 (λ j. bit_cases (bit_at a j) (bit_at-lt a j) (λ x. (x == 1) ≡ false → x ≡ 0) (λ e. refl) (λ e. absurd (cc e)) (none j) ∙ sym (bit_at-zero j))
