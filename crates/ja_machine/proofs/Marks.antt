-- Sets of categories are read category by category.
use Rattle.std.proofs.Common.{◌≡◌, ℕ, zero, suc, ◌+◌, ◌*◌, ◌/◌, ◌%◌, ◌<◌, ◌⊎◌, inl, inr, max, ◌==◌, Bool, true, false, ◌||◌, List, [], ◌∷◌, refl, sym, ◌∙◌, ap, subst, arith, eq-eqb}
use Rattle.std.proofs.Math.Nat.{zero-max}
use Rattle.std.specs.Prelude.{◌↔◌, bit_or}
use Rattle.std.specs.Int.{bit_at}
use Rattle.std.proofs.lemmas.Bool.{eqb-true}
use Rattle.std.proofs.lemmas.Nat.Bits.{bit_at-zero, bit_at_or, bit_at_lowest, bit_at-suc, bit_at-lt, same_from_bits}
use Rattle.ja_ir.specs.Categories.{has_category}
use Rattle.ja_machine.specs.Marks.{has, none, union, is_within, set_of}

pub or-left : (a b : Bool) → a ≡ true → (a || b) ≡ true
or-left true b e = refl
or-left false b e = cc

pub or-right : (a b : Bool) → b ≡ true → (a || b) ≡ true
or-right true b e = refl
or-right false b e = e

pub or-split : (a b : Bool) → (a || b) ≡ true → (a ≡ true) ⊎ (b ≡ true)
or-split true b e = inl refl
or-split false b e = inr e

-- no category is in the empty set
pub has-none : (c : ℕ) → has none c ≡ false
has-none c = ap (λ (n : ℕ). n == 1) (bit_at-zero c)

-- the larger of two bits
larger-bit : (x y : ℕ) → x < 2 → y < 2 → (max x y == 1) ≡ ((x == 1) || (y == 1))
larger-bit zero zero a b = refl
larger-bit zero (suc zero) a b = refl
larger-bit zero (suc (suc y)) a b = absurd (omega (arith, b))
larger-bit (suc zero) zero a b = refl
larger-bit (suc zero) (suc zero) a b = refl
larger-bit (suc zero) (suc (suc y)) a b = absurd (omega (arith, b))
larger-bit (suc (suc x)) y a b = absurd (omega (arith, a))

-- a category is in a union where it is in one of the two
pub has-union : (a b c : ℕ) → has (union a b) c ≡ (has a c || has b c)
has-union a b c = ap (λ (n : ℕ). n == 1) (bit_at_or a b c) ∙ larger-bit (bit_at a c) (bit_at b c) (bit_at-lt a c) (bit_at-lt b c)

pub union-left : (a b c : ℕ) → has a c ≡ true → has (union a b) c ≡ true
union-left a b c h = has-union a b c ∙ or-left (has a c) (has b c) h

pub union-right : (a b c : ℕ) → has b c ≡ true → has (union a b) c ≡ true
union-right a b c h = has-union a b c ∙ or-right (has a c) (has b c) h

pub union-split : (a b c : ℕ) → has (union a b) c ≡ true → (has a c ≡ true) ⊎ (has b c ≡ true)
union-split a b c h = or-split (has a c) (has b c) (sym (has-union a b c) ∙ h)

half-odd : (n : ℕ) → (1 + 2 * n) / 2 ≡ n
half-odd n = omega arith

half-even : (n : ℕ) → (2 * n) / 2 ≡ n
half-even n = omega arith

rest-odd : (n : ℕ) → (1 + 2 * n) % 2 ≡ 1
rest-odd n = omega arith

rest-even : (n : ℕ) → (2 * n) % 2 ≡ 0
rest-even n = omega arith

-- a category is in the set of flags where its flag is set
pub has-set_of : (flags : List Bool) (c : ℕ) → has (set_of flags) c ≡ has_category flags c
has-set_of [] c = has-none c
has-set_of (true ∷ flags) zero = ap (λ (n : ℕ). n == 1) (bit_at_lowest (1 + 2 * set_of flags) ∙ rest-odd (set_of flags))
has-set_of (false ∷ flags) zero = ap (λ (n : ℕ). n == 1) (bit_at_lowest (2 * set_of flags) ∙ rest-even (set_of flags))
has-set_of (true ∷ flags) (suc c) =
    ap (λ (n : ℕ). n == 1) (bit_at-suc (1 + 2 * set_of flags) c) ∙ (ap (λ (n : ℕ). has n c) (half-odd (set_of flags)) ∙ has-set_of flags c)
has-set_of (false ∷ flags) (suc c) =
    ap (λ (n : ℕ). n == 1) (bit_at-suc (2 * set_of flags) c) ∙ (ap (λ (n : ℕ). has n c) (half-even (set_of flags)) ∙ has-set_of flags c)

-- a bit that is one only where the other is
smaller-bit : (x y : ℕ) → x < 2 → y < 2 → ((x == 1) ≡ true → (y == 1) ≡ true) → max x y ≡ y
smaller-bit zero y a b h = zero-max y
smaller-bit (suc zero) y a b h = let e : y ≡ 1 = eqb-true y 1 (h refl) in subst (λ (n : ℕ). max 1 n ≡ n) (sym e) refl
smaller-bit (suc (suc x)) y a b h = absurd (omega (arith, a))

-- one set is within another where each category of it is in the other
pub within-says : (a b : ℕ) → (is_within a b ≡ true) ↔ ((c : ℕ) → has a c ≡ true → has b c ≡ true)
within-says a b = (
  λ w c h. (let e : bit_or a b ≡ b = eqb-true (bit_or a b) b w in subst (λ (n : ℕ). has n c ≡ true) e (union-left a b c h)),
  λ each. eq-eqb (bit_or a b) b (same_from_bits (bit_or a b) b (λ i. bit_at_or a b i ∙ smaller-bit (bit_at a i) (bit_at b i) (bit_at-lt a i) (bit_at-lt b i) (each i))),
)
