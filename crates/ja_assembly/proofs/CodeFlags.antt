-- Whether a method has code by its flags: one test of two bits, or two tests of one bit each (JVM specification table 4.6-A).
use Rattle.std.proofs.Common.{◌≡◌, ◌≢◌, ℕ, ◌^◌, true, inl, inr, bit_and, sym, ap, ◌∙◌, arith}
use Rattle.std.specs.Prelude.{◌==◌}
use Rattle.std.specs.Bool.{one_answer}
use Rattle.std.specs.Int.{bit_at}
use Rattle.std.proofs.lemmas.Bool.{eqb-true, eq-eqb, cases_eq, and_parts, and_from}
use Rattle.std.proofs.lemmas.Nat.Bits.{bit_at-zero, bit_at_and, bit_at_or, bit_at-pow_other, and_pow, same_from_bits}
use Rattle.ja_class.specs.Meaning.{needs_code}

-- the two bits together have no other
apart : (i : ℕ) → i ≢ 10 → i ≢ 8 → bit_at 1280 i ≡ 0
apart i far near = bit_at_or (2 ^ 10) (2 ^ 8) i ∙ omega (arith, bit_at-pow_other 10 i far, bit_at-pow_other 8 i near)

-- where both bits are 0, both together are
both : (n : ℕ) → bit_at n 10 ≡ 0 → bit_at n 8 ≡ 0 → bit_and n 1280 ≡ 0
both n abstract native = same_from_bits (bit_and n 1280) 0 each
  where
    each : (i : ℕ) → bit_at (bit_and n 1280) i ≡ bit_at 0 i
    each i = elim (cases_eq i 10) [
      | inl at ↦ rw at (omega (arith, bit_at_and n 1280 10, bit_at-zero 10, abstract))
      | inr far ↦ elim (cases_eq i 8) [
        | inl at ↦ rw at (omega (arith, bit_at_and n 1280 8, bit_at-zero 8, native))
        | inr near ↦ omega (arith, bit_at_and n 1280 i, bit_at-zero i, apart i far near)
      ]
    ]

-- where both together are 0, each is
each_of : (n : ℕ) → bit_and n 1280 ≡ 0 → (bit_at n 10 ≡ 0) × (bit_at n 8 ≡ 0)
each_of n none = (
  omega (arith, sym (bit_at_and n 1280 10) ∙ ap (λ (x : ℕ). bit_at x 10) none, bit_at-zero 10),
  omega (arith, sym (bit_at_and n 1280 8) ∙ ap (λ (x : ℕ). bit_at x 8) none, bit_at-zero 8),
)

pub needs_code-is : (n : ℕ) → needs_code n ≡ (bit_and n 1280 == 0)
needs_code-is n = one_answer (needs_code n) (bit_and n 1280 == 0) (there, back) (λ t. t, λ t. t)
  where
    there : needs_code n ≡ true → (bit_and n 1280 == 0) ≡ true
    there t =
        let tests = and_parts (bit_and n 1024 == 0) (bit_and n 256 == 0) t in
        eq-eqb (bit_and n 1280) 0 (both n
        (omega (arith, and_pow n 10, eqb-true (bit_and n 1024) 0 tests.0))
        (omega (arith, and_pow n 8, eqb-true (bit_and n 256) 0 tests.1)))

    back : (bit_and n 1280 == 0) ≡ true → needs_code n ≡ true
    back t =
        let bits = each_of n (eqb-true (bit_and n 1280) 0 t) in
        and_from (bit_and n 1024 == 0) (bit_and n 256 == 0)
        (eq-eqb (bit_and n 1024) 0 (omega (arith, and_pow n 10, bits.0)))
        (eq-eqb (bit_and n 256) 0 (omega (arith, and_pow n 8, bits.1)))
