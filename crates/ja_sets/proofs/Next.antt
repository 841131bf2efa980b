-- The least member from a place on.
use Rattle.std.proofs.Common.{◌≡◌, ℕ, ◌+◌, ◌-◌, ◌*◌, ◌/◌, ◌%◌, ◌^◌, ◌==◌, ◌<◌, ◌≤◌, Bool, false, List, length, get_or, ap, sym, subst, ◌∙◌, inl, inr, arith}
use Rattle.std.specs.Int.{bit_at, w64, trailing_zeros}
use Rattle.std.proofs.lemmas.Nat.{shr-shr, shr_le}
use Rattle.std.specs.Int.Count.{count_trailing_zeros}
use Rattle.std.proofs.lemmas.Nat.Bits.{bit_at-zero, bit_at_above, bit_at-trailing_zeros}
use Rattle.std.proofs.lemmas.List.{get_or_past}
use Rattle.std.proofs.lemmas.Bool.{cases_eq, cases_lt}
use Rattle.ja_sets.specs.Sets.{Has, Lacks, IsNext, HasNoneFrom}
use Rattle.ja_sets.specs.InnerWords.{flags, bit_of, IsTidy}
use Rattle.ja_sets.proofs.Flags.{flags-at, len-is, place-of, word-read, word-there}

shift-bit : (w k i : ℕ) → bit_at (w / 2 ^ k) i ≡ bit_at w (k + i)
shift-bit w k i = ap (λ v. v % 2) (shr-shr w k i)

module _ (len : ℕ) (words : List ℕ) (xs : List Bool) (tidy : IsTidy len words) (view : flags len words ≡ xs) where
  lacks-bit : (i : ℕ) → bit_of words i ≡ 0 → Lacks xs i
  lacks-bit i e = elim (cases_lt i len) [
    | inl h ↦ ap (λ (ys : List Bool). get_or ys i false) (sym view) ∙ flags-at len words i h ∙ ap (λ b. b == 1) e
    | inr past ↦ get_or_past xs i false (omega (arith, len-is len words xs view))
  ]

  set-below : (i : ℕ) → bit_of words i ≡ 1 → i < len
  set-below i e = elim (cases_lt i len) [ inl h ↦ h | inr past ↦ absurd (omega (arith, e, tidy.clear i past)) ]

  has-bit : (i : ℕ) → bit_of words i ≡ 1 → Has xs i
  has-bit i e = ap (λ (ys : List Bool). get_or ys i false) (sym view) ∙ flags-at len words i (set-below i e) ∙ ap (λ b. b == 1) e

  next-bit : (at x : ℕ) → at ≤ x → bit_of words x ≡ 1 → ((y : ℕ) → at ≤ y → y < x → bit_of words y ≡ 0) → IsNext xs at x
  next-bit at x above e before = record {
    above = above;
    below = rw (len-is len words xs view) (set-below x e);
    member = has-bit x e;
    first = λ y from to. lacks-bit y (before y from to);
  }

  pub none-past : (at : ℕ) → len ≤ at → HasNoneFrom xs at
  none-past at past y from = lacks-bit y (tidy.clear y (omega arith))

  -- a bit of the word at a place, from that place on
  rest-bit : (at i : ℕ) → at % 64 + i < 64 → bit_of words (at + i) ≡ bit_at (get_or words (at / 64) 0 / 2 ^ (at % 64)) i
  rest-bit at i room =
      let word : (at + i) / 64 ≡ at / 64 = omega arith in
      let place : (at + i) % 64 ≡ at % 64 + i = omega arith in
      ap (λ q. bit_at (get_or words q 0) ((at + i) % 64)) word ∙ ap (bit_at (get_or words (at / 64) 0)) place
      ∙ sym (shift-bit (get_or words (at / 64) 0) (at % 64) i)

  rest-clear : (at y : ℕ) → get_or words (at / 64) 0 / 2 ^ (at % 64) ≡ 0 → at ≤ y → y / 64 ≡ at / 64 → bit_of words y ≡ 0
  rest-clear at y e from same =
      let i : ℕ = y - at in
      let room : at % 64 + (y - at) < 64 = omega arith in
      let back : at + (y - at) ≡ y = omega arith in
      subst (λ (k : ℕ). bit_of words k ≡ 0) back (rest-bit at (y - at) room ∙ ap (λ w. bit_at w (y - at)) e ∙ bit_at-zero (y - at))

  word-clear : (y : ℕ) → get_or words (y / 64) 0 ≡ 0 → bit_of words y ≡ 0
  word-clear y e = ap (λ w. bit_at w (y % 64)) e ∙ bit_at-zero (y % 64)

  -- the lowest bit of what is left of a word
  module _ (at w : ℕ) (below : at < len) (read : w ≡ get_or words (at / 64) w) where
    read-zero : w ≡ get_or words (at / 64) 0
    read-zero = word-read words (at / 64) w (word-there len (length words) at tidy.enough below) read

    fits : w < 2 ^ 64
    fits = rw read-zero (tidy.fits (at / 64))

    left : ℕ → ℕ
    left i = bit_at (w / 2 ^ (at % 64)) i

    left-is : (i : ℕ) → at % 64 + i < 64 → bit_of words (at + i) ≡ bit_at (w / 2 ^ (at % 64)) i
    left-is i room = rest-bit at i room ∙ ap (λ v. bit_at (v / 2 ^ (at % 64)) i) (sym read-zero)

    module _ (some : 0 < w / 2 ^ (at % 64)) where
      tail : w / 2 ^ (at % 64) < 2 ^ 64
      tail = omega (arith, fits, shr_le w (at % 64))

      lowest : (trailing_zeros w64 (w / 2 ^ (at % 64)) < 64) × (bit_at (w / 2 ^ (at % 64)) (trailing_zeros w64 (w / 2 ^ (at % 64))) ≡ 1) × ((i : ℕ) → i < trailing_zeros w64 (w / 2 ^ (at % 64)) → bit_at (w / 2 ^ (at % 64)) i ≡ 0)
      lowest = bit_at-trailing_zeros w64 (w / 2 ^ (at % 64)) some tail

      inside : at % 64 + trailing_zeros w64 (w / 2 ^ (at % 64)) < 64
      inside = elim (cases_lt (at % 64 + trailing_zeros w64 (w / 2 ^ (at % 64))) 64) [
        | inl h ↦ h
        | inr past ↦ absurd (omega (arith, lowest.1, shift-bit w (at % 64) (trailing_zeros w64 (w / 2 ^ (at % 64))), bit_at_above w 64 (at % 64 + trailing_zeros w64 (w / 2 ^ (at % 64))) fits past))
      ]

      pub next-in_word : IsNext xs at (at + count_trailing_zeros 64 (w / 2 ^ (at % 64)))
      next-in_word =
          next-bit at (at + trailing_zeros w64 (w / 2 ^ (at % 64))) (omega arith)
          (left-is (trailing_zeros w64 (w / 2 ^ (at % 64))) inside ∙ lowest.1)
          (λ y from to.
          let back : at + (y - at) ≡ y = omega arith in
          let room : at % 64 + (y - at) < 64 = omega (arith, inside) in
          subst (λ (k : ℕ). bit_of words k ≡ 0) back (left-is (y - at) room ∙ lowest.2 (y - at) (omega arith)))

      pub fits-in_word : at + count_trailing_zeros 64 (w / 2 ^ (at % 64)) < 2 ^ 64
      fits-in_word = omega (arith, tidy.bound, len-is len words xs view, next-in_word.below)

    module _ (none : w / 2 ^ (at % 64) ≡ 0) where
      -- no bit is set before the next word that is not 0
      gap : (k y : ℕ) → ((j : ℕ) → at / 64 + 1 ≤ j → j < k → get_or words j 0 ≡ 0) → at ≤ y → y / 64 < k → bit_of words y ≡ 0
      gap k y zeros from to =
          elim (cases_eq (y / 64) (at / 64)) [
            | inl e ↦ rest-clear at y (ap (λ v. v / 2 ^ (at % 64)) (sym read-zero) ∙ none) from e
            | inr ne ↦ word-clear y (zeros (y / 64) (omega arith) to)
          ]

      module _ (k v : ℕ) (above : at / 64 + 1 ≤ k) (there : k < length words) (read-next : v ≡ get_or words k v) (some : 0 < get_or words k 0) (zeros : (j : ℕ) → at / 64 + 1 ≤ j → j < k → get_or words j 0 ≡ 0) where
        next-read : v ≡ get_or words k 0
        next-read = word-read words k v there read-next

        lowest-next : (trailing_zeros w64 v < 64) × (bit_at v (trailing_zeros w64 v) ≡ 1) × ((i : ℕ) → i < trailing_zeros w64 v → bit_at v i ≡ 0)
        lowest-next = bit_at-trailing_zeros w64 v (rw next-read some) (rw next-read (tidy.fits k))

        bit-next : (i : ℕ) → i < 64 → bit_of words (k * 64 + i) ≡ bit_at v i
        bit-next i room =
            let p : ((k * 64 + i) / 64 ≡ k) × ((k * 64 + i) % 64 ≡ i) = place-of k i room in
            ap (λ q. bit_at (get_or words q 0) ((k * 64 + i) % 64)) p.0 ∙ ap (bit_at (get_or words k 0)) p.1 ∙ ap (λ u. bit_at u i) (sym next-read)

        pub next-in_later : IsNext xs at (k * 64 + count_trailing_zeros 64 v)
        next-in_later =
            next-bit at (k * 64 + trailing_zeros w64 v) (omega arith)
            (bit-next (trailing_zeros w64 v) lowest-next.0 ∙ lowest-next.1)
            (λ y from to. elim (cases_lt (y / 64) k) [
              | inl before ↦ gap k y zeros from before
              | inr same ↦
                  let e : y / 64 ≡ k = omega (arith, lowest-next.0) in
                  let back : k * 64 + y % 64 ≡ y = omega arith in
                  subst (λ (i : ℕ). bit_of words i ≡ 0) back (bit-next (y % 64) (omega arith) ∙ lowest-next.2 (y % 64) (omega arith))
            ])

        pub fits-in_later : k * 64 + count_trailing_zeros 64 v < 2 ^ 64
        fits-in_later = omega (arith, tidy.bound, len-is len words xs view, next-in_later.below)

      pub none-later : ((j : ℕ) → at / 64 + 1 ≤ j → get_or words j 0 ≡ 0) → HasNoneFrom xs at
      none-later zeros y from = lacks-bit y (gap (y / 64 + 1) y (λ j low high. zeros j low) from (omega arith))
