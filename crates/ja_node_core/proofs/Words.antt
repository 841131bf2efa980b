-- Facts on single words and places.
use Rattle.std.proofs.Common.{◌≡◌, ◌≢◌, ◌⊎◌, ℕ, ◌+◌, ◌-◌, ◌*◌, ◌/◌, ◌%◌, ◌^◌, ◌<◌, ◌≤◌, bit_and, bit_or, refl, sym, ap, ◌∙◌, inl, inr, arith, add-one, add-zero, add_assoc}
use Rattle.std.proofs.Math.Nat.{suc-mod, mod_self, mod-mod, mod-eq_of_lt}
use Rattle.std.proofs.lemmas.Nat.{and_mask, or_shifted, mod_below}
use native.Mathlib.Decide.{ℕ_discrete}
use Rattle.ja_node_core.specs.Word.{word_of, var_of, low_of, high_of, places, place, factor, hash}

pub word_positive : (v low high : ℕ) → 0 < word_of v low high
unfolding word_of
word_positive v low high = omega arith

pub place_above : (n w i : ℕ) → 1 < place n w i
unfolding place
place_above n w i = omega arith

pub place_below : (n w i j : ℕ) → j < places n → place n w i < n
unfolding place places
place_below n w i j lt = omega arith

-- the parts of a word that was made of them
pub parts_of_word : (v low high : ℕ) → low < 2 ^ 26 → high < 2 ^ 26 → (var_of (word_of v low high) ≡ v) × (low_of (word_of v low high) ≡ low) × (high_of (word_of v low high) ≡ high)
unfolding word_of var_of low_of high_of
parts_of_word v low high l h = (omega arith, omega arith, omega arith)

-- the packing and unpacking by shifts and masks
pub packed : (v low high : ℕ) → v ≤ 4094 → low < 2 ^ 26 → high < 2 ^ 26 → bit_or (bit_or ((v + 1) * 2 ^ 26 % 2 ^ 64) low * 2 ^ 26 % 2 ^ 64) high ≡ word_of v low high
unfolding word_of
packed v low high small l h =
    let first : (v + 1) * 2 ^ 26 % 2 ^ 64 ≡ (v + 1) * 2 ^ 26 = omega arith in
    let upper : bit_or ((v + 1) * 2 ^ 26 % 2 ^ 64) low ≡ (v + 1) * 2 ^ 26 + low = ap (λ x. bit_or x low) first ∙ or_shifted (v + 1) 26 low l in
    let shifted : bit_or ((v + 1) * 2 ^ 26 % 2 ^ 64) low * 2 ^ 26 % 2 ^ 64 ≡ ((v + 1) * 2 ^ 26 + low) * 2 ^ 26 = omega arith in
    ap (λ x. bit_or x high) shifted ∙ or_shifted ((v + 1) * 2 ^ 26 + low) 26 high h ∙ omega arith

pub low_unpacked : (w : ℕ) → bit_and (w / 2 ^ 26) (2 ^ 26 - 1) ≡ low_of w
unfolding low_of
low_unpacked w = and_mask (w / 2 ^ 26) 26

pub high_unpacked : (w : ℕ) → bit_and w (2 ^ 26 - 1) ≡ high_of w
unfolding high_of
high_unpacked w = and_mask w 26

pub var_unpacked : (w : ℕ) → w / 2 ^ 52 - 1 ≡ var_of w
unfolding var_of
var_unpacked w = refl

-- the next number of a ring of m
next_mod : (x m : ℕ) → 0 < m → Dec (x % m + 1 ≡ m) → ((x % m + 1 ≡ m) × ((x + 1) % m ≡ 0)) ⊎ ((x % m + 1 ≢ m) × ((x + 1) % m ≡ x % m + 1))
next_mod x m pos (yes e) = inl (e, suc-mod' ∙ ap (λ k. k % m) e ∙ mod_self m)
  where
    suc-mod' : (x + 1) % m ≡ (x % m + 1) % m
    suc-mod' = ap (λ k. k % m) (add-one x) ∙ suc-mod x m ∙ ap (λ k. k % m) (sym (add-one (x % m)))
next_mod x m pos (no ne) = inr (ne, ap (λ k. k % m) (add-one x) ∙ suc-mod x m ∙ ap (λ k. k % m) (sym (add-one (x % m))) ∙ mod-eq_of_lt (let lt = mod_below x m pos in omega arith))

-- the hash by a factor that was chosen before
pub hash_is : (n w k : ℕ) → k ≡ factor n → 2 < n → (w % 4294967291 * k % 4294967291 % (n - 2) ≡ hash n w) × (w % 4294967291 * k % 4294967291 % (n - 2) < n - 2)
unfolding hash
hash_is n w k e big = (ap (λ f. w % 4294967291 * f % 4294967291 % (n - 2)) e, mod_below (w % 4294967291 * k % 4294967291) (n - 2) (omega arith))

pub first_is : (n w : ℕ) → 2 + hash n w ≡ place n w 0
unfolding place hash
first_is n w = ap (λ k. 2 + k) (sym (mod-mod (w % 4294967291 * factor n % 4294967291) (n - 2)) ∙ ap (λ k. k % (n - 2)) (sym (add-zero (w % 4294967291 * factor n % 4294967291 % (n - 2)))))

-- the place after a place
pub next_is : (n w i p : ℕ) → 2 < n → p ≡ place n w i → ((p + 1 ≡ n) × (place n w (i + 1) ≡ 2)) ⊎ ((p + 1 ≢ n) × (place n w (i + 1) ≡ p + 1))
unfolding place
next_is n w i p big e = step (next_mod (hash n w + i) (n - 2) (omega arith) (ℕ_discrete _ _))
  where
    h : ℕ
    h = hash n w

    on : place n w (i + 1) ≡ 2 + (h + i + 1) % (n - 2)
    on = ap (λ k. 2 + k % (n - 2)) (sym (add_assoc h i 1))

    step : (((h + i) % (n - 2) + 1 ≡ n - 2) × ((h + i + 1) % (n - 2) ≡ 0)) ⊎ (((h + i) % (n - 2) + 1 ≢ n - 2) × ((h + i + 1) % (n - 2) ≡ (h + i) % (n - 2) + 1)) → ((p + 1 ≡ n) × (place n w (i + 1) ≡ 2)) ⊎ ((p + 1 ≢ n) × (place n w (i + 1) ≡ p + 1))
    step (inl t) = inl (omega (arith, t.0, e), on ∙ omega (arith, t.1))
    step (inr t) = inr ((λ same. t.0 (omega (arith, same, e))), on ∙ omega (arith, t.1, e))
