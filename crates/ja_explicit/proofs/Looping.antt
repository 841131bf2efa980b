-- Loops over lists.
use Rattle.std.proofs.Common.{◌≡◌, ℕ, zero, suc, ◌+◌, ◌-◌, ◌^◌, ◌<◌, ◌≤◌, Bool, true, false, List, [], ◌∷◌, ◌++◌, Some, None, drop, take, refl, sym, ap, subst, ◌∙◌, arith, append_assoc, append-nil, pow_mono, map, get_or, drop-cons}
use Rattle.std.specs.Prelude.{slice_get, slice_index_or, length, ◌||◌}
use Rattle.std.proofs.lemmas.Option.{same_Some}
use Rattle.ja_facts.specs.Formulas.{any_below}
use Rattle.ja_explicit.specs.InnerWords.{over}

-- one more number is gone over
pub over_more : {A : Type 0} (f : ℕ → List A) (k count : ℕ) (told new all : List A) → k < count → new ≡ told ++ f k → told ++ over f k (count - k) ≡ all
    → new ++ over f (k + 1) (count - (k + 1)) ≡ all
over_more {A} f k count told new all lt is before =
    let left : count - k ≡ suc (count - (k + 1)) = omega (arith, lt) in
    let next : suc k ≡ k + 1 = omega arith in
    let one : over f k (count - k) ≡ f k ++ over f (k + 1) (count - (k + 1)) = ap (over f k) left ∙ ap (λ (n : ℕ). f k ++ over f n (count - (k + 1))) next in
    ap (λ (t : List A). t ++ over f (k + 1) (count - (k + 1))) is ∙ append_assoc told (f k) (over f (k + 1) (count - (k + 1)))
    ∙ ap (λ (t : List A). told ++ t) (sym one) ∙ before

-- the item of a place, and what is behind it
pub drop_one : {A : Type 0} (xs : List A) (k : ℕ) (x : A) → slice_get xs k ≡ Some x → drop k xs ≡ x ∷ drop (k + 1) xs
drop_one {A} xs k x e = go xs k e ∙ ap (λ (n : ℕ). x ∷ drop n xs) (suc_is k)
  where
    suc_is : (n : ℕ) → suc n ≡ n + 1
    suc_is n = omega arith

    go : (ys : List A) (j : ℕ) → slice_get ys j ≡ Some x → drop j ys ≡ x ∷ drop (suc j) ys
    go [] j h = absurd (cc h)
    go (y ∷ ys) zero h = ap (λ z. z ∷ ys) (same_Some _ _ h)
    go (y ∷ ys) (suc j) h = go ys j h

-- there is none at the end
pub drop_none : {A : Type 0} (xs : List A) (k : ℕ) → slice_get xs k ≡ None → drop k xs ≡ []
drop_none [] zero h = refl
drop_none [] (suc k) h = refl
drop_none (x ∷ xs) zero h = absurd (cc h)
drop_none (x ∷ xs) (suc k) h = drop_none xs k h

-- nothing passes a test that nothing passes
pub nothing_below : (test : ℕ → Bool) (n : ℕ) → ((k : ℕ) → test k ≡ false) → any_below test n ≡ false
nothing_below test zero h = refl
nothing_below test (suc n) h = ap (λ c. c || test n) (nothing_below test n h) ∙ h n

-- behind the end of a list there is nothing
pub past_end : {A : Type 0} (xs : List A) (k : ℕ) (d : A) → length xs ≤ k → slice_index_or xs k d ≡ d
past_end [] k d le = refl
past_end (x ∷ xs) zero d le = absurd (omega (arith, le))
past_end (x ∷ xs) (suc k) d le = past_end xs k d (omega (arith, le))

-- nor does one more
pub still_none : (test : ℕ → Bool) (k : ℕ) → any_below test k ≡ false → test k ≡ false → any_below test (k + 1) ≡ false
still_none test k none one = subst (λ n. any_below test n ≡ false) (next k) (ap (λ c. c || test k) none ∙ one)
  where
    next : (n : ℕ) → suc n ≡ n + 1
    next n = omega arith

-- one list behind another
pub chain : {A : Type 0} (old mid new a b : List A) → mid ≡ old ++ a → new ≡ mid ++ b → new ≡ old ++ (a ++ b)
chain old mid new a b first second = second ∙ ap (λ t. t ++ b) first ∙ append_assoc old a b

pub chain_none : {A : Type 0} (old new a b : List A) → new ≡ old ++ a → b ≡ [] → new ≡ old ++ (a ++ b)
chain_none old new a b first none = first ∙ ap (λ t. old ++ t) (sym (append-nil a) ∙ ap (λ t. a ++ t) (sym none))

-- a length that was found
pub past_found : {A : Type 0} (xs ys : List A) (n k : ℕ) → n ≡ length ys → ys ≡ xs → n ≤ k → length xs ≤ k
past_found {A} xs ys n k e same le = subst (λ (zs : List A). length zs ≤ k) same (subst (λ m. m ≤ k) e le)

-- as many words as so few bits have fit in one
pub power_small : (n : ℕ) → n ≤ 12 → 2 ^ n < 4294967296
power_small n le = let h = pow_mono le in omega (arith, h)

-- how many numbers are gone over
pub over_length : {A : Type 0} (f : ℕ → A) (from count : ℕ) → length (over (λ n. f n ∷ []) from count) ≡ count
over_length f from zero = refl
over_length f from (suc count) = ap suc (over_length f (suc from) count)

pub taken_all : {A : Type 0} (xs : List A) (k : ℕ) → length xs ≤ k → take k xs ≡ xs
taken_all [] zero le = refl
taken_all [] (suc k) le = refl
taken_all (x ∷ xs) zero le = absurd (omega (arith, le))
taken_all (x ∷ xs) (suc k) le = ap (λ t. x ∷ t) (taken_all xs k (omega (arith, le)))

-- one more flag
pub map_more : {A B : Type 0} (g : A → B) (xs : List A) (k : ℕ) (d : A) (told new all : List B) → k < length xs → new ≡ told ++ g (get_or xs k d) ∷ [] → told ++ map g (drop k xs) ≡ all → new ++ map g (drop (k + 1) xs) ≡ all
map_more {A} {B} g xs k d told new all lt is before =
    let rest : List B = map g (drop (k + 1) xs) in
    let one : drop k xs ≡ get_or xs k d ∷ drop (k + 1) xs = drop-cons xs k d lt ∙ ap (λ (n : ℕ). get_or xs k d ∷ drop n xs) (after k) in
    ap (λ (t : List B). t ++ rest) is ∙ append_assoc told (g (get_or xs k d) ∷ []) rest ∙ ap (λ (ys : List A). told ++ map g ys) (sym one) ∙ before
  where
    after : (n : ℕ) → suc n ≡ n + 1
    after n = omega arith
