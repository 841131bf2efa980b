-- A class of few items brings few entries and few bytes of code.
use Rattle.std.proofs.Common.{◌≡◌, ℕ, zero, suc, ◌+◌, ◌≤◌, inl, inr, Bool, true, false, ◌&&◌, List, [], ◌∷◌, ◌++◌, length, take, fold, nat_le, bytes_eq, refl, sym, subst, ◌∙◌, arith, leb-true, eq-or-lt_of_le, length-append, take_all, if◌then◌else◌}
use Rattle.std.specs.List.{list_any}
use Rattle.std.proofs.lemmas.Bool.{and_parts, cases_lt}
use Rattle.ja_listing.specs.declared.item.Head.{Head}
use Rattle.ja_listing.specs.declared.item.Item.{Item}
use Rattle.ja_listing.specs.Listed.{Listed}
use Rattle.ja_assembly.specs.Members.{fields, methods, code_size}
use Rattle.ja_assembly.specs.Wanted.{with_one, different, same_key, keys_of, strings_of}
use Rattle.ja_assembly.specs.Unwritable.{IsTooMuch, expansion, before, last_of, body_ranges, body_instructions}

-- the different ones are no more than all

one-length : {A : Type 0} (same : A → A → Bool) (before : List A) (x : A) → length (with_one same before x) ≤ length before + 1
one-length same before x = by (list_any (same x) before)
  where
    by : (b : Bool) → length (if b then before else before ++ x ∷ []) ≤ length before + 1
    by true = omega arith
    by false = omega (arith, length-append before (x ∷ []))

fold-length : {A : Type 0} (same : A → A → Bool) (xs before : List A) → length (fold (with_one same) before xs) ≤ length before + length xs
fold-length same [] before = omega arith
fold-length same (x ∷ xs) before = omega (arith, fold-length same xs (with_one same before x), one-length same before x)

different-length : {A : Type 0} (same : A → A → Bool) (xs : List A) → length (different same xs) ≤ length xs
different-length {A} same xs = let none : length {A = A} [] ≡ 0 = refl in omega (arith, none, fold-length same xs [])

-- whether what items bring is few, with each entry counted as often as it is asked for
abbrev is_few : Head → List Item → Bool
is_few head items =
    nat_le (length (strings_of items)) 255 && (nat_le (length (strings_of items) + length (keys_of head items)) 65534
    && (nat_le (length (fields items)) 65535 && (nat_le (length (methods items)) 65535
    && (nat_le (length (body_ranges (last_of (methods items)))) 65535 && nat_le (code_size (body_instructions (last_of (methods items)))) 65535))))

few : (head : Head) (items : List Item) → is_few head items ≡ true → IsTooMuch head items → ⊥
few head items h =
    let a = and_parts _ _ h in
    let b = and_parts _ _ a.1 in
    let c = and_parts _ _ b.1 in
    let d = and_parts _ _ c.1 in
    let e = and_parts _ _ d.1 in
    by (leb-true _ _ a.0) (leb-true _ _ b.0) (leb-true _ _ c.0) (leb-true _ _ d.0) (leb-true _ _ e.0) (leb-true _ _ e.1)
  where
    by : length (strings_of items) ≤ 255 → length (strings_of items) + length (keys_of head items) ≤ 65534 → length (fields items) ≤ 65535 → length (methods items) ≤ 65535
        → length (body_ranges (last_of (methods items))) ≤ 65535 → code_size (body_instructions (last_of (methods items))) ≤ 65535 → IsTooMuch head items → ⊥
    by texts all of_fields of_methods of_ranges of_code (inl bad) = omega (arith, texts, bad, different-length bytes_eq (strings_of items))
    by texts all of_fields of_methods of_ranges of_code (inr (inl bad)) = omega (arith, all, bad, different-length bytes_eq (strings_of items), different-length same_key (keys_of head items))
    by texts all of_fields of_methods of_ranges of_code (inr (inr (inl bad))) = omega (arith, of_fields, bad)
    by texts all of_fields of_methods of_ranges of_code (inr (inr (inr (inl bad)))) = omega (arith, of_methods, bad)
    by texts all of_fields of_methods of_ranges of_code (inr (inr (inr (inr (inl bad))))) = omega (arith, of_ranges, bad)
    by texts all of_fields of_methods of_ranges of_code (inr (inr (inr (inr (inr bad))))) = omega (arith, of_code, bad)

-- whether the first k items bring few, and so do the first of less
abbrev pub all_few : Listed → ℕ → Bool
all_few c zero = is_few c.head (before c 0)
all_few c (suc k) = is_few c.head (before c (suc k)) && all_few c k

few_below : (c : Listed) (n k : ℕ) → k ≤ n → all_few c n ≡ true → is_few c.head (before c k) ≡ true
few_below c zero k le h = let none : k ≡ 0 = omega arith in subst (λ (n : ℕ). is_few c.head (before c n) ≡ true) (sym none) h
few_below c (suc n) k le h =
    let p = and_parts (is_few c.head (before c (suc n))) (all_few c n) h in
    elim (eq-or-lt_of_le le) [
      | inl e ↦ subst (λ (m : ℕ). is_few c.head (before c m) ≡ true) (sym e) p.0
      | inr lt ↦ few_below c n k (omega arith) p.1
    ]

-- so do as many as there are, and no more come
pub never_too_much : (c : Listed) → all_few c (length c.items) ≡ true → (k : ℕ) → IsTooMuch c.head (before c k) → ⊥
never_too_much c h k = few c.head (before c k) (elim (cases_lt k (length c.items)) [
  | inl lt ↦ few_below c (length c.items) k (omega arith) h
  | inr le ↦
      let whole : take k c.items ≡ take (length c.items) c.items = take_all k c.items le ∙ sym (take_all (length c.items) c.items (omega arith)) in
      subst (λ (items : List Item). is_few c.head (expansion c items) ≡ true) (sym whole) (few_below c (length c.items) (length c.items) (omega arith) h)
])
