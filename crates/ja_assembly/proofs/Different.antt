-- The different ones of what is asked for: each that is asked for is there, once, and nothing else is.
use Rattle.std.proofs.Common.{◌≡◌, ℕ, zero, suc, ◌+◌, ◌⊎◌, inl, inr, Bool, true, false, cond, not, ◌&&◌, eqb, List, [], ◌∷◌, ◌++◌, length, map, slice_get, Some, None, position, Decides, bytes_eq, refl, sym, ap, subst, ◌∙◌, arith, one-add, lt-ltb, true≢false}
use Rattle.std.specs.Prelude.{fold}
use Rattle.std.specs.List.{list_any, position_or_len, AllByRecursion}
use Rattle.std.proofs.lemmas.Bool.{cases_Bool, and_parts, and_from, false≢true, eqb-true, eq-eqb}
use Rattle.std.proofs.lemmas.Option.{none-some, same_Some, slice_get_within}
use Rattle.std.proofs.lemmas.Slice.Eq.{bytes_eq-Decides}
use Rattle.ja_assembly.specs.declared.key.Key.{Key}
use Rattle.ja_assembly.specs.declared.key.Key.TheVariants.{Text, Class, NameAndType, Member}
use Rattle.ja_assembly.specs.Wanted.{same_key, with_one, different}
use Rattle.ja_assembly.specs.Right.{IsIn, AreIn}

-- ---- one of a list

pub get_front : {A : Type 0} (xs ys : List A) (i : ℕ) (x : A) → slice_get xs i ≡ Some x → slice_get (xs ++ ys) i ≡ Some x
get_front [] ys i x h = absurd (none-some x h)
get_front (y ∷ xs) ys zero x h = h
get_front (y ∷ xs) ys (suc i) x h = get_front xs ys i x h

pub get_back : {A : Type 0} (xs ys : List A) (i : ℕ) (x : A) → slice_get ys i ≡ Some x → slice_get (xs ++ ys) (length xs + i) ≡ Some x
get_back {A} [] ys i x h = let e : length {A = A} [] + i ≡ i = omega arith in rw e h
get_back (y ∷ xs) ys i x h = let e : length (y ∷ xs) + i ≡ suc (length xs + i) = omega arith in rw e (get_back xs ys i x h)

pub in_front : {A : Type 0} (x : A) (xs ys : List A) → IsIn x xs → IsIn x (xs ++ ys)
in_front x xs ys h = (h.0, get_front xs ys h.0 x h.1)

pub in_back : {A : Type 0} (x : A) (xs ys : List A) → IsIn x ys → IsIn x (xs ++ ys)
in_back x xs ys h = (length xs + h.0, get_back xs ys h.0 x h.1)

-- what holds of each of a list holds of one of it
pub all_at : {A : Type 0} (P : A → Type 0) (xs : List A) (x : A) → AllByRecursion P xs → IsIn x xs → P x
all_at P xs x all h = by xs h.0 all h.1
  where
    by : (xs : List _) (i : ℕ) → AllByRecursion P xs → slice_get xs i ≡ Some x → P x
    by [] i all h = absurd (none-some x h)
    by (y ∷ xs) zero all h = subst P (same_Some y x h) all.0
    by (y ∷ xs) (suc i) all h = by xs i all.1 h

-- what holds of each one of a list holds of all
pub all_from : {A : Type 0} (P : A → Type 0) (xs : List A) → ((x : A) → IsIn x xs → P x) → AllByRecursion P xs
all_from P [] each = tt
all_from P (x ∷ xs) each = (each x (0, refl), all_from P xs (λ y h. each y (suc h.0, h.1)))

pub all_append : {A : Type 0} (P : A → Type 0) (xs ys : List A) → AllByRecursion P xs → AllByRecursion P ys → AllByRecursion P (xs ++ ys)
all_append P [] ys all more = more
all_append P (x ∷ xs) ys all more = (all.0, all_append P xs ys all.1 more)

pub all_mapped : {A : Type 0} (P Q : A → Type 0) (xs : List A) → ((x : A) → P x → Q x) → AllByRecursion P xs → AllByRecursion Q xs
all_mapped P Q [] each all = tt
all_mapped P Q (x ∷ xs) each all = (each x all.0, all_mapped P Q xs each all.1)

pub all_of_mapped : {A B : Type 0} (P : B → Type 0) (f : A → B) (xs : List A) → AllByRecursion (λ x. P (f x)) xs → AllByRecursion P (map f xs)
all_of_mapped P f [] all = tt
all_of_mapped P f (x ∷ xs) all = (all.0, all_of_mapped P f xs all.1)

-- ---- tests that find what is the same

abbrev pub FindsSame : {A : Type 0} → (A → A → Bool) → Type 0
FindsSame {A} same = (x y : A) → Decides (same x y) (x ≡ y)

pub bytes_found : FindsSame bytes_eq
bytes_found = bytes_eq-Decides

three_parts : (a b c : Bool) → (a && (b && c)) ≡ true → (a ≡ true) × (b ≡ true) × (c ≡ true)
three_parts a b c h = let p = and_parts a (b && c) h in let q = and_parts b c p.1 in (p.0, q.0, q.1)

key_is : (a b : Key) → same_key a b ≡ true → a ≡ b
key_is (Text a) (Text b) h = ap Text ((bytes_eq-Decides a b).0 h)
key_is (Class a) (Class b) h = ap Class ((bytes_eq-Decides a b).0 h)
key_is (NameAndType a b) (NameAndType c d) h =
    let p = and_parts (bytes_eq a c) (bytes_eq b d) h in
    ap (λ (x : List ℕ). NameAndType x b) ((bytes_eq-Decides a c).0 p.0) ∙ ap (λ (x : List ℕ). NameAndType c x) ((bytes_eq-Decides b d).0 p.1)
key_is (Member t a b c) (Member u d e f) h =
    let p = and_parts (eqb t u) (bytes_eq a d && (bytes_eq b e && bytes_eq c f)) h in
    let q = three_parts (bytes_eq a d) (bytes_eq b e) (bytes_eq c f) p.1 in
    let tag : t ≡ u = eqb-true t u p.0 in
    let class : a ≡ d = (bytes_eq-Decides a d).0 q.0 in
    let name : b ≡ e = (bytes_eq-Decides b e).0 q.1 in
    let desc : c ≡ f = (bytes_eq-Decides c f).0 q.2 in
    cc
key_is (Text a) b h = absurd (false≢true h)
key_is (Class a) b h = absurd (false≢true h)
key_is (NameAndType a b) c h = absurd (false≢true h)
key_is (Member t a b c) d h = absurd (false≢true h)

bytes_same : (a : List ℕ) → bytes_eq a a ≡ true
bytes_same a = (bytes_eq-Decides a a).1 refl

key_same : (a : Key) → same_key a a ≡ true
key_same (Text a) = bytes_same a
key_same (Class a) = bytes_same a
key_same (NameAndType a b) = and_from (bytes_eq a a) (bytes_eq b b) (bytes_same a) (bytes_same b)
key_same (Member t a b c) =
    and_from (eqb t t) (bytes_eq a a && (bytes_eq b b && bytes_eq c c)) (eq-eqb t t refl)
    (and_from (bytes_eq a a) (bytes_eq b b && bytes_eq c c) (bytes_same a) (and_from (bytes_eq b b) (bytes_eq c c) (bytes_same b) (bytes_same c)))

pub key_found : FindsSame same_key
key_found a b = (key_is a b, λ e. subst (λ (x : Key). same_key a x ≡ true) e (key_same a))

-- the first place at which such a test passes
first_place : {A : Type 0} (same : A → A → Bool) → FindsSame same → (xs : List A) (x : A) (i : ℕ) → slice_get xs i ≡ Some x → slice_get xs (position_or_len (same x) xs) ≡ Some x
first_place same finds [] x i h = absurd (none-some x h)
first_place same finds (y ∷ xs) x i h = elim (cases_Bool (same x y)) [
  | inl e ↦ rw e (ap Some (sym ((finds x y).0 e)))
  | inr e ↦
      let behind : position_or_len (same x) (y ∷ xs) ≡ suc (position_or_len (same x) xs) = ap (λ (b : Bool). cond (not b) (1 + position_or_len (same x) xs) 0) e ∙ one-add (position_or_len (same x) xs) in
      subst (λ (n : ℕ). slice_get (y ∷ xs) n ≡ Some x) (sym behind) (rest (first_place same finds xs x) i e h)
]
  where
    rest : ((i : ℕ) → slice_get xs i ≡ Some x → slice_get xs (position_or_len (same x) xs) ≡ Some x) → (i : ℕ) → same x y ≡ false → slice_get (y ∷ xs) i ≡ Some x
        → slice_get xs (position_or_len (same x) xs) ≡ Some x
    rest next zero e h = absurd (true≢false (sym ((finds x y).1 (sym (same_Some y x h))) ∙ e))
    rest next (suc i) e h = next i h

pub position_of : {A : Type 0} (same : A → A → Bool) → FindsSame same → (xs : List A) (x : A) → IsIn x xs
    → (place : ℕ) × (position (same x) xs ≡ Some place) × (slice_get xs place ≡ Some x)
position_of same finds xs x h =
    let place = position_or_len (same x) xs in
    let there : slice_get xs place ≡ Some x = first_place same finds xs x h.0 h.1 in
    (place, ap (λ (b : Bool). cond b (Some place) None) (lt-ltb place (length xs) (slice_get_within xs place x there)), there)

-- ---- one more, where it is not there

-- each of a list stands in it once
abbrev pub IsOnce : {A : Type 0} → List A → Type 0
IsOnce {A} xs = (i j : ℕ) (x : A) → slice_get xs i ≡ Some x → slice_get xs j ≡ Some x → i ≡ j

-- where an element of two lists together stands
in_either : {A : Type 0} (xs ys : List A) (x : A) (i : ℕ) → slice_get (xs ++ ys) i ≡ Some x
    → (slice_get xs i ≡ Some x) ⊎ ((j : ℕ) × (i ≡ length xs + j) × (slice_get ys j ≡ Some x))
in_either [] ys x i h = inr (i, omega arith, h)
in_either (y ∷ xs) ys x zero h = inl h
in_either (y ∷ xs) ys x (suc i) h = elim (in_either xs ys x i h) [
  | inl front ↦ inl front
  | inr back ↦ inr (back.0, omega (arith, back.1), back.2)
]

-- two lists that have nothing in common
pub once_append : {A : Type 0} (xs ys : List A) → IsOnce xs → IsOnce ys → ((x : A) → IsIn x xs → IsIn x ys → ⊥) → IsOnce (xs ++ ys)
once_append xs ys once also apart i j x h g = elim (in_either xs ys x i h) [
  | inl front ↦ elim (in_either xs ys x j g) [
    | inl other ↦ once i j x front other
    | inr back ↦ absurd (apart x (i, front) (back.0, back.2))
  ]
  | inr back ↦ elim (in_either xs ys x j g) [
    | inl front ↦ absurd (apart x (j, front) (back.0, back.2))
    | inr other ↦ let same : back.0 ≡ other.0 = also back.0 other.0 x back.2 other.2 in omega (arith, back.1, other.1, same)
  ]
]

any_in : {A : Type 0} (same : A → A → Bool) → FindsSame same → (x : A) (xs : List A) → list_any (same x) xs ≡ true → IsIn x xs
any_in same finds x [] h = absurd (false≢true h)
any_in same finds x (y ∷ xs) h = elim (cases_Bool (same x y)) [
  | inl e ↦ (0, ap Some (sym ((finds x y).0 e)))
  | inr e ↦ let rest = any_in same finds x xs (rw e at h) in (suc rest.0, rest.1)
]

in_any : {A : Type 0} (same : A → A → Bool) → FindsSame same → (x : A) (xs : List A) (i : ℕ) → slice_get xs i ≡ Some x → list_any (same x) xs ≡ true
in_any same finds x [] i h = absurd (none-some x h)
in_any same finds x (y ∷ xs) zero h = rw ((finds x y).1 (sym (same_Some y x h))) refl
in_any same finds x (y ∷ xs) (suc i) h = elim (cases_Bool (same x y)) [
  | inl e ↦ rw e refl
  | inr e ↦ rw e (in_any same finds x xs i h)
]

-- either it is there and nothing is added, or it is added behind
one_more : {A : Type 0} (same : A → A → Bool) → FindsSame same → (before : List A) (x : A)
    → (IsIn x before × (with_one same before x ≡ before)) ⊎ ((IsIn x before → ⊥) × (with_one same before x ≡ before ++ x ∷ []))
one_more same finds before x = elim (cases_Bool (list_any (same x) before)) [
  | inl e ↦ inl (any_in same finds x before e, rw e refl)
  | inr e ↦ inr (λ h. true≢false (sym (in_any same finds x before h.0 h.1) ∙ e), rw e refl)
]

keeps : {A : Type 0} (same : A → A → Bool) → FindsSame same → (before : List A) (x y : A) → IsIn x before → IsIn x (with_one same before y)
keeps same finds before x y h = elim (one_more same finds before y) [
  | inl old ↦ subst (IsIn x) (sym old.1) h
  | inr new ↦ subst (IsIn x) (sym new.1) (in_front x before (y ∷ []) h)
]

brings : {A : Type 0} (same : A → A → Bool) → FindsSame same → (before : List A) (x : A) → IsIn x (with_one same before x)
brings same finds before x = elim (one_more same finds before x) [
  | inl old ↦ subst (IsIn x) (sym old.1) old.0
  | inr new ↦ subst (IsIn x) (sym new.1) (in_back x before (x ∷ []) (0, refl))
]

-- nothing else is added
all_with : {A : Type 0} (same : A → A → Bool) → FindsSame same → (P : A → Type 0) (before : List A) (x : A) → AllByRecursion P before → P x → AllByRecursion P (with_one same before x)
all_with same finds P before x all one = elim (one_more same finds before x) [
  | inl old ↦ subst (AllByRecursion P) (sym old.1) all
  | inr new ↦ subst (AllByRecursion P) (sym new.1) (all_append P before (x ∷ []) all (one, tt))
]

pub in_mapped : {A B : Type 0} (f : A → B) (xs : List A) (i : ℕ) (y : B) → slice_get (map f xs) i ≡ Some y → (x : A) × (slice_get xs i ≡ Some x) × (f x ≡ y)
in_mapped f [] i y h = absurd (none-some y h)
in_mapped f (x ∷ xs) zero y h = (x, refl, same_Some (f x) y h)
in_mapped f (x ∷ xs) (suc i) y h = in_mapped f xs i y h

-- what each is made into tells what it was
pub once_mapped : {A B : Type 0} (f : A → B) (told : B → A) (xs : List A) → ((x : A) → IsIn x xs → told (f x) ≡ x) → IsOnce xs → IsOnce (map f xs)
once_mapped f told xs tells once i j y h g =
    let a = in_mapped f xs i y h in
    let b = in_mapped f xs j y g in
    let same : a.0 ≡ b.0 = sym (tells a.0 (i, a.1)) ∙ ap told (a.2 ∙ sym b.2) ∙ tells b.0 (j, b.1) in
    once i j b.0 (a.1 ∙ ap Some same) b.1

once_more : {A : Type 0} (xs : List A) (y : A) → (IsIn y xs → ⊥) → IsOnce xs → IsOnce (xs ++ y ∷ [])
once_more xs y fresh once = once_append xs (y ∷ []) once single (λ x h g. fresh (subst (λ (z : _). IsIn z xs) (sym (only g.0 g.1)) h))
  where
    only : {x : _} (i : ℕ) → slice_get (y ∷ []) i ≡ Some x → y ≡ x
    only {x} zero h = same_Some y x h
    only {x} (suc i) h = absurd (none-some x h)

    single : IsOnce (y ∷ [])
    single zero zero x h g = refl
    single zero (suc j) x h g = absurd (none-some x g)
    single (suc i) j x h g = absurd (none-some x h)

once_with : {A : Type 0} (same : A → A → Bool) → FindsSame same → (before : List A) (x : A) → IsOnce before → IsOnce (with_one same before x)
once_with same finds before x once = elim (one_more same finds before x) [
  | inl old ↦ subst IsOnce (sym old.1) once
  | inr new ↦ subst IsOnce (sym new.1) (once_more before x new.0 once)
]

-- ---- all of them

pub in_different : {A : Type 0} (same : A → A → Bool) → FindsSame same → (xs : List A) (x : A) → IsIn x xs → IsIn x (different same xs)
in_different same finds xs x h = bring xs [] h.0 h.1
  where
    keep : (xs before : List _) → IsIn x before → IsIn x (fold (with_one same) before xs)
    keep [] before h = h
    keep (y ∷ xs) before h = keep xs (with_one same before y) (keeps same finds before x y h)

    bring : (xs before : List _) (i : ℕ) → slice_get xs i ≡ Some x → IsIn x (fold (with_one same) before xs)
    bring [] before i h = absurd (none-some x h)
    bring (y ∷ xs) before zero h = keep xs (with_one same before y) (subst (λ (z : _). IsIn z (with_one same before y)) (same_Some y x h) (brings same finds before y))
    bring (y ∷ xs) before (suc i) h = bring xs (with_one same before y) i h

pub all_different : {A : Type 0} (same : A → A → Bool) → FindsSame same → (P : A → Type 0) (xs : List A) → AllByRecursion P xs → AllByRecursion P (different same xs)
all_different same finds P xs all = by xs [] tt all
  where
    by : (xs before : List _) → AllByRecursion P before → AllByRecursion P xs → AllByRecursion P (fold (with_one same) before xs)
    by [] before old all = old
    by (x ∷ xs) before old all = by xs (with_one same before x) (all_with same finds P before x old all.0) all.1

pub once_different : {A : Type 0} (same : A → A → Bool) → FindsSame same → (xs : List A) → IsOnce (different same xs)
once_different same finds xs = by xs [] (λ i j x h g. absurd (none-some x h))
  where
    by : (xs before : List _) → IsOnce before → IsOnce (fold (with_one same) before xs)
    by [] before once = once
    by (x ∷ xs) before once = by xs (with_one same before x) (once_with same finds before x once)

-- ---- of keys and of texts

pub key_in : (keys : List Key) (key : Key) → IsIn key keys → IsIn key (different same_key keys)
key_in keys key = in_different same_key key_found keys key

pub keys_in_pool : (keys wanted : List Key) → AreIn wanted keys → AreIn wanted (different same_key keys)
keys_in_pool keys wanted = all_mapped (λ k. IsIn k keys) (λ k. IsIn k (different same_key keys)) wanted (key_in keys)

pub text_in : (texts : List (List ℕ)) (text : List ℕ) → IsIn text texts → IsIn text (different bytes_eq texts)
text_in texts text = in_different bytes_eq bytes_found texts text

pub texts_in_pool : (texts wanted : List (List ℕ)) → AreIn wanted texts → AreIn wanted (different bytes_eq texts)
texts_in_pool texts wanted = all_mapped (λ t. IsIn t texts) (λ t. IsIn t (different bytes_eq texts)) wanted (text_in texts)
