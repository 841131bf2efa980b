-- One step of a loop over a list.
use Rattle.std.proofs.Common.{◌≡◌, ℕ, ◌+◌, ◌<◌, ◌⊎◌, inl, inr, Bool, true, false, ◌||◌, List, [], ◌∷◌, ◌++◌, length, take, get_or, replicate, refl, sym, ap, ◌∙◌, subst, arith}
use Rattle.std.specs.Prelude.{◌↔◌, Option, Some, None, All, Contains, if◌then◌else◌, filter_map, option_to_list, slice_set}
use Rattle.std.specs.List.{cons_option}
use Rattle.std.specs.List.Sorted.{IsStrictlyIncreasing}
use Rattle.std.proofs.lemmas.Bool.{cases_lt, cases_eq, false_from_ne_true}
use Rattle.std.proofs.lemmas.List.{take_more, length-set, length-replicate, length-take-le, length_push, get_or_push, get_or_append_left, get_or_default, append-nil, take_all, get_or_past}
use Rattle.std.proofs.lemmas.List.Elements.{filter_map-append, Contains-push, Contains-push_cases, Contains-append_left, Contains-get_or}
use Rattle.ja_sets.specs.Sets.{Has, union}
use Rattle.ja_sets.proofs.Members.{Has-set, Has-union_iff, no-member}
use Rattle.ja_sets.proofs.Values.{length-union}
use Rattle.ja_supertypes.specs.InnerForeign.{is_raised, AreRaised}
use Rattle.ja_supertypes.specs.InnerRows.{IsSetOf, AreSets, IsGathered, AreGathered, IsMembers, AreMembers, count}

-- one item more, filtered
pub filter_map-more : {X : Type 0} (f : X → Option ℕ) (xs : List X) (i : ℕ) (x : X) (o : Option ℕ) → i < length xs → x ≡ get_or xs i x → o ≡ f x
    → filter_map f (take i xs) ++ option_to_list o ≡ filter_map f (take (i + 1) xs)
filter_map-more f xs i x o lt read e =
    ap (λ p. filter_map f (take i xs) ++ option_to_list p) e
    ∙ ap (λ l. filter_map f (take i xs) ++ l) (one-item f x)
    ∙ sym (filter_map-append f (take i xs) (x ∷ []))
    ∙ ap (λ y. filter_map f (take i xs ++ y ∷ [])) read
    ∙ ap (filter_map f) (sym (take_more xs i x lt))
  where
    one-option : (o : Option ℕ) → option_to_list o ≡ cons_option o []
    one-option None = refl
    one-option (Some k) = refl

    one-item : {X : Type 0} (f : X → Option ℕ) (x : X) → option_to_list (f x) ≡ filter_map f (x ∷ [])
    one-item f x = one-option (f x)

-- what the first items and one more have
pub listed-more : (xs : List ℕ) (i x d : ℕ) → i < length xs → x ≡ get_or xs i x → Contains (take (i + 1) xs) d ↔ (Contains (take i xs) d ⊎ (x ≡ d))
listed-more xs i x d lt read = (
  λ in'. elim (Contains-push_cases (take i xs) (get_or xs i x) d (subst (λ (l : List ℕ). Contains l d) (take_more xs i x lt) in')) [ inl before ↦ inl before | inr last ↦ inr (read ∙ last) ],
  λ either. subst (λ (l : List ℕ). Contains l d) (sym (take_more xs i x lt)) (elim either [
    | inl before ↦ Contains-append_left (take i xs) (get_or xs i x ∷ []) d before
    | inr same ↦ subst (λ (y : ℕ). Contains (take i xs ++ get_or xs i x ∷ []) y) (sym read ∙ same) (Contains-push (take i xs) (get_or xs i x))
  ]),
)

-- a set of some items, with one more
pub set-more : (places : List ℕ) (i x len : ℕ) (set news : List Bool) → i < length places → x ≡ get_or places i x → x < len → IsSetOf (take i places) len set → news ≡ slice_set set x true
    → IsSetOf (take (i + 1) places) len news
set-more places i x len set news lt read below is e = record {
  width = ap length e ∙ length-set set x true ∙ is.width;
  exact = λ d.
      let added : Has (slice_set set x true) d ↔ ((d ≡ x) ⊎ Has set d) = Has-set set x d (omega (arith, is.width)) in
      let listed : Contains (take (i + 1) places) d ↔ (Contains (take i places) d ⊎ (x ≡ d)) = listed-more places i x d lt read in (
        λ has. listed.1 (elim (added.0 (subst (λ (s : List Bool). Has s d) e has)) [ inl same ↦ inr (sym same) | inr before ↦ inl ((is.exact d).0 before) ]),
        λ in'. subst (λ (s : List Bool). Has s d) (sym e) (added.1 (elim (listed.0 in') [ inl before ↦ inr ((is.exact d).1 before) | inr same ↦ inl (sym same) ])),
      );
}

pub set-none : (len : ℕ) → IsSetOf [] len (replicate len false)
set-none len = record {
  width = length-replicate len false;
  exact = λ d. (λ has. absurd (no-member len d has), λ in'. absurd (omega (arith, in'.1)));
}

-- a union of some sets, with one more
pub gather-more : (own : List (List Bool)) (c : ℕ) (xs : List ℕ) (i x len : ℕ) (row set news : List Bool) → i < length xs → x ≡ get_or xs i x → row ≡ get_or own x [] → length row ≡ len
    → IsGathered own c (take i xs) len set → news ≡ union set row → IsGathered own c (take (i + 1) xs) len news
gather-more own c xs i x len row set news lt read is-row width is e = record {
  width = ap length e ∙ length-union set row (is.width ∙ sym width) ∙ is.width;
  exact = λ k.
      let both : Has (union set row) k ↔ (Has set k ⊎ Has row k) = Has-union_iff set row k (is.width ∙ sym width) in (
        λ has. elim (both.0 (subst (λ (s : List Bool). Has s k) e has)) [
          | inl old ↦ elim ((is.exact k).0 old) [
            | inl self ↦ inl self
            | inr other ↦ inr (other.0, (listed-more xs i x other.0 lt read).1 (inl other.1), other.2)
          ]
          | inr new ↦ inr (x, (listed-more xs i x x lt read).1 (inr refl), subst (λ (s : List Bool). Has s k) is-row new)
        ],
        λ either. subst (λ (s : List Bool). Has s k) (sym e) (both.1 (elim either [
          | inl self ↦ inl ((is.exact k).1 (inl self))
          | inr other ↦ elim ((listed-more xs i x other.0 lt read).0 other.1) [
            | inl before ↦ inl ((is.exact k).1 (inr (other.0, before, other.2)))
            | inr same ↦ inr (subst (λ (s : List Bool). Has s k) (sym is-row) (subst (λ (d : ℕ). Has (get_or own d []) k) (sym same) other.2))
          ]
        ])),
      );
}

pub gather-none : (own : List (List Bool)) (c len : ℕ) (row none news : List Bool) → none ≡ replicate len false → row ≡ get_or own c [] → length row ≡ len → news ≡ union none row → IsGathered own c [] len news
gather-none own c len row none news is-none is-row width e = record {
  width = ap length e ∙ length-union none row (ap length is-none ∙ length-replicate len false ∙ sym width) ∙ ap length is-none ∙ length-replicate len false;
  exact = λ k.
      let both : Has (union none row) k ↔ (Has none k ⊎ Has row k) = Has-union_iff none row k (ap length is-none ∙ length-replicate len false ∙ sym width) in (
        λ has. elim (both.0 (subst (λ (s : List Bool). Has s k) e has)) [
          | inl empty ↦ absurd (no-member len k (subst (λ (s : List Bool). Has s k) is-none empty))
          | inr self ↦ inl (subst (λ (s : List Bool). Has s k) is-row self)
        ],
        λ either. subst (λ (s : List Bool). Has s k) (sym e) (both.1 (elim either [
          | inl self ↦ inr (subst (λ (s : List Bool). Has s k) (sym is-row) self)
          | inr other ↦ absurd (omega (arith, other.1.1))
        ])),
      );
}

-- two lists side by side, with one item more
pairs-push : {A B : Type 0} (Q : ℕ → A → B → Type 0) (a0 : A) (b0 : B) (xs : List A) (ys : List B) (x : A) (y : B) → length ys ≡ length xs
    → ((c : ℕ) → c < length xs → Q c (get_or xs c a0) (get_or ys c b0)) → Q (length xs) x y → (c : ℕ) → c < length (xs ++ x ∷ []) → Q c (get_or (xs ++ x ∷ []) c a0) (get_or (ys ++ y ∷ []) c b0)
pairs-push {A} {B} Q a0 b0 xs ys x y size each last c lt =
    elim (cases_lt c (length xs)) [
      | inl below ↦
          subst (λ (b : B). Q c (get_or (xs ++ x ∷ []) c a0) b) (sym (get_or_append_left ys (y ∷ []) b0 c (omega (arith, size))))
          (subst (λ (a : A). Q c a (get_or ys c b0)) (sym (get_or_append_left xs (x ∷ []) a0 c below)) (each c below))
      | inr past ↦
          let e : c ≡ length xs = omega (arith, length_push xs x) in
          subst (λ (n : ℕ). Q n (get_or (xs ++ x ∷ []) n a0) (get_or (ys ++ y ∷ []) n b0)) (sym e)
          (subst (λ (b : B). Q (length xs) (get_or (xs ++ x ∷ []) (length xs) a0) b) (sym (get_or_push ys y b0 (length xs) size))
          (subst (λ (a : A). Q (length xs) a y) (sym (get_or_push xs x a0 (length xs) refl)) last))
    ]

pub record Beside {A B : Type 0} (Q : ℕ → A → B → Type 0) (a0 : A) (b0 : B) (xs : List A) (ys : List B) : Type 0 where
  pub size : length ys ≡ length xs
  pub each : (c : ℕ) → c < length xs → Q c (get_or xs c a0) (get_or ys c b0)

pub beside-more : {A B : Type 0} (Q : ℕ → A → B → Type 0) (a0 : A) (b0 : B) (xs : List A) (i : ℕ) (x : A) (ys news : List B) (y : B) → i < length xs → x ≡ get_or xs i x → Beside Q a0 b0 (take i xs) ys → Q i x y
    → news ≡ ys ++ y ∷ [] → Beside Q a0 b0 (take (i + 1) xs) news
beside-more {A} {B} Q a0 b0 xs i x ys news y lt read beside last e =
    let at : take (i + 1) xs ≡ take i xs ++ x ∷ [] = take_more xs i x lt ∙ ap (λ (z : A). take i xs ++ z ∷ []) (sym read) in
    let size : length (take i xs) ≡ i = length-take-le i xs (omega arith) in
    subst (λ (zs : List A). Beside Q a0 b0 zs news) (sym at)
    (subst (λ (zs : List B). Beside Q a0 b0 (take i xs ++ x ∷ []) zs) (sym e) (record {
      size = omega (arith, length_push ys y, length_push (take i xs) x, beside.size);
      each = pairs-push Q a0 b0 (take i xs) ys x y beside.size beside.each (subst (λ (n : ℕ). Q n x y) (sym size) last);
    }))

pub members-more : (sets : List (List Bool)) (i : ℕ) (set : List Bool) (lists news : List (List ℕ)) (list : List ℕ) → i < length sets → set ≡ get_or sets i set → AreMembers (take i sets) lists
    → IsMembers set list → news ≡ lists ++ list ∷ [] → AreMembers (take (i + 1) sets) news
members-more sets i set lists news list lt read are new e =
    let more : Beside (λ (c : ℕ) (s : List Bool) (l : List ℕ). IsMembers s l) [] [] (take (i + 1) sets) news =
    beside-more (λ (c : ℕ) (s : List Bool) (l : List ℕ). IsMembers s l) [] [] sets i set lists news list lt read (record { size = are.size; each = are.each }) new e in
    record { size = more.size; each = more.each }

pub gathered-more : (own : List (List Bool)) (lists : List (List ℕ)) (len i : ℕ) (list : List ℕ) (sets news : List (List Bool)) (set : List Bool) → i < length lists → list ≡ get_or lists i list
    → AreGathered own (take i lists) len sets → IsGathered own i list len set → news ≡ sets ++ set ∷ [] → AreGathered own (take (i + 1) lists) len news
gathered-more own lists len i list sets news set lt read are new e =
    let more : Beside (λ (c : ℕ) (xs : List ℕ) (s : List Bool). IsGathered own c xs len s) [] [] (take (i + 1) lists) news =
    beside-more (λ (c : ℕ) (xs : List ℕ) (s : List Bool). IsGathered own c xs len s) [] [] lists i list sets news set lt read (record { size = are.size; each = are.each }) new e in
    record { size = more.size; each = more.each }

pub raised-more : (own : List Bool) (lists : List (List ℕ)) (i : ℕ) (list : List ℕ) (flags news : List Bool) (flag : Bool) → i < length lists → list ≡ get_or lists i list
    → AreRaised own (take i lists) flags → flag ≡ (get_or own i false || is_raised own list) → news ≡ flags ++ flag ∷ [] → AreRaised own (take (i + 1) lists) news
raised-more own lists i list flags news flag lt read are new e =
    let more : Beside (λ (c : ℕ) (xs : List ℕ) (b : Bool). b ≡ (get_or own c false || is_raised own xs)) [] false (take (i + 1) lists) news =
    beside-more (λ (c : ℕ) (xs : List ℕ) (b : Bool). b ≡ (get_or own c false || is_raised own xs)) [] false lists i list flags news flag lt read (record { size = are.size; each = are.each }) new e in
    record { size = more.size; each = more.each }

-- the members below one number more
member-more : (set : List Bool) (list news : List ℕ) (d : ℕ) (wanted : Bool) → ((wanted ≡ true → Has set d) × (Has set d → wanted ≡ true)) → ((x : ℕ) → Contains list x ↔ ((x < d) × Has set x))
    → news ≡ list ++ (if wanted then d ∷ [] else []) → (x : ℕ) → Contains news x ↔ ((x < d + 1) × Has set x)
member-more set list news d true test exact e x = (
  λ in'. elim (Contains-push_cases list d x (subst (λ (l : List ℕ). Contains l x) e in')) [
    | inl before ↦ let known : (x < d) × Has set x = (exact x).0 before in (omega (arith, known.0), known.1)
    | inr last ↦ (omega (arith, last), subst (λ (y : ℕ). Has set y) last (test.0 refl))
  ],
  λ known. subst (λ (l : List ℕ). Contains l x) (sym e) (elim (cases_eq x d) [
    | inl same ↦ subst (λ (y : ℕ). Contains (list ++ d ∷ []) y) (sym same) (Contains-push list d)
    | inr apart ↦ Contains-append_left list (d ∷ []) x ((exact x).1 (omega (arith, known.0, apart), known.1))
  ]),
)
member-more set list news d false test exact e x =
    let same-list : news ≡ list = e ∙ append-nil list in (
      λ in'. let known : (x < d) × Has set x = (exact x).0 (subst (λ (l : List ℕ). Contains l x) same-list in') in (omega (arith, known.0), known.1),
      λ known. subst (λ (l : List ℕ). Contains l x) (sym same-list) (elim (cases_eq x d) [
        | inl same ↦ let f : false ≡ true = test.1 (subst (λ (y : ℕ). Has set y) same known.1) in absurd (cc f)
        | inr apart ↦ (exact x).1 (omega (arith, known.0, apart), known.1)
      ]),
    )

-- the list has the members of the set below a number
pub record IsMembersBelow (set : List Bool) (d : ℕ) (list : List ℕ) : Type 0 where
  pub exact : (x : ℕ) → Contains list x ↔ ((x < d) × Has set x)
  pub increasing : IsStrictlyIncreasing list
  pub counted : length list ≡ count (take d set)

pub members-begin : (set : List Bool) → IsMembersBelow set 0 []
members-begin set = record {
  exact = λ x. (λ in'. absurd (omega (arith, in'.1)), λ known. absurd (omega (arith, known.0)));
  increasing = λ k lt. absurd (omega arith);
  counted = refl;
}

-- a number above all is put at the end
increasing-push : (xs : List ℕ) (d : ℕ) → ((x : ℕ) → Contains xs x → x < d) → IsStrictlyIncreasing xs → IsStrictlyIncreasing (xs ++ d ∷ [])
increasing-push xs d below rises k lt =
    elim (cases_lt (k + 1) (length xs)) [
      | inl inside ↦
          let a : get_or (xs ++ d ∷ []) k 0 ≡ get_or xs k 0 = get_or_append_left xs (d ∷ []) 0 k (omega arith) in
          let b : get_or (xs ++ d ∷ []) (k + 1) 0 ≡ get_or xs (k + 1) 0 = get_or_append_left xs (d ∷ []) 0 (k + 1) inside in
          omega (arith, a, b, rises k inside)
      | inr past ↦
          let end : k + 1 ≡ length xs = omega (arith, length_push xs d) in
          let a : get_or (xs ++ d ∷ []) k 0 ≡ get_or xs k 0 = get_or_append_left xs (d ∷ []) 0 k (omega arith) in
          let b : get_or (xs ++ d ∷ []) (k + 1) 0 ≡ d = get_or_push xs d 0 (k + 1) (sym end) in
          omega (arith, a, b, below (get_or xs k 0) (Contains-get_or xs k 0 (omega arith)))
    ]

count-push : (bits : List Bool) (b : Bool) → count (bits ++ b ∷ []) ≡ count bits + (if b then 1 else 0)
count-push [] true = refl
count-push [] false = refl
count-push (true ∷ bits) b = omega (arith, count-push bits b)
count-push (false ∷ bits) b = count-push bits b

count-more : (set : List Bool) (d : ℕ) (b : Bool) → d < length set → get_or set d false ≡ b → count (take (d + 1) set) ≡ count (take d set) + (if b then 1 else 0)
count-more set d b lt is =
    ap count (take_more set d false lt ∙ ap (λ (x : Bool). take d set ++ x ∷ []) is) ∙ count-push (take d set) b

length-if : (list news : List ℕ) (d : ℕ) (b : Bool) → news ≡ list ++ (if b then d ∷ [] else []) → length news ≡ length list + (if b then 1 else 0)
length-if list news d true e = ap length e ∙ length_push list d ∙ omega arith
length-if list news d false e = ap length (e ∙ append-nil list) ∙ omega arith

increasing-if : (list news : List ℕ) (d : ℕ) (b : Bool) → ((x : ℕ) → Contains list x → x < d) → IsStrictlyIncreasing list → news ≡ list ++ (if b then d ∷ [] else []) → IsStrictlyIncreasing news
increasing-if list news d true below rises e = subst IsStrictlyIncreasing (sym e) (increasing-push list d below rises)
increasing-if list news d false below rises e = subst IsStrictlyIncreasing (sym (e ∙ append-nil list)) rises

is-bit : (set : List Bool) (d : ℕ) (wanted : Bool) → ((wanted ≡ true → Has set d) × (Has set d → wanted ≡ true)) → get_or set d false ≡ wanted
is-bit set d true test = test.0 refl
is-bit set d false test = false_from_ne_true (get_or set d false) (λ has. let f : false ≡ true = test.1 has in cc f)

pub members-step : (set : List Bool) (list news : List ℕ) (d : ℕ) (wanted : Bool) → d < length set → ((wanted ≡ true → Has set d) × (Has set d → wanted ≡ true)) → IsMembersBelow set d list
    → news ≡ list ++ (if wanted then d ∷ [] else []) → IsMembersBelow set (d + 1) news
members-step set list news d wanted lt test is e = record {
  exact = member-more set list news d wanted test is.exact e;
  increasing = increasing-if list news d wanted (λ x in'. ((is.exact x).0 in').0) is.increasing e;
  counted = length-if list news d wanted e ∙ ap (λ (n : ℕ). n + (if wanted then 1 else 0)) is.counted ∙ sym (count-more set d wanted lt (is-bit set d wanted test));
}

pub members-end : (set : List Bool) (list : List ℕ) (d : ℕ) → length set ≡ d → IsMembersBelow set d list → IsMembers set list
members-end set list d size is = record {
  exact = λ x. (
    λ in'. ((is.exact x).0 in').1,
    λ has. (is.exact x).1 (elim (cases_lt x (length set)) [
      | inl inside ↦ (omega (arith, size), has)
      | inr past ↦ let none : get_or set x false ≡ false = get_or_past set x false past in absurd (cc (none, has))
    ]),
  );
  increasing = is.increasing;
  counted = is.counted ∙ ap count (take_all d set (omega (arith, size)));
}

pub sets-widths : (lists : List (List ℕ)) (n : ℕ) (sets : List (List Bool)) → AreSets lists n sets → All (λ set. length set ≡ n) sets
sets-widths lists n sets are k d lt = ap length (get_or_default sets k d [] lt) ∙ (are.each k (omega (arith, are.size))).width

pub gathered-widths : (own : List (List Bool)) (lists : List (List ℕ)) (n : ℕ) (sets : List (List Bool)) → AreGathered own lists n sets → All (λ set. length set ≡ n) sets
gathered-widths own lists n sets are k d lt = ap length (get_or_default sets k d [] lt) ∙ (are.each k (omega (arith, are.size))).width
