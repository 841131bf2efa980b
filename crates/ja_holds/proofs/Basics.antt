-- Sets of numbers, and lists of such sets.
use Rattle.std.proofs.Common.{◌≡◌, ◌⊎◌, ◌↔◌, inl, inr, ℕ, zero, suc, ◌+◌, ◌<◌, ◌≤◌, Bool, true, false, ◌||◌, ◌&&◌, List, [], ◌∷◌, length, get_or, set, replicate, refl, sym, ap, subst, ◌∙◌, true≢false, arith}
use Rattle.std.specs.Prelude.{All, Contains, Some, slice_get}
use Rattle.std.specs.List.{list_any}
use Rattle.std.proofs.lemmas.Bool.{cases_Bool, cases_lt, cases_eq}
use Rattle.std.proofs.lemmas.List.{get_or-set_same, get_or-set_other, get_or-replicate, get_or_past}
use Rattle.std.proofs.lemmas.List.Elements.{All-get_or}
use Rattle.std.proofs.lemmas.Option.{slice_get_within, get_or_from_slice_get}
use Rattle.std.proofs.Math.ListN.{length-replicate, length-set}
use Rattle.ja_sets.specs.Sets.{Has, Lacks, union}
use Rattle.ja_sets.proofs.Members.{Has-set, Has-union_iff, no-member}
use Rattle.ja_sets.proofs.Values.{length-union}
use Rattle.ja_facts.specs.ClassTables.{no_members}
use Rattle.ja_facts.proofs.Membership.{in_first, in_rest}
use Rattle.ja_holds.specs.Sized.{AreSets}
use Rattle.ja_holds.specs.Inner.{row, Gains, lacking}

-- ---- truth values

pub has_or_lacks : (set : List Bool) (t : ℕ) → Has set t ⊎ Lacks set t
has_or_lacks set t = cases_Bool (get_or set t false)

pub not_both : {A : Type 0} (set : List Bool) (t : ℕ) → Has set t → Lacks set t → A
not_both set t h l = absurd (true≢false (sym h ∙ l))

pub both-true : (a b : Bool) → (a && b) ≡ true → (a ≡ true) × (b ≡ true)
both-true true b h = (refl, h)
both-true false b h = absurd (cc h)

pub true-both : (a b : Bool) → a ≡ true → b ≡ true → (a && b) ≡ true
true-both true b h k = k
true-both false b h k = absurd (cc h)

pub either-true : (a b : Bool) → (a || b) ≡ true → (a ≡ true) ⊎ (b ≡ true)
either-true true b h = inl refl
either-true false b h = inr h

-- ---- lists

pub at-get : {A : Type 0} (P : A → Type 0) (xs : List A) (k : ℕ) (x : A) → All P xs → slice_get xs k ≡ Some x → P x
at-get P xs k x all e = subst P (get_or_from_slice_get xs k x x e) (All-get_or P xs k x (slice_get_within xs k x e) all)

pub any-in : {A : Type 0} (test : A → Bool) (xs : List A) → list_any test xs ≡ true → (x : A) × Contains xs x × (test x ≡ true)
any-in test [] h = absurd (cc h)
any-in test (y ∷ xs) h = elim (either-true (test y) (list_any test xs) h) [
  | inl here ↦ (y, in_first y xs, here)
  | inr there ↦ let more : (x : _) × Contains xs x × (test x ≡ true) = any-in test xs there in (more.0, in_rest y more.0 xs more.1, more.2)
]

pub in-any : {A : Type 0} (test : A → Bool) (xs : List A) (k : ℕ) (d : A) → k < length xs → test (get_or xs k d) ≡ true → list_any test xs ≡ true
in-any test [] k d lt h = absurd (omega arith)
in-any test (y ∷ xs) zero d lt h = ap (λ b. b || list_any test xs) h
in-any test (y ∷ xs) (suc k) d lt h = elim (cases_Bool (test y)) [
  | inl here ↦ ap (λ b. b || list_any test xs) here
  | inr not ↦ ap (λ b. b || list_any test xs) not ∙ in-any test xs k d (omega arith) h
]

-- ---- sets

pub Has-within : (set : List Bool) (x : ℕ) → Has set x → x < length set
Has-within set x h = elim (cases_lt x (length set)) [ inl lt ↦ lt | inr past ↦ not_both set x h (get_or_past set x false past) ]

pub no-row_member : (count n i x : ℕ) → Has (row (replicate count (no_members n)) i) x → ⊥
no-row_member count n i x h = elim (cases_lt i count) [
  | inl lt ↦ no-member n x (subst (λ (s : List Bool). Has s x) (get_or-replicate count i (no_members n) [] lt) h)
  | inr past ↦
      let none : get_or (replicate count (no_members n)) i [] ≡ [] = get_or_past (replicate count (no_members n)) i [] (let e : length (replicate count (no_members n)) ≡ count = length-replicate count (no_members n) in omega arith) in
      let e : Has [] x = subst (λ (s : List Bool). Has s x) none h in
      absurd (cc e)
]

pub lacking-set : (xs : List Bool) (x : ℕ) → Lacks xs x → x < length xs → lacking (set xs x true) < lacking xs
lacking-set [] x l h = absurd (omega arith)
lacking-set (true ∷ xs) zero l h = absurd (true≢false l)
lacking-set (false ∷ xs) zero l h = omega arith
lacking-set (true ∷ xs) (suc x) l h = lacking-set xs x l (omega arith)
lacking-set (false ∷ xs) (suc x) l h = let less : lacking (set xs x true) < lacking xs = lacking-set xs x l (omega arith) in omega arith

pub lacking-union : (xs ys : List Bool) → lacking (union xs ys) ≤ lacking xs
lacking-union [] ys = omega arith
lacking-union (x ∷ xs) [] = omega arith
lacking-union (true ∷ xs) (y ∷ ys) = lacking-union xs ys
lacking-union (false ∷ xs) (true ∷ ys) = let less : lacking (union xs ys) ≤ lacking xs = lacking-union xs ys in omega arith
lacking-union (false ∷ xs) (false ∷ ys) = let less : lacking (union xs ys) ≤ lacking xs = lacking-union xs ys in omega arith

pub lacking-joined : (xs ys : List Bool) (x : ℕ) → Lacks xs x → Has ys x → x < length xs → lacking (union xs ys) < lacking xs
lacking-joined [] ys x l h lt = absurd (omega arith)
lacking-joined (x ∷ xs) [] k l h lt = absurd (cc h)
lacking-joined (true ∷ xs) (y ∷ ys) zero l h lt = absurd (true≢false l)
lacking-joined (false ∷ xs) (true ∷ ys) zero l h lt = let less : lacking (union xs ys) ≤ lacking xs = lacking-union xs ys in omega arith
lacking-joined (false ∷ xs) (false ∷ ys) zero l h lt = absurd (cc h)
lacking-joined (true ∷ xs) (y ∷ ys) (suc k) l h lt = lacking-joined xs ys k l h (omega arith)
lacking-joined (false ∷ xs) (true ∷ ys) (suc k) l h lt = let less : lacking (union xs ys) < lacking xs = lacking-joined xs ys k l h (omega arith) in omega arith
lacking-joined (false ∷ xs) (false ∷ ys) (suc k) l h lt = let less : lacking (union xs ys) < lacking xs = lacking-joined xs ys k l h (omega arith) in omega arith

-- ---- several sets

pub sets-copies : (count n : ℕ) → AreSets count n (replicate count (no_members n))
sets-copies count n = record {
  counted = length-replicate count (no_members n);
  each = λ i lt. ap length (get_or-replicate count i (no_members n) [] lt) ∙ length-replicate n false;
}

-- one of them written anew
pub sets-set : (count n : ℕ) (rows : List (List Bool)) (i : ℕ) (new : List Bool) → AreSets count n rows → i < count → length new ≡ n → AreSets count n (set rows i new)
sets-set count n rows i new are lt size = record {
  counted = length-set rows i new ∙ are.counted;
  each = λ j h. elim (cases_eq j i) [
    | inl e ↦ ap length (ap (λ k. get_or (set rows i new) k []) e ∙ get_or-set_same rows i new [] (let c = are.counted in omega arith)) ∙ size
    | inr ne ↦ ap length (get_or-set_other rows i j new [] ne) ∙ are.each j h
  ];
}

pub gains-put : (rows : List (List Bool)) (i : ℕ) (new : List Bool) (S : ℕ → Type 0) → i < length rows → ((x : ℕ) → Has new x ↔ (Has (row rows i) x ⊎ S x)) → Gains i S rows (set rows i new)
gains-put rows i new S lt has =
    let same : get_or (set rows i new) i [] ≡ new = get_or-set_same rows i new [] lt in
    record {
      here = λ x. (λ h. (has x).0 (subst (λ (s : List Bool). Has s x) same h), λ h. subst (λ (s : List Bool). Has s x) (sym same) ((has x).1 h));
      elsewhere = λ j ne. get_or-set_other rows i j new [] ne;
    }

pub gains-set : (rows : List (List Bool)) (i x : ℕ) → i < length rows → x < length (row rows i) → Gains i (λ y. y ≡ x) rows (set rows i (set (row rows i) x true))
gains-set rows i x lt below =
    gains-put rows i (set (row rows i) x true) (λ y. y ≡ x) lt
    (λ y. let both : Has (set (row rows i) x true) y ↔ ((y ≡ x) ⊎ Has (row rows i) y) = Has-set (row rows i) x y below in (
      λ h. elim (both.0 h) [ inl e ↦ inr e | inr had ↦ inl had ],
      λ h. both.1 (elim h [ inl had ↦ inr had | inr e ↦ inl e ]),
    ))

-- what a row has after one gained
pub gained : (i : ℕ) (S : ℕ → Type 0) (old new : List (List Bool)) (j x : ℕ) → Gains i S old new → Has (row new j) x ↔ (Has (row old j) x ⊎ ((j ≡ i) × S x))
gained i S old new j x gains = elim (cases_eq j i) [
  | inl e ↦ (
    λ h. elim ((gains.here x).0 (subst (λ k. Has (row new k) x) e h)) [ inl had ↦ inl (subst (λ k. Has (row old k) x) (sym e) had) | inr s ↦ inr (e, s) ],
    λ h. subst (λ k. Has (row new k) x) (sym e) ((gains.here x).1 (elim h [ inl had ↦ inl (subst (λ k. Has (row old k) x) e had) | inr s ↦ inr s.1 ])),
  )
  | inr ne ↦ (
    λ h. inl (subst (λ (s : List Bool). Has s x) (gains.elsewhere j ne) h),
    λ h. elim h [ inl had ↦ subst (λ (s : List Bool). Has s x) (sym (gains.elsewhere j ne)) had | inr s ↦ absurd (ne s.0) ],
  )
]

-- what is in a set that another one, which is there at a place, was joined to
pub joined-at : (count n : ℕ) (rows : List (List Bool)) (i : ℕ) (to other new : List Bool) → AreSets count n rows → slice_get rows i ≡ Some other → i < count → length to ≡ n → new ≡ union to other
    → (length new ≡ n) × ((x : ℕ) → Has new x ↔ (Has to x ⊎ Has (row rows i) x))
joined-at count n rows i to other new are found lt size e =
    let same : row rows i ≡ other = get_or_from_slice_get rows i other [] found in
    let sizes : length to ≡ length other = size ∙ sym (are.each i lt) ∙ ap length same in (
      ap length e ∙ length-union to other sizes ∙ size,
      λ x. let both : Has (union to other) x ↔ (Has to x ⊎ Has other x) = Has-union_iff to other x sizes in (
        λ h. elim (both.0 (subst (λ (s : List Bool). Has s x) e h)) [ inl had ↦ inl had | inr new ↦ inr (subst (λ (s : List Bool). Has s x) (sym same) new) ],
        λ h. subst (λ (s : List Bool). Has s x) (sym e) (both.1 (elim h [ inl had ↦ inl had | inr new ↦ inr (subst (λ (s : List Bool). Has s x) same new) ])),
      ),
    )
