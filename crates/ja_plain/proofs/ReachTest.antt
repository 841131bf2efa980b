-- The tests for reaching and for taint mean what they are for.
use Rattle.std.proofs.Common.{◌≡◌, ℕ, zero, suc, ◌<◌, ◌≤◌, ◌==◌, ◌||◌, ◌&&◌, ◌⊎◌, inl, inr, Bool, true, false, List, [], ◌∷◌, ◌++◌, Option, Some, None, length, refl, sym, ap, subst, arith, ◌∙◌, eq-eqb}
use Rattle.std.specs.Prelude.{slice_get, Contains, ◌↔◌}
use Rattle.std.specs.List.{list_any}
use Rattle.std.proofs.lemmas.Bool.{cases_lt, cases_order, eqb-true}
use Rattle.std.proofs.lemmas.List.Folds.{list_any-append}
use Rattle.std.proofs.lemmas.Option.{slice_get_within, slice_get_past, slice_get-get_or, get_or_from_slice_get}
use Rattle.ja_plain.specs.State.{Value, Prim, Null, Ref, Object}
use Rattle.ja_plain.specs.Reach.{links_at, links_of, all_links, Reaches, itself, linked, object_marked, marked_at, IsTainted, reaches_by, reaches, below, tainted}
use Rattle.ja_plain.proofs.Counts.{count, count-more, count-full, Only, search-only}

pub or-left : (b c : Bool) → b ≡ true → b || c ≡ true
or-left true c e = refl
or-left false c e = cc

pub or-right : (b c : Bool) → c ≡ true → b || c ≡ true
or-right true c e = refl
or-right false c e = e

pub or-cases : (b c : Bool) → b || c ≡ true → (b ≡ true) ⊎ (c ≡ true)
or-cases true c e = inl refl
or-cases false c e = inr e

pub and-both : (b c : Bool) → b ≡ true → c ≡ true → b && c ≡ true
and-both true c e f = f
and-both false c e f = cc

pub and-left : (b c : Bool) → b && c ≡ true → b ≡ true
and-left true c e = refl
and-left false c e = cc

pub and-right : (b c : Bool) → b && c ≡ true → c ≡ true
and-right true c e = e
and-right false c e = cc

-- a member at an index passes the test
pub any-at : {X : Type 0} (p : X → Bool) (xs : List X) (k : ℕ) (x : X) → slice_get xs k ≡ Some x → p x ≡ true → list_any p xs ≡ true
any-at p [] k x e h = cc
any-at p (y ∷ ys) zero x e h = or-left (p y) (list_any p ys) (let same : y ≡ x = cc in rw same h)
any-at p (y ∷ ys) (suc k) x e h = or-right (p y) (list_any p ys) (any-at p ys k x e h)

-- some member passes it
pub record Some-at {X : Type 0} (p : X → Bool) (xs : List X) : Type 0 where
  pub index : ℕ
  pub item : X
  pub here : slice_get xs index ≡ Some item
  pub passes : p item ≡ true

pub at-any : {X : Type 0} (p : X → Bool) (xs : List X) → list_any p xs ≡ true → Some-at p xs
at-any p [] e = cc
at-any p (y ∷ ys) e = elim (or-cases (p y) (list_any p ys) e) [
  | inl h ↦ record { index = 0; item = y; here = refl; passes = h }
  | inr h ↦ (let r : Some-at p ys = at-any p ys h in record { index = suc r.index; item = r.item; here = r.here; passes = r.passes })
]

pub any-append : {X : Type 0} (p : X → Bool) (xs ys : List X) → list_any p xs ≡ true → list_any p (xs ++ ys) ≡ true
any-append p xs ys h = list_any-append p xs ys ∙ or-left (list_any p xs) (list_any p ys) h

pub any-end : {X : Type 0} (p : X → Bool) (xs : List X) (x : X) → p x ≡ true → list_any p (xs ++ x ∷ []) ≡ true
any-end p xs x h = list_any-append p xs (x ∷ []) ∙ or-right (list_any p xs) (list_any p (x ∷ [])) (or-left (p x) false h)

-- a number below passes the test
pub any-below : (p : ℕ → Bool) (n c : ℕ) → c < n → p c ≡ true → list_any p (below n) ≡ true
any-below p zero c room h = absurd (omega arith)
any-below p (suc n) c room h =
    let go : ((c ≡ n) ⊎ ((c < n) ⊎ (n < c))) → list_any p (below n ++ n ∷ []) ≡ true =
    elim [
      | inl e ↦ any-end p (below n) n (rw (sym e) h)
      | inr o ↦ elim o [ inl lt ↦ any-append p (below n) (n ∷ []) (any-below p n c lt h) | inr gt ↦ absurd (omega arith) ]
    ] in
    go (cases_order c n)

pub contains-at : {X : Type 0} (xs : List X) (x : X) → Contains xs x → (k : ℕ) × (slice_get xs k ≡ Some x)
contains-at xs x c = (c.0, slice_get-get_or xs c.0 x c.1 ∙ ap Some c.2)

pub at-contains : {X : Type 0} (xs : List X) (k : ℕ) (x : X) → slice_get xs k ≡ Some x → Contains xs x
at-contains xs k x e = (k, slice_get_within xs k x e, get_or_from_slice_get xs k x x e)

module _ (next : ℕ → List ℕ) where
  by-itself : (n a c : ℕ) → a ≡ c → reaches_by next n a c ≡ true
  by-itself zero a c e = eq-eqb a c e
  by-itself (suc n) a c e = or-left (a == c) (list_any (λ b. reaches_by next n b c) (next a)) (eq-eqb a c e)

  by-link : (n a b c : ℕ) → Contains (next a) b → reaches_by next n b c ≡ true → reaches_by next (suc n) a c ≡ true
  by-link n a b c l h =
      let at : (k : ℕ) × (slice_get (next a) k ≡ Some b) = contains-at (next a) b l in
      or-right (a == c) (list_any (λ b. reaches_by next n b c) (next a)) (any-at (λ b. reaches_by next n b c) (next a) at.0 b at.1 h)

  -- how a place was reached: it is the one, or by a link
  by-cases : (n a c : ℕ) → reaches_by next (suc n) a c ≡ true → (a ≡ c) ⊎ ((b : ℕ) × Contains (next a) b × (reaches_by next n b c ≡ true))
  by-cases n a c h = elim (or-cases (a == c) (list_any (λ b. reaches_by next n b c) (next a)) h) [
    | inl e ↦ inl (eqb-true a c e)
    | inr o ↦ (let r : Some-at (λ b. reaches_by next n b c) (next a) = at-any (λ b. reaches_by next n b c) (next a) o in inr (r.item, at-contains (next a) r.index r.item r.here, r.passes))
  ]

  longer : (n a c : ℕ) → reaches_by next n a c ≡ true → reaches_by next (suc n) a c ≡ true
  longer zero a c h = by-itself 1 a c (eqb-true a c h)
  longer (suc n) a c h = elim (by-cases n a c h) [
    | inl e ↦ by-itself (suc (suc n)) a c e
    | inr r ↦ by-link (suc n) a r.0 c r.1 (longer n r.0 c r.2)
  ]

  -- one link more reaches the place from nowhere else
  abbrev Settled : ℕ → ℕ → Type 0
  Settled c n = (a : ℕ) → reaches_by next (suc n) a c ≡ true → reaches_by next n a c ≡ true

  settled-on : (c n : ℕ) → Settled c n → Settled c (suc n)
  settled-on c n s a h = elim (by-cases (suc n) a c h) [
    | inl e ↦ by-itself (suc n) a c e
    | inr r ↦ by-link n a r.0 c r.1 (s r.0 r.2)
  ]

  module _ (size : ℕ) (outside : (a b : ℕ) → size ≤ a → Contains (next a) b → ⊥) where
    settled-if : (c n : ℕ) → ((a : ℕ) → a < size → reaches_by next (suc n) a c ≡ true → reaches_by next n a c ≡ true) → Settled c n
    settled-if c n inside a h =
        let go : ((a < size) ⊎ (size ≤ a)) → reaches_by next n a c ≡ true =
        elim [
          | inl lt ↦ inside a lt h
          | inr ge ↦ elim (by-cases n a c h) [ inl e ↦ by-itself n a c e | inr r ↦ absurd (outside a r.0 ge r.1) ]
        ] in
        go (cases_lt a size)

    abbrev counted : ℕ → ℕ → ℕ
    counted c n = count (λ a. reaches_by next n a c) size

    -- after so many rounds all is settled, or in each a place was added
    grows : (c n : ℕ) → Settled c n ⊎ (n ≤ counted c n)
    grows c zero = inr (omega arith)
    grows c (suc n) = go (grows c n) (search-only (λ a. reaches_by next n a c) (λ a. reaches_by next (suc n) a c) size) where
      go : (Settled c n ⊎ (n ≤ counted c n)) → (((a : ℕ) → a < size → reaches_by next (suc n) a c ≡ true → reaches_by next n a c ≡ true) ⊎ Only (λ a. reaches_by next n a c) (λ a. reaches_by next (suc n) a c) size) → Settled c (suc n) ⊎ (suc n ≤ counted c (suc n))
      go (inl s) o = inl (settled-on c n s)
      go (inr k) (inl all) = inl (settled-on c n (settled-if c n all))
      go (inr k) (inr o) =
          inr (omega (arith, count-more (λ a. reaches_by next n a c) (λ a. reaches_by next (suc n) a c) (λ a. longer n a c) size o.number o.inside o.in-q o.out-p))

    settled-at-size : (c : ℕ) → Settled c size
    settled-at-size c = elim (grows c size) [
      | inl s ↦ s
      | inr k ↦ settled-if c size (λ a room h. count-full (λ a. reaches_by next size a c) size k a room)
    ]

    pub by-links : (a b c : ℕ) → Contains (next a) b → reaches_by next size b c ≡ true → reaches_by next size a c ≡ true
    by-links a b c l h = settled-at-size c a (by-link size a b c l h)

none-outside : (links : Object → List ℕ) (heap : List Object) (a b : ℕ) → length heap ≤ a → Contains (links_at links heap a) b → ⊥
none-outside links heap a b past l =
    let none : slice_get heap a ≡ None = slice_get_past heap a past in
    let P : Option Object → Type 0 = λ o. Contains (links_of links o) b in
    let m : Contains [] b = subst P none l in
    absurd (omega (arith, m.1))

pub test-of : (links : Object → List ℕ) (heap : List Object) (a c : ℕ) → Reaches links heap a c → reaches links heap a c ≡ true
test-of links heap a c (itself) = by-itself (links_at links heap) (length heap) a a refl
test-of links heap a c (linked {b = b} l r) = by-links (links_at links heap) (length heap) (none-outside links heap) a b c l (test-of links heap b c r)

of-test : (links : Object → List ℕ) (heap : List Object) (n a c : ℕ) → reaches_by (links_at links heap) n a c ≡ true → Reaches links heap a c
of-test links heap zero a c h = subst (λ (x : ℕ). Reaches links heap a x) (eqb-true a c h) itself
of-test links heap (suc n) a c h = elim (by-cases (links_at links heap) n a c h) [
  | inl e ↦ subst (λ (x : ℕ). Reaches links heap a x) e itself
  | inr r ↦ linked r.1 (of-test links heap n r.0 c r.2)
]

pub reaches-is : (links : Object → List ℕ) (heap : List Object) (a c : ℕ) → (reaches links heap a c ≡ true) ↔ Reaches links heap a c
reaches-is links heap a c = (of-test links heap (length heap) a c, test-of links heap a c)

marked-inside : (heap : List Object) (c : ℕ) → marked_at heap c ≡ true → c < length heap
marked-inside heap c h =
    let go : ((c < length heap) ⊎ (length heap ≤ c)) → c < length heap =
    elim [
      | inl lt ↦ lt
      | inr ge ↦ (let none : slice_get heap c ≡ None = slice_get_past heap c ge in let no : object_marked None ≡ true = subst (λ (o : Option Object). object_marked o ≡ true) none h in cc)
    ] in
    go (cases_lt c (length heap))

pub tainted-is : (heap : List Object) (v : Value) → (tainted heap v ≡ true) ↔ IsTainted heap v
tainted-is heap (Prim mark) = (λ h. h, λ h. h)
tainted-is heap Null = (λ h. cc, λ h. absurd h)
tainted-is heap (Ref a) = (
  λ h. (
      let p : ℕ → Bool = λ c. reaches all_links heap a c && marked_at heap c in
      let r : Some-at p (below (length heap)) = at-any p (below (length heap)) h in
      let one : reaches all_links heap a r.item ≡ true = and-left (reaches all_links heap a r.item) (marked_at heap r.item) r.passes in
      (r.item, of-test all_links heap (length heap) a r.item one, and-right (reaches all_links heap a r.item) (marked_at heap r.item) r.passes)),
  λ t. (
      let p : ℕ → Bool = λ c. reaches all_links heap a c && marked_at heap c in
      any-below p (length heap) t.0 (marked-inside heap t.0 t.2) (and-both (reaches all_links heap a t.0) (marked_at heap t.0) (test-of all_links heap a t.0 t.1) t.2)),
)
