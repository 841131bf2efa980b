-- The machine's tests answer the relations: no path needs more links than there are objects.
use Rattle.std.proofs.Common.{◌≡◌, ℕ, zero, suc, ◌+◌, ◌<◌, ◌≤◌, ◌⊎◌, inl, inr, ◌==◌, Bool, true, false, ◌||◌, List, [], ◌∷◌, length, refl, sym, ◌∙◌, ap, subst, arith, eq-eqb}
use Rattle.std.specs.Prelude.{◌↔◌, Option, Some, None, Contains, slice_get, if◌then◌else◌}
use Rattle.std.specs.List.{list_any}
use Rattle.std.proofs.lemmas.Bool.{eqb-true}
use Rattle.ja_machine.specs.declared.heap.Value.{Value}
use Rattle.ja_machine.specs.declared.heap.Value.TheVariants.{Prim, Null, Ref}
use Rattle.ja_machine.specs.declared.heap.FieldValue.{FieldValue}
use Rattle.ja_machine.specs.declared.heap.Object.{Object}
use Rattle.ja_machine.specs.Marks.{has, none, union}
use Rattle.ja_machine.specs.Reach.{links, Linked, Path, here, along, mark_of, is_marked, finds, out_of, next_of, is_reached, field_marks, object_marks, marks_reached, is_tainted, IsTainted, marked, reaches}
use Rattle.ja_machine.proofs.Marks.{or-left, or-right, or-split, has-none, has-union, union-left, union-right, union-split}

-- an element passes the test
pub any-in : (t : ℕ → Bool) (xs : List ℕ) → list_any t xs ≡ true → (x : ℕ) × Contains xs x × (t x ≡ true)
any-in t [] e = cc
any-in t (x ∷ xs) e = elim (or-split (t x) (list_any t xs) e) [
  | inl h ↦ (x, (0, omega arith, refl), h)
  | inr h ↦ (let r : (x : ℕ) × Contains xs x × (t x ≡ true) = any-in t xs h in (r.0, (suc r.1.0, omega (arith, r.1.1), r.1.2), r.2))
]

pub in-any : (t : ℕ → Bool) (xs : List ℕ) (x : ℕ) → Contains xs x → t x ≡ true → list_any t xs ≡ true
in-any t [] x (k, lt, e) h = absurd (omega arith)
in-any t (y ∷ xs) x (zero, lt, e) h = or-left (t y) (list_any t xs) (ap t e ∙ h)
in-any t (y ∷ xs) x (suc k, lt, e) h = or-right (t y) (list_any t xs) (in-any t xs x (k, omega arith, e) h)

any-more : (t u : ℕ → Bool) → ((x : ℕ) → t x ≡ true → u x ≡ true) → (xs : List ℕ) → list_any t xs ≡ true → list_any u xs ≡ true
any-more t u more xs e = let y : (x : ℕ) × Contains xs x × (t x ≡ true) = any-in t xs e in in-any u xs y.0 y.1 (more y.0 y.2)

fails : Bool → ℕ
fails true = 0
fails false = 1

-- how many numbers below k fail the test
misses : (ℕ → Bool) → ℕ → ℕ
misses f zero = 0
misses f (suc k) = fails (f k) + misses f k

misses-most : (f : ℕ → Bool) (k : ℕ) → misses f k ≤ k
unfolding misses fails
misses-most f zero = omega arith
misses-most f (suc k) = most (f k) (misses-most f k)
  where
    most : (b : Bool) → misses f k ≤ k → fails b + misses f k ≤ suc k
    most true h = omega arith
    most false h = omega arith

fails-fewer : (a b : Bool) → (a ≡ true → b ≡ true) → fails b ≤ fails a
unfolding fails
fails-fewer true true h = omega arith
fails-fewer true false h = let e : false ≡ true = h refl in cc
fails-fewer false true h = omega arith
fails-fewer false false h = omega arith

misses-fewer : (f g : ℕ → Bool) → ((i : ℕ) → f i ≡ true → g i ≡ true) → (k : ℕ) → misses g k ≤ misses f k
unfolding misses
misses-fewer f g more zero = omega arith
misses-fewer f g more (suc k) = omega (arith, fails-fewer (f k) (g k) (more k), misses-fewer f g more k)

fails-grow : (a b : Bool) → (a ≡ true → b ≡ true) → (b ≡ true → a ≡ true) ⊎ (fails b < fails a)
unfolding fails
fails-grow true b h = inl (λ e. refl)
fails-grow false true h = inr (omega arith)
fails-grow false false h = inl (λ e. e)

-- a test that passes more passes the same below k, or fewer fail it
misses-grow : (f g : ℕ → Bool) → ((i : ℕ) → f i ≡ true → g i ≡ true) → (k : ℕ) → ((i : ℕ) → i < k → g i ≡ true → f i ≡ true) ⊎ (misses g k < misses f k)
unfolding misses
misses-grow f g more zero = inl (λ i lt. absurd (omega arith))
misses-grow f g more (suc k) = elim (misses-grow f g more k) [
  | inr lt ↦ inr (omega (arith, fails-fewer (f k) (g k) (more k)))
  | inl same ↦ elim (fails-grow (f k) (g k) (more k)) [
    | inr lt ↦ inr (omega (arith, misses-fewer f g more k))
    | inl at ↦ inl (below same at)
  ]
]
  where
    less-or : (a b : ℕ) → a < suc b → (a < b) ⊎ (a ≡ b)
    less-or zero zero lt = inr refl
    less-or zero (suc b) lt = inl (omega arith)
    less-or (suc a) zero lt = absurd (omega arith)
    less-or (suc a) (suc b) lt = elim (less-or a b (omega arith)) [ inl l ↦ inl (omega arith) | inr e ↦ inr (ap suc e) ]

    below : ((i : ℕ) → i < k → g i ≡ true → f i ≡ true) → (g k ≡ true → f k ≡ true) → (i : ℕ) → i < suc k → g i ≡ true → f i ≡ true
    below same at i lt = elim (less-or i k (omega arith)) [ inl l ↦ same i l | inr e ↦ subst (λ (n : ℕ). g n ≡ true → f n ≡ true) (sym e) at ]

module _ (out : Object → List ℕ) (heap : List Object) (good : ℕ → Bool) where
  -- the places from which a good one is found by at most n links
  abbrev found : ℕ → ℕ → Bool
  found n a = finds n good (next_of out heap) a

  good-found : (n a : ℕ) → good a ≡ true → found n a ≡ true
  good-found zero a h = h
  good-found (suc n) a h = or-left (good a) _ h

  found-more : (n a : ℕ) → found n a ≡ true → found (suc n) a ≡ true
  found-more zero a h = or-left (good a) _ h
  found-more (suc n) a h = elim (or-split (good a) (list_any (found n) (next_of out heap a)) h) [
    | inl g ↦ or-left (good a) _ g
    | inr l ↦ or-right (good a) _ (any-more (found n) (found (suc n)) (λ b. found-more n b) (next_of out heap a) l)
  ]

  abbrev Still : ℕ → Type 0
  Still n = (a : ℕ) → found (suc n) a ≡ true → found n a ≡ true

  still-more : (n : ℕ) → Still n → Still (suc n)
  still-more n still a h = elim (or-split (good a) (list_any (found (suc n)) (next_of out heap a)) h) [
    | inl g ↦ or-left (good a) _ g
    | inr l ↦ or-right (good a) _ (any-more (found (suc n)) (found n) still (next_of out heap a) l)
  ]

  none-past : (heap : List Object) (a : ℕ) → length heap ≤ a → slice_get heap a ≡ None
  none-past [] a le = refl
  none-past (o ∷ heap) zero le = absurd (omega arith)
  none-past (o ∷ heap) (suc a) le = none-past heap a (omega arith)

  -- what holds below the heap's end holds everywhere, since past it nothing leads on
  still-all : (n : ℕ) → ((a : ℕ) → a < length heap → found (suc n) a ≡ true → found n a ≡ true) → Still n
  still-all n still a h = elim (split a (length heap)) [
    | inl lt ↦ still a lt h
    | inr le ↦ elim (or-split (good a) (list_any (found n) (next_of out heap a)) h) [
      | inl g ↦ good-found n a g
      | inr l ↦ (let past : list_any (found n) [] ≡ true = subst (λ (o : Option Object). list_any (found n) (out_of out o) ≡ true) (none-past heap a le) l in cc)
    ]
  ]
    where
      split : (a b : ℕ) → (a < b) ⊎ (b ≤ a)
      split a zero = inr (omega arith)
      split zero (suc b) = inl (omega arith)
      split (suc a) (suc b) = elim (split a b) [ inl l ↦ inl (omega arith) | inr l ↦ inr (omega arith) ]

  -- either nothing more is found after n links, or each of so many links found something
  settles : (n : ℕ) → Still n ⊎ (suc n + misses (found (suc n)) (length heap) ≤ length heap)
  settles zero = elim (misses-grow (found 0) (found 1) (λ a. found-more 0 a) (length heap)) [
    | inl s ↦ inl (still-all 0 s)
    | inr l ↦ inr (omega (arith, misses-most (found 0) (length heap)))
  ]
  settles (suc n) = elim (settles n) [
    | inl s ↦ inl (still-more n s)
    | inr l ↦ elim (misses-grow (found (suc n)) (found (suc (suc n))) (λ a. found-more (suc n) a) (length heap)) [
      | inl s ↦ inl (still-all (suc n) s)
      | inr k ↦ inr (omega arith)
    ]
  ]

  settled : Still (length heap)
  settled = elim (settles (length heap)) [ inl s ↦ s | inr l ↦ absurd (omega arith) ]

  linked-next : (a b : ℕ) → Linked out heap a b → Contains (next_of out heap a) b
  linked-next a b l = subst (λ (o : Option Object). Contains (out_of out o) b) (sym l.found) l.listed

  next-linked : (a b : ℕ) → Contains (next_of out heap a) b → Linked out heap a b
  next-linked a b c = by (slice_get heap a) refl c
    where
      by : (o : Option Object) → slice_get heap a ≡ o → Contains (out_of out o) b → Linked out heap a b
      by None e (k, lt, q) = absurd (let no-one : k < 0 = lt in omega arith)
      by (Some o) e c = record { object = o; found = e; listed = c }

  pub finds-path : (n a : ℕ) → found n a ≡ true → (b : ℕ) × Path out heap a b × (good b ≡ true)
  finds-path zero a h = (a, here, h)
  finds-path (suc n) a h = elim (or-split (good a) (list_any (found n) (next_of out heap a)) h) [
    | inl g ↦ (a, here, g)
    | inr l ↦ (let x : (c : ℕ) × Contains (next_of out heap a) c × (found n c ≡ true) = any-in (found n) (next_of out heap a) l in
        let r : (b : ℕ) × Path out heap x.0 b × (good b ≡ true) = finds-path n x.0 x.2 in
        (r.0, along (next-linked a x.0 x.1) r.1, r.2))
  ]

  pub path-found : (a b : ℕ) → Path out heap a b → good b ≡ true → found (length heap) a ≡ true
  path-found a b here g = good-found (length heap) a g
  path-found a b (along {c = c} l p) g =
      settled a (or-right (good a) _ (in-any (found (length heap)) (next_of out heap a) c (linked-next a c l) (path-found c b p g)))

pub is_reached-says : (out : Object → List ℕ) (heap : List Object) (a b : ℕ) → (is_reached out heap a b ≡ true) ↔ Path out heap a b
is_reached-says out heap a b = (
  λ h. (let r : (c : ℕ) × Path out heap a c × ((c == b) ≡ true) = finds-path out heap (λ c. c == b) (length heap) a h in subst (λ (n : ℕ). Path out heap a n) (eqb-true r.0 b r.2) r.1),
  λ p. path-found out heap (λ c. c == b) a b p (eq-eqb b b refl),
)

-- the marks in fields, category by category
fields-say : (c : ℕ) (fields : List FieldValue) → has (field_marks fields) c ≡ list_any (λ (f : FieldValue). has (mark_of f.value) c) fields
fields-say c [] = has-none c
fields-say c (f ∷ fields) = has-union (mark_of f.value) (field_marks fields) c ∙ ap (λ (b : Bool). has (mark_of f.value) c || b) (fields-say c fields)

-- the marks of an object, category by category
pub marks-say : (c : ℕ) (o : Object) → has (object_marks o) c ≡ is_marked c o
marks-say c o = has-union o.mark (field_marks o.fields) c ∙ ap (λ (b : Bool). has o.mark c || b) (fields-say c o.fields)

-- one of the objects, whose places are k and the following, is reached from a and has a mark of the category
record MarkedFrom (c : ℕ) (heap : List Object) (a k : ℕ) (objects : List Object) : Type 0 where
  place : ℕ
  object : Object
  found : slice_get objects place ≡ Some object
  is_found : is_reached links heap a (k + place) ≡ true
  marked_there : has (object_marks object) c ≡ true

module _ (c : ℕ) (heap : List Object) (a : ℕ) where
  later-marked : (k : ℕ) (o : Object) (objects : List Object) → MarkedFrom c heap a (k + 1) objects → MarkedFrom c heap a k (o ∷ objects)
  later-marked k o objects m = record {
    place = suc m.place;
    object = m.object;
    found = m.found;
    is_found = subst (λ (n : ℕ). is_reached links heap a n ≡ true) (let e : k + 1 + m.place ≡ k + suc m.place = omega arith in e) m.is_found;
    marked_there = m.marked_there;
  }

  marked-from : (k : ℕ) (objects : List Object) → has (marks_reached heap a k objects) c ≡ true → MarkedFrom c heap a k objects
  marked-from k [] h = let no-one : has none c ≡ false = has-none c in cc
  marked-from k (o ∷ objects) h = by (is_reached links heap a k) refl h (λ r. later-marked k o objects (marked-from (k + 1) objects r))
    where
      by : (b : Bool) → is_reached links heap a k ≡ b → has (if b then union (object_marks o) (marks_reached heap a (k + 1) objects) else marks_reached heap a (k + 1) objects) c ≡ true
          → (has (marks_reached heap a (k + 1) objects) c ≡ true → MarkedFrom c heap a k (o ∷ objects)) → MarkedFrom c heap a k (o ∷ objects)
      by false e h further = further h
      by true e h further = elim (union-split (object_marks o) (marks_reached heap a (k + 1) objects) c h) [
        | inl m ↦ record {
          place = 0;
          object = o;
          found = refl;
          is_found = subst (λ (n : ℕ). is_reached links heap a n ≡ true) (let q : k ≡ k + 0 = omega arith in q) e;
          marked_there = m;
        }
        | inr r ↦ further r
      ]

  from-later : (k : ℕ) (o : Object) (objects : List Object) → has (marks_reached heap a (k + 1) objects) c ≡ true → has (marks_reached heap a k (o ∷ objects)) c ≡ true
  from-later k o objects h = by (is_reached links heap a k)
    where
      by : (b : Bool) → has (if b then union (object_marks o) (marks_reached heap a (k + 1) objects) else marks_reached heap a (k + 1) objects) c ≡ true
      by false = h
      by true = union-right (object_marks o) (marks_reached heap a (k + 1) objects) c h

  from-marked : (k : ℕ) (objects : List Object) (place : ℕ) (object : Object) → slice_get objects place ≡ Some object → is_reached links heap a (k + place) ≡ true → has (object_marks object) c ≡ true → has (marks_reached heap a k objects) c ≡ true
  from-marked k [] place x e r m = cc
  from-marked k (o ∷ objects) zero x e r m =
      let same : o ≡ x = cc in
      let here : is_reached links heap a k ≡ true = subst (λ (n : ℕ). is_reached links heap a n ≡ true) (let q : k + 0 ≡ k = omega arith in q) r in
      subst (λ (b : Bool). has (if b then union (object_marks o) (marks_reached heap a (k + 1) objects) else marks_reached heap a (k + 1) objects) c ≡ true) (sym here)
      (union-left (object_marks o) (marks_reached heap a (k + 1) objects) c (subst (λ (y : Object). has (object_marks y) c ≡ true) (sym same) m))
  from-marked k (o ∷ objects) (suc place) x e r m =
      from-later k o objects (from-marked (k + 1) objects place x e (subst (λ (n : ℕ). is_reached links heap a n ≡ true) (let q : k + suc place ≡ k + 1 + place = omega arith in q) r) m)

pub is_tainted-says : (c : ℕ) (heap : List Object) (v : Value) → (is_tainted c heap v ≡ true) ↔ IsTainted c heap v
is_tainted-says c heap (Prim mark) = (λ h. marked mark h, λ x. prim mark x)
  where
    prim : (mark : ℕ) → IsTainted c heap (Prim mark) → has mark c ≡ true
    prim mark (marked _ h) = h
is_tainted-says c heap Null = (λ h. (let no-one : has none c ≡ false = has-none c in cc), λ x. elim x [ ])
is_tainted-says c heap (Ref place) = (λ h. there (marked-from c heap place 0 heap h), λ x. back place x)
  where
    there : MarkedFrom c heap place 0 heap → IsTainted c heap (Ref place)
    there m =
        let same : 0 + m.place ≡ m.place = omega arith in
        reaches place m.place m.object ((is_reached-says links heap place m.place).0 (subst (λ (n : ℕ). is_reached links heap place n ≡ true) same m.is_found)) m.found
        (sym (marks-say c m.object) ∙ m.marked_there)

    back : (place : ℕ) → IsTainted c heap (Ref place) → has (marks_reached heap place 0 heap) c ≡ true
    back place (reaches _ a o p e m) =
        let same : a ≡ 0 + a = omega arith in
        from-marked c heap place 0 heap a o e (subst (λ (n : ℕ). is_reached links heap place n ≡ true) same ((is_reached-says links heap place a).1 p)) (marks-say c o ∙ m)
