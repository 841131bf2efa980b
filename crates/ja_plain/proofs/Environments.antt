-- Every program run: the environment's objects that are not noted are not tainted, so each call begins with nothing tainted.
use Rattle.std.proofs.Common.{◌≡◌, ◌≢◌, ℕ, zero, suc, ◌<◌, ◌≤◌, ◌||◌, ◌&&◌, ◌⊎◌, inl, inr, Bool, true, false, List, [], ◌∷◌, ◌++◌, Option, Some, None, length, refl, sym, ap, subst, arith, ◌∙◌}
use Rattle.std.specs.Prelude.{slice_get, slice_set, Contains, not, nat_lt, if◌then◌else◌}
use Rattle.std.proofs.lemmas.Bool.{cases_lt, cases_order, lt-ltb}
use Rattle.std.proofs.lemmas.Option.{slice_get_within, slice_get_past}
use Rattle.std.proofs.Math.ListN.{length-set}
use Rattle.ja_class.specs.declared.first.FirstMethod.{FirstMethod}
use Rattle.ja_plain.specs.Token as token
use Rattle.ja_plain.specs.State.{Value, Prim, Null, Ref, FieldValue, Object, Event, World, change_at, change_found, put_in_bag}
use Rattle.ja_plain.specs.Reach.{field_links, all_links, links_of, links_at, Reaches, itself, linked, object_marked, marked_at, IsTainted, tainted, reaches}
use Rattle.ja_plain.specs.Library.{absorbs_at, fits_at}
use Rattle.ja_plain.specs.Run.{Began, Outcome, Returned, Threw, Stuck, Cut, run, start}
use Rattle.ja_plain.specs.Environment.{parameter, Taking, Action, Make, CallMain, EnvironmentObject, State, Idle, Over, take_object, take_all, reaches_noted, makes, ended, may_pass, calls_with, calls_object, happens, happen, program_run, events_in}
use Rattle.ja_plain.specs.Covers.{OutcomeCovered, MayPass, null, object, IsCovered, EventsWarned}
use Rattle.ja_plain.proofs.ReachTest.{test-of, tainted-is, any-at, and-both, and-left, and-right, contains-at, at-contains}
use Rattle.ja_plain.proofs.Grown.{Closed, Grown, grown-same, grown-on, grown-end, closed-end, get-before, get-end, get-set-same, get-set-other, length-end, Inside, taint-kept}
use Rattle.ja_plain.proofs.Runs.{Stands, OutcomeOk, run-ok, start-ok}

or-false-left : (b c : Bool) → b || c ≡ false → b ≡ false
or-false-left true c e = cc
or-false-left false c e = refl

or-false-right : (b c : Bool) → b || c ≡ false → c ≡ false
or-false-right true c e = cc
or-false-right false c e = e

not-true : (b : Bool) → not b ≡ true → b ≡ false
not-true true e = cc
not-true false e = refl

true-or-false : (b : Bool) → (b ≡ true) ⊎ (b ≡ false)
true-or-false true = inl refl
true-or-false false = inr refl

contains-nil : {X : Type 0} (x : X) → Contains [] x → ⊥
contains-nil x c = absurd (omega (arith, c.1))

contains-one : {X : Type 0} (y x : X) → Contains (y ∷ []) x → x ≡ y
contains-one y x c = at (contains-at (y ∷ []) x c) where
  at : (k : ℕ) × (slice_get (y ∷ []) k ≡ Some x) → x ≡ y
  at (zero, e) = cc
  at (suc k, e) = cc

contains-append : {X : Type 0} (xs ys : List X) (x : X) → Contains (xs ++ ys) x → Contains xs x ⊎ Contains ys x
contains-append xs ys x c = by xs (contains-at (xs ++ ys) x c) where
  by : (zs : List _) → (k : ℕ) × (slice_get (zs ++ ys) k ≡ Some x) → Contains zs x ⊎ Contains ys x
  by [] (k, e) = inr (at-contains ys k x e)
  by (z ∷ zs) (zero, e) = inl (at-contains (z ∷ zs) 0 x e)
  by (z ∷ zs) (suc k, e) = elim (by zs (k, e)) [
    | inl d ↦ (let at : (j : ℕ) × (slice_get zs j ≡ Some x) = contains-at zs x d in inl (at-contains (z ∷ zs) (suc at.0) x at.1))
    | inr d ↦ inr d
  ]

contains-left : {X : Type 0} (xs ys : List X) (x : X) → Contains xs x → Contains (xs ++ ys) x
contains-left xs ys x c = by xs (contains-at xs x c) where
  by : (zs : List _) → (k : ℕ) × (slice_get zs k ≡ Some x) → Contains (zs ++ ys) x
  by [] (k, e) = cc
  by (z ∷ zs) (zero, e) = at-contains (z ∷ (zs ++ ys)) 0 x e
  by (z ∷ zs) (suc k, e) =
      let at : (j : ℕ) × (slice_get (zs ++ ys) j ≡ Some x) = contains-at (zs ++ ys) x (by zs (k, e)) in
      at-contains (z ∷ (zs ++ ys)) (suc at.0) x at.1

contains-right : {X : Type 0} (xs ys : List X) (x : X) → Contains ys x → Contains (xs ++ ys) x
contains-right [] ys x c = c
contains-right (z ∷ zs) ys x c =
    let at : (j : ℕ) × (slice_get (zs ++ ys) j ≡ Some x) = contains-at (zs ++ ys) x (contains-right zs ys x c) in
    at-contains (z ∷ (zs ++ ys)) (suc at.0) x at.1

-- an environment object, by its number
pub record Listed (objects : List EnvironmentObject) (place : ℕ) : Type 0 where
  pub number : ℕ
  pub object : EnvironmentObject
  pub found : slice_get objects number ≡ Some object
  pub is : object.place ≡ place

-- the environment's objects are in the heap, and those that are not noted are not tainted
pub record ObjectsOk (heap : List Object) (objects : List EnvironmentObject) : Type 0 where
  pub inside : (k : ℕ) (e : EnvironmentObject) → slice_get objects k ≡ Some e → e.place < length heap
  pub clean : (k : ℕ) (e : EnvironmentObject) → slice_get objects k ≡ Some e → e.noted ≡ false → tainted heap (Ref e.place) ≡ false

objects-on : (old new : List Object) → Closed old → Grown old new → (objects : List EnvironmentObject) → ObjectsOk old objects → ObjectsOk new objects
objects-on old new closed g objects ok = record {
  inside = λ k e at. omega (arith, g.room, ok.inside k e at);
  clean = λ k e at un. taint-kept old new closed g (Ref e.place) (ok.inside k e at) ∙ ok.clean k e at un;
}

-- an object that the environment made in its last action: its bag holds others of these, and environment objects
pub record NewObject (from : ℕ) (objects : List EnvironmentObject) (marked : Bool) (o : Object) : Type 0 where
  pub fields : o.fields ≡ []
  pub mark : o.mark ≡ marked
  pub bag : (b : ℕ) → Contains o.bag b → (from ≤ b) ⊎ Listed objects b

pub record NewOk (heap : List Object) (objects : List EnvironmentObject) (marked : Bool) (new : List Object) : Type 0 where
  pub grown : Grown heap new
  pub closed : Closed new
  pub made : (a : ℕ) (o : Object) → length heap ≤ a → slice_get new a ≡ Some o → NewObject (length heap) objects marked o

abbrev plain-object : token.Token → Bool → List ℕ → Object
plain-object t marked bag = record { token = t; fields = []; mark = marked; bag = bag }

abbrev with-put : List Object → ℕ → EnvironmentObject → Object → List Object
with-put new place e x = slice_set new place (put_in_bag e.place x)

module _ (heap : List Object) (objects : List EnvironmentObject) (marked : Bool) (ok : ObjectsOk heap objects) where
  -- one more object is made
  made-more : (new : List Object) (t : token.Token) (bag : List ℕ) → NewOk heap objects marked new → ((b : ℕ) → Contains bag b → (length heap ≤ b) × (b < length new)) → NewOk heap objects marked (new ++ record { token = t; fields = []; mark = marked; bag = bag } ∷ [])
  made-more new t bag n in-new = record {
    grown = grown-on heap new (new ++ plain-object t marked bag ∷ []) n.grown (grown-end new (plain-object t marked bag));
    closed = closed-end new (plain-object t marked bag) n.closed (λ b l. (in-new b l).1);
    made = each;
  } where
    each : (a : ℕ) (x : Object) → length heap ≤ a → slice_get (new ++ plain-object t marked bag ∷ []) a ≡ Some x → NewObject (length heap) objects marked x
    each a x past e =
        let by : ((a ≡ length new) ⊎ ((a < length new) ⊎ (length new < a))) → NewObject (length heap) objects marked x =
        elim [
          | inl at ↦ (
              let same : Some (plain-object t marked bag) ≡ Some x = sym (get-end new (plain-object t marked bag)) ∙ (ap (slice_get (new ++ plain-object t marked bag ∷ [])) (sym at) ∙ e) in
              let is : plain-object t marked bag ≡ x = cc in
              subst (NewObject (length heap) objects marked) is record { fields = refl; mark = refl; bag = λ b l. inl (in-new b l).0 })
          | inr q ↦ elim q [
            | inl lt ↦ n.made a x past (sym (get-before new (plain-object t marked bag) a lt) ∙ e)
            | inr gt ↦ (let none : slice_get (new ++ plain-object t marked bag ∷ []) a ≡ None = slice_get_past (new ++ plain-object t marked bag ∷ []) a (omega (arith, length-end new (plain-object t marked bag))) in cc (none, e))
          ]
        ] in
        by (cases_order a (length new))

  -- the bag of one of them takes an environment object
  put-more : (new : List Object) (place : ℕ) (x : Object) (e : EnvironmentObject) (k : ℕ) → NewOk heap objects marked new → length heap ≤ place → slice_get new place ≡ Some x → slice_get objects k ≡ Some e → NewOk heap objects marked (slice_set new place (put_in_bag e.place x))
  put-more new place x e k n past at listed = record {
    grown = record { kept = kept; room = omega (arith, n.grown.room, length-set new place (put_in_bag e.place x)) };
    closed = record { inside = inside };
    made = each;
  } where
    kept : (a : ℕ) → a < length heap → slice_get (with-put new place e x) a ≡ slice_get heap a
    kept a h = get-set-other new place a (put_in_bag e.place x) (λ q. omega arith) ∙ n.grown.kept a h

    from-links : (b : ℕ) → Contains (field_links x.fields ++ (x.bag ++ e.place ∷ [])) b → b < length (with-put new place e x)
    from-links b l =
        let old : Contains (all_links x) b → b < length (with-put new place e x) = λ c. (let P : Option Object → Type 0 = λ o. Contains (links_of all_links o) b in omega (arith, length-set new place (put_in_bag e.place x), n.closed.inside place b (subst P (sym at) c))) in
        elim (contains-append (field_links x.fields) (x.bag ++ e.place ∷ []) b l) [
          | inl c ↦ old (contains-left (field_links x.fields) x.bag b c)
          | inr c ↦ elim (contains-append x.bag (e.place ∷ []) b c) [
            | inl d ↦ old (contains-right (field_links x.fields) x.bag b d)
            | inr d ↦ (let is : b ≡ e.place = contains-one e.place b d in omega (arith, length-set new place (put_in_bag e.place x), n.grown.room, ok.inside k e listed, is))
          ]
        ]

    inside : (a b : ℕ) → Contains (links_at all_links (with-put new place e x) a) b → b < length (with-put new place e x)
    inside a b l =
        let P : Option Object → Type 0 = λ o. Contains (links_of all_links o) b in
        let by : ((a ≡ place) ⊎ ((a < place) ⊎ (place < a))) → b < length (with-put new place e x) =
        elim [
          | inl q ↦ from-links b (subst P (ap (slice_get (with-put new place e x)) q ∙ get-set-same new place (put_in_bag e.place x) (slice_get_within new place x at)) l)
          | inr o ↦ (
              let other : a ≢ place = λ q. elim o [ inl h ↦ omega arith | inr h ↦ omega arith ] in
              omega (arith, length-set new place (put_in_bag e.place x), n.closed.inside a b (subst P (get-set-other new place a (put_in_bag e.place x) other) l)))
        ] in
        by (cases_order a place)

    each : (a : ℕ) (y : Object) → length heap ≤ a → slice_get (with-put new place e x) a ≡ Some y → NewObject (length heap) objects marked y
    each a y h q =
        let by : ((a ≡ place) ⊎ ((a < place) ⊎ (place < a))) → NewObject (length heap) objects marked y =
        elim [
          | inl r ↦ (
              let same : Some (put_in_bag e.place x) ≡ Some y = sym (get-set-same new place (put_in_bag e.place x) (slice_get_within new place x at)) ∙ (ap (slice_get (with-put new place e x)) (sym r) ∙ q) in
              let is : put_in_bag e.place x ≡ y = cc in
              let before : NewObject (length heap) objects marked x = n.made place x past at in
              subst (NewObject (length heap) objects marked) is record {
                fields = before.fields;
                mark = before.mark;
                bag = λ b l. elim (contains-append x.bag (e.place ∷ []) b l) [
                  | inl c ↦ before.bag b c
                  | inr c ↦ inr record { number = k; object = e; found = listed; is = sym (contains-one e.place b c) }
                ];
              })
          | inr o ↦ (
              let other : a ≢ place = λ r. elim o [ inl g ↦ omega arith | inr g ↦ omega arith ] in
              n.made a y h (sym (get-set-other new place a (put_in_bag e.place x) other) ∙ q))
        ] in
        by (cases_order a place)

  record TakenOk (w v : World) : Type 0 where
    pub new : NewOk heap objects marked v.heap
    pub events : v.events ≡ w.events
    pub room : length w.heap ≤ length v.heap

  -- a bag takes an object, or nothing happens
  take-one : (place k : ℕ) (w : World) → NewOk heap objects marked w.heap → (o : Option EnvironmentObject) → slice_get objects k ≡ o → TakenOk w (take_object (length heap) place w o)
  take-one place k w n None listed = record { new = n; events = refl; room = omega arith }
  take-one place k w n (Some e) listed = by (not (nat_lt place (length heap)) && absorbs_at w.heap place) refl where
    put : length heap ≤ place → (o : Option Object) → slice_get w.heap place ≡ o → TakenOk w (change_found place (put_in_bag e.place) w o)
    put past None at = record { new = n; events = refl; room = omega arith }
    put past (Some x) at = record { new = put-more w.heap place x e k n past at listed; events = refl; room = omega (arith, length-set w.heap place (put_in_bag e.place x)) }

    past-from : not (nat_lt place (length heap)) ≡ true → length heap ≤ place
    past-from h =
        let go : ((place < length heap) ⊎ (length heap ≤ place)) → length heap ≤ place =
        elim [ inl lt ↦ (let yes' : nat_lt place (length heap) ≡ true = lt-ltb place (length heap) lt in let no' : nat_lt place (length heap) ≡ false = not-true (nat_lt place (length heap)) h in cc) | inr ge ↦ ge ] in
        go (cases_lt place (length heap))

    by : (b : Bool) → not (nat_lt place (length heap)) && absorbs_at w.heap place ≡ b → TakenOk w (if b then change_at place (put_in_bag e.place) w else w)
    by true h = put (past-from (and-left (not (nat_lt place (length heap))) (absorbs_at w.heap place) h)) (slice_get w.heap place) refl
    by false h = record { new = n; events = refl; room = omega arith }

  take-all : (ts : List Taking) (w : World) → NewOk heap objects marked w.heap → TakenOk w (take_all (length heap) objects ts w)
  take-all [] w n = record { new = n; events = refl; room = omega arith }
  take-all (t ∷ ts) w n =
      let one : TakenOk w (take_object (length heap) t.place w (slice_get objects t.object)) = take-one t.place t.object w n (slice_get objects t.object) refl in
      let rest : TakenOk (take_object (length heap) t.place w (slice_get objects t.object)) (take_all (length heap) objects (t ∷ ts) w) = take-all ts (take_object (length heap) t.place w (slice_get objects t.object)) one.new in
      record { new = rest.new; events = rest.events ∙ one.events; room = omega (arith, rest.room, one.room) }

  -- a noted object that a place reaches
  record ReachesNoted (new : List Object) (a : ℕ) : Type 0 where
    pub number : ℕ
    pub object : EnvironmentObject
    pub found : slice_get objects number ≡ Some object
    pub noted : object.noted ≡ true
    pub reached : Reaches all_links new a object.place

  -- where no marks are made, what is made reaches a mark only through a noted object
  blame : (new : List Object) → NewOk heap objects marked new → Closed heap → marked ≡ false → (a c : ℕ) → length heap ≤ a → Reaches all_links new a c → marked_at new c ≡ true → ReachesNoted new a
  blame new n closed unmarked a c past itself mark = absurd (by (slice_get new a) refl) where
    no-mark : (o : Object) → NewObject (length heap) objects marked o → object_marked (Some o) ≡ true → ⊥
    no-mark o x h =
        let no' : object_marked (Some o) ≡ false = rw (x.fields, x.mark) (rw unmarked refl) in
        cc

    by : (o : Option Object) → slice_get new a ≡ o → ⊥
    by None e = (let h : object_marked None ≡ true = subst (λ (y : Option Object). object_marked y ≡ true) e mark in cc)
    by (Some o) e = no-mark o (n.made a o past e) (subst (λ (y : Option Object). object_marked y ≡ true) e mark)
  blame new n closed unmarked a c past (linked {b = b} l r) mark = by (λ ge. blame new n closed unmarked b c ge r mark) (slice_get new a) refl where
    at-noted : (k : ℕ) (e : EnvironmentObject) → slice_get objects k ≡ Some e → e.place ≡ b → ReachesNoted new a
    at-noted k e found is =
        let t : IsTainted new (Ref e.place) = (c, subst (λ (y : ℕ). Reaches all_links new y c) (sym is) r, mark) in
        let now : tainted new (Ref e.place) ≡ true = (tainted-is new (Ref e.place)).1 t in
        let before : tainted heap (Ref e.place) ≡ true = sym (taint-kept heap new closed n.grown (Ref e.place) (ok.inside k e found)) ∙ now in
        let noted : e.noted ≡ true = elim (true-or-false e.noted) [ inl h ↦ h | inr h ↦ (let un : tainted heap (Ref e.place) ≡ false = ok.clean k e found h in cc) ] in
        record { number = k; object = e; found = found; noted = noted; reached = linked (subst (λ (y : ℕ). Contains (links_at all_links new a) y) (sym is) l) itself }

    through : (length heap ≤ b → ReachesNoted new b) → (o : Object) → NewObject (length heap) objects marked o → Contains (field_links o.fields ++ o.bag) b → ReachesNoted new a
    through rest o x k =
        let k' : Contains o.bag b = subst (λ (fs : List FieldValue). Contains (field_links fs ++ o.bag) b) x.fields k in
        elim (x.bag b k') [
          | inl ge ↦ (
              let q : ReachesNoted new b = rest ge in
              record { number = q.number; object = q.object; found = q.found; noted = q.noted; reached = linked l q.reached })
          | inr at ↦ at-noted at.number at.object at.found at.is
        ]

    by : (length heap ≤ b → ReachesNoted new b) → (o : Option Object) → slice_get new a ≡ o → ReachesNoted new a
    by rest None e = absurd (contains-nil b (subst (λ (y : Option Object). Contains (links_of all_links y) b) e l))
    by rest (Some o) e = through rest o (n.made a o past e) (subst (λ (y : Option Object). Contains (links_of all_links y) b) e l)

  -- a new object that is not noted is not tainted
  new-clean : (new : List Object) → NewOk heap objects marked new → Closed heap → (a : ℕ) → length heap ≤ a → marked || reaches_noted new a objects ≡ false → tainted new (Ref a) ≡ false
  new-clean new n closed a past un = elim (true-or-false (tainted new (Ref a))) [
    | inl h ↦ (
        let t : IsTainted new (Ref a) = (tainted-is new (Ref a)).0 h in
        let q : ReachesNoted new a = blame new n closed (or-false-left marked (reaches_noted new a objects) un) a t.0 past t.1 t.2 in
        let p : EnvironmentObject → Bool = λ e. e.noted && reaches all_links new a e.place in
        let yes' : reaches_noted new a objects ≡ true = any-at p objects q.number q.object q.found (and-both q.object.noted (reaches all_links new a q.object.place) q.noted (test-of all_links new a q.object.place q.reached)) in
        let no' : reaches_noted new a objects ≡ false = or-false-right marked (reaches_noted new a objects) un in
        cc)
    | inr h ↦ h
  ]

  -- what was made is one more object of the environment
  with-new : (new : List Object) → NewOk heap objects marked new → Closed heap → (a : ℕ) → length heap ≤ a → a < length new → ObjectsOk new (objects ++ record { place = a; noted = marked || reaches_noted new a objects } ∷ [])
  with-new new n closed a past room = record { inside = inside; clean = clean } where
    old : ObjectsOk new objects
    old = objects-on heap new closed n.grown objects ok

    which : (k : ℕ) (e : EnvironmentObject) → slice_get (objects ++ record { place = a; noted = marked || reaches_noted new a objects } ∷ []) k ≡ Some e → (slice_get objects k ≡ Some e) ⊎ (record { place = a; noted = marked || reaches_noted new a objects } ≡ e)
    which k e at =
        let last : EnvironmentObject = record { place = a; noted = marked || reaches_noted new a objects } in
        let by : ((k ≡ length objects) ⊎ ((k < length objects) ⊎ (length objects < k))) → (slice_get objects k ≡ Some e) ⊎ (record { place = a; noted = marked || reaches_noted new a objects } ≡ e) =
        elim [
          | inl q ↦ (let same : Some last ≡ Some e = sym (get-end objects last) ∙ (ap (slice_get (objects ++ last ∷ [])) (sym q) ∙ at) in inr cc)
          | inr o ↦ elim o [
            | inl lt ↦ inl (sym (get-before objects last k lt) ∙ at)
            | inr gt ↦ (let none : slice_get (objects ++ last ∷ []) k ≡ None = slice_get_past (objects ++ last ∷ []) k (omega (arith, length-end objects last)) in cc (none, at))
          ]
        ] in
        by (cases_order k (length objects))

    inside : (k : ℕ) (e : EnvironmentObject) → slice_get (objects ++ record { place = a; noted = marked || reaches_noted new a objects } ∷ []) k ≡ Some e → e.place < length new
    inside k e at = elim (which k e at) [
      | inl q ↦ (objects-on heap new closed n.grown objects ok).inside k e q
      | inr q ↦ subst (λ (x : EnvironmentObject). x.place < length new) q room
    ]

    clean : (k : ℕ) (e : EnvironmentObject) → slice_get (objects ++ record { place = a; noted = marked || reaches_noted new a objects } ∷ []) k ≡ Some e → e.noted ≡ false → tainted new (Ref e.place) ≡ false
    clean k e at un = elim (which k e at) [
      | inl q ↦ (objects-on heap new closed n.grown objects ok).clean k e q un
      | inr q ↦ (
          let is : EnvironmentObject → Type 0 = λ x. x.noted ≡ false → tainted new (Ref x.place) ≡ false in
          subst is q (new-clean new n closed a past) un)
    ]

module _ (m : FirstMethod) where
  record IdleOk (heap : List Object) (objects : List EnvironmentObject) (events : List Event) : Type 0 where
    pub closed : Closed heap
    pub objects-ok : ObjectsOk heap objects
    pub events-ok : EventsWarned m events

  abbrev StateOk : State → Type 0
  StateOk (Idle heap objects events) = IdleOk heap objects events
  StateOk (Over frames w) = Stands m frames w

  makes-ok : (heap : List Object) (objects : List EnvironmentObject) (events : List Event) → IdleOk heap objects events → (marked : Bool) (ts : List Taking) (choices : List ℕ) → StateOk (makes heap objects events marked ts choices)
  makes-ok heap objects events ok marked ts choices =
      let text : Object = plain-object token.Text marked [] in
      let array : Object = plain-object token.ReferenceArray marked (length heap ∷ []) in
      let heap1 : List Object = heap ++ text ∷ [] in
      let w2 : World = record { heap = heap1 ++ array ∷ []; choices = choices; events = events } in
      let none : NewOk heap objects marked heap = record { grown = grown-same heap; closed = ok.closed; made = λ a o past e. (let past' : slice_get heap a ≡ None = slice_get_past heap a past in cc (past', e)) } in
      let one : NewOk heap objects marked heap1 = made-more heap objects marked ok.objects-ok heap token.Text [] none (λ b l. absurd (contains-nil b l)) in
      let two : NewOk heap objects marked w2.heap = made-more heap objects marked ok.objects-ok heap1 token.ReferenceArray (length heap ∷ []) one (λ b l. (let is : b ≡ length heap = contains-one (length heap) b l in (omega (arith, is), omega (arith, is, length-end heap text)))) in
      let last : World = take_all (length heap) objects ts w2 in
      let taken : TakenOk heap objects marked ok.objects-ok w2 last = take-all heap objects marked ok.objects-ok ts w2 two in
      record {
        closed = taken.new.closed;
        objects-ok = with-new heap objects marked ok.objects-ok last.heap taken.new ok.closed (length heap1) (omega (arith, length-end heap text)) (omega (arith, taken.room, length-end heap1 array));
        events-ok = subst (EventsWarned m) (sym taken.events) ok.events-ok;
      }

  -- the value of an argument is in the heap and not tainted
  record Passed (heap : List Object) (v : Value) : Type 0 where
    pub inside : Inside heap v
    pub clean : tainted heap v ≡ false

  passed : (heap : List Object) (objects : List EnvironmentObject) (k : ℕ) (e : EnvironmentObject) → ObjectsOk heap objects → slice_get objects k ≡ Some e → may_pass heap e ≡ true → Passed heap (Ref e.place)
  passed heap objects k e ok at may =
      let un : e.noted ≡ false = not-true e.noted (and-right (fits_at heap parameter e.place) (not e.noted) may) in
      record { inside = ok.inside k e at; clean = ok.clean k e at un }

  call-ok : (heap : List Object) (objects : List EnvironmentObject) (events : List Event) → IdleOk heap objects events → (bound : ℕ) (choices : List ℕ) (v : Value) → Passed heap v → OutcomeOk m (record { arguments = v ∷ []; heap = heap }) (record { heap = heap; choices = choices; events = events }) (run m bound (start m (v ∷ []) heap) (record { heap = heap; choices = choices; events = events }))
  call-ok heap objects events ok bound choices v p =
      run-ok m bound (start m (v ∷ []) heap) (record { heap = heap; choices = choices; events = events }) (start-ok m v heap p.inside p.clean) ok.closed ok.events-ok

  ended-ok : (heap : List Object) (objects : List EnvironmentObject) → Closed heap → ObjectsOk heap objects → (began : Began) (choices : List ℕ) (events : List Event) (o : Outcome) → OutcomeOk m began (record { heap = heap; choices = choices; events = events }) o → StateOk (ended objects o)
  ended-ok heap objects closed ok began choices events (Returned value d w left) f = record { closed = f.closed; objects-ok = objects-on heap w.heap closed f.grown objects ok; events-ok = f.events }
  ended-ok heap objects closed ok began choices events (Threw place d w left) f = record { closed = f.closed; objects-ok = objects-on heap w.heap closed f.grown objects ok; events-ok = f.events }
  ended-ok heap objects closed ok began choices events (Stuck frames w) f = f
  ended-ok heap objects closed ok began choices events (Cut frames w) f = f

  calls-ok : (heap : List Object) (objects : List EnvironmentObject) (events : List Event) → IdleOk heap objects events → (bound : ℕ) (choices : List ℕ) (v : Value) → Passed heap v → StateOk (calls_with m heap objects events bound choices v)
  calls-ok heap objects events ok bound choices v p =
      ended-ok heap objects ok.closed ok.objects-ok (record { arguments = v ∷ []; heap = heap }) choices events _ (call-ok heap objects events ok bound choices v p)

  object-ok : (heap : List Object) (objects : List EnvironmentObject) (events : List Event) → IdleOk heap objects events → (bound k : ℕ) (choices : List ℕ) (o : Option EnvironmentObject) → slice_get objects k ≡ o → StateOk (calls_object m heap objects events bound choices o)
  object-ok heap objects events ok bound k choices None at = ok
  object-ok heap objects events ok bound k choices (Some e) at = by (may_pass heap e) refl where
    by : (b : Bool) → may_pass heap e ≡ b → StateOk (if b then calls_with m heap objects events bound choices (Ref e.place) else Idle heap objects events)
    by true may = calls-ok heap objects events ok bound choices (Ref e.place) (passed heap objects k e ok.objects-ok at may)
    by false may = ok

  null-passed : (heap : List Object) → Passed heap Null
  null-passed heap = record { inside = tt; clean = refl }

  happens-ok : (s : State) (a : Action) → StateOk s → StateOk (happens m s a)
  happens-ok (Over frames w) a ok = ok
  happens-ok (Idle heap objects events) (Make marked ts choices) ok = makes-ok heap objects events ok marked ts choices
  happens-ok (Idle heap objects events) (CallMain None bound choices) ok = calls-ok heap objects events ok bound choices Null (null-passed heap)
  happens-ok (Idle heap objects events) (CallMain (Some k) bound choices) ok = object-ok heap objects events ok bound k choices (slice_get objects k) refl

  happen-ok : (actions : List Action) (s : State) → StateOk s → StateOk (happen m s actions)
  happen-ok [] s ok = ok
  happen-ok (a ∷ rest) s ok = happen-ok rest (happens m s a) (happens-ok s a ok)

  program-ok : (actions : List Action) → StateOk (program_run m actions)
  program-ok actions = happen-ok actions (Idle [] [] []) record {
    closed = record { inside = λ a b l. absurd (contains-nil b l) };
    objects-ok = record { inside = λ k e at. cc; clean = λ k e at un. cc };
    events-ok = tt;
  }

  outcome-covered : (began : Began) (w : World) (o : Outcome) → OutcomeOk m began w o → OutcomeCovered m began o
  outcome-covered began w (Returned value d v left) f = f.holds
  outcome-covered began w (Threw place d v left) f = f.holds
  outcome-covered began w (Stuck frames v) f = f.covered
  outcome-covered began w (Cut frames v) f = f.covered

  may-passed : (heap : List Object) (objects : List EnvironmentObject) → ObjectsOk heap objects → (v : Value) → MayPass heap objects v → Passed heap v
  may-passed heap objects ok v null = null-passed heap
  may-passed heap objects ok v (object k e at may) = passed heap objects k e ok at may

  state-covered : (s : State) → StateOk s → IsCovered m s
  state-covered (Idle heap objects events) ok = λ v bound choices may.
      outcome-covered (record { arguments = v ∷ []; heap = heap }) (record { heap = heap; choices = choices; events = events }) _ (call-ok heap objects events ok bound choices v (may-passed heap objects ok.objects-ok v may))
  state-covered (Over frames w) ok = ok.covered

  state-warned : (s : State) → StateOk s → EventsWarned m (events_in s)
  state-warned (Idle heap objects events) ok = ok.events-ok
  state-warned (Over frames w) ok = ok.events

  pub covered : (actions : List Action) → IsCovered m (program_run m actions)
  covered actions = state-covered (program_run m actions) (program-ok actions)

  pub warned : (actions : List Action) → EventsWarned m (events_in (program_run m actions))
  warned actions = state-warned (program_run m actions) (program-ok actions)
