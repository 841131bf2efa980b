-- A heap to which objects were added: what was there reaches the same, and is as tainted as before.
use Rattle.std.proofs.Common.{◌≡◌, ◌≢◌, ℕ, zero, suc, ◌+◌, ◌<◌, ◌≤◌, ◌⊎◌, inl, inr, Bool, true, false, List, [], ◌∷◌, ◌++◌, Option, Some, None, length, refl, sym, ap, subst, arith, ◌∙◌, length-append}
use Rattle.std.specs.Prelude.{slice_get, slice_set, Contains}
use Rattle.std.proofs.lemmas.Option.{slice_get_past}
use Rattle.std.proofs.lemmas.Bool.{cases_order}
use Rattle.ja_plain.specs.State.{Value, Prim, Null, Ref, Object}
use Rattle.ja_plain.specs.Reach.{links_at, links_of, all_links, Reaches, itself, linked, object_marked, marked_at, IsTainted, tainted}
use Rattle.ja_plain.proofs.ReachTest.{tainted-is}

-- every link leads to an object
pub record Closed (heap : List Object) : Type 0 where
  pub inside : (a b : ℕ) → Contains (links_at all_links heap a) b → b < length heap

-- each object of the first heap stands in the second as it was
pub record Grown (old new : List Object) : Type 0 where
  pub kept : (a : ℕ) → a < length old → slice_get new a ≡ slice_get old a
  pub room : length old ≤ length new

pub grown-same : (heap : List Object) → Grown heap heap
grown-same heap = record { kept = λ a h. refl; room = omega arith }

pub grown-on : (a b c : List Object) → Grown a b → Grown b c → Grown a c
grown-on a b c g h = record { kept = λ r in-a. h.kept r (omega (arith, g.room)) ∙ g.kept r in-a; room = omega (arith, g.room, h.room) }

pub get-before : {X : Type 0} (xs : List X) (y : X) (k : ℕ) → k < length xs → slice_get (xs ++ y ∷ []) k ≡ slice_get xs k
get-before [] y k h = absurd (omega arith)
get-before (x ∷ xs) y zero h = refl
get-before (x ∷ xs) y (suc k) h = get-before xs y k (omega arith)

pub get-end : {X : Type 0} (xs : List X) (y : X) → slice_get (xs ++ y ∷ []) (length xs) ≡ Some y
get-end [] y = refl
get-end (x ∷ xs) y = get-end xs y

pub get-set-same : {X : Type 0} (xs : List X) (n : ℕ) (v : X) → n < length xs → slice_get (slice_set xs n v) n ≡ Some v
get-set-same [] n v h = absurd (omega arith)
get-set-same (x ∷ xs) zero v h = refl
get-set-same (x ∷ xs) (suc n) v h = get-set-same xs n v (omega arith)

pub get-set-other : {X : Type 0} (xs : List X) (n k : ℕ) (v : X) → k ≢ n → slice_get (slice_set xs n v) k ≡ slice_get xs k
get-set-other [] n k v h = refl
get-set-other (x ∷ xs) zero zero v h = absurd (h refl)
get-set-other (x ∷ xs) zero (suc k) v h = refl
get-set-other (x ∷ xs) (suc n) zero v h = refl
get-set-other (x ∷ xs) (suc n) (suc k) v h = get-set-other xs n k v (λ e. h (ap suc e))

pub length-end : {X : Type 0} (xs : List X) (y : X) → length (xs ++ y ∷ []) ≡ length xs + 1
length-end xs y = length-append xs (y ∷ [])

pub grown-end : (heap : List Object) (o : Object) → Grown heap (heap ++ o ∷ [])
grown-end heap o = record { kept = λ a h. get-before heap o a h; room = omega (arith, length-end heap o) }

-- the links of an old place
same-links : (old new : List Object) → Grown old new → (a : ℕ) → a < length old → links_at all_links new a ≡ links_at all_links old a
same-links old new g a h = ap (links_of all_links) (g.kept a h)

same-marks : (old new : List Object) → Grown old new → (a : ℕ) → a < length old → marked_at new a ≡ marked_at old a
same-marks old new g a h = ap object_marked (g.kept a h)

-- from an old place only old ones are reached, by the same links
pub record Reached (old : List Object) (a c : ℕ) : Type 0 where
  pub before : Reaches all_links old a c
  pub inside : c < length old

pub reached-before : (old new : List Object) → Closed old → Grown old new → (a c : ℕ) → a < length old → Reaches all_links new a c → Reached old a c
reached-before old new k g a c h itself = record { before = itself; inside = h }
reached-before old new k g a c h (linked {b = b} l r) =
    let l' : Contains (links_at all_links old a) b = subst (λ (xs : List ℕ). Contains xs b) (same-links old new g a h) l in
    let rest : Reached old b c = reached-before old new k g b c (k.inside a b l') r in
    record { before = linked l' rest.before; inside = rest.inside }

pub reached-after : (old new : List Object) → Closed old → Grown old new → (a c : ℕ) → a < length old → Reaches all_links old a c → Reaches all_links new a c
reached-after old new k g a c h itself = itself
reached-after old new k g a c h (linked {b = b} l r) =
    linked (subst (λ (xs : List ℕ). Contains xs b) (sym (same-links old new g a h)) l) (reached-after old new k g b c (k.inside a b l) r)

-- a value is in the heap: a reference is to an object
abbrev pub Inside : List Object → Value → Type 0
Inside heap (Prim mark) = Unit {0}
Inside heap Null = Unit {0}
Inside heap (Ref a) = a < length heap

pub inside-on : (old new : List Object) → Grown old new → (v : Value) → Inside old v → Inside new v
inside-on old new g (Prim mark) i = tt
inside-on old new g Null i = tt
inside-on old new g (Ref a) i = omega (arith, g.room, i)

pub tainted-before : (old new : List Object) → Closed old → Grown old new → (v : Value) → Inside old v → IsTainted new v → IsTainted old v
tainted-before old new k g (Prim mark) i t = t
tainted-before old new k g Null i t = t
tainted-before old new k g (Ref a) i t =
    let r : Reached old a t.0 = reached-before old new k g a t.0 i t.1 in
    (t.0, r.before, sym (same-marks old new g t.0 r.inside) ∙ t.2)

pub tainted-after : (old new : List Object) → Closed old → Grown old new → (v : Value) → Inside old v → IsTainted old v → IsTainted new v
tainted-after old new k g (Prim mark) i t = t
tainted-after old new k g Null i t = t
tainted-after old new k g (Ref a) i t =
    let r : Reached old a t.0 = reached-before old old k (grown-same old) a t.0 i t.1 in
    (t.0, reached-after old new k g a t.0 i t.1, same-marks old new g t.0 r.inside ∙ t.2)

pub same-tests : (b c : Bool) → (b ≡ true → c ≡ true) → (c ≡ true → b ≡ true) → b ≡ c
same-tests true true f g = refl
same-tests true false f g = sym (f refl)
same-tests false true f g = g refl
same-tests false false f g = refl

pub taint-kept : (old new : List Object) → Closed old → Grown old new → (v : Value) → Inside old v → tainted new v ≡ tainted old v
taint-kept old new k g v i =
    same-tests (tainted new v) (tainted old v)
    (λ h. (tainted-is old v).1 (tainted-before old new k g v i ((tainted-is new v).0 h)))
    (λ h. (tainted-is new v).1 (tainted-after old new k g v i ((tainted-is old v).0 h)))

-- a new object without fields, whose bag holds old objects, keeps the heap closed
pub closed-end : (heap : List Object) (o : Object) → Closed heap → ((b : ℕ) → Contains (all_links o) b → b < length heap) → Closed (heap ++ o ∷ [])
closed-end heap o k links = record { inside = go } where
  in-old : (a b : ℕ) → a < length heap → Contains (links_at all_links (heap ++ o ∷ []) a) b → b < length (heap ++ o ∷ [])
  in-old a b h l = omega (arith, length-end heap o, k.inside a b (subst (λ (xs : List ℕ). Contains xs b) (same-links heap (heap ++ o ∷ []) (grown-end heap o) a h) l))

  at-end : (b : ℕ) → Contains (links_at all_links (heap ++ o ∷ []) (length heap)) b → b < length (heap ++ o ∷ [])
  at-end b l =
      let P : Option Object → Type 0 = λ x. Contains (links_of all_links x) b in
      omega (arith, length-end heap o, links b (subst P (get-end heap o) l))

  past : (a b : ℕ) → length heap < a → Contains (links_at all_links (heap ++ o ∷ []) a) b → b < length (heap ++ o ∷ [])
  past a b h l =
      let none : slice_get (heap ++ o ∷ []) a ≡ None = slice_get_past (heap ++ o ∷ []) a (omega (arith, length-end heap o)) in
      let P : Option Object → Type 0 = λ x. Contains (links_of all_links x) b in
      let m : Contains [] b = subst P none l in
      absurd (omega (arith, m.1))

  go : (a b : ℕ) → Contains (links_at all_links (heap ++ o ∷ []) a) b → b < length (heap ++ o ∷ [])
  go a b l =
      let by : ((a ≡ length heap) ⊎ ((a < length heap) ⊎ (length heap < a))) → b < length (heap ++ o ∷ []) =
      elim [
        | inl e ↦ at-end b (subst (λ (x : ℕ). Contains (links_at all_links (heap ++ o ∷ []) x) b) e l)
        | inr q ↦ elim q [ inl lt ↦ in-old a b lt l | inr gt ↦ past a b gt l ]
      ] in
      by (cases_order a (length heap))

-- a new object without fields and bag is tainted exactly if it has the mark
pub taint-new : (heap : List Object) (o : Object) → all_links o ≡ [] → object_marked (Some o) ≡ false → tainted (heap ++ o ∷ []) (Ref (length heap)) ≡ false
taint-new heap o none unmarked =
    same-tests (tainted (heap ++ o ∷ []) (Ref (length heap))) false
    (λ h. absurd (not-tainted ((tainted-is (heap ++ o ∷ []) (Ref (length heap))).0 h)))
    (λ h. cc) where
      from : (a c : ℕ) → a ≡ length heap → Reaches all_links (heap ++ o ∷ []) a c → c ≡ length heap
      from a c e itself = e
      from a c e (linked {b = b} l r) =
          let at : slice_get (heap ++ o ∷ []) a ≡ Some o = rw e (get-end heap o) in
          let P : Option Object → Type 0 = λ x. Contains (links_of all_links x) b in
          let m : Contains (all_links o) b = subst P at l in
          let n : Contains [] b = subst (λ (xs : List ℕ). Contains xs b) none m in
          absurd (omega (arith, n.1))

      not-tainted : IsTainted (heap ++ o ∷ []) (Ref (length heap)) → ⊥
      not-tainted t =
          let e : t.0 ≡ length heap = from (length heap) t.0 refl t.1 in
          let at : slice_get (heap ++ o ∷ []) t.0 ≡ Some o = rw e (get-end heap o) in
          let yes' : object_marked (Some o) ≡ true = subst (λ (x : Option Object). object_marked x ≡ true) at t.2 in
          let no' : false ≡ true = sym unmarked ∙ yes' in
          cc
