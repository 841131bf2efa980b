-- A value is tainted exactly where some object that was seen is marked.
use Rattle.std.proofs.Common.{◌≡◌, ℕ, zero, suc, ◌<◌, inl, inr, Bool, true, false, ◌&&◌, List, [], ◌∷◌, length, refl, ◌∙◌, ap, arith}
use Rattle.std.specs.Prelude.{◌↔◌, IsTrue, Some, slice_get}
use Rattle.ja_machine.specs.declared.heap.Value.TheVariants.{Prim, Ref}
use Rattle.ja_machine.specs.declared.heap.Object.{Object}
use Rattle.ja_machine.specs.Marks.{has as has_mark}
use Rattle.ja_machine.specs.Reach.{is_marked, IsTainted, marked, reaches}
use Rattle.ja_machine.specs.InnerSearch.{Tells, is_any_marked}
use Rattle.ja_machine.proofs.Marks.{or-left, or-right, or-split}
use Rattle.ja_machine.proofs.Meets.{has}
use Rattle.ja_machine.proofs.Explores.{has-inside}

-- a marked object at a place whose flag is set
pub record MarkedAt (c : ℕ) (heap : List Object) (flags : List Bool) (k : ℕ) : Type 0 where
  pub object : Object
  pub found : slice_get heap k ≡ Some object
  pub is_seen : has flags k ≡ true
  pub is_marked_there : is_marked c object ≡ true

and-both : (a b : Bool) → a ≡ true → b ≡ true → (a && b) ≡ true
and-both true b e f = f
and-both false b e f = cc

and-left : (a b : Bool) → (a && b) ≡ true → a ≡ true
and-left true b e = refl
and-left false b e = e

and-right : (a b : Bool) → (a && b) ≡ true → b ≡ true
and-right true b e = e
and-right false b e = cc

later : (c : ℕ) (o : Object) (heap : List Object) (f : Bool) (flags : List Bool) → (k : ℕ) × MarkedAt c heap flags k → (k : ℕ) × MarkedAt c (o ∷ heap) (f ∷ flags) k
later c o heap f flags (k, m) = (suc k, record { object = m.object; found = m.found; is_seen = m.is_seen; is_marked_there = m.is_marked_there })

any-marked : (c : ℕ) (heap : List Object) (flags : List Bool) → is_any_marked c heap flags ≡ true → (k : ℕ) × MarkedAt c heap flags k
any-marked c [] flags e = cc
any-marked c (o ∷ heap) [] e = cc
any-marked c (o ∷ heap) (f ∷ flags) e = elim (or-split (f && is_marked c o) (is_any_marked c heap flags) e) [
  | inl h ↦ (0, record { object = o; found = refl; is_seen = and-left f (is_marked c o) h; is_marked_there = and-right f (is_marked c o) h })
  | inr h ↦ later c o heap f flags (any-marked c heap flags h)
]

marked-any : (c : ℕ) (heap : List Object) (flags : List Bool) (k : ℕ) → MarkedAt c heap flags k → is_any_marked c heap flags ≡ true
marked-any c [] flags k m = let f : _ = m.found in cc
marked-any c (o ∷ heap) [] k m = let f : _ = m.is_seen in cc
marked-any c (o ∷ heap) (f ∷ flags) zero m =
    let same : o ≡ m.object = (let e : Some o ≡ Some m.object = m.found in cc) in
    or-left (f && is_marked c o) (is_any_marked c heap flags) (and-both f (is_marked c o) m.is_seen (ap (is_marked c) same ∙ m.is_marked_there))
marked-any c (o ∷ heap) (f ∷ flags) (suc k) m =
    or-right (f && is_marked c o) (is_any_marked c heap flags) (marked-any c heap flags k (record { object = m.object; found = m.found; is_seen = m.is_seen; is_marked_there = m.is_marked_there }))

pub prim-says : (c : ℕ) (heap : List Object) (mark : ℕ) → IsTrue (has_mark mark c) ↔ IsTainted c heap (Prim mark)
prim-says c heap mark = (λ h. marked mark h, λ x. back mark x)
  where
    back : (mark : ℕ) → IsTainted c heap (Prim mark) → has_mark mark c ≡ true
    back mark (marked _ h) = h

get-below : (heap : List Object) (k : ℕ) (o : Object) → slice_get heap k ≡ Some o → k < length heap
get-below [] k x e = cc
get-below (y ∷ heap) zero x e = omega arith
get-below (y ∷ heap) (suc k) x e = omega (arith, get-below heap k x e)

pub reference-says : (c : ℕ) (heap : List Object) (place : ℕ) (flags : List Bool) → length flags ≡ length heap → Tells heap place flags → IsTrue (is_any_marked c heap flags) ↔ IsTainted c heap (Ref place)
reference-says c heap place flags size t = (λ h. there (any-marked c heap flags h), λ x. back place x t)
  where
    there : (k : ℕ) × MarkedAt c heap flags k → IsTainted c heap (Ref place)
    there (k, m) = reaches place k m.object ((t k (omega (arith, size, has-inside flags k m.is_seen))).0 m.is_seen) m.found m.is_marked_there

    back : (place : ℕ) → IsTainted c heap (Ref place) → Tells heap place flags → IsTrue (is_any_marked c heap flags)
    back place (reaches _ a o p e m) t = (marked-any c heap flags a (record { object = o; found = e; is_seen = (t a (get-below heap a o e)).1 p; is_marked_there = m }))
