-- Lists whose elements are related, each to the one at its place in the other list.
use Rattle.std.proofs.Common.{◌≡◌, inl, inr, ℕ, zero, suc, ◌+◌, Bool, List, [], ◌∷◌, length, map, cond, refl, ap, subst}
use Rattle.std.specs.Prelude.{Option, Some, None, Contains, slice_get}
use Rattle.std.specs.List.{position_from}
use Rattle.ja_facts.proofs.Membership.{in_first, in_rest, split_item, no_item}

pub data Alike {X : Type 0} (R : X → X → Type 0) : List X → List X → Type 0 where
  nil : Alike R [] []
  cons : {x y : X} {xs ys : List X} → R x y → Alike R xs ys → Alike R (x ∷ xs) (y ∷ ys)

-- both are there and related, or none is
pub data AlikeOption {X : Type 0} (R : X → X → Type 0) : Option X → Option X → Type 0 where
  neither : AlikeOption R None None
  both : {x y : X} → R x y → AlikeOption R (Some x) (Some y)

-- an element that is related to x
pub record Related {X : Type 0} (R : X → X → Type 0) (x : X) (Has : X → Type 0) : Type 0 where
  pub other : X
  pub related : R x other
  pub has : Has other

module _ {X : Type 0} (R : X → X → Type 0) where
  pub turned : ((x y : X) → R x y → R y x) → (xs ys : List X) → Alike R xs ys → Alike R ys xs
  turned turn _ _ nil = nil
  turned turn _ _ (cons {x = x} {y = y} {xs = xs} {ys = ys} r rest) = cons (turn x y r) (turned turn xs ys rest)

  pub mapped : (f : X → X) → ((x : X) → R x (f x)) → (xs : List X) → Alike R xs (map f xs)
  mapped f each [] = nil
  mapped f each (x ∷ xs) = cons (each x) (mapped f each xs)

  pub same_length : (xs ys : List X) → Alike R xs ys → length ys ≡ length xs
  same_length _ _ nil = refl
  same_length _ _ (cons {xs = xs} {ys = ys} r rest) = ap suc (same_length xs ys rest)

  pub at : (xs ys : List X) → Alike R xs ys → (i : ℕ) → AlikeOption R (slice_get xs i) (slice_get ys i)
  at _ _ nil i = neither
  at _ _ (cons r rest) zero = both r
  at _ _ (cons {xs = xs} {ys = ys} r rest) (suc i) = at xs ys rest i

  some : (o u : Option X) (x : X) → AlikeOption R o u → o ≡ Some x → Related R x (λ y. u ≡ Some y)
  some _ _ x neither e = absurd (cc e)
  some _ _ x (both {x = z} {y = y} r) e =
      let same : z ≡ x = cc e in
      record { other = y; related = subst (λ (w : X). R w y) same r; has = refl }

  pub found : (xs ys : List X) → Alike R xs ys → (i : ℕ) (x : X) → slice_get xs i ≡ Some x → Related R x (λ y. slice_get ys i ≡ Some y)
  found xs ys alike i x e = some (slice_get xs i) (slice_get ys i) x (at xs ys alike i) e

  pub listed : (xs ys : List X) → Alike R xs ys → (x : X) → Contains xs x → Related R x (λ y. Contains ys y)
  listed _ _ nil x c = absurd (no_item x c)
  listed _ _ (cons {x = z} {y = y} {xs = xs} {ys = ys} r rest) x c = elim (split_item z x xs c) [
    | inl e ↦ record { other = y; related = subst (λ (v : X). R v y) e r; has = in_first y ys }
    | inr d ↦
        let it = listed xs ys rest x d in
        record { other = it.other; related = it.related; has = in_rest y it.other ys it.has }
  ]

  -- a test that does not tell related elements apart passes at the same place first
  pub same_position : (test : X → Bool) → ((x y : X) → R x y → test y ≡ test x) → (i : ℕ) (xs ys : List X) → Alike R xs ys
      → position_from test i ys ≡ position_from test i xs
  same_position test same i _ _ nil = refl
  same_position test same i _ _ (cons {x = x} {y = y} {xs = xs} {ys = ys} r rest) =
      let here = same x y r in
      let further = same_position test same (i + 1) xs ys rest in
      λ d. cond (here d) (Some i) (further d)
