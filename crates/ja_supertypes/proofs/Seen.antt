-- Names that were met before.
use Rattle.std.proofs.Common.{◌≡◌, ℕ, zero, suc, ◌<◌, ◌≤◌, inl, inr, true, false, List, [], ◌∷◌, length, take, refl, sym, ap, ◌∙◌, arith}
use Rattle.std.specs.Prelude.{Some, None, bytes_eq, slice_get}
use Rattle.std.specs.List.{list_any}
use Rattle.std.proofs.lemmas.Bool.{or_cases, or_left, or_right}
use Rattle.std.proofs.lemmas.Option.{slice_get_past}
use Rattle.std.proofs.lemmas.Slice.Eq.{bytes_eq-Decides}
use Rattle.ja_ir.specs.declared.head.ClassHead.{ClassHead}
use Rattle.ja_supertypes.specs.Faults.{IsDuplicate}
use Rattle.ja_supertypes.specs.Supertypes.{names_of}

-- an earlier class of a name
record Earlier (heads : List ClassHead) (n : ℕ) (name : List ℕ) : Type 0 where
  pub b : ℕ
  pub earlier : b < n
  pub other : ClassHead
  pub found : slice_get heads b ≡ Some other
  pub same : name ≡ other.name

met : (name : List ℕ) (heads : List ClassHead) (n : ℕ) → list_any (bytes_eq name) (names_of (take n heads)) ≡ true → Earlier heads n name
met name heads zero e = absurd (cc e)
met name [] (suc n) e = absurd (cc e)
met name (h ∷ hs) (suc n) e =
    elim (or_cases (bytes_eq name h.name) (list_any (bytes_eq name) (names_of (take n hs))) e) [
      | inl here ↦ record { b = 0; earlier = omega arith; other = h; found = refl; same = (bytes_eq-Decides name h.name).0 here }
      | inr later ↦
          let r : Earlier hs n name = met name hs n later in
          record { b = suc r.b; earlier = omega (arith, r.earlier); other = r.other; found = r.found; same = r.same }
    ]

is-met : (name : List ℕ) (heads : List ClassHead) (n b : ℕ) (other : ClassHead) → b < n → slice_get heads b ≡ Some other → name ≡ other.name
    → list_any (bytes_eq name) (names_of (take n heads)) ≡ true
is-met name heads zero b other lt e same = absurd (omega arith)
is-met name [] (suc n) b other lt e same = absurd (cc e)
is-met name (h ∷ hs) (suc n) zero other lt e same =
    let here : h ≡ other = cc in
    or_left (bytes_eq name h.name) (list_any (bytes_eq name) (names_of (take n hs))) ((bytes_eq-Decides name h.name).1 (same ∙ ap (λ (head : ClassHead). head.name) (sym here)))
is-met name (h ∷ hs) (suc n) (suc b) other lt e same =
    or_right (bytes_eq name h.name) (list_any (bytes_eq name) (names_of (take n hs))) (is-met name hs n b other (omega arith) e same)

-- the name of the class was there before
pub met-duplicate : (heads : List ClassHead) (n : ℕ) (head : ClassHead) → slice_get heads n ≡ Some head → list_any (bytes_eq head.name) (names_of (take n heads)) ≡ true → IsDuplicate heads n
met-duplicate heads n head found e =
    let r : Earlier heads n head.name = met head.name heads n e in
    record { b = r.b; earlier = r.earlier; head = head; found = found; other = r.other; found_other = r.found; same = sym r.same }

-- the name of the class was not there before
pub new-distinct : (heads : List ClassHead) (n : ℕ) (head : ClassHead) → slice_get heads n ≡ Some head → list_any (bytes_eq head.name) (names_of (take n heads)) ≡ false → IsDuplicate heads n → ⊥
new-distinct heads n head found e d =
    let same : head ≡ d.head = let eq : Some head ≡ Some d.head = sym found ∙ d.found in cc eq in
    let yes : list_any (bytes_eq head.name) (names_of (take n heads)) ≡ true =
    is-met head.name heads n d.b d.other d.earlier d.found_other (ap (λ (h : ClassHead). h.name) same ∙ sym d.same) in
    cc (yes, e)

-- a duplicate is one of the list
pub duplicate-inside : (heads : List ClassHead) (n : ℕ) → length heads ≤ n → IsDuplicate heads n → ⊥
duplicate-inside heads n past d =
    let none : slice_get heads n ≡ None = slice_get_past heads n past in
    let found : slice_get heads n ≡ Some d.head = d.found in
    cc (none, found)
