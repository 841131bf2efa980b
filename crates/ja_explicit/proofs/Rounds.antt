-- What a round over the facts of a table keeps, and that a table is closed after a round in which nothing came.
use Rattle.std.proofs.Common.{◌≡◌, ◌⊎◌, inl, inr, ℕ, zero, suc, ◌+◌, ◌<◌, ◌≤◌, Bool, true, false, ◌||◌, List, [], ◌∷◌, Some, None, length, get_or, refl, sym, ap, subst, ◌∙◌, arith}
use Rattle.std.specs.Prelude.{Contains, slice_get}
use Rattle.std.proofs.lemmas.Bool.{false≢true, cases_lt}
use Rattle.std.proofs.lemmas.Option.{same_Some, slice_get_within, slice_get-get_or, get_or_from_slice_get}
use Rattle.ja_ir.specs.declared.program.Parts.{Parts}
use Rattle.ja_facts.specs.declared.facts.Facts.{Facts}
use Rattle.ja_explicit.specs.declared.item.Item.{Item}
use Rattle.ja_explicit.specs.InnerSteps.{follows}
use Rattle.ja_explicit.specs.InnerStarts.{enters_each}
use Rattle.ja_explicit.specs.InnerRounds.{AreAllIn, AreSettledBelow, IsClosed}
use Rattle.ja_explicit.proofs.Looping.{drop_none}

-- an item at a place is listed
pub listed_at : (items : List Item) (k : ℕ) (x : Item) → slice_get items k ≡ Some x → Contains items x
listed_at items k x e = (k, slice_get_within items k x e, get_or_from_slice_get items k x x e)

pub both_false : (a b : Bool) → (a || b) ≡ false → (a ≡ false) × (b ≡ false)
both_false true b e = absurd (false≢true (sym e))
both_false false b e = (refl, e)

-- past the end
pub none_past : {A : Type 0} (xs : List A) (k : ℕ) → slice_get xs k ≡ None → length xs ≤ k
none_past [] k e = omega arith
none_past (x ∷ xs) zero e = absurd (cc e)
none_past (x ∷ xs) (suc k) e = let h = none_past xs k e in omega (arith, h)

module _ (p : Parts) (f : Facts) (first now : List Item) where
  module _ (new : List Item) (was came : Bool) (k : ℕ) (item : Item) (at : slice_get now k ≡ Some item) (idle : was ≡ false → now ≡ first) (settled : was ≡ false → AreSettledBelow p f first k)
      (stays : came ≡ false → new ≡ now) (follow : came ≡ false → AreAllIn now (follows p f now item)) where
    pub idle_more : (was || came) ≡ false → new ≡ first
    idle_more e = let b = both_false was came e in stays b.1 ∙ idle b.0

    pub settled_more : (was || came) ≡ false → AreSettledBelow p f first (k + 1)
    settled_more e j x lt at' = elim (cases_lt j k) [
      | inl low ↦ settled b.0 j x low at'
      | inr high ↦ (
          let same : j ≡ k = omega (arith, lt, high) in
          let is : item ≡ x = same_Some item x (sym at ∙ ap (λ xs. slice_get xs k) (idle b.0) ∙ ap (slice_get first) (sym same) ∙ at') in
          subst (λ y. AreAllIn first (follows p f first y)) is (subst (λ xs. AreAllIn xs (follows p f xs item)) (idle b.0) (follow b.1)))
    ]
      where
        b : (was ≡ false) × (came ≡ false)
        b = both_false was came e

  pub closed_after : (k : ℕ) → slice_get now k ≡ None → now ≡ first → AreSettledBelow p f first k → AreAllIn first (enters_each p f first p.entries) → IsClosed p f now
  closed_after k none same settled started = subst (IsClosed p f) (sym same) (record { starts = started; each = each })
    where
      each : (x : Item) → Contains first x → AreAllIn first (follows p f first x)
      each x h =
          let long = none_past first k (ap (λ xs. slice_get xs k) (sym same) ∙ none) in
          settled h.0 x (let lt = h.1 in omega (arith, lt, long)) (slice_get-get_or first h.0 x h.1 ∙ ap Some h.2)
