-- What a table has after facts were added.
use Rattle.std.proofs.Common.{◌≡◌, ◌⊎◌, ◌↔◌, inl, inr, ℕ, ◌+◌, ◌<◌, Bool, true, false, ◌||◌, List, [], ◌∷◌, ◌++◌, length, take, get_or, refl, sym, ap, subst, ◌∙◌}
use Rattle.std.specs.Prelude.{Contains, if◌then◌else◌}
use Rattle.std.proofs.lemmas.Bool.{false≢true}
use Rattle.std.proofs.lemmas.List.{take_more}
use Rattle.std.proofs.lemmas.List.Elements.{Contains-append_left, Contains-push, Contains-push_cases}
use Rattle.ja_explicit.specs.declared.item.Item.{Item}
use Rattle.ja_explicit.specs.InnerSteps.{has}
use Rattle.ja_ir.specs.declared.program.Parts.{Parts}
use Rattle.ja_facts.specs.declared.facts.Facts.{Facts}
use Rattle.ja_explicit.specs.InnerRounds.{IsTold, IsSound, AreAllIn}
use Rattle.ja_explicit.proofs.Same.{has_item}

module _ (old mid new items : List Item) (k : ℕ) (item : Item) (flag : Bool) (lt : k < length items) (is : item ≡ get_or items k item) (grows : new ≡ (if flag then mid ++ item ∷ [] else mid)) (there : has new item ≡ true)
    (before : (x : Item) → Contains mid x ↔ (Contains old x ⊎ Contains (take k items) x)) where
  more : take (k + 1) items ≡ take k items ++ item ∷ []
  more = take_more items k item lt ∙ ap (λ y. take k items ++ y ∷ []) (sym is)

  kept : (x : Item) → Contains mid x → Contains new x
  kept x h = subst (λ ys. Contains ys x) (sym grows) (go flag)
    where
      go : (b : Bool) → Contains (if b then mid ++ item ∷ [] else mid) x
      go true = Contains-append_left mid (item ∷ []) x h
      go false = h

  came : (x : Item) → Contains new x → Contains mid x ⊎ (item ≡ x)
  came x h = go flag (subst (λ ys. Contains ys x) grows h)
    where
      go : (b : Bool) → Contains (if b then mid ++ item ∷ [] else mid) x → Contains mid x ⊎ (item ≡ x)
      go true g = Contains-push_cases mid item x g
      go false g = inl g

  pub added : (x : Item) → Contains new x ↔ (Contains old x ⊎ Contains (take (k + 1) items) x)
  added x = (
    λ h. elim (came x h) [
      | inl m ↦ (elim ((before x).0 m) [ inl o ↦ inl o | inr t ↦ inr (subst (λ ys. Contains ys x) (sym more) (Contains-append_left (take k items) (item ∷ []) x t)) ])
      | inr e ↦ inr (subst (λ ys. Contains ys x) (sym more) (subst (λ y. Contains (take k items ++ item ∷ []) y) e (Contains-push (take k items) item)))
    ],
    λ h. elim h [
      | inl o ↦ kept x ((before x).1 (inl o))
      | inr t ↦ (elim (Contains-push_cases (take k items) item x (subst (λ ys. Contains ys x) more t)) [ inl q ↦ kept x ((before x).1 (inr q)) | inr e ↦ subst (λ y. Contains new y) e (has_item new item there) ])
    ],
  )

  pub nothing_new : (was : Bool) → (was ≡ false → mid ≡ old) → (was || flag) ≡ false → new ≡ old
  nothing_new true h e = absurd (false≢true (sym e))
  nothing_new false h e = grows ∙ ap (λ b. if b then mid ++ item ∷ [] else mid) e ∙ h refl

-- facts that are all in the least solution stay so where such are added
pub sound_more : (p : Parts) (f : Facts) (old new more : List Item) → IsSound p f old → ((x : Item) → Contains more x → IsTold p f x) → ((x : Item) → Contains new x ↔ (Contains old x ⊎ Contains more x)) → IsSound p f new
sound_more p f old new more sound told members x h = elim ((members x).0 h) [ inl o ↦ sound x o | inr m ↦ told x m ]

-- where nothing came, what was added was there
pub all_added : (old new more : List Item) → new ≡ old → ((x : Item) → Contains new x ↔ (Contains old x ⊎ Contains more x)) → AreAllIn old more
all_added old new more same members x h = subst (λ ys. Contains ys x) same ((members x).1 (inr h))
