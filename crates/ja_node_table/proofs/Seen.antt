-- What a seat knows once it has seen a word.
use Rattle.std.proofs.Common.{◌≡◌, ◌≢◌, ◌⊎◌, ℕ, ◌<◌, max, [], ◌∷◌, ◌++◌, refl, sym, ap, ◌∙◌, subst, inl, inr, ⊎_elim, arith}
use mathlib.Core.Logic.{dite}
use native.Mathlib.Decide.{ℕ_discrete, dec_lt}
use Rattle.ja_node_core.specs.Tree.{Tree}
use Rattle.ja_node_core.specs.Node.{Words, IsPart}
use Rattle.ja_node_core.specs.Machine.{Known, word_at, learned, AllStand}
use Rattle.ja_node_core.proofs.Known.{at_more, at_both, learned_cases, stands_part, stands_each}
use Rattle.ja_node_table.specs.declared.view.View.{View}
use Rattle.ja_node_table.specs.Rule.{with_both, IsPartOf, HasSeen}

-- what stands at a place, once it was seen there
pub learned_here : (at : Words) (known : Known) (p : ℕ) → AllStand at known → word_at (learned known p (at p)) p ≡ at p
learned_here at known p all = step (dec_lt 0 (word_at known p)) (learned_cases known p (at p)) (at_more known p (at p) p)
  where
    part : 0 < word_at known p → at p ≡ word_at known p
    part = stands_part at known all p

    step : Dec (0 < word_at known p) → ((at p ≡ 0) × (learned known p (at p) ≡ known)) ⊎ ((0 < at p) × (learned known p (at p) ≡ (p, at p) ∷ known))
        → ((p ≡ p) × (word_at ((p, at p) ∷ known) p ≡ max (at p) (word_at known p))) ⊎ ((p ≢ p) × (word_at ((p, at p) ∷ known) p ≡ word_at known p))
        → word_at (learned known p (at p)) p ≡ at p
    step (yes pos) (inl t) m = ap (λ k. word_at k p) t.1 ∙ sym (part pos)
    step (no none) (inl t) m = ap (λ k. word_at k p) t.1 ∙ (let empty = t.0 in omega arith)
    step (yes pos) (inr t) (inl more) = ap (λ k. word_at k p) t.1 ∙ more.1 ∙ (let same = part pos in omega arith)
    step (no none) (inr t) (inl more) = ap (λ k. word_at k p) t.1 ∙ more.1 ∙ omega arith
    step d (inr t) (inr off) = absurd (off.0 refl)

-- what was known before stands where all stands that is known now
pub stands_before : (at : Words) (known : Known) (p w : ℕ) → AllStand at (learned known p w) → AllStand at known
stands_before at known p w all = ⊎_elim
    (λ t. subst (AllStand at) t.1 all)
    (λ t. (let now : AllStand at ((p, w) ∷ known) = subst (AllStand at) t.1 all in now).2)
    (learned_cases known p w)

-- elsewhere nothing was learned
pub learned_other : (known : Known) (p w q : ℕ) → q ≢ p → word_at (learned known p w) q ≡ word_at known q
learned_other known p w q ne = ⊎_elim
    (λ t. ap (λ k. word_at k q) t.1)
    (λ t. ap (λ k. word_at k q) t.1 ∙ ⊎_elim (λ more. absurd (ne more.0)) (λ off. off.1) (at_more known p w q))
    (learned_cases known p w)

-- each of two parts of one whole is part of what both know together
pub both_grow : (at : Words) (xs ys : Known) → AllStand at (xs ++ ys) → IsPart (word_at xs) (word_at (xs ++ ys)) × IsPart (word_at ys) (word_at (xs ++ ys))
both_grow at xs ys all = (λ q pos. left q pos (dec_lt 0 (word_at ys q)), λ q pos. right q pos (dec_lt 0 (word_at xs q)))
  where
    each : AllStand at xs × AllStand at ys
    each = stands_each at xs ys all

    left : (q : ℕ) → 0 < word_at xs q → Dec (0 < word_at ys q) → word_at (xs ++ ys) q ≡ word_at xs q
    left q pos (yes also) = let a = stands_part at xs each.0 q pos in let b = stands_part at ys each.1 q also in let e = at_both xs ys q in omega arith
    left q pos (no none) = let e = at_both xs ys q in omega arith

    right : (q : ℕ) → 0 < word_at ys q → Dec (0 < word_at xs q) → word_at (xs ++ ys) q ≡ word_at ys q
    right q pos (yes also) = let a = stands_part at xs each.0 q also in let b = stands_part at ys each.1 q pos in let e = at_both xs ys q in omega arith
    right q pos (no none) = let e = at_both xs ys q in omega arith

-- what was known is known
pub learned_grows : (at : Words) (known : Known) (p w : ℕ) → AllStand at (learned known p w) → IsPart (word_at known) (word_at (learned known p w))
learned_grows at known p w all = ⊎_elim
    (λ t. subst (λ k. IsPart (word_at known) (word_at k)) (sym t.1) (λ q pos. refl))
    (λ t. subst (λ k. IsPart (word_at known) (word_at k)) (sym t.1) (both_grow at ((p, w) ∷ []) known (subst (AllStand at) t.1 all)).1)
    (learned_cases known p w)

module _ {A : Type 0} (aims : A → Tree → Type 0) (before after : View A) (p w : ℕ) (has : HasSeen aims before p w after) where
  pub seen_plan : after.plan ≡ before.plan
  seen_plan = ap (λ v. v.plan) has.is

  -- elsewhere nothing has changed
  seen_other : (q : ℕ) → q ≢ p → word_at after.known q ≡ word_at before.known q
  seen_other q ne = ap (λ v. word_at v.known q) has.is ∙ learned_other before.known p w q ne

  -- where the word was known, nothing has changed
  pub seen_same : word_at before.known p ≡ w → (q : ℕ) → word_at after.known q ≡ word_at before.known q
  seen_same e q = dite (ℕ_discrete q p) (λ same. subst (λ r. word_at after.known r ≡ word_at before.known r) (sym same) (has.here ∙ sym e)) (seen_other q)

  -- what was known is known
  pub seen_grows : IsPart (word_at before.known) (word_at after.known)
  seen_grows =
      let part = has.view.2 in
      subst (λ v. IsPart (word_at before.known) (word_at v.known)) (sym has.is)
      (learned_grows part.words before.known p w (subst (λ v. AllStand part.words v.known) has.is part.stands))

-- a seat that another was joined to, once it has looked at place 0, knows what both knew
module _ {A : Type 0} (aims : A → Tree → Type 0) (v u both after : View A) (w : ℕ) (is : both ≡ with_both v u) (has : HasSeen aims both 0 w after) where
  part : IsPartOf aims has.view.0 after.known
  part = has.view.2

  all : AllStand part.words (v.known ++ u.known)
  all =
      let known : after.known ≡ learned (v.known ++ u.known) 0 w = ap (λ z. z.known) has.is ∙ ap (λ z. learned z.known 0 w) is in
      stands_before part.words (v.known ++ u.known) 0 w (subst (AllStand part.words) known part.stands)

  -- no word stands at place 0
  empty : (known : Known) → AllStand part.words known → word_at known 0 ≡ 0
  empty known stands = step (dec_lt 0 (word_at known 0))
    where
      step : Dec (0 < word_at known 0) → word_at known 0 ≡ 0
      step (yes pos) = sym (stands_part part.words known stands 0 pos) ∙ part.canonical.constants.0
      step (no none) = omega arith

  pub joined_same : (p : ℕ) → word_at after.known p ≡ word_at (v.known ++ u.known) p
  joined_same p =
      let at_zero : word_at both.known 0 ≡ w = ap (λ z. word_at z.known 0) is ∙ empty (v.known ++ u.known) all ∙ sym (empty after.known part.stands) ∙ has.here in
      seen_same aims both after 0 w has at_zero p ∙ ap (λ z. word_at z.known p) is

  pub joined_max : (p : ℕ) → word_at after.known p ≡ max (word_at v.known p) (word_at u.known p)
  joined_max p = joined_same p ∙ at_both v.known u.known p

  pub joined_grows : IsPart (word_at v.known) (word_at after.known) × IsPart (word_at u.known) (word_at after.known)
  joined_grows = let each = both_grow part.words v.known u.known all in ((λ p pos. joined_same p ∙ each.0 p pos), (λ p pos. joined_same p ∙ each.1 p pos))
