use Rattle.std.proofs.Common.{◌≡◌, ℕ, ◌+◌, ◌<◌, ◌⊎◌, inl, inr, ⊎_elim, true, false, sym, ap, ◌∙◌, subst, arith, List, ◌++◌, ◌∷◌, [], get_or, length}
use Rattle.std.specs.Prelude.{Some, slice_get}
use Rattle.std.proofs.lemmas.Bool.{cases_eq}
use Rattle.std.proofs.lemmas.Option.{get_or_from_slice_get, slice_get-get_or}
use Rattle.ja_work.specs.declared.clause.Clause.{Clause}
use Rattle.ja_steps.specs.Inner.{place_if, is_listed, AreNeeded}
use Rattle.ja_steps.proofs.Moving.{listed_more, listed_new}
use Rattle.ja_steps.proofs.Needing.{needed_none, needed_more}
use Rattle.ja_steps.proofs.make.sources_of.Goals as goal
use Rattle.ja_steps.proofs.make.sources_of.Goals.{in-Some+in_ok-push, in_default}

-- the item before some place, and that at it
split : (list : List Clause) (n j : ℕ) (d clause : Clause) → j < n + 1 → slice_get list j ≡ Some clause → (j < n) ⊎ ((j ≡ n) × (clause ≡ get_or list n d))
split list n j d clause lt at = ⊎_elim (λ e. inr (e, sym (get_or_from_slice_get list j clause d at) ∙ ap (λ k. get_or list k d) e)) (λ ne. inl (omega (arith, ne, lt))) (cases_eq j n)

same_some : (a b : ℕ) → Some a ≡ Some b → a ≡ b
same_some a b e = cc e

pub loop-place-init : goal.loop-place-init
loop-place-init c = record { all = λ j q clause lt. absurd (omega (arith, lt)); needed = subst (AreNeeded c.args.frame.now c.args.clauses.now) (sym c.new-sources.ensures.items) (needed_none c.args.frame.now c.args.clauses.now) }

pub loop-place-preserved : goal.loop-place-preserved
loop-place-preserved c =
    let n = c.loop-place.place in
    let list = c.args.clauses.now in
    let frame = c.args.frame.now in
    let old = c.loop-place.invariant in
    let test = c.loop-place-test.true in
    let within : n < length list = (let count = c.requires in let size = c.size-place-end.ensures.size in omega (arith, test, count, size)) in
    elim c.match-new_source.branch [
      | in-Some+in_ok-push w ↦
          let source = w.in-Some.source in
          let now = ap (λ v. v.items) w.sources-is ∙ w.in_ok-push.ensures.items in
          let is = w.in-Some.ensures in
          record {
            all = λ j q clause lt at there.
                let answer = λ (e : is_listed (c.loop-place.sources.items ++ source ∷ []) q ≡ true). subst (λ xs. is_listed xs q ≡ true) (sym now) e in
                ⊎_elim
                (λ before. ⊎_elim inl (λ e. inr (answer (listed_more c.loop-place.sources.items source q e))) (old.all j q clause before at there))
                (λ here.
                let same = same_some q source (sym there ∙ ap (λ (x : Clause). place_if frame x.one) here.1 ∙ is.0) in
                inr (answer (subst (λ x. is_listed (c.loop-place.sources.items ++ source ∷ []) x ≡ true) (sym same) (listed_new c.loop-place.sources.items source))))
                (split list n j _ clause lt at);
            needed = subst (AreNeeded frame list) (sym now) (needed_more frame list c.loop-place.sources.items source old.needed
                (record { from = n; clause = _; there = slice_get-get_or list n _ within; one = is.0; other = is.1 })
                (subst (λ xs. is_listed xs source ≡ false) c.deref.ensures.value is.2));
          }
      | in_default w ↦
          record {
            all = λ j q clause lt at there.
                let answer = λ (e : is_listed c.loop-place.sources.items q ≡ true). subst (λ v. is_listed v.items q ≡ true) (sym w.sources-is) e in
                ⊎_elim
                (λ before. ⊎_elim inl (λ e. inr (answer e)) (old.all j q clause before at there))
                (λ here. ⊎_elim (λ e. inl (e ∙ sym here.0)) (λ e. inr (answer (subst (λ xs. is_listed xs q ≡ true) c.deref.ensures.value e)))
                (w.in_default.ensures q (ap (λ (x : Clause). place_if frame x.one) (sym here.1) ∙ there)))
                (split list n j _ clause lt at);
            needed = subst (λ v. AreNeeded frame list v.items) (sym w.sources-is) old.needed;
          }
    ]
