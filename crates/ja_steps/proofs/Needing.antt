-- Places that clauses look at, each listed once, and ends for which there is no rule.
use Rattle.std.proofs.Common.{◌≡◌, ◌≢◌, ℕ, ◌<◌, Bool, true, false, refl, sym, ap, ◌∙◌, subst, arith, List, [], ◌∷◌, ◌++◌, length, inl, inr, ⊎_elim}
use Rattle.std.specs.Prelude.{Option, Some, None, slice_get, slice_index, nat_eq, if◌then◌else◌}
use Rattle.std.proofs.lemmas.Bool.{cases_lt, eq-eqb}
use Rattle.std.proofs.lemmas.List.{length_push, get_or_push, get_or_append_left}
use Rattle.std.proofs.lemmas.Option.{slice_get_within}
use Rattle.std.proofs.lemmas.List.Folds.{list_any_at}
use Rattle.ja_work.specs.declared.clause.Spot.{Spot}
use Rattle.ja_work.specs.declared.clause.Clause.{Clause}
use Rattle.ja_work.specs.declared.frame.Frame.{Frame}
use Rattle.ja_work.specs.Frames.{number, size, spot_at, is_inside}
use Rattle.ja_steps.specs.declared.make.Range.{Range}
use Rattle.ja_steps.specs.Wide.{IsLookedAt, IsWide, many, mixed}
use Rattle.ja_steps.specs.Inner.{place_if, is_listed, AreClauses, IsNeeded, AreNeeded, IsRange, LacksRange}

pub needed_none : (frame : Frame) (list : List Clause) → AreNeeded frame list []
needed_none frame list = record { each = λ k lt. absurd (omega (arith, lt)); once = λ k l lt within. absurd (omega (arith, within)) }

pub needed_more : (frame : Frame) (list : List Clause) (sources : List ℕ) (q : ℕ) → AreNeeded frame list sources → IsNeeded frame list q → is_listed sources q ≡ false → AreNeeded frame list (sources ++ q ∷ [])
needed_more frame list sources q old new unlisted = record { each = each; once = once }
  where
    before : (k : ℕ) → k < length sources → slice_index (sources ++ q ∷ []) k ≡ slice_index sources k
    before k lt = get_or_append_left sources (q ∷ []) 0 k lt

    last : (k : ℕ) → length sources ≡ k → slice_index (sources ++ q ∷ []) k ≡ q
    last k e = get_or_push sources q 0 k e

    each : (k : ℕ) → k < length (sources ++ q ∷ []) → IsNeeded frame list (slice_index (sources ++ q ∷ []) k)
    each k lt = ⊎_elim (λ below. subst (IsNeeded frame list) (sym (before k below)) (old.each k below))
        (λ above. subst (IsNeeded frame list) (sym (last k (let count = length_push sources q in omega (arith, above, count, lt)))) new) (cases_lt k (length sources))

    -- what is new is none of those before
    apart : (k : ℕ) → k < length sources → slice_index sources k ≢ q
    apart k lt e = let clash : true ≡ false = sym (list_any_at (λ x. nat_eq x q) sources k 0 lt (eq-eqb (slice_index sources k) q e)) ∙ unlisted in cc clash

    once : (k l : ℕ) → k < l → l < length (sources ++ q ∷ []) → slice_index (sources ++ q ∷ []) k ≢ slice_index (sources ++ q ∷ []) l
    once k l lt within e =
        let count = length_push sources q in
        let low : k < length sources = omega (arith, lt, within, count) in
        ⊎_elim
        (λ below. old.once k l lt below (sym (before k low) ∙ e ∙ before l below))
        (λ above. apart k low (sym (before k low) ∙ e ∙ last l (omega (arith, above, count, within))))
        (cases_lt l (length sources))

module _ (frame : Frame) (clauses : Spot → Clause) (list : List Clause) (are : AreClauses frame clauses list) where
  clause_is : (j : ℕ) (clause : Clause) → slice_get list j ≡ Some clause → (j < size frame) × (clause ≡ clauses (spot_at frame j))
  clause_is j clause there = (let count = are.counted in let lt = slice_get_within list j clause there in omega (arith, count, lt), are.each j clause there)

  -- a needed place is looked at
  looked_at : (q : ℕ) → IsNeeded frame list q → IsLookedAt frame clauses q
  looked_at q needed = by_one needed.clause.one refl
    where
      at : (needed.from < size frame) × (needed.clause ≡ clauses (spot_at frame needed.from))
      at = clause_is needed.from needed.clause needed.there

      some_same : (a b : ℕ) → Some a ≡ Some b → a ≡ b
      some_same a b e = cc e

      by_inside : (s : Spot) (c : Bool) → is_inside frame s ≡ c → needed.clause.one ≡ Some s → (if c then Some (slice_index frame.places (number frame s)) else None) ≡ Some q → IsLookedAt frame clauses q
      by_inside s true here one e = record { from = needed.from; within = at.0; spot = s; one = ap (λ (x : Clause). x.one) (sym at.1) ∙ one; inside = here; at = some_same (slice_index frame.places (number frame s)) q e; other = needed.other }
      by_inside s false out one e = absurd (cc e)

      by_one : (o : Option Spot) → needed.clause.one ≡ o → IsLookedAt frame clauses q
      by_one None one = let clash : None ≡ Some q = ap (place_if frame) (sym one) ∙ needed.one in absurd (cc clash)
      by_one (Some s) one = by_inside s (is_inside frame s) refl one (ap (place_if frame) (sym one) ∙ needed.one)

  pub wide_many : (sources : List ℕ) → 4 < length sources → AreNeeded frame list sources → IsWide frame clauses
  wide_many sources more needed = many sources more needed.once (λ k lt. looked_at (slice_index sources k) (needed.each k lt))

  pub wide_mixed : (range : Range) → IsRange range list → LacksRange range list → IsWide frame clauses
  wide_mixed range (inl none_there) (j, clause, there, some, differ) = absurd (some (none_there j clause there))
  wide_mixed range (inr (i, first, first_there, first_some, same_first, same_count)) (j, clause, there, some, differ) =
      let a = clause_is i first first_there in
      let b = clause_is j clause there in
      mixed i j a.0 b.0 (λ e. first_some (ap (λ (x : Clause). x.count) a.1 ∙ e)) (λ e. some (ap (λ (x : Clause). x.count) b.1 ∙ e))
      (λ e f. differ (ap (λ (x : Clause). x.first) b.1 ∙ sym e ∙ ap (λ (x : Clause). x.first) (sym a.1) ∙ same_first) (ap (λ (x : Clause). x.count) b.1 ∙ sym f ∙ ap (λ (x : Clause). x.count) (sym a.1) ∙ same_count))
