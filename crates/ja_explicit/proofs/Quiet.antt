-- Outside the frame the clauses of each end make nothing true.
use Rattle.std.proofs.Common.{◌≡◌, ◌⊎◌, inl, inr, ℕ, zero, suc, ◌+◌, ◌-◌, ◌<◌, ◌≤◌, Bool, true, false, List, Some, None, refl, sym, ap, subst, ◌∙◌, arith}
use Rattle.std.specs.Prelude.{◌&&◌, ◌||◌, nat_lt, nat_eq, slice_get, if◌then◌else◌}
use Rattle.std.proofs.Math.Bool.{and-false}
use Rattle.std.proofs.lemmas.Bool.{and_parts, false≢true, eqb-true, ne_eqb, ltb-true, ltb-false, le-ltb, cases_Bool}
use Rattle.ja_ir.specs.declared.program.Parts.{Parts}
use Rattle.ja_ir.specs.declared.method.Method.{Method}
use Rattle.ja_ir.specs.declared.row.RowEffect.{RowEffect}
use Rattle.ja_ir.specs.declared.row.RowEffect.TheVariants.{Quiet as NoEffect, Absorb, Blend}
use Rattle.ja_ir.specs.declared.op.Op.{Op}
use Rattle.ja_ir.specs.declared.op.Op.TheVariants.{Store, ArrStore, PutField, Call}
use Rattle.ja_ir.specs.declared.op.CallOp.{CallOp}
use Rattle.ja_ir.specs.Operations.{arguments, pops, height_after, has_receiver, UsesLocals}
use Rattle.ja_facts.specs.declared.facts.Facts.{Facts}
use Rattle.ja_facts.specs.FactTables.{slot_count}
use Rattle.ja_facts.specs.Slots.{Slot, Local as InLocal, OnStack as InStack, argument}
use Rattle.ja_facts.specs.Formulas.{Assignment, Summary, any_below}
use Rattle.ja_work.specs.declared.clause.Spot.{Spot}
use Rattle.ja_work.specs.declared.clause.Spot.TheVariants.{Local, OnStack, Dirt, Exc}
use Rattle.ja_work.specs.declared.clause.Clause.{Clause}
use Rattle.ja_work.specs.declared.way.Way.{Way}
use Rattle.ja_work.specs.declared.way.Way.TheVariants.{Clean, Thrown, InLibrary}
use Rattle.ja_work.specs.Clauses.{value, spot_of, fits, moved, never, constant}
use Rattle.ja_work.specs.Ends.{Tests, meets_by, taking, changed, local_after, pushed, stacked_after, normal_clauses, library_local, exceptional_clauses, affected_after, returned_stack, return_clauses, throw_clauses, caught_clauses}
use Rattle.ja_work.specs.Told.{number_of, has_numbers, has_slots, has_statics, set_at, tests_of, affected_of, changes_param, changes_statics}
use Rattle.ja_work.proofs.Fitting.{moved_fits, fits_moved, constant_fits, fits_constant}
use Rattle.ja_explicit.specs.InnerWords.{says}
use Rattle.ja_explicit.proofs.Worded.{is_inside, none_outside, value_outside, IsQuiet}

-- what is not true is false
pub is_false : (c : Bool) → (c ≡ true → ⊥) → c ≡ false
is_false true h = absurd (h refl)
is_false false h = refl

pub none_below : (test : ℕ → Bool) (n : ℕ) → ((k : ℕ) → test k ≡ false) → any_below test n ≡ false
none_below test zero h = refl
none_below test (suc n) h = ap (λ c. c || test n) (none_below test n h) ∙ h n

-- a clause that keeps its spot, or makes it false
abbrev pub IsIdle : Spot → Clause → Type 0
IsIdle s c = (c ≡ moved s) ⊎ (c ≡ never)

module _ (method : Method) where
  -- outside the frame each clause is such a one
  abbrev pub AreIdle : (Spot → Clause) → Type 0
  AreIdle clauses = (s : Spot) → is_inside method s ≡ false → IsIdle s (clauses s)

  pub idle_quiet : (clauses : Spot → Clause) (w : ℕ) → AreIdle clauses → IsQuiet method clauses (says method w)
  idle_quiet clauses w idle s e = elim (idle s e) [
    | inl m ↦ subst (λ c. (fits c (says method w) false ≡ true) × (fits c (says method w) true ≡ false)) (sym m)
        (moved_fits (says method w) s false (sym (value_outside method w s e)), is_false (fits (moved s) (says method w) true) (λ f. false≢true (sym (value_outside method w s e) ∙ sym (fits_moved (says method w) s true f))))
    | inr n ↦ subst (λ c. (fits c (says method w) false ≡ true) × (fits c (says method w) true ≡ false)) (sym n)
        (constant_fits false (says method w) false refl, is_false (fits never (says method w) true) (λ f. false≢true (sym (fits_constant false (says method w) true f))))
  ]

-- clauses that make all false outside a frame, whatever was before
pub never_quiet : (to : Method) (clauses : Spot → Clause) (b : Assignment) → ((s : Spot) → is_inside to s ≡ false → clauses s ≡ never) → IsQuiet to clauses b
never_quiet to clauses b h s e =
    subst (λ c. (fits c b false ≡ true) × (fits c b true ≡ false)) (sym (h s e))
    (constant_fits false b false refl, is_false (fits never b true) (λ f. false≢true (sym (fits_constant false b true f))))

module _ (p : Parts) (f : Facts) (m i : ℕ) (method : Method) (found : slice_get p.methods m ≡ Some method) where
  -- what lies outside the frame meets nothing
  no_slots : (set : List (List Bool)) (y x : Slot) → is_inside method (spot_of y) ≡ false → has_slots (slice_get p.methods m) set y x ≡ false
  no_slots set y x e = ap (λ o. has_slots o set y x) found ∙ ap (λ o. has_numbers set o (number_of method x)) (none_outside method y e)

  no_reach : (y x : Slot) → is_inside method (spot_of y) ≡ false → (tests_of p f m i).reaches y x ≡ false
  no_reach y x e = no_slots (set_at f.reach m i) y x e

  no_share : (y x : Slot) → is_inside method (spot_of y) ≡ false → (tests_of p f m i).shares y x ≡ false
  no_share y x e = no_slots (set_at f.pairs m i) y x e

  no_meet : (effect : RowEffect) (call : CallOp) (under : ℕ) (y : Slot) → is_inside method (spot_of y) ≡ false → meets_by effect (tests_of p f m i) call under y ≡ false
  no_meet NoEffect call under y e = refl
  no_meet Absorb call under y e = ap (λ c. has_receiver call.kind && c) (no_share y (argument under 0) e) ∙ and-false (has_receiver call.kind)
  no_meet Blend call under y e = none_below (λ k. (tests_of p f m i).shares y (argument under k)) (arguments call) (λ k. no_share y (argument under k) e)

  no_affect : (n count under : ℕ) (y : Slot) → is_inside method (spot_of y) ≡ false → affected_of p f m i n count under y ≡ false
  no_affect n count under y e =
      ap (λ c. c || (changes_statics (slice_get p.methods n) f.effects n && has_statics (slice_get p.methods m) (set_at f.pairs m i) y))
      (none_below (λ k. changes_param (slice_get p.methods n) f.effects n k && (tests_of p f m i).shares y (argument under k)) count
      (λ k. ap (λ c. changes_param (slice_get p.methods n) f.effects n k && c) (no_share y (argument under k) e) ∙ and-false (changes_param (slice_get p.methods n) f.effects n k)))
      ∙ ap (λ c. changes_statics (slice_get p.methods n) f.effects n && c) no_static
      ∙ and-false (changes_statics (slice_get p.methods n) f.effects n)
    where
      no_static : has_statics (slice_get p.methods m) (set_at f.pairs m i) y ≡ false
      no_static = ap (λ o. has_statics o (set_at f.pairs m i) y) found ∙ ap (λ o. has_numbers (set_at f.pairs m i) o (Some (slot_count method))) (none_outside method y e)

  changed_moved : (op : Op) (height : ℕ) (y : Slot) → is_inside method (spot_of y) ≡ false → changed (tests_of p f m i) op height y ≡ moved (spot_of y)
  changed_moved op height y e = go op
    where
      go : (o : Op) → changed (tests_of p f m i) o height y ≡ moved (spot_of y)
      go (PutField g) = ap (λ c. if c then (record { exact = false; always = false; one = Some (spot_of y); first = height - 1; count = 1 }) else moved (spot_of y)) (no_reach y (InStack (height - 2)) e)
      go (ArrStore kind) = ap (λ c. if c then (record { exact = false; always = false; one = Some (spot_of y); first = height - 1; count = 1 }) else moved (spot_of y)) (no_reach y (InStack (height - 3)) e)
      go (Call call) = ap (λ c. if c then taking false call (height - arguments call) (spot_of y) else moved (spot_of y)) (no_meet call.row.effect call (height - arguments call) y e)
      go _ = refl

  local_moved : (op : Op) (height l : ℕ) → UsesLocals op method.locals → nat_lt l method.locals ≡ false → local_after (tests_of p f m i) op height l ≡ moved (Local l)
  local_moved op height l uses e = go op uses
    where
      go : (o : Op) → UsesLocals o method.locals → local_after (tests_of p f m i) o height l ≡ moved (Local l)
      go (Store kind local) lt = ap (λ c. if c then moved (OnStack (height - 1)) else moved (Local l)) (ne_eqb l local (λ same. let high = ltb-false l method.locals e in absurd (omega (arith, same, high, lt))))
      go o u = changed_moved o height (InLocal l) e

  pub normal_idle : (op : Op) (height : ℕ) → UsesLocals op method.locals → height ≤ method.stack → height_after op height ≤ method.stack → AreIdle method (normal_clauses (tests_of p f m i) op height)
  normal_idle op height uses before after (Local l) e = inl (local_moved op height l uses e)
  normal_idle op height uses before after (OnStack k) e =
      let high = ltb-false k method.stack e in
      inr (ap (λ c. stacked_after c (nat_lt k (height_after op height)) (tests_of p f m i) op height k) (le-ltb k (height - pops op) (omega (arith, high, before)))
      ∙ ap (λ c. stacked_after false c (tests_of p f m i) op height k) (le-ltb k (height_after op height) (omega (arith, high, after))))
  normal_idle op height uses before after Dirt e = absurd (false≢true (sym e))
  normal_idle op height uses before after Exc e = absurd (false≢true (sym e))

  pub exceptional_idle : (way : Way) (op : Op) (height : ℕ) → AreIdle method (exceptional_clauses way (tests_of p f m i) op height)
  exceptional_idle Clean op height (Local l) e = inl refl
  exceptional_idle Clean op height (OnStack k) e = inr refl
  exceptional_idle Thrown op height (Local l) e = inl refl
  exceptional_idle Thrown op height (OnStack k) e = inr refl
  exceptional_idle InLibrary op height (Local l) e = inl (go op)
    where
      go : (o : Op) → library_local (tests_of p f m i) o height l ≡ moved (Local l)
      go (Call call) = changed_moved (Call call) height (InLocal l) e
      go _ = refl
  exceptional_idle InLibrary op height (OnStack k) e = inr refl
  exceptional_idle way op height Dirt e = absurd (false≢true (sym e))
  exceptional_idle way op height Exc e = absurd (false≢true (sym e))

  module _ (n count under : ℕ) where
    affected_moved : (dirt : Bool) (y : Slot) → is_inside method (spot_of y) ≡ false → affected_after (affected_of p f m i n count under) dirt y ≡ moved (spot_of y)
    affected_moved dirt y e = ap (λ c. if c then (record { exact = false; always = dirt; one = Some (spot_of y); first = 0; count = 0 }) else moved (spot_of y)) (no_affect n count under y e)

    pub return_idle : (answers : Bool) (s : Summary) → (answers ≡ true → under < method.stack) → AreIdle method (return_clauses (affected_of p f m i n count under) under answers s)
    return_idle answers s room (Local l) e = inl (affected_moved s.dirt (InLocal l) e)
    return_idle answers s room (OnStack k) e = by_place (nat_lt k under) (answers && nat_eq k under) refl
      where
        by_place : (left top : Bool) → (answers && nat_eq k under) ≡ top → IsIdle (OnStack k) (returned_stack left top (affected_of p f m i n count under) s k)
        by_place true top is_top = inl (affected_moved s.dirt (InStack k) e)
        by_place false true is_top =
            let parts = and_parts answers (nat_eq k under) is_top in let same = eqb-true k under parts.1 in let lt = room parts.0 in let high = ltb-false k method.stack e in absurd (omega (arith, same, lt, high))
        by_place false false is_top = inr refl
    return_idle answers s room Dirt e = absurd (false≢true (sym e))
    return_idle answers s room Exc e = absurd (false≢true (sym e))

    pub throw_idle : (s : Summary) → AreIdle method (throw_clauses (affected_of p f m i n count under) s)
    throw_idle s (Local l) e = inl (affected_moved s.dirt (InLocal l) e)
    throw_idle s (OnStack k) e = inr refl
    throw_idle s Dirt e = absurd (false≢true (sym e))
    throw_idle s Exc e = absurd (false≢true (sym e))

pub caught_idle : (method : Method) → 0 < method.stack → AreIdle method caught_clauses
caught_idle method room (Local l) e = inl refl
caught_idle method room (OnStack k) e = let high = ltb-false k method.stack e in inr (ap (λ c. if c then moved Exc else never) (ne_eqb k 0 (λ z. absurd (omega (arith, z, room, high)))))
caught_idle method room Dirt e = absurd (false≢true (sym e))
caught_idle method room Exc e = absurd (false≢true (sym e))
