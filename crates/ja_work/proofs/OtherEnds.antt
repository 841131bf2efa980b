-- The clauses of exceptional ends and of ways through methods hold exactly where their definitions do.
use Rattle.std.proofs.Common.{◌≡◌, ◌≢◌, ℕ, zero, suc, ◌+◌, ◌-◌, ◌<◌, ◌≤◌, Bool, true, false, refl, sym, ap, ◌∙◌, subst, arith, ⊎_elim}
use Rattle.std.specs.Prelude.{◌||◌, ◌&&◌, nat_lt, nat_eq, if◌then◌else◌, Some}
use Rattle.std.proofs.lemmas.Bool.{or_cases, or_left, or_right, and_from, false≢true, eqb-true, eqb-false, eq-eqb, ne_eqb, ltb-true, ltb-false, lt-ltb, le-ltb}
use Rattle.ja_ir.specs.declared.row.RowEffect.{RowEffect}
use Rattle.ja_ir.specs.declared.row.RowEffect.TheVariants.{Quiet, Absorb, Blend}
use Rattle.ja_ir.specs.declared.op.CallOp.{CallOp}
use Rattle.ja_ir.specs.declared.op.Op.{Op}
use Rattle.ja_ir.specs.declared.op.Op.TheVariants.{Call, Throw}
use Rattle.ja_ir.specs.Operations.{arguments, count_of, has_receiver, may_throw, FindsOperands}
use Rattle.ja_facts.specs.Slots.{Slot, Local as InLocal, OnStack as InStack, IsLeft, left_local, left_stack}
use Rattle.ja_facts.specs.Analyses.{Analyses}
use Rattle.ja_facts.specs.Formulas.{Assignment, Summary, Implies, flow, changes, Leaves, Absorbs, local_kept, local_absorbed, LeavesLibrary, clean_by_choice, clean_for_receiver, Throws, clean, at_abstract, thrown, in_library, IsAffected, CallTurns, call_kept, call_affected, call_answered, call_above, IsReturn, CallLeaves, left_kept, left_affected, IsCallThrown}
use Rattle.ja_facts.specs.Equations.{IsCaught}
use Rattle.ja_work.specs.declared.clause.Spot.TheVariants.{Local, OnStack, Dirt, Exc}
use Rattle.ja_work.specs.declared.way.Way.{Way}
use Rattle.ja_work.specs.declared.way.Way.TheVariants.{Clean, Thrown, InLibrary}
use Rattle.ja_work.specs.Clauses.{value, spot_of, bound, fits_as, fits, AllFit, never, moved}
use Rattle.ja_work.specs.Ends.{Tests, AreTests, meets_by, taking, by_flow, changed, dirt_by, may_call, has_null_end, may_end, exceptional_clauses, AreAffected, affected_after, returned_stack, dirt_with, return_clauses, throw_clauses, caught_clauses}
use Rattle.ja_work.proofs.Fitting.{exact_fits, fits_exact, implied_fits, fits_implied, moved_fits, fits_moved, constant_fits, fits_constant, or_false, value_spot}
use Rattle.ja_work.proofs.Kept.{keeps_fit, absorbed_fits, take_bound, meets_source}
use Rattle.ja_work.proofs.LibraryAnswers.{flow_bound, dirt_bound}

-- a flow bounds what it is the flow of
pub by_flow_fits : (b : Assignment) (under : ℕ) (call : CallOp) (t : Bool) → Implies t (flow b call under) → fits (by_flow call under) b t ≡ true
by_flow_fits b under call t i = implied_fits (bound (by_flow call under) b) t (λ e. flow_bound b under call ∙ i e)

pub fits_by_flow : (b : Assignment) (under : ℕ) (call : CallOp) (t : Bool) → fits (by_flow call under) b t ≡ true → Implies t (flow b call under)
fits_by_flow b under call t f e = sym (flow_bound b under call) ∙ fits_implied (bound (by_flow call under) b) t f e

-- whether something was stored by a library call
dirt_exact : (e : RowEffect) (under : ℕ) (call : CallOp) → (dirt_by e call under).exact ≡ true
dirt_exact Quiet under call = refl
dirt_exact Absorb under call = refl
dirt_exact Blend under call = refl

pub dirt_fits : (b : Assignment) (under : ℕ) (call : CallOp) (t : Bool) → t ≡ (b.dirt || changes b call under) → fits (dirt_by call.row.effect call under) b t ≡ true
dirt_fits b under call t e = subst (λ x. fits_as x (bound (dirt_by call.row.effect call under) b) t ≡ true) (sym (dirt_exact call.row.effect under call)) (exact_fits (bound (dirt_by call.row.effect call under) b) t (e ∙ sym (dirt_bound b under call)))

pub fits_dirt : (b : Assignment) (under : ℕ) (call : CallOp) (t : Bool) → fits (dirt_by call.row.effect call under) b t ≡ true → t ≡ (b.dirt || changes b call under)
fits_dirt b under call t f = fits_exact (bound (dirt_by call.row.effect call under) b) t (subst (λ x. fits_as x (bound (dirt_by call.row.effect call under) b) t ≡ true) (dirt_exact call.row.effect under call) f) ∙ dirt_bound b under call

-- an end with a new object, or with the one that is thrown
pub leaves_fit : (b after : Assignment) → Leaves b false after → (tests : Tests) (op : Op) (height : ℕ) → AllFit (exceptional_clauses Clean tests op height) b after
leaves_fit b after l tests op height (Local n) = moved_fits b (Local n) (after.slot (InLocal n)) (l.locals n)
leaves_fit b after l tests op height (OnStack k) = constant_fits false b (after.slot (InStack k)) (l.stack k)
leaves_fit b after l tests op height Dirt = moved_fits b Dirt after.dirt l.dirt
leaves_fit b after l tests op height Exc = constant_fits false b after.exc l.is_exc

pub fit_leaves : (b after : Assignment) (tests : Tests) (op : Op) (height : ℕ) → AllFit (exceptional_clauses Clean tests op height) b after → Leaves b false after
fit_leaves b after tests op height all = record {
  locals = λ l. fits_moved b (Local l) (after.slot (InLocal l)) (all (Local l));
  stack = λ k. fits_constant false b (after.slot (InStack k)) (all (OnStack k));
  dirt = fits_moved b Dirt after.dirt (all Dirt);
  is_exc = fits_constant false b after.exc (all Exc);
}

pub thrown_fit : (b after : Assignment) (k height : ℕ) → height ≡ suc k → Leaves b (b.slot (InStack k)) after → (tests : Tests) (op : Op) → AllFit (exceptional_clauses Thrown tests op height) b after
thrown_fit b after k height h l tests op (Local n) = moved_fits b (Local n) (after.slot (InLocal n)) (l.locals n)
thrown_fit b after k height h l tests op (OnStack j) = constant_fits false b (after.slot (InStack j)) (l.stack j)
thrown_fit b after k height h l tests op Dirt = moved_fits b Dirt after.dirt l.dirt
thrown_fit b after k height h l tests op Exc = moved_fits b (OnStack (height - 1)) after.exc (l.is_exc ∙ ap (λ n. b.slot (InStack n)) (omega arith))

pub fit_thrown : (b after : Assignment) (height : ℕ) (tests : Tests) (op : Op) → AllFit (exceptional_clauses Thrown tests op height) b after → Leaves b (b.slot (InStack (height - 1))) after
fit_thrown b after height tests op all = record {
  locals = λ l. fits_moved b (Local l) (after.slot (InLocal l)) (all (Local l));
  stack = λ k. fits_constant false b (after.slot (InStack k)) (all (OnStack k));
  dirt = fits_moved b Dirt after.dirt (all Dirt);
  is_exc = fits_moved b (OnStack (height - 1)) after.exc (all Exc);
}

module _ (A : Analyses) (m i : ℕ) (tests : Tests) (told : AreTests A m i tests) (b : Assignment) where
  absorbs_fit : (call : CallOp) (height l : ℕ) (t : Bool) → Absorbs A m i b call (height - arguments call) l t → fits (changed tests (Call call) height (InLocal l)) b t ≡ true
  absorbs_fit call height l t local_kept = keeps_fit A m i tests told b (Call call) height (InLocal l)
  absorbs_fit call height l t (local_absorbed meets implied) = absorbed_fits A m i tests told b call height (InLocal l) t meets implied

  fit_absorbs : (call : CallOp) (height l : ℕ) (t : Bool) → fits (changed tests (Call call) height (InLocal l)) b t ≡ true → Absorbs A m i b call (height - arguments call) l t
  fit_absorbs call height l t f = by_test (meets_by call.row.effect tests call (height - arguments call) (InLocal l)) refl f
    where
      by_test : (c : Bool) → meets_by call.row.effect tests call (height - arguments call) (InLocal l) ≡ c → fits (if c then taking false call (height - arguments call) (Local l) else moved (Local l)) b t ≡ true → Absorbs A m i b call (height - arguments call) l t
      by_test true e g = local_absorbed (meets_source A m i tests told call (height - arguments call) (InLocal l) e)
          (λ is. sym (take_bound b call (height - arguments call) (InLocal l)) ∙ fits_implied (bound (taking false call (height - arguments call) (Local l)) b) t g is)
      by_test false e g = subst (Absorbs A m i b call (height - arguments call) l) (sym (fits_moved b (Local l) t g)) local_kept

  library_fit : (call : CallOp) (height : ℕ) (after : Assignment) → LeavesLibrary A m i b call (height - arguments call) after → AllFit (exceptional_clauses InLibrary tests (Call call) height) b after
  library_fit call height after l (Local n) = absorbs_fit call height n (after.slot (InLocal n)) (l.locals n)
  library_fit call height after l (OnStack k) = constant_fits false b (after.slot (InStack k)) (l.stack k)
  library_fit call height after l Dirt = dirt_fits b (height - arguments call) call after.dirt l.dirt
  library_fit call height after l Exc = by_flow_fits b (height - arguments call) call after.exc l.exc

  fit_library : (call : CallOp) (height : ℕ) (after : Assignment) → AllFit (exceptional_clauses InLibrary tests (Call call) height) b after → LeavesLibrary A m i b call (height - arguments call) after
  fit_library call height after all = record {
    locals = λ l. fit_absorbs call height l (after.slot (InLocal l)) (all (Local l));
    stack = λ k. fits_constant false b (after.slot (InStack k)) (all (OnStack k));
    dirt = fits_dirt b (height - arguments call) call after.dirt (all Dirt);
    exc = fits_by_flow b (height - arguments call) call after.exc (all Exc);
  }

  -- each exceptional end is one of a way
  pub throws_fit : (op : Op) (height : ℕ) (after : Assignment) → Throws A m i b op height after → (way : Way) × (may_end tests op way ≡ true) × AllFit (exceptional_clauses way tests op height) b after
  throws_fit op height after (clean (clean_by_choice e) l) = (Clean, or_left (may_throw op) (has_null_end op || may_call op tests.abstract) e, leaves_fit b after l tests op height)
  throws_fit op height after (clean (clean_for_receiver {call = call} e) l) =
      (Clean, or_right (may_throw op) (has_null_end (Call call) || may_call (Call call) tests.abstract) (or_left (has_receiver call.kind) tests.abstract e), leaves_fit b after l tests op height)
  throws_fit op height after (at_abstract {call = call} n calls l) =
      (Clean, or_right (may_throw op) (has_null_end (Call call) || may_call (Call call) tests.abstract) (or_right (has_receiver call.kind) tests.abstract (told.abstract.1 (n, calls))), leaves_fit b after l tests op height)
  throws_fit op height after (thrown {k = k} h l) = (Thrown, refl, thrown_fit b after k height h l tests op)
  throws_fit op height after (in_library {call = call} under h calls l) =
      (InLibrary, told.library.1 calls, library_fit call height after (subst (λ u. LeavesLibrary A m i b call u after) (omega arith) l))

  pub fit_throws : (op : Op) (height : ℕ) (after : Assignment) → FindsOperands op height → (way : Way) → may_end tests op way ≡ true → AllFit (exceptional_clauses way tests op height) b after → Throws A m i b op height after
  fit_throws op height after finds Clean ends all = by_cause op (fit_leaves b after tests op height all) ends
    where
      by_call : (call : CallOp) → Leaves b false after → (has_receiver call.kind || tests.abstract) ≡ true → Throws A m i b (Call call) height after
      by_call call l e = ⊎_elim
          (λ r. clean (clean_for_receiver r) l)
          (λ a. let some = told.abstract.0 a in at_abstract some.0 some.1 l)
          (or_cases (has_receiver call.kind) tests.abstract e)

      by_cause : (o : Op) → Leaves b false after → may_end tests o Clean ≡ true → Throws A m i b o height after
      by_cause (Call call) l e = by_call call l e
      by_cause o l e = clean (clean_by_choice (sym (or_false (may_throw o)) ∙ e)) l
  fit_throws op height after finds Thrown ends all = by_throw op finds (fit_thrown b after height tests op all) ends
    where
      by_throw : (o : Op) → FindsOperands o height → Leaves b (b.slot (InStack (height - 1))) after → may_end tests o Thrown ≡ true → Throws A m i b o height after
      by_throw Throw le l e = thrown (omega arith) l
      by_throw o le l e = absurd (false≢true e)
  fit_throws op height after finds InLibrary ends all = by_call op finds ends all
    where
      by_call : (o : Op) → FindsOperands o height → may_end tests o InLibrary ≡ true → AllFit (exceptional_clauses InLibrary tests o height) b after → Throws A m i b o height after
      by_call (Call call) le e f = in_library (height - arguments call) (omega arith) (told.library.0 e) (fit_library call height after f)
      by_call o le e f = absurd (false≢true e)

module _ (A : Analyses) (m i n count under : ℕ) (affected : Slot → Bool) (are : AreAffected A m i n count under affected) (b : Assignment) where
  stays_fit : (dirt : Bool) (y : Slot) → fits (affected_after affected dirt y) b (b.slot y) ≡ true
  stays_fit dirt y = by_test (affected y)
    where
      by_test : (c : Bool) → fits (if c then (record { exact = false; always = dirt; one = Some (spot_of y); first = 0; count = 0 }) else moved (spot_of y)) b (b.slot y) ≡ true
      by_test true = implied_fits (dirt || (value b (spot_of y) || false)) (b.slot y) (λ e. or_right dirt (value b (spot_of y) || false) (or_left (value b (spot_of y)) false (value_spot b y ∙ e)))
      by_test false = moved_fits b (spot_of y) (b.slot y) (sym (value_spot b y))

  dirt_swap : (dirt : Bool) (y : Slot) → (dirt || (value b (spot_of y) || false)) ≡ (b.slot y || dirt)
  dirt_swap dirt y = ap (λ v. dirt || v) (or_false (value b (spot_of y)) ∙ value_spot b y) ∙ swap dirt (b.slot y)
    where
      swap : (p q : Bool) → (p || q) ≡ (q || p)
      swap true true = refl
      swap true false = refl
      swap false true = refl
      swap false false = refl

  rises_fit : (dirt : Bool) (y : Slot) (t : Bool) → IsAffected A m i n count under y → Implies t (b.slot y || dirt) → fits (affected_after affected dirt y) b t ≡ true
  rises_fit dirt y t is j = subst (λ c. fits (if c then (record { exact = false; always = dirt; one = Some (spot_of y); first = 0; count = 0 }) else moved (spot_of y)) b t ≡ true) (sym ((are y).1 is))
      (implied_fits (dirt || (value b (spot_of y) || false)) t (λ e. dirt_swap dirt y ∙ j e))

  -- what the clause of a slot that stays allows: it stays, or it is affected
  by_affected : (P : Bool → Type 0) (dirt : Bool) (y : Slot) (t : Bool) → P (b.slot y) → (IsAffected A m i n count under y → Implies t (b.slot y || dirt) → P t) → fits (affected_after affected dirt y) b t ≡ true → P t
  by_affected P dirt y t same rises f = by_test (affected y) refl f
    where
      by_test : (c : Bool) → affected y ≡ c → fits (if c then (record { exact = false; always = dirt; one = Some (spot_of y); first = 0; count = 0 }) else moved (spot_of y)) b t ≡ true → P t
      by_test true e g = rises ((are y).0 e) (λ is. sym (dirt_swap dirt y) ∙ fits_implied (dirt || (value b (spot_of y) || false)) t g is)
      by_test false e g = subst P (sym (fits_moved b (spot_of y) t g ∙ value_spot b y)) same

  dirt_with_fits : (dirt t : Bool) → t ≡ (b.dirt || dirt) → fits (dirt_with dirt) b t ≡ true
  dirt_with_fits dirt t e = exact_fits (dirt || (b.dirt || false)) t (e ∙ sym (swap dirt b.dirt))
    where
      swap : (p q : Bool) → (p || (q || false)) ≡ (q || p)
      swap true true = refl
      swap true false = refl
      swap false true = refl
      swap false false = refl

  fits_dirt_with : (dirt t : Bool) → fits (dirt_with dirt) b t ≡ true → t ≡ (b.dirt || dirt)
  fits_dirt_with dirt t f = fits_exact (dirt || (b.dirt || false)) t f ∙ swap dirt b.dirt
    where
      swap : (p q : Bool) → (p || (q || false)) ≡ (q || p)
      swap true true = refl
      swap true false = refl
      swap false true = refl
      swap false false = refl

  module _ (answers : Bool) (s : Summary) where
    left_fits : (k : ℕ) (t : Bool) → k < under → fits (affected_after affected s.dirt (InStack k)) b t ≡ true → fits (return_clauses affected under answers s (OnStack k)) b t ≡ true
    left_fits k t lt f = subst (λ c. fits (returned_stack c (answers && nat_eq k under) affected s k) b t ≡ true) (sym (lt-ltb k under lt)) f

    slot_fits : (y : Slot) (t : Bool) → IsLeft under y → fits (affected_after affected s.dirt y) b t ≡ true → fits (return_clauses affected under answers s (spot_of y)) b t ≡ true
    slot_fits (InLocal l) t left f = f
    slot_fits (InStack k) t (left_stack lt) f = left_fits k t lt f

    top_fits : answers ≡ true → fits (return_clauses affected under answers s (OnStack under)) b s.result ≡ true
    top_fits is = subst (λ c. fits (returned_stack c (answers && nat_eq under under) affected s under) b s.result ≡ true) (sym (le-ltb under under (omega arith)))
        (subst (λ c. fits (returned_stack false c affected s under) b s.result ≡ true) (sym (and_from answers (nat_eq under under) is (eq-eqb under under refl))) (constant_fits s.result b s.result refl))

    above_fits : (k : ℕ) → under + count_of answers ≤ k → fits (return_clauses affected under answers s (OnStack k)) b false ≡ true
    above_fits k le = subst (λ c. fits (returned_stack c (answers && nat_eq k under) affected s k) b false ≡ true) (sym (le-ltb k under (omega arith))) (by_answer answers le)
      where
        by_answer : (c : Bool) → under + count_of c ≤ k → fits (returned_stack false (c && nat_eq k under) affected s k) b false ≡ true
        by_answer true high = subst (λ c. fits (returned_stack false c affected s k) b false ≡ true) (sym (ne_eqb k under (λ e. absurd (omega arith)))) (constant_fits false b false refl)
        by_answer false high = constant_fits false b false refl

    turns_fit : (y : Slot) (t : Bool) → CallTurns A m i n count under answers b s y t → fits (return_clauses affected under answers s (spot_of y)) b t ≡ true
    turns_fit y t (call_kept left) = slot_fits y (b.slot y) left (stays_fit s.dirt y)
    turns_fit y t (call_affected left is j) = slot_fits y t left (rises_fit s.dirt y t is j)
    turns_fit y t (call_answered is) = top_fits is
    turns_fit y t (call_above {k = k} le) = above_fits k le

    fit_left : (y : Slot) (t : Bool) → IsLeft under y → fits (affected_after affected s.dirt y) b t ≡ true → CallTurns A m i n count under answers b s y t
    fit_left y t left f = by_affected (CallTurns A m i n count under answers b s y) s.dirt y t (call_kept left) (λ is j. call_affected left is j) f

    fit_turns : (y : Slot) (t : Bool) → fits (return_clauses affected under answers s (spot_of y)) b t ≡ true → CallTurns A m i n count under answers b s y t
    fit_turns (InLocal l) t f = fit_left (InLocal l) t left_local f
    fit_turns (InStack k) t f = by_place (nat_lt k under) refl f
      where
        by_top : (c d : Bool) → answers ≡ c → nat_eq k under ≡ d → under ≤ k → fits (returned_stack false (c && d) affected s k) b t ≡ true → CallTurns A m i n count under answers b s (InStack k) t
        by_top true true is e le g = subst (λ j. CallTurns A m i n count under answers b s (InStack j) t) (sym (eqb-true k under e))
            (subst (CallTurns A m i n count under answers b s (InStack under)) (sym (fits_constant s.result b t g)) (call_answered is))
        by_top true false is e le g =
            let apart : k ≢ under = eqb-false k under e in
            let one : count_of answers ≡ 1 = ap count_of is in
            subst (CallTurns A m i n count under answers b s (InStack k)) (sym (fits_constant false b t g)) (call_above (omega arith))
        by_top false d is e le g =
            let none : count_of answers ≡ 0 = ap count_of is in
            subst (CallTurns A m i n count under answers b s (InStack k)) (sym (fits_constant false b t g)) (call_above (omega arith))

        by_place : (c : Bool) → nat_lt k under ≡ c → fits (returned_stack c (answers && nat_eq k under) affected s k) b t ≡ true → CallTurns A m i n count under answers b s (InStack k) t
        by_place true e g = fit_left (InStack k) t (left_stack (ltb-true k under e)) g
        by_place false e g = by_top answers (nat_eq k under) refl refl (ltb-false k under e) g

    pub return_fit : (after : Assignment) → IsReturn A m i n count under answers b s after → AllFit (return_clauses affected under answers s) b after
    return_fit after r (Local l) = turns_fit (InLocal l) (after.slot (InLocal l)) (r.slots (InLocal l))
    return_fit after r (OnStack k) = turns_fit (InStack k) (after.slot (InStack k)) (r.slots (InStack k))
    return_fit after r Dirt = dirt_with_fits s.dirt after.dirt r.dirt
    return_fit after r Exc = moved_fits b Exc after.exc r.exc

    pub fit_return : (after : Assignment) → AllFit (return_clauses affected under answers s) b after → IsReturn A m i n count under answers b s after
    fit_return after all = record { slots = slots; dirt = fits_dirt_with s.dirt after.dirt (all Dirt); exc = fits_moved b Exc after.exc (all Exc) }
      where
        slots : (y : Slot) → CallTurns A m i n count under answers b s y (after.slot y)
        slots (InLocal l) = fit_turns (InLocal l) (after.slot (InLocal l)) (all (Local l))
        slots (InStack k) = fit_turns (InStack k) (after.slot (InStack k)) (all (OnStack k))

  module _ (s : Summary) where
    leaves_call : (l : ℕ) (t : Bool) → CallLeaves A m i n count under b s l t → fits (affected_after affected s.dirt (InLocal l)) b t ≡ true
    leaves_call l t left_kept = stays_fit s.dirt (InLocal l)
    leaves_call l t (left_affected is j) = rises_fit s.dirt (InLocal l) t is j

    pub throw_fit : (after : Assignment) → IsCallThrown A m i n count under b s after → AllFit (throw_clauses affected s) b after
    throw_fit after r (Local l) = leaves_call l (after.slot (InLocal l)) (r.locals l)
    throw_fit after r (OnStack k) = constant_fits false b (after.slot (InStack k)) (r.stack k)
    throw_fit after r Dirt = dirt_with_fits s.dirt after.dirt r.dirt
    throw_fit after r Exc = constant_fits s.exc b after.exc r.is_exc

    pub fit_throw : (after : Assignment) → AllFit (throw_clauses affected s) b after → IsCallThrown A m i n count under b s after
    fit_throw after all = record {
      locals = λ l. by_affected (CallLeaves A m i n count under b s l) s.dirt (InLocal l) (after.slot (InLocal l)) left_kept (λ is j. left_affected is j) (all (Local l));
      stack = λ k. fits_constant false b (after.slot (InStack k)) (all (OnStack k));
      dirt = fits_dirt_with s.dirt after.dirt (all Dirt);
      is_exc = fits_constant s.exc b after.exc (all Exc);
    }

pub caught_fit : (b after : Assignment) → IsCaught b after → AllFit caught_clauses b after
caught_fit b after c (Local l) = moved_fits b (Local l) (after.slot (InLocal l)) (c.locals l)
caught_fit b after c (OnStack zero) = moved_fits b Exc (after.slot (InStack 0)) c.first
caught_fit b after c (OnStack (suc k)) = subst (λ x. fits (if x then moved Exc else never) b (after.slot (InStack (suc k))) ≡ true) (sym (ne_eqb (suc k) 0 (λ e. absurd (omega arith)))) (constant_fits false b (after.slot (InStack (suc k))) (c.rest k))
caught_fit b after c Dirt = moved_fits b Dirt after.dirt c.dirt
caught_fit b after c Exc = constant_fits false b after.exc c.exc

pub fit_caught : (b after : Assignment) → AllFit caught_clauses b after → IsCaught b after
fit_caught b after all = record {
  locals = λ l. fits_moved b (Local l) (after.slot (InLocal l)) (all (Local l));
  first = fits_moved b Exc (after.slot (InStack 0)) (all (OnStack 0));
  rest = λ k. fits_constant false b (after.slot (InStack (suc k))) (subst (λ x. fits (if x then moved Exc else never) b (after.slot (InStack (suc k))) ≡ true) (ne_eqb (suc k) 0 (λ e. absurd (omega arith))) (all (OnStack (suc k))));
  dirt = fits_moved b Dirt after.dirt (all Dirt);
  exc = fits_constant false b after.exc (all Exc);
}
