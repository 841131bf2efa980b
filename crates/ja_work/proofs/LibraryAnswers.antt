-- What the clause of a library call's answer allows is what its row does.
use Rattle.std.proofs.Common.{◌≡◌, ℕ, ◌+◌, Bool, true, false, refl, sym, ap, ◌∙◌, subst}
use Rattle.std.specs.Prelude.{◌||◌, min}
use Rattle.ja_base.specs.declared.java_type.Kind.{Kind}
use Rattle.ja_base.specs.declared.java_type.Kind.TheVariants.{P1, P2, R, T}
use Rattle.ja_ir.specs.declared.row.RowFlow.{RowFlow}
use Rattle.ja_ir.specs.declared.row.RowFlow.TheVariants.{Always, Never, Args}
use Rattle.ja_ir.specs.declared.row.RowEffect.{RowEffect}
use Rattle.ja_ir.specs.declared.row.RowEffect.TheVariants.{Quiet, Absorb, Blend}
use Rattle.ja_ir.specs.declared.row.RowResult.{RowResult}
use Rattle.ja_ir.specs.declared.row.RowResult.TheVariants.{Fresh, Argument, Member, Any}
use Rattle.ja_ir.specs.declared.op.CallOp.{CallOp}
use Rattle.ja_ir.specs.Operations.{arguments}
use Rattle.ja_facts.specs.Slots.{OnStack as InStack}
use Rattle.ja_facts.specs.Formulas as formula
use Rattle.ja_facts.specs.Formulas.{Assignment, Implies, any_below, any_stacked, flow_by, flow, put_by, put_in, changes}
use Rattle.ja_work.specs.Clauses.{bound, fits_as, fits}
use Rattle.ja_work.specs.Ends.{is_always, deciding, by_flow, member_count, answer_by, answer_of, dirt_by}
use Rattle.ja_work.proofs.Fitting.{implied_fits, fits_implied, or_false, or_true, any_first}
use Rattle.ja_work.proofs.Kept.{put_is, or_moved}

module _ (b : Assignment) (under : ℕ) where
  flow_is : (f : RowFlow) (n : ℕ) → (is_always f || (false || any_stacked b under (deciding f n))) ≡ flow_by f (any_stacked b under n)
  flow_is Always n = refl
  flow_is Never n = refl
  flow_is Args n = refl

  pub flow_bound : (call : CallOp) → bound (by_flow call under) b ≡ flow b call under
  flow_bound call = flow_is call.row.flow (arguments call)

  -- what is put in, beside what one of the values that it comes from was
  put_first : (f : RowFlow) (first any : Bool) → Implies first any → (is_always f || any) ≡ (first || (flow_by f any || any))
  put_first f true any i = ap (λ a. is_always f || a) (i refl) ∙ or_true (is_always f)
  put_first f false any i = sym (put_is f any)

  put_member : (f : RowFlow) (first any : Bool) → Implies first any → (is_always f || any) ≡ (flow_by f any || (first || (flow_by f any || any)))
  put_member Always first any i = refl
  put_member Never first any i = put_first Never first any i
  put_member Args first true i = refl
  put_member Args first false i = put_first Args first false i

  member_quiet : (f : RowFlow) (n : ℕ) → (is_always f || (false || any_stacked b under (member_count f n))) ≡ (flow_by f (any_stacked b under n) || (any_stacked b under (min 1 n) || false))
  member_quiet Always n = refl
  member_quiet Never n = sym (or_false (any_stacked b under (min 1 n)))
  member_quiet Args n = by_any (any_stacked b under n) (any_stacked b under (min 1 n)) (any_first (λ k. b.slot (InStack (under + k))) n)
    where
      by_any : (any first : Bool) → Implies first any → any ≡ (any || (first || false))
      by_any true first i = refl
      by_any false true i = i refl
      by_any false false i = refl

  answer_is : (r : RowResult) (e : RowEffect) (call : CallOp)
      → bound (answer_by r e call under) b ≡ formula.answer_by r (flow b call under) (any_stacked b under (min 1 (arguments call))) (any_stacked b under (arguments call)) (put_by e (put_in b call under))
  answer_is Fresh e call = flow_bound call
  answer_is Argument Quiet call = sym (or_false (any_stacked b under (min 1 (arguments call))))
  answer_is Argument Absorb call = put_first call.row.flow _ _ (any_first (λ k. b.slot (InStack (under + k))) (arguments call))
  answer_is Argument Blend call = put_first call.row.flow _ _ (any_first (λ k. b.slot (InStack (under + k))) (arguments call))
  answer_is Member Quiet call = member_quiet call.row.flow (arguments call)
  answer_is Member Absorb call = put_member call.row.flow _ _ (any_first (λ k. b.slot (InStack (under + k))) (arguments call))
  answer_is Member Blend call = put_member call.row.flow _ _ (any_first (λ k. b.slot (InStack (under + k))) (arguments call))
  answer_is Any e call = sym (put_is call.row.flow (any_stacked b under (arguments call)))

  -- an answer is bounded alone
  inexact_by : (r : RowResult) (e : RowEffect) (call : CallOp) → (answer_by r e call under).exact ≡ false
  inexact_by Fresh e call = refl
  inexact_by Argument Quiet call = refl
  inexact_by Argument Absorb call = refl
  inexact_by Argument Blend call = refl
  inexact_by Member Quiet call = refl
  inexact_by Member Absorb call = refl
  inexact_by Member Blend call = refl
  inexact_by Any e call = refl

  inexact : (kind : Kind) (call : CallOp) → (answer_of kind call under).exact ≡ false
  inexact P1 call = refl
  inexact P2 call = refl
  inexact R call = inexact_by call.row.result call.row.effect call
  inexact T call = refl

  pub answer_bound : (kind : Kind) (call : CallOp) → bound (answer_of kind call under) b ≡ formula.answer_of kind b call under
  answer_bound P1 call = flow_bound call
  answer_bound P2 call = flow_bound call
  answer_bound R call = answer_is call.row.result call.row.effect call
  answer_bound T call = flow_bound call

  -- the clause of an answer lets it be what the row does
  pub answer_fits_as : (kind : Kind) (call : CallOp) (t : Bool) → Implies t (formula.answer_of kind b call under) → fits (answer_of kind call under) b t ≡ true
  answer_fits_as kind call t i = subst (λ x. fits_as x (bound (answer_of kind call under) b) t ≡ true) (sym (inexact kind call)) (implied_fits (bound (answer_of kind call under) b) t (λ e. answer_bound kind call ∙ i e))

  pub fits_answer : (kind : Kind) (call : CallOp) (t : Bool) → fits (answer_of kind call under) b t ≡ true → Implies t (formula.answer_of kind b call under)
  fits_answer kind call t f e = sym (answer_bound kind call) ∙ fits_implied (bound (answer_of kind call under) b) t (subst (λ x. fits_as x (bound (answer_of kind call under) b) t ≡ true) (inexact kind call) f) e

  -- whether something was stored
  dirt_is : (e : RowEffect) (call : CallOp) → bound (dirt_by e call under) b ≡ (b.dirt || put_by e (put_in b call under))
  dirt_is Quiet call = refl
  dirt_is Absorb call = or_moved (is_always call.row.flow) b.dirt (any_stacked b under (arguments call)) ∙ ap (λ p. b.dirt || p) (sym (put_is call.row.flow (any_stacked b under (arguments call))))
  dirt_is Blend call = or_moved (is_always call.row.flow) b.dirt (any_stacked b under (arguments call)) ∙ ap (λ p. b.dirt || p) (sym (put_is call.row.flow (any_stacked b under (arguments call))))

  pub dirt_bound : (call : CallOp) → bound (dirt_by call.row.effect call under) b ≡ (b.dirt || changes b call under)
  dirt_bound call = dirt_is call.row.effect call
