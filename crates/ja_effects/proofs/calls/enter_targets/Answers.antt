use Rattle.std.proofs.Common.{◌≡◌, ◌<◌, ℕ, List, Bool, Some, length, get_or, sym, ap, subst, ◌∙◌, arith}
use Rattle.std.specs.Prelude.{Contains, slice_get}
use Rattle.std.proofs.lemmas.Option.{slice_get-get_or, same_Some}
use Rattle.ja_ir.specs.Operations.{arguments}
use Rattle.ja_facts.specs.ClassSets.{CallsMethod}
use Rattle.ja_facts.specs.Told.{TellsGraph}
use Rattle.ja_facts.specs.declared.targets.Targets.{Targets}
use Rattle.ja_effects.specs.Inner.{IsPassed}
use Rattle.ja_effects.proofs.Entering.{stage-more}
use Rattle.ja_effects.proofs.Closing.{closed-more, listed-place}
use Rattle.ja_effects.proofs.calls.enter_targets.Goals as goal

pub loop-n-preserved : goal.loop-n-preserved
loop-n-preserved c =
    let l = c.loop-n in
    let t = c.enter_target-changed in
    let lt : c.loop-n.n-index < length c.as_slice-targets.result.now = omega arith in
    record {
      stage = stage-more c.args.p.now c.args.g.now c.args.s.now l.changed t.result c.args.effects.now l.effects t.new.effects l.invariant.stage t.ensures.step;
      closed = closed-more (λ (table : List (List Bool)) k. (n : ℕ) → slice_get c.as_slice-targets.result.now k ≡ Some n → TellsGraph c.args.p.now c.args.g.now (CallsMethod c.args.m c.args.i n) → IsPassed c.args.p.now c.args.s.now table c.args.m c.args.i n (arguments c.args.call.now) c.args.under)
          l.changed t.result l.effects t.new.effects l.n-index l.invariant.closed t.ensures.step.idle
          (λ e n at. subst (λ x. TellsGraph c.args.p.now c.args.g.now (CallsMethod c.args.m c.args.i x) → IsPassed c.args.p.now c.args.s.now t.new.effects c.args.m c.args.i x (arguments c.args.call.now) c.args.under) (same_Some (get_or c.as_slice-targets.result.now c.loop-n.n-index 0) n (sym (slice_get-get_or c.as_slice-targets.result.now c.loop-n.n-index 0 lt) ∙ at)) (t.ensures.closed e));
    }

pub returns-clause-closed : goal.returns-clause-closed
returns-clause-closed c = λ e n goes.
    let same = c.as_slice-targets.ensures ∙ ap (λ (t : Targets). t.methods) c.targets.ensures in
    let listed : Contains c.as_slice-targets.result.now n = subst (λ (l : List ℕ). Contains l n) (sym same) goes.listed in
    c.loop-n.invariant.closed e listed.0 (omega (arith, listed.1)) n (listed-place c.as_slice-targets.result.now n listed) goes
