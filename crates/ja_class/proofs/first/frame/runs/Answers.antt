use Rattle.std.proofs.Common.{◌+◌, drop, sym, ap, ◌∙◌, arith}
use Rattle.ja_class.specs.declared.first.FirstInstr.{FirstInstr}
use Rattle.ja_class.specs.declared.first.FirstOp.TheVariants.{Load}
use Rattle.ja_class.specs.InnerReading.{holds_of, runs}
use Rattle.ja_class.proofs.Steps.{runs_more, runs_last, runs_none}
use Rattle.ja_class.proofs.first.frame.runs.Goals as goal

pub returns-then-index-code : goal.returns-then-index-code
returns-then-index-code c =
    let first : FirstInstr = record { pc = 0; op = Load 0 } in
    c.is_return.ensures ∙ sym (runs_last c.loop-index.frame c.args.code.now c.loop-index.index first c.loop-index-test.true c.if-index-code.true) ∙ c.loop-index.invariant.same

pub returns-in-None : goal.returns-in-None
returns-in-None c =
    let first : FirstInstr = record { pc = 0; op = Load 0 } in
    let code = c.args.code.now in
    let i = c.loop-index.index in
    ap (λ next. holds_of next (λ frame. runs frame (drop (i + 1) code))) c.in-None.ensures.value
    ∙ sym (runs_more c.loop-index.frame code i first c.loop-index-test.true c.if-index-code.false) ∙ c.loop-index.invariant.same

pub loop-index-preserved : goal.loop-index-preserved
loop-index-preserved c =
    let first : FirstInstr = record { pc = 0; op = Load 0 } in
    let code = c.args.code.now in
    let i = c.loop-index.index in
    record {
      small = omega (arith, c.in-Some.ensures.locals);
      same = ap (λ next. holds_of next (λ frame. runs frame (drop (i + 1) code))) c.in-Some.ensures.value
          ∙ sym (runs_more c.loop-index.frame code i first c.loop-index-test.true c.if-index-code.false) ∙ c.loop-index.invariant.same;
    }

pub returns : goal.returns
returns c = sym (runs_none c.loop-index.frame c.args.code.now c.loop-index.index c.loop-index-test.false) ∙ c.loop-index.invariant.same
