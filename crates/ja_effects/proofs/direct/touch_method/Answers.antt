use Rattle.std.proofs.Common.{◌≡◌, List, Some, sym, ap, ◌∙◌, arith}
use Rattle.std.specs.Prelude.{slice_get}
use Rattle.ja_ir.specs.declared.method.Method.{Method}
use Rattle.ja_facts.specs.Told.{TellsGraph}
use Rattle.ja_effects.proofs.Directing.{code-small, below-more, below-all}
use Rattle.ja_effects.proofs.direct.touch_method.Goals as goal

pub overflow_cast-i : goal.overflow_cast-i
overflow_cast-i c =
    let found : slice_get c.args.p.now.methods c.args.m ≡ Some c.at-method.result.now = ap (λ (ms : List Method). slice_get ms c.args.m) (sym c.methods.ensures.same) ∙ c.at-method.ensures in
    omega (arith, code-small c.args.p.now c.args.m c.at-method.result.now c.methods.ensures.whole found, c.loop-i-test.true, c.len-i-end.ensures)

pub touch_at-requires-clause-frame : goal.touch_at-requires-clause-frame
touch_at-requires-clause-frame c =
    let found : slice_get c.args.p.now.methods c.args.m ≡ Some c.at-method.result.now = ap (λ (ms : List Method). slice_get ms c.args.m) (sym c.methods.ensures.same) ∙ c.at-method.ensures in
    c.frame_of-frame.ensures.frame c.at-method.result.now found

pub loop-i-preserved : goal.loop-i-preserved
loop-i-preserved c = record {
  flags = c.touch_at.ensures.flags;
  gains = below-more c.args.p.now (TellsGraph c.args.p.now c.args.g.now) c.args.s.now c.args.m c.args.effects.now c.loop-i.effects c.touch_at.new.effects c.loop-i.i c.loop-i.invariant.gains c.touch_at.ensures.gains;
}

pub returns-clause-gains : goal.returns-clause-gains
returns-clause-gains c =
    let found : slice_get c.args.p.now.methods c.args.m ≡ Some c.at-method.result.now = ap (λ (ms : List Method). slice_get ms c.args.m) (sym c.methods.ensures.same) ∙ c.at-method.ensures in
    below-all c.args.p.now (TellsGraph c.args.p.now c.args.g.now) c.args.s.now c.args.m c.args.effects.now c.loop-i.effects c.at-method.result.now c.loop-i.i found (omega arith) c.loop-i.invariant.gains
