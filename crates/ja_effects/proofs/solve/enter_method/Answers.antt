use Rattle.std.proofs.Common.{◌≡◌, ℕ, List, Bool, Some, length, sym, ap, subst, ◌∙◌, arith}
use Rattle.std.specs.Prelude.{slice_get}
use Rattle.ja_ir.specs.declared.method.Method.{Method}
use Rattle.ja_facts.specs.Told.{TellsGraph}
use Rattle.ja_effects.specs.Inner.{IsClosedAt}
use Rattle.ja_effects.proofs.Directing.{code-small}
use Rattle.ja_effects.proofs.Entering.{stage-more}
use Rattle.ja_effects.proofs.Closing.{closed-more, enters-within}
use Rattle.ja_effects.proofs.solve.enter_method.Goals as goal

pub overflow_cast-i : goal.overflow_cast-i
overflow_cast-i c =
    let found : slice_get c.args.p.now.methods c.args.m ≡ Some c.at-method.result.now = ap (λ (ms : List Method). slice_get ms c.args.m) (sym c.methods.ensures.same) ∙ c.at-method.ensures in
    omega (arith, code-small c.args.p.now c.args.m c.at-method.result.now c.methods.ensures.whole found, c.loop-i-test.true, c.len-i-end.ensures)

pub enter_at-changed-requires-clause-frame : goal.enter_at-changed-requires-clause-frame
enter_at-changed-requires-clause-frame c =
    let found : slice_get c.args.p.now.methods c.args.m ≡ Some c.at-method.result.now = ap (λ (ms : List Method). slice_get ms c.args.m) (sym c.methods.ensures.same) ∙ c.at-method.ensures in
    c.frame_of-frame.ensures.frame c.at-method.result.now found

pub loop-i-preserved : goal.loop-i-preserved
loop-i-preserved c =
    let l = c.loop-i in
    let t = c.enter_at-changed in
    record {
      stage = stage-more c.args.p.now c.args.g.now c.args.s.now l.changed t.result c.args.effects.now l.effects t.new.effects l.invariant.stage t.ensures.step;
      closed = closed-more (λ (table : List (List Bool)) k. IsClosedAt c.args.p.now (TellsGraph c.args.p.now c.args.g.now) c.args.s.now table c.args.m k) l.changed t.result l.effects t.new.effects l.i l.invariant.closed t.ensures.step.idle t.ensures.closed;
    }

pub returns-clause-closed : goal.returns-clause-closed
returns-clause-closed c = λ e i n count under enters.
    let found : slice_get c.args.p.now.methods c.args.m ≡ Some c.at-method.result.now = ap (λ (ms : List Method). slice_get ms c.args.m) (sym c.methods.ensures.same) ∙ c.at-method.ensures in
    c.loop-i.invariant.closed e i (omega (arith, enters-within c.args.p.now (TellsGraph c.args.p.now c.args.g.now) c.at-method.result.now found enters, c.len-i-end.ensures)) n count under enters
