use Rattle.std.proofs.Common.{ℕ, List, Bool, length, sym, ap, subst, ◌∙◌, arith}
use Rattle.ja_ir.specs.declared.method.Method.{Method}
use Rattle.ja_facts.specs.Told.{TellsGraph}
use Rattle.ja_effects.specs.Inner.{IsClosedAt}
use Rattle.ja_effects.proofs.Directing.{op-within}
use Rattle.ja_effects.proofs.Entering.{stage-more}
use Rattle.ja_effects.proofs.Closing.{closed-more, enters-op}
use Rattle.ja_effects.proofs.solve.round.Goals as goal

pub loop-m-preserved : goal.loop-m-preserved
loop-m-preserved c =
    let l = c.loop-m in
    let t = c.enter_method-changed in
    record {
      stage = stage-more c.args.p.now c.args.g.now c.args.s.now l.changed t.result c.args.effects.now l.effects t.new.effects l.invariant.stage t.ensures.step;
      closed = closed-more (λ (table : List (List Bool)) k. (i : ℕ) → IsClosedAt c.args.p.now (TellsGraph c.args.p.now c.args.g.now) c.args.s.now table k i) l.changed t.result l.effects t.new.effects l.m l.invariant.closed t.ensures.step.idle t.ensures.closed;
    }

pub returns-clause-closed : goal.returns-clause-closed
returns-clause-closed c = λ e m i n count under enters.
    let at = enters-op c.args.p.now (TellsGraph c.args.p.now c.args.g.now) enters in
    c.loop-m.invariant.closed e m (omega (arith, op-within c.args.p.now m i at.0 at.1, c.len-m-end.ensures, ap (λ (ms : List Method). length ms) c.methods.ensures.same)) i n count under enters
