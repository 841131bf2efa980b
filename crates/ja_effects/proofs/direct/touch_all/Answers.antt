use Rattle.std.proofs.Common.{List, length, ap, arith}
use Rattle.ja_ir.specs.declared.method.Method.{Method}
use Rattle.ja_facts.specs.Told.{TellsGraph}
use Rattle.ja_effects.proofs.Directing.{methods-more, methods-all}
use Rattle.ja_effects.proofs.direct.touch_all.Goals as goal

pub loop-m-preserved : goal.loop-m-preserved
loop-m-preserved c = record {
  flags = c.touch_method.ensures.flags;
  gains = methods-more c.args.p.now (TellsGraph c.args.p.now c.args.g.now) c.args.s.now c.args.effects.now c.loop-m.effects c.touch_method.new.effects c.loop-m.m c.loop-m.invariant.gains c.touch_method.ensures.gains;
}

pub returns-clause-gains : goal.returns-clause-gains
returns-clause-gains c =
    methods-all c.args.p.now (TellsGraph c.args.p.now c.args.g.now) c.args.s.now c.args.effects.now c.loop-m.effects c.loop-m.m (omega (arith, c.len-m-end.ensures, ap (λ (ms : List Method). length ms) c.methods.ensures.same)) c.loop-m.invariant.gains
