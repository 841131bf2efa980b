use Rattle.std.proofs.Common.{List, Bool, sym, subst}
use Rattle.ja_facts.specs.Told.{TellsGraph}
use Rattle.ja_names.specs.Tables.{HasFlags}
use Rattle.ja_effects.specs.Inner.{Gains, HasDirect}
use Rattle.ja_effects.proofs.Closing.{first-sound, first-direct, exact}
use Rattle.ja_effects.proofs.solve.effects.Goals as goal

pub rounds-init : goal.rounds-init
rounds-init c =
    let gains = subst (λ (t : List (List Bool)). Gains c.args.p.now t c.touch_all.new.effects (λ m r. HasDirect c.args.p.now (TellsGraph c.args.p.now c.args.g.now) c.args.s.now m r)) c.in_ok-effects.ensures c.touch_all.ensures.gains in
    record {
      flags = c.touch_all.ensures.flags;
      sound = first-sound c.args.p.now c.args.g.now c.args.s.now c.touch_all.new.effects gains;
      direct = first-direct c.args.p.now c.args.g.now c.args.s.now c.touch_all.new.effects gains;
    }

pub rounds-preserved : goal.rounds-preserved
rounds-preserved c = record {
  flags = c.round.ensures.step.flags;
  sound = c.round.ensures.step.sound;
  direct = λ m i r d. c.round.ensures.step.kept m r (c.rounds.invariant.direct m i r d);
}

pub returns-clause-exact : goal.returns-clause-exact
returns-clause-exact c =
    exact c.args.p.now c.args.g.now c.args.s.now c.round.new.effects c.round.ensures.step.sound (λ m i r d. c.round.ensures.step.kept m r (c.rounds.invariant.direct m i r d)) (c.round.ensures.closed c.rounds-test.false)
