use Rattle.std.proofs.Common.{arith}
use Rattle.std.proofs.lemmas.Result.{IfOk-weaker, IfErr-weaker}
use Rattle.ja_bdd.specs.Meaning.{meaning}
use Rattle.ja_bdd.specs.Workers.{seen}
use Rattle.ja_join.specs.Steps.{joint}
use Rattle.ja_join.specs.Inner.{stepped_from}
use Rattle.ja_join.proofs.Leading.{stepped_is, step_meant}
use Rattle.ja_join.proofs.Remembering.{right_none}
use Rattle.ja_join.proofs.pass.step_with.Goals as goal

pub step_from-requires-clause-asked : goal.step_from-requires-clause-asked
step_from-requires-clause-asked g c κs within =
    let w = c.args.worker.now in
    let rule = c.args.rule.now in
    let φ = joint rule.moves.items (meaning (seen w) c.args.r.number) (meaning (seen w) c.args.told.number) in
    record {
      worker = c.requires.worker;
      known = c.requires.known.0;
      told = c.requires.known.1;
      later = λ u lt. absurd (omega arith);
      ascending = rule.ascending;
      telling = rule.telling;
      right = right_none rule (seen w) c.begin.new.self c.begin.ensures;
      aimed = λ ψ low from free below. c.requires.aim (stepped_from rule 0 rule.start φ) (stepped_is rule φ) ψ low free below;
    }

pub returns-clause-ok : goal.returns-clause-ok
returns-clause-ok g c =
    let w = c.args.worker.now in
    let rule = c.args.rule.now in
    let φ = joint rule.moves.items (meaning (seen w) c.args.r.number) (meaning (seen w) c.args.told.number) in
    IfOk-weaker c.step_from.result _ _ (λ n is. (is.0, step_meant rule φ (meaning (seen c.step_from.new.worker) n.number) is.1)) c.step_from.ensures.ok

pub returns-clause-full : goal.returns-clause-full
returns-clause-full g c =
    let w = c.args.worker.now in
    let rule = c.args.rule.now in
    let φ = joint rule.moves.items (meaning (seen w) c.args.r.number) (meaning (seen w) c.args.told.number) in
    IfErr-weaker c.step_from.result _ _ (λ e lacks. (stepped_from rule 0 rule.start φ, stepped_is rule φ, lacks)) c.step_from.ensures.full
