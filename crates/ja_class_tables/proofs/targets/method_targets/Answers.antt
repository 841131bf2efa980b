use Rattle.std.proofs.Common.{◌+◌, ◌∙◌, length, ap, arith}
use Rattle.std.proofs.lemmas.List.{length_push}
use Rattle.ja_class_tables.proofs.Pools.{grows-on}
use Rattle.ja_class_tables.proofs.Said.{targets-more, targets-all}
use Rattle.ja_class_tables.proofs.targets.method_targets.Goals as goal

pub loop-i-preserved : goal.loop-i-preserved
loop-i-preserved c =
    let before = c.loop-i.invariant in
    let grown = c.in_ok-number.ensures.grows in
    let pushed = c.in_ok-push.ensures.ok in
    record {
      grows = grows-on c.args.pool.now c.loop-i.pool c.number_of.new.pool before.grows grown;
      size = ap length pushed ∙ length_push c.loop-i.row c.in_ok-number.number ∙ ap (λ n. n + 1) before.size;
      said = targets-more c.loop-i.pool c.number_of.new.pool c.args.noted.now c.loop-i.i c.at.result.now c.loop-i.row c.push.new.self c.in_ok-number.number c.at.ensures before.size grown before.said c.in_ok-number.ensures.said pushed;
    }

pub returns-clause-said : goal.returns-clause-said
returns-clause-said c = targets-all c.loop-i.pool c.args.noted.now c.loop-i.i c.loop-i.row c.loop-i.invariant.size (omega arith) c.loop-i.invariant.said
