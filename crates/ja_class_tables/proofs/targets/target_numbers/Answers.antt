use Rattle.std.proofs.Common.{◌+◌, ◌∙◌, length, ap, arith}
use Rattle.std.proofs.lemmas.List.{length_push}
use Rattle.ja_class_tables.proofs.Pools.{grows-on}
use Rattle.ja_class_tables.proofs.Said.{all-targets-more, all-targets}
use Rattle.ja_class_tables.proofs.targets.target_numbers.Goals as goal

pub loop-m-preserved : goal.loop-m-preserved
loop-m-preserved c =
    let before = c.loop-m.invariant in
    let grown = c.in_ok-row.ensures.grows in
    let pushed = c.in_ok-push.ensures.ok in
    record {
      grows = grows-on c.args.pool.now c.loop-m.pool c.method_targets.new.pool before.grows grown;
      size = ap length pushed ∙ length_push c.loop-m.table c.in_ok-row.row ∙ ap (λ n. n + 1) before.size;
      said = all-targets-more c.loop-m.pool c.method_targets.new.pool c.args.noted.now c.loop-m.m c.at.result.now c.loop-m.table c.push.new.self c.in_ok-row.row c.at.ensures before.size grown before.said c.in_ok-row.ensures.said pushed;
    }

pub returns-clause-said : goal.returns-clause-said
returns-clause-said c = all-targets c.loop-m.pool c.args.noted.now c.loop-m.m c.loop-m.table c.loop-m.invariant.size (omega arith) c.loop-m.invariant.said
