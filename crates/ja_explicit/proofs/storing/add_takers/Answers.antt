use Rattle.std.proofs.Common.{◌++◌}
use Rattle.ja_explicit.specs.InnerSteps as steps
use Rattle.ja_explicit.proofs.Looping.{over_more}
use Rattle.ja_explicit.proofs.storing.add_takers.Goals as goal

pub loop-token-preserved : goal.loop-token-preserved
loop-token-preserved c =
    over_more (steps.takes_by c.args.p.now c.args.takers.now) c.loop-token.token c.token_count-count.result c.loop-token.out c.add_taker.new.out
    (c.args.out.now ++ steps.takes_all c.args.p.now c.args.takers.now) c.loop-token-test.true c.in_ok-add_taker.ensures c.loop-token.invariant
