use Rattle.std.proofs.Common.{map}
use Rattle.ja_tokens.specs.Shapes.{place_meant}
use Rattle.ja_explicit.specs.InnerSteps as steps
use Rattle.ja_explicit.proofs.Looping.{over_more}
use Rattle.ja_explicit.proofs.landing.places_of.Goals as goal

pub loop-token-preserved : goal.loop-token-preserved
loop-token-preserved c =
    over_more (steps.places_of_token c.args.p.now c.thrown-thrown.result.now c.args.method.now c.args.i) c.loop-token.token c.token_count-count.result (map place_meant c.loop-token.places) (map place_meant c.add_places_of_token.new.places)
    (steps.places_of c.args.p.now c.args.facts.now c.args.m c.args.i c.args.method.now) c.loop-token-test.true c.in_ok-add_places_of_token.ensures c.loop-token.invariant
