use Rattle.std.proofs.Common.{◌+◌, ◌∙◌, arith}
use Rattle.ja_firing.specs.Tokens.{fires}
use Rattle.ja_solving.specs.Rules.{OneSays}
use Rattle.ja_solving.specs.InnerWorking.{FiresAll}
use Rattle.ja_solving.proofs.More.{Below, extends-more, fires-next}
use Rattle.ja_solving.proofs.firing.fire_each.Goals as goal

pub tokens-preserved : goal.tokens-preserved
tokens-preserved c =
    let kept = c.tokens.invariant in
    let fired = c.in_ok-fire.ensures in
    let next = c.in-Some.ensures.some in
    let p = c.args.p.now in
    let names = c.args.names.now in
    let set = c.args.set.now in
    let a = c.args.action in
    let t = c.in-Some.token in
    record {
      network = fired.network;
      size = fired.extends.same_tokens ∙ kept.size;
      within = let below = next.below in omega arith;
      extends = extends-more c.args.net.now c.tokens.net c.fire.new.net (FiresAll p names (Below p names set a c.tokens.from) a) (OneSays p (fires p names t a))
          (FiresAll p names (Below p names set a (t + 1)) a) kept.extends fired.extends (fires-next p names set a c.tokens.from t next);
    }
