use Rattle.std.proofs.Common.{◌∙◌}
use Rattle.ja_solving.proofs.More.{told-next}
use Rattle.ja_solving.proofs.telling.tell_all.Goals as goal

pub loop-constraint-preserved : goal.loop-constraint-preserved
loop-constraint-preserved c =
    let kept = c.loop-constraint.invariant in
    let told = c.in_ok-tell.ensures in
    record {
      network = told.network;
      size = told.extends.same_tokens ∙ kept.size;
      extends = told-next c.args.p.now c.args.net.now c.loop-constraint.net c.tell.new.net c.args.told.now c.loop-constraint.constraint-index _ c.loop-constraint-test.true kept.extends told.extends;
    }
