use Rattle.std.proofs.Common.{◌<◌, length, arith, ◌∙◌}
use Rattle.std.proofs.lemmas.List.{get_or_default}
use Rattle.ja_supertypes.proofs.ListSteps.{gathered-more}
use Rattle.ja_supertypes.proofs.gather.gather.Goals as goal

pub loop-class-preserved : goal.loop-class-preserved
loop-class-preserved c =
    let lt : c.loop-class.class < length c.args.supers.now = omega arith in
    gathered-more c.args.own.now c.args.supers.now c.args.len c.loop-class.class c.as_slice.result.now c.loop-class.sets.items c.push.new.self.items c.in_ok-set.set lt
    (c.as_slice.ensures ∙ c.index-supers-class.is ∙ get_or_default c.args.supers.now c.loop-class.class c.index-supers-class.result c.as_slice.result.now lt)
    c.loop-class.invariant c.in_ok-set.ensures c.in_ok-push.ensures.items
