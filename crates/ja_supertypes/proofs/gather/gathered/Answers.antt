use Rattle.std.proofs.Common.{◌<◌, [], length, get_or, ap, ◌∙◌, arith}
use Rattle.std.proofs.lemmas.List.{get_or_default}
use Rattle.ja_supertypes.proofs.ListSteps.{gather-none, gather-more}
use Rattle.ja_supertypes.proofs.gather.gathered.Goals as goal

pub loop-above-init : goal.loop-above-init
loop-above-init c =
    let lt : c.args.class < length c.args.own.now = c.requires.class in
    gather-none c.args.own.now c.args.class c.args.len c.index-own-class.result c.in_ok-set.set c.join.new.self c.in_ok-set.ensures
    (c.index-own-class.is ∙ get_or_default c.args.own.now c.args.class c.index-own-class.result [] lt) (ap length c.index-own-class.is ∙ c.requires.widths c.args.class c.index-own-class.result lt) c.join.ensures.joined

pub loop-above-preserved : goal.loop-above-preserved
loop-above-preserved c =
    let lt : c.loop-above.above-index < length c.args.supers.now = omega arith in
    let inside : get_or c.args.supers.now c.loop-above.above-index 0 < length c.args.own.now = c.requires.inside c.loop-above.above-index 0 lt in
    gather-more c.args.own.now c.args.class c.args.supers.now c.loop-above.above-index (get_or c.args.supers.now c.loop-above.above-index 0) c.args.len
    c.index-own-above.result c.loop-above.set c.join-in-loop-above.new.self lt
    (get_or_default c.args.supers.now c.loop-above.above-index 0 (get_or c.args.supers.now c.loop-above.above-index 0) lt)
    (c.index-own-above.is ∙ get_or_default c.args.own.now (get_or c.args.supers.now c.loop-above.above-index 0) c.index-own-above.result [] inside)
    (ap length c.index-own-above.is ∙ c.requires.widths (get_or c.args.supers.now c.loop-above.above-index 0) c.index-own-above.result inside)
    c.loop-above.invariant c.join-in-loop-above.ensures.joined
