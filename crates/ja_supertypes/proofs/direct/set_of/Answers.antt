use Rattle.std.proofs.Common.{◌<◌, length, get_or, arith}
use Rattle.std.proofs.lemmas.List.{get_or_default}
use Rattle.ja_supertypes.proofs.ListSteps.{set-more}
use Rattle.ja_supertypes.proofs.direct.set_of.Goals as goal

pub loop-place-preserved : goal.loop-place-preserved
loop-place-preserved c =
    let lt : c.loop-place.place-index < length c.args.places.now = omega arith in
    set-more c.args.places.now c.loop-place.place-index (get_or c.args.places.now c.loop-place.place-index 0) c.args.len c.loop-place.set c.add.new.self lt
    (get_or_default c.args.places.now c.loop-place.place-index 0 (get_or c.args.places.now c.loop-place.place-index 0) lt)
    (c.requires c.loop-place.place-index 0 lt) c.loop-place.invariant c.add.ensures.set
