use Rattle.std.proofs.Common.{◌<◌, length, get_or, ap, arith}
use Rattle.std.proofs.lemmas.Option.{slice_get-get_or}
use Rattle.ja_base.specs.declared.id.ClassId.{ClassId}
use Rattle.ja_holds.proofs.Owning.{sets-more}
use Rattle.ja_holds.proofs.classes.add_sets.Goals as goal

pub loop-class-preserved : goal.loop-class-preserved
loop-class-preserved c =
    let lt : c.loop-class.class-index < length c.args.classes.now = omega arith in
    let both = sets-more c.args.rows.now c.args.classes.now c.args.n c.loop-class.class-index (get_or c.args.classes.now c.loop-class.class-index (record { 0 = 0 })) c.args.to.now c.loop-class.to c.at.result.now c.join.new.self
    c.requires.sets (slice_get-get_or c.args.classes.now c.loop-class.class-index (record { 0 = 0 }) lt) (c.requires.inside c.loop-class.class-index (record { 0 = 0 }) lt) c.at.ensures c.loop-class.invariant.size c.join.ensures.joined c.loop-class.invariant.has in
    record { size = both.0; has = both.1 }
