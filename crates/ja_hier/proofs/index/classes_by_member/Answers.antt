use Rattle.std.proofs.Common.{◌≡◌, ◌<◌, length, refl, arith}
use Rattle.std.specs.Prelude.{Some, slice_get}
use Rattle.std.proofs.lemmas.Option.{slice_get_read}
use Rattle.ja_hier.proofs.Indexed.{index-begin, index-more, index-end}
use Rattle.ja_hier.proofs.index.classes_by_member.Goals as goal

pub loop-class-preserved : goal.loop-class-preserved
loop-class-preserved c =
    let lt : c.loop-class.class < length c.args.heads.now = omega arith in
    let found : slice_get c.args.heads.now c.loop-class.class ≡ Some c.index-heads-class.result = slice_get_read c.args.heads.now (length c.args.heads.now) c.loop-class.class c.index-heads-class.result refl lt c.index-heads-class.is in
    index-more c.args.member c.args.heads.now c.loop-class.class c.index-heads-class.result c.loop-class.index c.note_class.new.index found c.loop-class.invariant c.in_ok-note_class.ensures

pub returns : goal.returns
returns c = index-end c.args.member c.args.heads.now c.loop-class.class c.loop-class.index (omega arith) c.loop-class.invariant

pub loop-class-init : goal.loop-class-init
loop-class-init c = index-begin c.args.member c.args.heads.now c.new-index.result c.new-index.ensures
