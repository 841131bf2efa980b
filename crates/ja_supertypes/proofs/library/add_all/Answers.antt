use Rattle.std.proofs.Common.{◌<◌, ◌++◌, length, take, sym, ap, ◌∙◌, arith, append-nil}
use Rattle.ja_supertypes.specs.LibraryTypes.{first_places}
use Rattle.ja_supertypes.proofs.FirstPlaces.{more-added}
use Rattle.ja_supertypes.proofs.library.add_all.Goals as goal

pub loop-name-init : goal.loop-name-init
loop-name-init c = λ names is. is ∙ ap first_places (sym (append-nil names))

pub loop-name-preserved : goal.loop-name-preserved
loop-name-preserved c = λ names is.
    let lt : c.loop-name.name-index < length c.args.added.now = omega arith in
    c.in_ok-add.ensures (names ++ take c.loop-name.name-index c.args.added.now) (c.loop-name.invariant names is)
    ∙ ap first_places (more-added names c.args.added.now c.loop-name.name-index c.name-item.result lt c.name-item.is)
