use Rattle.std.proofs.Common.{◌<◌, List, length, sym, subst}
use Rattle.std.specs.Prelude.{All}
use Rattle.ja_base.specs.declared.id.ClassId.{ClassId}
use Rattle.ja_heads.proofs.Inside.{supers-inside}
use Rattle.ja_heads.proofs.class_info.class_info.Goals as goal

pub selections-requires-clause-supers : goal.selections-requires-clause-supers
selections-requires-clause-supers c =
    subst (λ (l : List ClassId). All (λ id. id.0 < length c.args.hier.now) l) (sym c.as_slice.ensures)
    (supers-inside c.args.hier.now c.args.class.0 c.in_ok-supers.supers c.requires.inside c.in_ok-supers.ensures)

pub initializers-requires-clause-inside : goal.initializers-requires-clause-inside
initializers-requires-clause-inside c =
    subst (λ (l : List ClassId). All (λ id. id.0 < length c.args.hier.now) l) (sym c.as_slice-2.ensures)
    (supers-inside c.args.hier.now c.args.class.0 c.in_ok-supers.supers c.requires.inside c.in_ok-supers.ensures)
