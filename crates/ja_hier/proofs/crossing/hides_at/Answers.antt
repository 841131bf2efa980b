use Rattle.std.proofs.Common.{◌≡◌, List, sym, ap, ◌∙◌}
use Rattle.std.specs.Prelude.{Some, slice_get}
use Rattle.ja_ir.specs.declared.head.ClassHead.{ClassHead}
use Rattle.ja_hier.specs.declared.starts.Member.TheVariants.{Method}
use Rattle.ja_hier.proofs.ByPlace.{class-places}
use Rattle.ja_hier.proofs.crossing.hides_at.Goals as goal

pub hides-requires : goal.hides-requires
hides-requires c = λ name.
    let found : slice_get c.args.tables.now.classes c.args.other ≡ Some c.at.result.now = ap (λ (hs : List ClassHead). slice_get hs c.args.other) (sym c.heads.ensures) ∙ c.at.ensures in
    class-places Method c.args.tables.now.classes c.args.tables.now.methods.places c.args.other c.at.result.now c.at-then-is_superclass.result.now name c.requires.indexed.method_places found c.at-then-is_superclass.ensures
