use Rattle.std.proofs.Common.{◌≡◌, ℕ, List, sym, ap, ◌∙◌}
use Rattle.std.specs.Prelude.{Option, Some, slice_get, ◌&&◌, not, bytes_eq, position}
use Rattle.ja_ir.specs.declared.head.ClassHead.{ClassHead}
use Rattle.ja_ir.specs.declared.head.HeadMethod.{HeadMethod}
use Rattle.ja_hier.specs.declared.starts.Member.TheVariants.{Method}
use Rattle.ja_hier.specs.InnerIndex.{first_place, is_method}
use Rattle.ja_hier.specs.LookUps.{methods_of, skips}
use Rattle.ja_hier.proofs.ByPlace.{class-places, first-method}
use Rattle.ja_hier.proofs.methods.method_in.Goals as goal

pub returns : goal.returns
returns c =
    let heads : List ClassHead = c.args.tables.now.classes in
    let head : ClassHead = c.at.result.now in
    let found : slice_get heads c.args.class ≡ Some head = ap (λ (hs : List ClassHead). slice_get hs c.args.class) (sym c.heads.ensures) ∙ c.at.ensures in
    c.first_method.ensures
    ∙ ap (first_place (is_method c.args.skip c.args.desc.now) head.methods) (c.at-places.ensures ∙ class-places Method heads c.args.tables.now.methods.places c.args.class head c.at-2.result.now c.args.name.now c.requires.indexed.method_places found c.at-2.ensures)
    ∙ first-method c.args.skip c.args.name.now c.args.desc.now head.methods
    ∙ ap (λ (o : Option ClassHead). position (λ (method : HeadMethod). bytes_eq method.name c.args.name.now && bytes_eq method.desc c.args.desc.now && not (skips c.args.skip method.flags)) (methods_of o)) (sym found)
