use Rattle.std.proofs.Common.{◌≡◌, ℕ, List, sym, ap, ◌∙◌}
use Rattle.std.specs.Prelude.{Option, Some, slice_get, ◌&&◌, bytes_eq, position}
use Rattle.ja_ir.specs.declared.head.ClassHead.{ClassHead}
use Rattle.ja_ir.specs.declared.head.HeadField.{HeadField}
use Rattle.ja_hier.specs.declared.starts.Member.TheVariants.{Field}
use Rattle.ja_hier.specs.InnerIndex.{first_place, is_field}
use Rattle.ja_hier.specs.LookUps.{fields_of}
use Rattle.ja_hier.proofs.ByPlace.{class-places, first-field}
use Rattle.ja_hier.proofs.fields.field_in.Goals as goal

pub returns : goal.returns
returns c =
    let heads : List ClassHead = c.args.tables.now.classes in
    let head : ClassHead = c.at.result.now in
    let found : slice_get heads c.args.class ≡ Some head = ap (λ (hs : List ClassHead). slice_get hs c.args.class) (sym c.heads.ensures) ∙ c.at.ensures in
    c.first_field.ensures
    ∙ ap (first_place (is_field c.args.desc.now) head.fields) (c.at-places.ensures ∙ class-places Field heads c.args.tables.now.fields.places c.args.class head c.at-2.result.now c.args.name.now c.requires.indexed.field_places found c.at-2.ensures)
    ∙ first-field c.args.name.now c.args.desc.now head.fields
    ∙ ap (λ (o : Option ClassHead). position (λ (field : HeadField). bytes_eq field.name c.args.name.now && bytes_eq field.desc c.args.desc.now) (fields_of o)) (sym found)
