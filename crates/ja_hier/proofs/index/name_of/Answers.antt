use Rattle.std.proofs.Common.{◌≡◌, sym, ap, ◌∙◌, subst}
use Rattle.std.specs.Prelude.{Option, Some, option_map, slice_get}
use Rattle.std.proofs.lemmas.Option.{slice_get-map}
use Rattle.ja_ir.specs.declared.head.HeadField.{HeadField}
use Rattle.ja_ir.specs.declared.head.HeadMethod.{HeadMethod}
use Rattle.ja_hier.specs.declared.starts.Member.{Member}
use Rattle.ja_hier.specs.InnerIndex.{member_names}
use Rattle.ja_hier.proofs.index.name_of.Goals as goal

pub returns-in-Field : goal.returns-in-Field
returns-in-Field c =
    subst (λ (member : Member). slice_get (member_names member c.args.head.now) c.args.place ≡ Some c.at.result.now.name) (sym c.in-Field.is)
    (slice_get-map (λ (field : HeadField). field.name) c.args.head.now.fields c.args.place ∙ ap (λ (o : Option HeadField). option_map (λ (field : HeadField). field.name) o) c.at.ensures)

pub returns-in-Method : goal.returns-in-Method
returns-in-Method c =
    subst (λ (member : Member). slice_get (member_names member c.args.head.now) c.args.place ≡ Some c.at-in-Method.result.now.name) (sym c.in-Method.is)
    (slice_get-map (λ (method : HeadMethod). method.name) c.args.head.now.methods c.args.place ∙ ap (λ (o : Option HeadMethod). option_map (λ (method : HeadMethod). method.name) o) c.at-in-Method.ensures)
