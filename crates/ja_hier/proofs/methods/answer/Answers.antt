use Rattle.std.proofs.Common.{◌≡◌, ◌<◌, true, false, List, length, sym, ap, ◌∙◌, subst}
use Rattle.std.specs.Prelude.{Some, slice_get}
use Rattle.ja_ir.specs.declared.class.MethodAt.TheVariants.{Program, Abstract}
use Rattle.ja_ir.specs.Lookup.{is_abstract}
use Rattle.ja_ir.specs.declared.head.ClassHead.{ClassHead}
use Rattle.ja_ir.specs.declared.head.HeadMethod.{HeadMethod}
use Rattle.ja_hier.proofs.Numbers.{method-inside, answer-is}
use Rattle.ja_hier.proofs.methods.answer.Goals as goal

pub bounds-methods-place : goal.bounds-methods-place
bounds-methods-place c =
    let found : slice_get c.args.tables.now.classes c.args.class ≡ Some c.at.result.now = ap (λ (hs : List ClassHead). slice_get hs c.args.class) (sym c.heads.ensures) ∙ c.at.ensures in
    subst (λ (ms : List HeadMethod). c.args.place < length ms) (sym c.as_slice-methods.ensures)
    (method-inside c.args.tables.now.classes c.args.skip c.args.name.now c.args.desc.now c.args.class c.args.place c.at.result.now found c.requires.declared)

pub returns-then-is_abstract : goal.returns-then-is_abstract
returns-then-is_abstract c =
    let found : slice_get c.args.tables.now.classes c.args.class ≡ Some c.at.result.now = ap (λ (hs : List ClassHead). slice_get hs c.args.class) (sym c.heads.ensures) ∙ c.at.ensures in
    let lt : c.args.place < length c.at.result.now.methods = method-inside c.args.tables.now.classes c.args.skip c.args.name.now c.args.desc.now c.args.class c.args.place c.at.result.now found c.requires.declared in
    ap Abstract c.method_number-number.ensures
    ∙ answer-is c.args.tables.now.classes c.args.class c.args.place c.at.result.now c.as_slice-methods.result.now c.index-methods-place.result true found c.as_slice-methods.ensures lt c.index-methods-place.is
    (sym c.if-is_abstract.true ∙ c.is_abstract.ensures ∙ ap (λ (m : HeadMethod). is_abstract m.flags) (sym c.index-methods-place.is))

pub returns-else-is_abstract : goal.returns-else-is_abstract
returns-else-is_abstract c =
    let found : slice_get c.args.tables.now.classes c.args.class ≡ Some c.at.result.now = ap (λ (hs : List ClassHead). slice_get hs c.args.class) (sym c.heads.ensures) ∙ c.at.ensures in
    let lt : c.args.place < length c.at.result.now.methods = method-inside c.args.tables.now.classes c.args.skip c.args.name.now c.args.desc.now c.args.class c.args.place c.at.result.now found c.requires.declared in
    ap Program c.method_number-number.ensures
    ∙ answer-is c.args.tables.now.classes c.args.class c.args.place c.at.result.now c.as_slice-methods.result.now c.index-methods-place.result false found c.as_slice-methods.ensures lt c.index-methods-place.is
    (sym c.if-is_abstract.false ∙ c.is_abstract.ensures ∙ ap (λ (m : HeadMethod). is_abstract m.flags) (sym c.index-methods-place.is))
