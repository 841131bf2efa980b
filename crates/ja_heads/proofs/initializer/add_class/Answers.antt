use Rattle.std.proofs.Common.{◌≡◌, ◌++◌, List, ap, ◌∙◌, subst}
use Rattle.std.specs.Prelude.{Some, slice_get}
use Rattle.ja_base.specs.declared.id.MethodId.{MethodId}
use Rattle.ja_ir.specs.declared.head.ClassHead.{ClassHead}
use Rattle.ja_ir.specs.declared.head.HeadMethod.{HeadMethod}
use Rattle.ja_heads.proofs.Initializers.{first_fits, of_class}
use Rattle.ja_heads.proofs.initializer.add_class.Goals as goal

pub add_methods-requires : goal.add_methods-requires
add_methods-requires c =
    let at : slice_get c.args.hier.now c.args.class.0 ≡ Some c.at-head.result.now =
    subst (λ (l : List ClassHead). slice_get l c.args.class.0 ≡ Some c.at-head.result.now) c.heads.ensures c.at-head.ensures in
    first_fits c.args.hier.now c.args.class.0 c.at-head.result.now c.first_method-first.result _ at c.first_method-first.ensures (ap (λ (l : List HeadMethod). Rattle.std.proofs.Common.length l) c.as_slice-methods.ensures) c.requires.methods

pub returns : goal.returns
returns c =
    let at : slice_get c.args.hier.now c.args.class.0 ≡ Some c.at-head.result.now =
    subst (λ (l : List ClassHead). slice_get l c.args.class.0 ≡ Some c.at-head.result.now) c.heads.ensures c.at-head.ensures in
    c.in_ok-add_methods.ensures
    ∙ ap (λ (l : List MethodId). c.args.inits.now ++ l) (of_class c.args.hier.now c.args.class.0 c.at-head.result.now c.first_method-first.result c.as_slice-methods.result.now at c.first_method-first.ensures c.as_slice-methods.ensures)
