use Rattle.std.proofs.Common.{◌≡◌, ◌++◌, List, length, map, refl, sym, ap, ◌∙◌}
use Rattle.std.specs.Prelude.{Some, slice_get}
use Rattle.std.proofs.lemmas.Option.{slice_get_read}
use Rattle.ja_ir.specs.declared.head.ClassHead.{ClassHead}
use Rattle.ja_ir.specs.declared.head.HeadMethod.{HeadMethod}
use Rattle.ja_heads.specs.declared.signature.Signature.{Signature}
use Rattle.ja_heads.specs.Signatures.{first_seen, signature_of}
use Rattle.ja_heads.proofs.Steps.{beside-other}
use Rattle.ja_heads.proofs.signature.add_other.Goals as goal

pub returns : goal.returns
returns c = λ seen e.
    let found : slice_get c.args.heads.now c.args.other.0 ≡ Some c.index-heads-other.result =
    slice_get_read c.args.heads.now (length c.args.heads.now) c.args.other.0 c.index-heads-other.result refl c.requires c.index-heads-other.is in
    c.in_ok-add_class.ensures seen e
    ∙ ap (λ (l : List HeadMethod). first_seen (seen ++ map signature_of l)) (c.as_slice.ensures ∙ ap (λ (h : ClassHead). h.methods) (sym c.index-heads-other.is))
    ∙ ap (λ (l : List Signature). first_seen (seen ++ l)) (sym (beside-other c.args.heads.now c.args.class.0 c.args.other.0 c.index-heads-other.result c.if-other-class.false found))
