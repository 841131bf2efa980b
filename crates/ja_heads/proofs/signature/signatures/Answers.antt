use Rattle.std.proofs.Common.{◌≡◌, ◌<◌, List, [], length, take, get_or, refl, sym, ap, ◌∙◌, arith}
use Rattle.std.specs.Prelude.{Some, slice_get, map}
use Rattle.std.proofs.lemmas.Option.{slice_get_read}
use Rattle.std.proofs.lemmas.List.{get_or_default}
use Rattle.ja_base.specs.declared.id.ClassId.{ClassId}
use Rattle.ja_ir.specs.declared.head.ClassHead.{ClassHead}
use Rattle.ja_ir.specs.declared.head.HeadMethod.{HeadMethod}
use Rattle.ja_heads.specs.Signatures.{first_seen, numbers_of, own_first, signature_of, signatures_of}
use Rattle.ja_heads.proofs.Steps.{beside-more, own-signatures}
use Rattle.ja_heads.proofs.signature.signatures.Goals as goal

pub loop-d-init : goal.loop-d-init
loop-d-init c =
    let found : slice_get c.args.heads.now c.args.class.0 ≡ Some c.index-heads-class.result =
    slice_get_read c.args.heads.now (length c.args.heads.now) c.args.class.0 c.index-heads-class.result refl c.requires.class c.index-heads-class.is in
    c.in_ok-add_class.ensures [] c.new-set.ensures.empty
    ∙ ap (λ (l : List HeadMethod). first_seen (map signature_of l)) (c.as_slice.ensures ∙ ap (λ (h : ClassHead). h.methods) (sym c.index-heads-class.is))
    ∙ ap first_seen (sym (own-signatures c.args.heads.now c.args.class.0 c.index-heads-class.result found))

pub loop-d-preserved : goal.loop-d-preserved
loop-d-preserved c =
    let lt : c.loop-d.d-index < length c.args.supers.now = omega arith in
    let id : ClassId = get_or c.args.supers.now c.loop-d.d-index (record { 0 = 0 }) in
    let read : id ≡ get_or c.args.supers.now c.loop-d.d-index id = get_or_default c.args.supers.now c.loop-d.d-index (record { 0 = 0 }) id lt in
    c.in_ok-add_other.ensures (signatures_of c.args.heads.now (own_first c.args.class.0 (numbers_of (take c.loop-d.d-index c.args.supers.now)))) c.loop-d.invariant
    ∙ ap first_seen (sym (beside-more c.args.heads.now c.args.class.0 c.args.supers.now c.loop-d.d-index id lt read))
