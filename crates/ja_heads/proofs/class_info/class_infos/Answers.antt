use Rattle.std.proofs.Common.{◌≡◌, ℕ, ◌++◌, [], ◌∷◌, List, length, get_or, sym, ap, ◌∙◌, subst, arith}
use Rattle.std.specs.Prelude.{Some, slice_get}
use Rattle.std.proofs.lemmas.Option.{get_or_from_slice_get}
use Rattle.std.proofs.lemmas.List.{length-append}
use Rattle.ja_ir.specs.declared.class.ClassInfo.{ClassInfo}
use Rattle.ja_heads.specs.Classes.{IsClassInfo}
use Rattle.ja_heads.proofs.Steps.{pushed}
use Rattle.ja_heads.proofs.class_info.class_infos.Goals as goal

pub loop-c-preserved : goal.loop-c-preserved
loop-c-preserved c =
    let info : ClassInfo = c.in_ok-class_info.field-0 in
    let own : (file : List ℕ) → slice_get c.args.files.now c.loop-c.c ≡ Some file → IsClassInfo c.args.hier.now file c.loop-c.c info =
    λ file at.
    let same : c.file-item.result ≡ file =
    c.file-item.is ∙ ap (λ (l : List (List ℕ)). get_or l c.loop-c.c c.file-item.result) c.as_slice-file-items.ensures ∙ get_or_from_slice_get c.args.files.now c.loop-c.c file c.file-item.result at in
    subst (λ (f : List ℕ). IsClassInfo c.args.hier.now f c.loop-c.c info) same c.in_ok-class_info.ensures in
    let each : (k : ℕ) (other : ClassInfo) → slice_get (c.loop-c.infos ++ info ∷ []) k ≡ Some other → (file : List ℕ) → slice_get c.args.files.now k ≡ Some file → IsClassInfo c.args.hier.now file k other =
    pushed (λ k other. (file : List ℕ) → slice_get c.args.files.now k ≡ Some file → IsClassInfo c.args.hier.now file k other) c.loop-c.infos info
    (λ k other at file placed. c.loop-c.invariant.each k file other placed at)
    (subst (λ (n : ℕ). (file : List ℕ) → slice_get c.args.files.now n ≡ Some file → IsClassInfo c.args.hier.now file n info) (sym c.loop-c.invariant.size) own) in
    record {
      size = omega (arith, ap (λ (l : List ClassInfo). length l) c.in_ok-push.ensures.ok, length-append c.loop-c.infos (info ∷ []), c.loop-c.invariant.size);
      each = λ k file other placed at. each k other (ap (λ (l : List ClassInfo). slice_get l k) (sym c.in_ok-push.ensures.ok) ∙ at) file placed;
    }
