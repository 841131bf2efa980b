use Rattle.std.proofs.Common.{◌≡◌, Some, List, length, refl, sym, ap, ◌∙◌, subst, arith}
use Rattle.std.specs.Prelude.{slice_get}
use Rattle.std.proofs.lemmas.Option.{slice_get-get_or}
use Rattle.ja_ir.specs.declared.method.Method.{Method}
use Rattle.ja_blocks.specs.Blocks.{AreRuns}
use Rattle.ja_blocks.proofs.Ordering.{AreUpTo, up_to_none, up_to_more, up_to_all}
use Rattle.ja_blocks.proofs.blocks.program_blocks.Goals as goal

pub loop-method-init : goal.loop-method-init
loop-method-init c = (refl, subst (AreUpTo c.args.p.now 0) (sym c.new-blocks.ensures) (up_to_none c.args.p.now))

pub loop-method-preserved : goal.loop-method-preserved
loop-method-preserved c =
    let i = c.loop-method.method-index in
    let same : c.as_slice-method-items.result.now ≡ c.args.p.now.methods = c.as_slice-method-items.ensures ∙ c.methods.ensures.same in
    let number : c.loop-method.number ≡ i = c.loop-method.invariant.0 in
    let at : slice_get c.args.p.now.methods c.loop-method.number ≡ Some c.method-item.result =
    ap (slice_get c.args.p.now.methods) number ∙ ap (λ (xs : List Method). slice_get xs i) (sym same) ∙ slice_get-get_or c.as_slice-method-items.result.now i c.method-item.result c.loop-method-test.true ∙ ap Some (sym c.method-item.is) in (
      (omega arith),
      up_to_more c.args.p.now c.loop-method.number c.method-item.result c.loop-method.blocks c.add_blocks.new.out c.as_slice.result.now at
          (subst (AreRuns c.method-item.result) (sym c.as_slice.ensures) c.in_ok-row.ensures) c.in_ok-add_blocks.ensures c.loop-method.invariant.1,
    )

pub returns : goal.returns
returns c = up_to_all c.args.p.now c.loop-method.number c.loop-method.blocks
    (let past = c.loop-method-test.false in let e = ap (λ (xs : List Method). length xs) (c.as_slice-method-items.ensures ∙ c.methods.ensures.same) in let n = c.loop-method.invariant.0 in omega arith)
    c.loop-method.invariant.1
