use Rattle.std.proofs.Common.{◌≡◌, ℕ, Some, sym, ap, ◌∙◌, subst, arith}
use Rattle.std.specs.Prelude.{slice_get}
use Rattle.std.proofs.lemmas.Option.{slice_get_within, slice_get-get_or}
use native.Mathlib.Decide.{dec_lt}
use mathlib.Core.Logic.{dite}
use Rattle.ja_ir.specs.declared.method.Instr.{Instr}
use Rattle.ja_blocks.specs.Inner.{GoesOn}
use Rattle.ja_blocks.proofs.blocks.go_straight.Goals as goal

pub loop-place-preserved : goal.loop-place-preserved
loop-place-preserved c = λ i instr lt at. dite (dec_lt i c.loop-place.place)
    (λ less. c.loop-place.invariant i instr less at)
    (λ not.
    let here : i ≡ c.loop-place.place = omega arith in
    let one : Some instr ≡ Some c.index-code-place.result =
    sym at ∙ ap (slice_get c.args.code.now) here ∙ slice_get-get_or c.args.code.now c.loop-place.place c.index-code-place.result c.loop-place-test.true ∙ ap Some (sym c.index-code-place.is) in
    let own : instr ≡ c.index-code-place.result = cc one in
    subst (λ (q : ℕ × Instr). GoesOn q.0 q.1) (λ t. (sym here t, sym own t)) (c.goes_on.ensures c.if-not-goes_on.false))

pub returns : goal.returns
returns c = λ _ i instr at. c.loop-place.invariant i instr (let within = slice_get_within c.args.code.now i instr at in let past = c.loop-place-test.false in omega arith) at
