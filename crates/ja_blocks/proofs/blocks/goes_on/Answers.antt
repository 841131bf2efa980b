use Rattle.std.proofs.Common.{◌≡◌, ◌+◌, ◌<◌, ℕ, List, get_or, take, length, sym, ap, ◌∙◌, subst, ⊎_elim, arith}
use Rattle.std.specs.Prelude.{Contains}
use Rattle.std.proofs.lemmas.List.{get_or_default}
use Rattle.ja_blocks.proofs.More.{taken_more, taken_all}
use Rattle.ja_blocks.proofs.blocks.goes_on.Goals as goal

pub loop-next-preserved : goal.loop-next-preserved
loop-next-preserved c =
    let xs = c.args.instr.now.next in
    let i = c.loop-next.next-index in
    let same : c.as_slice-next-items.result.now ≡ xs = c.as_slice-next-items.ensures in
    let lt : i < length xs = subst (λ (ys : List ℕ). i < length ys) same c.loop-next-test.true in
    let is : get_or xs i 0 ≡ c.args.place + 1 = subst (λ (ys : List ℕ). get_or ys i 0 ≡ c.args.place + 1) same c.if-next-place.false in
    λ j has. ⊎_elim (λ before. c.loop-next.invariant j before) (λ e. e ∙ is) ((taken_more xs i (get_or xs i 0) j lt (sym (get_or_default xs i (get_or xs i 0) 0 lt))).1 has)

pub returns : goal.returns
returns c =
    let xs = c.args.instr.now.next in
    let same : c.as_slice-next-items.result.now ≡ xs = c.as_slice-next-items.ensures in
    λ _ no j has.
    let past = c.loop-next-test.false in
    let upto = c.loop-next.auto.next-index-end in
    let all : take c.loop-next.next-index xs ≡ xs = taken_all xs c.loop-next.next-index (let long = ap length same in omega arith) (let long = ap length same in omega arith) in
    let is = c.loop-next.invariant j (subst (λ (ys : List ℕ). Contains ys j) (sym all) has) in
    omega arith
