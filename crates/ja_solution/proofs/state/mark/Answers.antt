use Rattle.std.proofs.Common.{◌≡◌, ◌+◌, ℕ, List, take, get_or, sym, subst}
use Rattle.std.specs.Prelude.{Contains}
use Rattle.std.proofs.lemmas.List.{get_or_default}
use Rattle.ja_blocks.proofs.More.{taken_none, taken_more, taken_all}
use Rattle.ja_solution.specs.InnerMarks.{AreMarked}
use Rattle.ja_solution.proofs.Marking.{marked_none, marked_then}
use Rattle.ja_solution.proofs.state.mark.Goals as goal

pub loop-number-init : goal.loop-number-init
loop-number-init c = marked_none c.args.dirty.now.items (λ k. Contains (take 0 c.args.numbers.now) k) (λ k lt p. taken_none c.args.numbers.now k p)

pub loop-number-preserved : goal.loop-number-preserved
loop-number-preserved c =
    let xs = c.args.numbers.now in
    let i = c.loop-number.number-index in
    let y = get_or xs i 0 in
    marked_then c.args.dirty.now.items c.loop-number.dirty.items c.mark_one.new.dirty.items (λ k. Contains (take i xs) k) (λ k. k ≡ y) (λ k. Contains (take (i + 1) xs) k)
    c.loop-number.invariant c.mark_one.ensures
    (λ k has. (taken_more xs i y k c.loop-number-test.true (sym (get_or_default xs i y 0 c.loop-number-test.true))).1 has)

pub returns : goal.returns
returns c =
    let xs = c.args.numbers.now in
    subst (λ (ys : List ℕ). AreMarked c.args.dirty.now.items c.loop-number.dirty.items (λ k. Contains ys k)) (taken_all xs c.loop-number.number-index c.loop-number-test.false c.loop-number.auto.number-index-end) c.loop-number.invariant
