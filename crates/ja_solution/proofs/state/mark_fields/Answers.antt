use Rattle.std.proofs.Common.{◌+◌, ℕ, List, take, get_or, sym, subst, inl, inr, ⊎_elim}
use Rattle.std.proofs.lemmas.List.{get_or_default}
use Rattle.ja_blocks.proofs.More.{taken_none, taken_more, taken_all}
use Rattle.ja_blocks.specs.Index.{InList}
use Rattle.ja_solution.specs.InnerMarks.{AreMarked, ReadsOneOf}
use Rattle.ja_solution.proofs.Marking.{marked_none, marked_then}
use Rattle.ja_solution.proofs.state.mark_fields.Goals as goal

pub loop-field-init : goal.loop-field-init
loop-field-init c = marked_none c.args.dirty.now.items (ReadsOneOf c.args.readers.now (take 0 c.args.fields.now)) (λ k lt p. taken_none c.args.fields.now p.0 p.1)

pub loop-field-preserved : goal.loop-field-preserved
loop-field-preserved c =
    let xs = c.args.fields.now in
    let i = c.loop-field.field-index in
    let y = get_or xs i 0 in
    marked_then c.args.dirty.now.items c.loop-field.dirty.items c.mark_list.new.dirty.items (ReadsOneOf c.args.readers.now (take i xs)) (InList c.args.readers.now y) (ReadsOneOf c.args.readers.now (take (i + 1) xs))
    c.loop-field.invariant c.mark_list.ensures
    (λ k p. ⊎_elim (λ old. inl (p.0, old, p.2)) (λ new. inr (subst (λ f. InList c.args.readers.now f k) new p.2)) ((taken_more xs i y p.0 c.loop-field-test.true (sym (get_or_default xs i y 0 c.loop-field-test.true))).1 p.1))

pub returns : goal.returns
returns c =
    let xs = c.args.fields.now in
    subst (λ (ys : List ℕ). AreMarked c.args.dirty.now.items c.loop-field.dirty.items (ReadsOneOf c.args.readers.now ys)) (taken_all xs c.loop-field.field-index c.loop-field-test.false c.loop-field.auto.field-index-end) c.loop-field.invariant
