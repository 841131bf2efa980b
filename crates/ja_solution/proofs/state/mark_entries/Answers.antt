use Rattle.std.proofs.Common.{◌+◌, ℕ, List, take, sym, ap, ◌∙◌, subst, inl, inr, ⊎_elim}
use Rattle.ja_blocks.proofs.More.{taken_none, taken_more, taken_all}
use Rattle.ja_blocks.specs.Index.{InList}
use Rattle.ja_ir.specs.declared.entry.Entry.{Entry}
use Rattle.ja_solution.specs.InnerMarks.{AreMarked, BeginsOneOf}
use Rattle.ja_solution.proofs.Marking.{marked_none, marked_then}
use Rattle.ja_solution.proofs.state.mark_entries.Goals as goal

pub loop-entry-init : goal.loop-entry-init
loop-entry-init c = marked_none c.args.dirty.now.items (BeginsOneOf c.args.layout.now (take 0 c.args.entries.now)) (λ k lt p. taken_none c.args.entries.now p.0 p.1)

pub loop-entry-preserved : goal.loop-entry-preserved
loop-entry-preserved c =
    let xs = c.args.entries.now in
    let i = c.loop-entry.entry-index in
    let y : Entry = c.entry-item.result in
    marked_then c.args.dirty.now.items c.loop-entry.dirty.items c.mark_list.new.dirty.items (BeginsOneOf c.args.layout.now (take i xs)) (InList c.as_slice.result.now c.from.result) (BeginsOneOf c.args.layout.now (take (i + 1) xs))
    c.loop-entry.invariant c.mark_list.ensures
    (λ k p. ⊎_elim (λ old. inl (p.0, old, p.2)) (λ new. inr (subst (λ (q : List (List ℕ) × ℕ). InList q.0 q.1 k) (λ t. (sym c.as_slice.ensures t, (ap (λ (e : Entry). e.method.0) new ∙ sym c.from.ensures) t)) p.2))
    ((taken_more xs i y p.0 c.loop-entry-test.true c.entry-item.is).1 p.1))

pub returns : goal.returns
returns c =
    let xs = c.args.entries.now in
    subst (λ (ys : List Entry). AreMarked c.args.dirty.now.items c.loop-entry.dirty.items (BeginsOneOf c.args.layout.now ys)) (taken_all xs c.loop-entry.entry-index c.loop-entry-test.false c.loop-entry.auto.entry-index-end) c.loop-entry.invariant
