use Rattle.std.proofs.Common.{ℕ, List, true, refl, ◌∙◌, subst, arith}
use Rattle.std.specs.Vec.{with_item}
use Rattle.ja_ir.specs.declared.entry.Entry.{Entry}
use Rattle.ja_solution.specs.InnerMarks.{AreMarked, ReadsStored}
use Rattle.ja_solution.proofs.Flagged.{stored_state}
use Rattle.ja_solution.proofs.state.store.Goals as goal

pub returns-clause-state : goal.returns-clause-state
returns-clause-state c = λ k kept. stored_state c.args.given.now c.requires.given k c.args.state.now c.args.number (with_item c.args.state.now.cells.stored c.args.number true)
    (let size = c.requires.sized.stored in let lt = c.requires.number in omega arith) refl c.requires.cell c.mark_stored.new.dirty
    (subst (λ (q : List Entry × ℕ). AreMarked c.args.state.now.dirty.items c.mark_stored.new.dirty.items (ReadsStored c.args.given.now.layout.now q.0 q.1)) (λ i. ((c.as_slice.ensures ∙ c.entries.ensures.same) i, c.from.ensures i)) c.mark_stored.ensures)
    kept
