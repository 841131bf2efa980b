use Rattle.std.proofs.Common.{◌≡◌, ℕ, sym, ◌∙◌, subst, ⊎_elim}
use Rattle.ja_ir.specs.declared.op.Op.{Op}
use Rattle.ja_blocks.specs.Readers.{Gets}
use Rattle.ja_blocks.proofs.More.{noted_same}
use Rattle.ja_blocks.proofs.readers.note_field.Goals as goal

pub returns-in_ok-note-in-GetField : goal.returns-in_ok-note-in-GetField
returns-in_ok-note-in-GetField c = noted_same c.args.lists.now.items c.note.new.lists.items (λ k x. (k ≡ c.from.result) × (x ≡ c.args.block)) (λ k x. Gets c.args.op.now k × (x ≡ c.args.block))
    c.in_ok-note-in-GetField.ensures
    (λ k x. ((λ r. (gets k (r.0 ∙ c.from.ensures), r.1)), (λ r. (got k r.0 ∙ sym c.from.ensures, r.1))))
  where
    gets : (k : ℕ) → k ≡ c.in-GetField.field.0 → Gets c.args.op.now k
    gets k e = ⊎_elim (λ is. subst (λ (op : Op). Gets op k) (sym is) e) (λ is. subst (λ (op : Op). Gets op k) (sym is) e) c.in-GetField.is

    got : (k : ℕ) → Gets c.args.op.now k → k ≡ c.in-GetField.field.0
    got k e = ⊎_elim (λ is. subst (λ (op : Op). Gets op k) is e) (λ is. subst (λ (op : Op). Gets op k) is e) c.in-GetField.is
