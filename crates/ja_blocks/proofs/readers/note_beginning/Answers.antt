use Rattle.std.proofs.Common.{◌≡◌, sym, ◌∙◌}
use Rattle.ja_blocks.proofs.More.{noted_same}
use Rattle.ja_blocks.proofs.readers.note_beginning.Goals as goal

pub returns-in_ok-note : goal.returns-in_ok-note
returns-in_ok-note c = noted_same c.args.lists.now.items c.note.new.lists.items (λ k x. (k ≡ c.from.result) × (x ≡ c.args.number)) (λ k x. ((c.args.block.method.0 ≡ k) × (c.args.block.first ≡ 0)) × (x ≡ c.args.number))
    (c.in_ok-note.ensures)
    (λ k x. ((λ r. ((sym (r.0 ∙ c.from.ensures), c.if-block-eq0.true), r.1)), (λ r. (sym r.0.0 ∙ sym c.from.ensures, r.1))))
