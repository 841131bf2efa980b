use Rattle.std.proofs.Common.{ℕ, get_or, sym, ap, ◌∙◌}
use Rattle.ja_pool.specs.Table.{entry_text, brackets_of}
use Rattle.ja_pool.specs.InnerSlot.{nothing, seen}
use Rattle.ja_pool.proofs.Tables.{class_dims}
use Rattle.ja_pool.proofs.look.slot_dims.Goals as goal

pub returns-then-tag-eq-CLASS : goal.returns-then-tag-eq-CLASS
returns-then-tag-eq-CLASS c =
    let text_at_index = λ (j : ℕ). entry_text (seen c.args.bytes.now (get_or c.args.slots.now j nothing)) in
    c.brackets.ensures ∙ ap brackets_of (c.text_in.ensures ∙ ap text_at_index (c.from.ensures ∙ c.first.ensures))
    ∙ sym (class_dims c.args.bytes.now c.args.slots.now c.args.slot (sym c.tag.ensures ∙ c.if-tag-eq-CLASS.true))
