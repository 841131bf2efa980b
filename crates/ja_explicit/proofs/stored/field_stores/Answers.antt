use Rattle.std.proofs.Common.{◌≡◌, ℕ, ◌≤◌, Bool, false, List, [], length, sym, ap, subst, ◌∙◌}
use Rattle.std.specs.Prelude.{◌&&◌, slice_index_or}
use Rattle.std.proofs.lemmas.Option.{get_or_from_slice_get}
use Rattle.ja_ir.specs.declared.class.Field.{Field}
use Rattle.ja_facts.specs.FactTables.{cell_count}
use Rattle.ja_facts.specs.Formulas.{any_below}
use Rattle.ja_explicit.specs.Tables.{items_of}
use Rattle.ja_explicit.specs.InnerSteps as steps
use Rattle.ja_explicit.proofs.Looping.{nothing_below, past_end}
use Rattle.ja_explicit.proofs.stored.field_stores.Goals as goal

pub returns-then-field-len : goal.returns-then-field-len
returns-then-field-len c =
    let rows = c.args.facts.now.holds.fields in
    let past : slice_index_or rows c.args.field.0 [] ≡ [] = past_end rows c.args.field.0 []
    (subst (λ (n : ℕ). n ≤ c.args.field.0) (c.len.ensures ∙ ap (λ (fs : List Field). length fs) c.fields.ensures.same ∙ sym c.requires) c.if-field-len.true) in
    sym
    (nothing_below (λ k. slice_index_or (slice_index_or rows c.args.field.0 []) k false && steps.stores (items_of c.args.table.now) k) (cell_count c.args.p.now)
    (λ k. ap (λ (row : List Bool). slice_index_or row k false && steps.stores (items_of c.args.table.now) k) past))

pub returns : goal.returns
returns c =
    let rows = c.args.facts.now.holds.fields in
    c.some_stores.ensures
    ∙ ap (λ (row : List Bool). any_below (λ k. slice_index_or row k false && steps.stores (items_of c.args.table.now) k) c.cell_count.result)
    (sym (get_or_from_slice_get rows c.args.field.0 c.of_field.result.now [] c.of_field.ensures))
    ∙ ap (λ (n : ℕ). any_below (λ k. slice_index_or (slice_index_or rows c.args.field.0 []) k false && steps.stores (items_of c.args.table.now) k) n) c.cell_count.ensures
