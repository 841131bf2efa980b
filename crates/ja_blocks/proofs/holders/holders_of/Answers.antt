use Rattle.std.proofs.Common.{◌≡◌, ◌⊎◌, ◌+◌, List, Bool, [], length, sym, ap, ◌∙◌, subst, arith}
use Rattle.std.specs.Prelude.{slice_index_or}
use Rattle.std.proofs.lemmas.Option.{get_or_from_slice_get}
use Rattle.ja_ir.specs.declared.class.Field.{Field}
use Rattle.ja_ir.specs.declared.class.ClassInfo.{ClassInfo}
use Rattle.ja_sets.specs.Sets.{Has}
use Rattle.ja_facts.specs.FactTables.{cell_count}
use Rattle.ja_blocks.specs.Index.{IsIndex}
use Rattle.ja_blocks.specs.Readers.{MayHold}
use Rattle.ja_blocks.proofs.More.{noted_same, index_same, index_noted}
use Rattle.ja_blocks.proofs.Counted.{held_more, held_none}
use Rattle.ja_blocks.proofs.holders.holders_of.Goals as goal

pub loop-field-init : goal.loop-field-init
loop-field-init c = index_same (cell_count c.args.p.now) c.in_ok-lists.lists.items (λ k x. ⊥) (MayHold c.args.holds.now 0)
    (subst (λ n. IsIndex n c.in_ok-lists.lists.items (λ k x. ⊥)) (let f = c.len.ensures in let g = c.len-2.ensures in let x = ap (λ (xs : List Field). length xs) c.fields-2.ensures.same in let y = ap (λ (xs : List ClassInfo). length xs) c.classes.ensures.same in omega arith) c.in_ok-lists.ensures) (held_none c.args.holds.now)

pub loop-field-preserved : goal.loop-field-preserved
loop-field-preserved c =
    let f = c.loop-field.field in
    let held = c.args.holds.now in
    let is : c.of_field.result.now ≡ slice_index_or held.fields f [] = sym (get_or_from_slice_get held.fields f c.of_field.result.now [] c.of_field.ensures) in
    index_noted (cell_count c.args.p.now) c.note.new.lists.items c.note_members.new.lists.items (λ k x. MayHold held f k x ⊎ ((k ≡ f) × (x ≡ f)))
    (λ k x. Has (slice_index_or held.fields f []) k × (x ≡ f)) (MayHold held (f + 1))
    (index_noted (cell_count c.args.p.now) c.loop-field.lists.items c.note.new.lists.items (MayHold held f) (λ k x. (k ≡ f) × (x ≡ f)) (λ k x. MayHold held f k x ⊎ ((k ≡ f) × (x ≡ f))) c.loop-field.invariant
    (noted_same c.loop-field.lists.items c.note.new.lists.items (λ k x. (k ≡ c.from.result) × (x ≡ c.from-in-loop-field.result)) (λ k x. (k ≡ f) × (x ≡ f)) c.in_ok-note.ensures
    (λ k x. ((λ r. (r.0 ∙ c.from.ensures, r.1 ∙ c.from-in-loop-field.ensures)), (λ r. (r.0 ∙ sym c.from.ensures, r.1 ∙ sym c.from-in-loop-field.ensures)))))
    (λ k x. ((λ r. r), (λ r. r))))
    (noted_same c.note.new.lists.items c.note_members.new.lists.items (λ k x. Has c.of_field.result.now k × (x ≡ c.from-in-loop-field-2.result)) (λ k x. Has (slice_index_or held.fields f []) k × (x ≡ f)) c.in_ok-note_members.ensures
    (λ k x. (
      (λ r. (subst (λ (set : List Bool). Has set k) is r.0, r.1 ∙ c.from-in-loop-field-2.ensures)),
      (λ r. (subst (λ (set : List Bool). Has set k) (sym is) r.0, r.1 ∙ sym c.from-in-loop-field-2.ensures)),
    )))
    (held_more held f)

pub returns : goal.returns
returns c = subst (λ n. IsIndex (cell_count c.args.p.now) c.loop-field.lists.items (MayHold c.args.holds.now n))
    (let past = c.loop-field-test.false in let upto = c.loop-field.auto.field-end in let long = c.len-fields.ensures in let x = ap (λ (xs : List Field). length xs) c.fields.ensures.same in omega arith)
    c.loop-field.invariant
