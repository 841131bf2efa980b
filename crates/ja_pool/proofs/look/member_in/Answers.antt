use Rattle.std.proofs.Common.{◌≡◌, sym, ap, ◌∙◌}
use Rattle.ja_pool.specs.declared.slot.Slot.{Slot}
use Rattle.ja_pool.specs.Table.{first_at, second_at, text_at, class_name_at}
use Rattle.ja_pool.specs.InnerSlot.{form_first, form_second}
use Rattle.ja_pool.specs.InnerKept.{table_in}
use Rattle.ja_pool.proofs.Tables.{text_is, first_is, second_is}
use Rattle.ja_pool.proofs.look.member_in.Goals as goal

pub returns-clause-class : goal.returns-clause-class
returns-clause-class c =
    let table = table_in c.args.bytes.now c.args.slots.now in
    c.class_in.ensures ∙ ap (class_name_at table) (c.from-2.ensures ∙ c.first.ensures ∙ ap (λ (s : Slot). form_first s.form) c.slot_at-member.ensures ∙ sym (first_is c.args.bytes.now c.args.slots.now c.args.i))

pub returns-clause-name : goal.returns-clause-name
returns-clause-name c =
    let bytes = c.args.bytes.now in
    let slots = c.args.slots.now in
    let table = table_in bytes slots in
    let typed : c.from.result ≡ second_at table c.args.i = c.from.ensures ∙ c.second.ensures ∙ ap (λ (s : Slot). form_second s.form) c.slot_at-member.ensures ∙ sym (second_is bytes slots c.args.i) in
    let name : c.from-3.result ≡ first_at table (second_at table c.args.i) =
    c.from-3.ensures ∙ c.first-2.ensures ∙ ap (λ (s : Slot). form_first s.form) c.slot_at-typed.ensures ∙ sym (first_is bytes slots c.from.result) ∙ ap (first_at table) typed in
    c.text_in.ensures ∙ sym (text_is bytes slots c.from-3.result) ∙ ap (text_at table) name

pub returns-clause-desc : goal.returns-clause-desc
returns-clause-desc c =
    let bytes = c.args.bytes.now in
    let slots = c.args.slots.now in
    let table = table_in bytes slots in
    let typed : c.from.result ≡ second_at table c.args.i = c.from.ensures ∙ c.second.ensures ∙ ap (λ (s : Slot). form_second s.form) c.slot_at-member.ensures ∙ sym (second_is bytes slots c.args.i) in
    let desc : c.from-4.result ≡ second_at table (second_at table c.args.i) =
    c.from-4.ensures ∙ c.second-2.ensures ∙ ap (λ (s : Slot). form_second s.form) c.slot_at-typed.ensures ∙ sym (second_is bytes slots c.from.result) ∙ ap (second_at table) typed in
    c.text_in-2.ensures ∙ sym (text_is bytes slots c.from-4.result) ∙ ap (text_at table) desc
