use Rattle.std.proofs.Common.{◌≡◌, ◌+◌, cond, Some, None, refl, sym, ap, ◌∙◌}
use Rattle.ja_assembly.specs.Members.{place_of_label, is_label_of, size_of_opcode, instructions_in}
use Rattle.ja_assembly.specs.InnerLabels.{places, or_else}
use Rattle.ja_assembly.proofs.LabelPlaces.{given_more, none_more}
use Rattle.ja_assembly.proofs.labels.labels_of.Goals as goal

pub returns-in-Method : goal.returns-in-Method
returns-in-Method c = λ superclass name.
    let h : place_of_label c.loop-item.place (instructions_in superclass c.loop-item.rest.now) name ≡ None = rw (c.in-Some.ensures, c.in-Method.is) refl in
    sym (none_more (places c.loop-item.labels name)) ∙ ap (or_else (places c.loop-item.labels name)) (sym h) ∙ c.loop-item.invariant superclass name

pub returns-in-Initializer : goal.returns-in-Initializer
returns-in-Initializer c = λ superclass name.
    let h : place_of_label c.loop-item.place (instructions_in superclass c.loop-item.rest.now) name ≡ None = rw (c.in-Some.ensures, c.in-Initializer.is) refl in
    sym (none_more (places c.loop-item.labels name)) ∙ ap (or_else (places c.loop-item.labels name)) (sym h) ∙ c.loop-item.invariant superclass name

pub returns : goal.returns
returns c = λ superclass name.
    let h : place_of_label c.loop-item.place (instructions_in superclass c.loop-item.rest.now) name ≡ None = rw c.in_default.ensures refl in
    sym (none_more (places c.loop-item.labels name)) ∙ ap (or_else (places c.loop-item.labels name)) (sym h) ∙ c.loop-item.invariant superclass name

pub loop-item-preserved-in-Field : goal.loop-item-preserved-in-Field
loop-item-preserved-in-Field c = λ superclass name.
    let h : place_of_label c.loop-item.place (instructions_in superclass c.loop-item.rest.now) name ≡ place_of_label c.loop-item.place (instructions_in superclass c.in-Some.behind.now) name =
    rw (c.in-Some.ensures, c.in-Field.is) refl in
    ap (or_else (places c.loop-item.labels name)) (sym h) ∙ c.loop-item.invariant superclass name

pub loop-item-preserved : goal.loop-item-preserved
loop-item-preserved c = λ superclass name.
    let h : place_of_label c.loop-item.place (instructions_in superclass c.loop-item.rest.now) name ≡ place_of_label c.loop-item.place (instructions_in superclass c.in-Some.behind.now) name =
    rw (c.in-Some.ensures, c.in-Try.is) refl in
    ap (or_else (places c.loop-item.labels name)) (sym h) ∙ c.loop-item.invariant superclass name

pub loop-item-preserved-in_ok-place-in-Instruction : goal.loop-item-preserved-in_ok-place-in-Instruction
loop-item-preserved-in_ok-place-in-Instruction c = λ superclass name.
    let label = c.in-Instruction.label in
    let pc = c.loop-item.place in
    let next = c.in_ok-place-in-Instruction.place in
    let old = places c.loop-item.labels name in
    let others = place_of_label next (instructions_in superclass c.in-Some.behind.now) name in
    let size : next ≡ pc + size_of_opcode c.in-Instruction.opcode = c.in_ok-place-in-Instruction.ensures ∙ ap (λ n. pc + n) c.size_of.ensures.size in
    let h : place_of_label pc (instructions_in superclass c.loop-item.rest.now) name ≡ cond (is_label_of name label) (Some pc) others = rw (c.in-Some.ensures, c.in-Instruction.is, size) refl in
    ap (λ o. or_else o others) (c.in_ok-keep-in-Instruction.ensures name) ∙ given_more old others label name pc ∙ ap (or_else old) (sym h) ∙ c.loop-item.invariant superclass name
