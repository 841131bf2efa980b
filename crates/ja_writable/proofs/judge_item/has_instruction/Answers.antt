use Rattle.std.proofs.Common.{◌≡◌, true, false, refl, sym, ◌∙◌}
use Rattle.ja_assembly.specs.Unwritable.{is_some_of}
use Rattle.ja_assembly.specs.Members.{instructions_in}
use Rattle.ja_writable.proofs.judge_item.has_instruction.Goals as goal

pub returns-in-Instruction : goal.returns-in-Instruction
returns-in-Instruction c = λ superclass.
    let h : is_some_of (instructions_in superclass c.loop-item.rest.now) ≡ true = rw (c.in-Some.ensures, c.in-Instruction.is) refl in
    sym (c.loop-item.invariant superclass) ∙ h

pub loop-item-preserved-in-Field : goal.loop-item-preserved-in-Field
loop-item-preserved-in-Field c = λ superclass.
    let h : is_some_of (instructions_in superclass c.loop-item.rest.now) ≡ is_some_of (instructions_in superclass c.in-Some.others.now) = rw (c.in-Some.ensures, c.in-Field.is) refl in
    sym h ∙ c.loop-item.invariant superclass

pub loop-item-preserved : goal.loop-item-preserved
loop-item-preserved c = λ superclass.
    let h : is_some_of (instructions_in superclass c.loop-item.rest.now) ≡ is_some_of (instructions_in superclass c.in-Some.others.now) = rw (c.in-Some.ensures, c.in-Try.is) refl in
    sym h ∙ c.loop-item.invariant superclass

pub returns-in-Method : goal.returns-in-Method
returns-in-Method c = λ superclass.
    let h : is_some_of (instructions_in superclass c.loop-item.rest.now) ≡ false = rw (c.in-Some.ensures, c.in-Method.is) refl in
    sym (c.loop-item.invariant superclass) ∙ h

pub returns-in-Initializer : goal.returns-in-Initializer
returns-in-Initializer c = λ superclass.
    let h : is_some_of (instructions_in superclass c.loop-item.rest.now) ≡ false = rw (c.in-Some.ensures, c.in-Initializer.is) refl in
    sym (c.loop-item.invariant superclass) ∙ h

pub returns : goal.returns
returns c = λ superclass.
    let h : is_some_of (instructions_in superclass c.loop-item.rest.now) ≡ false = rw c.in_default.ensures refl in
    sym (c.loop-item.invariant superclass) ∙ h
