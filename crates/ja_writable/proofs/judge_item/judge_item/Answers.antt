use Rattle.ja_writable.proofs.judge_item.judge_item.Goals as goal

pub returns-in-Field : goal.returns-in-Field
returns-in-Field c = λ superclass. rw c.in-Field.is c.judge_field.ensures

pub returns-in-Method : goal.returns-in-Method
returns-in-Method c = λ superclass. rw (c.in-Method.is, c.has_instruction.ensures superclass) c.judge_method.ensures
