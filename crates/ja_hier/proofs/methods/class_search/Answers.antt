use Rattle.std.proofs.Common.{◌≡◌, sym, ◌∙◌, subst}
use Rattle.std.specs.Prelude.{Some, None}
use Rattle.ja_ir.specs.declared.class.MethodAt.{MethodAt}
use Rattle.ja_hier.specs.LookUps.{method_in, ClassSearch, declared}
use Rattle.ja_hier.proofs.MethodWays.{found-above, nothing-above}
use Rattle.ja_supertypes.proofs.Up.{proper-inside}
use Rattle.ja_hier.proofs.methods.class_search.Goals as goal

pub returns-in-Some : goal.returns-in-Some
returns-in-Some c =
    subst (λ (a : MethodAt). ClassSearch c.args.tables.now.classes c.args.skip c.args.name.now c.args.desc.now c.args.class (Some a)) (sym c.answer.ensures) (declared (sym c.in-Some.ensures))

pub returns-in_default-nearest : goal.returns-in_default-nearest
returns-in_default-nearest c =
    let none : method_in c.args.tables.now.classes c.args.skip c.args.name.now c.args.desc.now c.args.class ≡ None = sym c.method_in.ensures ∙ c.in_default.is in
    nothing-above c.args.tables.now.classes c.args.skip c.args.name.now c.args.desc.now c.requires.indexed.valid.acyclic c.args.class none c.in_default-nearest.ensures.none

pub method_in-requires-2-clause-inside : goal.method_in-requires-2-clause-inside
method_in-requires-2-clause-inside c = proper-inside c.args.tables.now.classes c.args.class c.in-Some-nearest.above c.in-Some-nearest.ensures.some.sought.superclass

pub answer-requires-in-Some-method_in-clause-inside : goal.answer-requires-in-Some-method_in-clause-inside
answer-requires-in-Some-method_in-clause-inside c = proper-inside c.args.tables.now.classes c.args.class c.in-Some-nearest.above c.in-Some-nearest.ensures.some.sought.superclass

pub returns-in-Some-method_in : goal.returns-in-Some-method_in
returns-in-Some-method_in c =
    let none : method_in c.args.tables.now.classes c.args.skip c.args.name.now c.args.desc.now c.args.class ≡ None = sym c.method_in.ensures ∙ c.in_default.is in
    subst (λ (a : MethodAt). ClassSearch c.args.tables.now.classes c.args.skip c.args.name.now c.args.desc.now c.args.class (Some a)) (sym c.answer-in-Some-method_in.ensures)
    (found-above c.args.tables.now.classes c.args.skip c.args.name.now c.args.desc.now c.requires.indexed.valid.acyclic c.args.class c.in-Some-nearest.above c.in-Some-method_in.place
    c.in-Some-nearest.ensures.some.sought.superclass none (sym c.in-Some-method_in.ensures) c.in-Some-nearest.ensures.some.lowest)
