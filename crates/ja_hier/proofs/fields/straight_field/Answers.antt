use Rattle.std.proofs.Common.{◌≡◌, ℕ, ◌∷◌, [], sym, ap, ◌∙◌, subst}
use Rattle.std.specs.Prelude.{Some, None}
use Rattle.ja_base.specs.declared.id.FieldId.{FieldId}
use Rattle.ja_hier.specs.LookUps.{field_in, FieldSearch, here}
use Rattle.ja_hier.proofs.Straight.{finds-lowest, nowhere-on}
use Rattle.ja_hier.proofs.fields.straight_field.Goals as goal

pub returns-in-Some-clause-some : goal.returns-in-Some-clause-some
returns-in-Some-clause-some c =
    subst (λ (n : ℕ). FieldSearch c.args.tables.now.classes c.args.name.now c.args.desc.now (c.args.class ∷ []) (Some n)) (sym (ap (λ (id : FieldId). id.0) c.field_number.ensures)) (here (sym c.in-Some.ensures))

pub returns-in_default-lowest_above-clause-none : goal.returns-in_default-lowest_above-clause-none
returns-in_default-lowest_above-clause-none c =
    let none : field_in c.args.tables.now.classes c.args.name.now c.args.desc.now c.args.class ≡ None = sym c.field_in.ensures ∙ c.in_default.is in
    nowhere-on c.args.tables.now.classes c.args.name.now c.args.desc.now c.args.class c.args.fork none c.in_default-lowest_above.ensures.none

pub returns-in-Some-field_in-clause-some : goal.returns-in-Some-field_in-clause-some
returns-in-Some-field_in-clause-some c =
    let none : field_in c.args.tables.now.classes c.args.name.now c.args.desc.now c.args.class ≡ None = sym c.field_in.ensures ∙ c.in_default.is in
    subst (λ (n : ℕ). FieldSearch c.args.tables.now.classes c.args.name.now c.args.desc.now (c.args.class ∷ []) (Some n)) (sym (ap (λ (id : FieldId). id.0) c.field_number-in-Some-field_in.ensures))
    (finds-lowest c.args.tables.now.classes c.args.name.now c.args.desc.now c.requires.indexed.valid.acyclic c.args.class c.args.fork c.in-Some-lowest_above.lowest c.in-Some-field_in.place c.requires.straight
    c.in-Some-lowest_above.ensures.some.sought.between.above c.in-Some-lowest_above.ensures.some.sought.between.below none (sym c.in-Some-field_in.ensures) c.in-Some-lowest_above.ensures.some.lowest)
