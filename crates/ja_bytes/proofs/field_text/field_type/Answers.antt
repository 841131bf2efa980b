use Rattle.std.proofs.Common.{List, ℕ, subst, ◌∙◌, sym}
use Rattle.ja_base.specs.Descriptor.{IsField}
use Rattle.ja_bytes.proofs.FieldTypes.{name_is}
use Rattle.ja_bytes.proofs.field_text.field_type.Goals as goal

pub returns-in_ok-name-in-Ok : goal.returns-in_ok-name-in-Ok
returns-in_ok-name-in-Ok c =
    let found = c.in-Ok.ensures.ok in
    subst (λ (name : List ℕ). IsField c.args.desc.now (record { kind = c.in-Ok.kind; name = name }))
    (name_is c.args.desc.now c.in-Ok.kind found.0 found.1 ∙ sym c.name_of.ensures ∙ sym c.in_ok-name-in-Ok.ensures) found.1
