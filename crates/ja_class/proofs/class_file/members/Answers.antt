use Rattle.std.proofs.Common.{inl, inr}
use Rattle.std.proofs.lemmas.Result.{err_from_is_err_and}
use Rattle.ja_class.proofs.Counted.{or_later}
use Rattle.ja_class.proofs.class_file.members.Goals as goal

pub returns-in_err-names : goal.returns-in_err-names
returns-in_err-names c =
    let p = err_from_is_err_and c.from_residual.result c.from_residual.ensures.1 in
    rw (p.1, p.2) (or_later c.in_err-names.field-0.0 (λ h. inl h) c.in_err-names.ensures)

pub returns-in_err-methods : goal.returns-in_err-methods
returns-in_err-methods c =
    let p = err_from_is_err_and c.from_residual-in_err-methods.result c.from_residual-in_err-methods.ensures.1 in
    rw (p.1, p.2)
    (or_later c.in_err-methods.field-0.0 (λ h. inr (c.in_ok-names.names, c.names.new.c, c.in_ok-names.ensures, inr (c.in_ok-fields.fields, c.fields.new.c, c.in_ok-fields.ensures, inl h))) c.in_err-methods.ensures)
