use Rattle.std.proofs.Common.{inl}
use Rattle.std.proofs.lemmas.Result.{err_from_is_err_and}
use Rattle.ja_class.proofs.Counted.{or_later}
use Rattle.ja_class.proofs.field.field.Goals as goal

pub returns-in_err-front : goal.returns-in_err-front
returns-in_err-front c =
    let p = err_from_is_err_and c.from_residual.result c.from_residual.ensures.1 in
    rw (p.1, p.2) (or_later c.in_err-front.field-0.0 (λ h. inl h) c.in_err-front.ensures.reads)
