use Rattle.std.proofs.Common.{inl, inr}
use Rattle.std.proofs.lemmas.Result.{err_from_is_err_and}
use Rattle.ja_class.proofs.Counted.{or_later}
use Rattle.ja_class.proofs.class_file.class_file.Goals as goal

pub returns-in_err-pool : goal.returns-in_err-pool
returns-in_err-pool c =
    let p = err_from_is_err_and c.from_residual.result c.from_residual.ensures.1 in
    rw (p.1, p.2) (or_later c.in_err-pool.field-0.0 (λ h. inl h) c.in_err-pool.ensures)

pub returns-in_err-body : goal.returns-in_err-body
returns-in_err-body c =
    let p = err_from_is_err_and c.from_residual-in_err-body.result c.from_residual-in_err-body.ensures.1 in
    rw (p.1, p.2) (or_later c.in_err-body.field-0.0 (λ h. inr (c.in_ok-pool.pool, c.start.new.c, c.in_ok-pool.ensures, h)) c.in_err-body.ensures)
