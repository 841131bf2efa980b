use Rattle.std.proofs.Common.{inl, inr}
use Rattle.std.proofs.lemmas.Result.{err_from_is_err_and}
use Rattle.ja_class.specs.Meaning.{ClassSpelled}
use Rattle.ja_class.proofs.Counted.{or_later}
use Rattle.ja_class.proofs.class_file.body.Goals as goal

pub returns-in_err-body : goal.returns-in_err-body
returns-in_err-body c =
    let p = err_from_is_err_and c.from_residual.result c.from_residual.ensures.1 in
    rw (p.1, p.2) (or_later c.in_err-body.field-0.0 (λ h. inl h) c.in_err-body.ensures)

pub returns-in_err-ending : goal.returns-in_err-ending
returns-in_err-ending c =
    let p = err_from_is_err_and c.from_residual-in_err-ending.result c.from_residual-in_err-ending.ensures.1 in
    let class : ClassSpelled = record { head = c.in_ok-body.body.head; pool = c.args.pool.now; methods = c.in_ok-body.body.methods } in
    rw (p.1, p.2) (inr (inr (class, c.members.new.c, c.in_ok-body.ensures, inl c.in_err-ending.ensures)))
