use Rattle.std.proofs.Common.{inl, inr, refl}
use Rattle.std.proofs.lemmas.Result.{err_from_is_err_and}
use Rattle.ja_pool.specs.Pool.{IsFirstFault}
use Rattle.ja_class.specs.Faults.{pool_fault}
use Rattle.ja_class.proofs.Counted.{or_later, pool_or_memory}
use Rattle.ja_class.proofs.class_file.start.Goals as goal

pub returns-in_err-version : goal.returns-in_err-version
returns-in_err-version c =
    let p = err_from_is_err_and c.from_residual-in_err-version.result c.from_residual-in_err-version.ensures.1 in
    rw (p.1, p.2) (inr (inr (tt, c.magic.new.c, c.in_ok-magic.ensures, inl c.in_err-version.ensures)))

pub returns-in_err-pool : goal.returns-in_err-pool
returns-in_err-pool c =
    let p = err_from_is_err_and c.from_residual-in_err-pool.result c.from_residual-in_err-pool.ensures.1 in
    let mid = c.version.new.c in
    let e = c.in_err-pool.field-0.0 in
    rw (p.1, p.2)
    (or_later (pool_fault e) (λ h. inr (tt, c.magic.new.c, c.in_ok-magic.ensures, inr (tt, mid, c.in_ok-version.ensures, inl (e, h, refl)))) (pool_or_memory (IsFirstFault mid) e c.in_err-pool.ensures.fault))

pub returns-in_err-descriptors : goal.returns-in_err-descriptors
returns-in_err-descriptors c =
    let p = err_from_is_err_and c.from_residual-in_err-descriptors.result c.from_residual-in_err-descriptors.ensures.1 in
    let mid = c.version.new.c in
    let next = c.read_pool.new.c in
    rw (p.1, p.2)
    (or_later c.in_err-descriptors.field-0.0
    (λ h. inr (tt, c.magic.new.c, c.in_ok-magic.ensures, inr (tt, mid, c.in_ok-version.ensures, inr (c.in_ok-pool.pool, next, c.in_ok-pool.ensures.ok, inl h)))) (c.in_err-descriptors.ensures next))

pub returns : goal.returns
returns c =
    let next = c.read_pool.new.c in
    (tt, c.magic.new.c, c.in_ok-magic.ensures, (tt, c.version.new.c, c.in_ok-version.ensures, (c.in_ok-pool.pool, next, c.in_ok-pool.ensures.ok, (tt, next, c.in_ok-descriptors.ensures next, (refl, refl)))))
