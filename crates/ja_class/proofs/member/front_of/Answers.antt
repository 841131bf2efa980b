use Rattle.std.proofs.Common.{inl, inr, refl}
use Rattle.std.proofs.lemmas.Result.{err_from_is_err_and}
use Rattle.ja_class.proofs.member.front_of.Goals as goal

pub returns-in_err-name-clause-reads : goal.returns-in_err-name-clause-reads
returns-in_err-name-clause-reads c =
    let p = err_from_is_err_and c.from_residual-in_err-name.result c.from_residual-in_err-name.ensures.1 in
    rw (p.1, p.2) (inr (c.in_ok-flags.flags, c.u2.new.c, c.in_ok-flags.ensures, inl c.in_err-name.ensures.reads))

pub returns-in_err-descriptor-clause-reads : goal.returns-in_err-descriptor-clause-reads
returns-in_err-descriptor-clause-reads c =
    let p = err_from_is_err_and c.from_residual-in_err-descriptor.result c.from_residual-in_err-descriptor.ensures.1 in
    let mid = c.index.new.c in
    rw (p.1, p.2)
    (inr (c.in_ok-flags.flags, c.u2.new.c, c.in_ok-flags.ensures, inr (c.in_ok-name.name, mid, c.in_ok-name.ensures.reads, inr (mid.place, mid, (refl, refl), inl c.in_err-descriptor.ensures.reads))))
