use Rattle.std.proofs.Common.{inl, inr, refl}
use Rattle.std.proofs.lemmas.Result.{err_from_is_err_and}
use Rattle.ja_attributes.specs.Faults.{handler}
use Rattle.ja_attributes.specs.InnerSteps.{onward}
use Rattle.ja_attributes.proofs.code.handler.Goals as goal

pub returns-in_err-start : goal.returns-in_err-start
unfolding handler
returns-in_err-start c =
    let p = err_from_is_err_and c.from_residual.result c.from_residual.ensures.1 in
    rw (p.1, p.2) (inl c.in_err-start.ensures)

pub returns-in_err-end : goal.returns-in_err-end
unfolding handler
returns-in_err-end c =
    let p = err_from_is_err_and c.from_residual-in_err-end.result c.from_residual-in_err-end.ensures.1 in
    rw (p.1, p.2) (inr (c.in_ok-start.start, onward c.args.base c.two_bytes.new.c, c.in_ok-start.ensures, inl c.in_err-end.ensures))

pub returns-in_err-handler : goal.returns-in_err-handler
unfolding handler
returns-in_err-handler c =
    let p = err_from_is_err_and c.from_residual-in_err-handler.result c.from_residual-in_err-handler.ensures.1 in
    rw (p.1, p.2)
    (inr (
      c.in_ok-start.start,
      onward c.args.base c.two_bytes.new.c,
      c.in_ok-start.ensures,
      inr (c.in_ok-end.end, onward c.args.base c.two_bytes-2.new.c, c.in_ok-end.ensures, inl c.in_err-handler.ensures),
    ))

pub returns-in_err-catch_type : goal.returns-in_err-catch_type
unfolding handler
returns-in_err-catch_type c =
    let p = err_from_is_err_and c.from_residual-in_err-catch_type.result c.from_residual-in_err-catch_type.ensures.1 in
    rw (p.1, p.2)
    (inr (
      c.in_ok-start.start,
      onward c.args.base c.two_bytes.new.c,
      c.in_ok-start.ensures,
      inr (
        c.in_ok-end.end,
        onward c.args.base c.two_bytes-2.new.c,
        c.in_ok-end.ensures,
        inr (c.in_ok-handler.handler, onward c.args.base c.two_bytes-3.new.c, c.in_ok-handler.ensures, inl c.in_err-catch_type.ensures),
      ),
    ))

pub returns : goal.returns
unfolding handler
returns c =
    let last = onward c.args.base c.two_bytes-4.new.c in (
      c.in_ok-start.start,
      onward c.args.base c.two_bytes.new.c,
      c.in_ok-start.ensures,
      (
        c.in_ok-end.end,
        onward c.args.base c.two_bytes-2.new.c,
        c.in_ok-end.ensures,
        (c.in_ok-handler.handler, onward c.args.base c.two_bytes-3.new.c, c.in_ok-handler.ensures, (c.in_ok-catch_type.catch_type, last, c.in_ok-catch_type.ensures, (refl, refl))),
      ),
    )
