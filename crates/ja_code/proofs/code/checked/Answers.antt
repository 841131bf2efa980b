use Rattle.std.proofs.Common.{◌∙◌}
use Rattle.std.proofs.lemmas.Result.{err_from_is_err_and}
use Rattle.ja_code.proofs.Ending.{branch_cause, handler_cause, whole}
use Rattle.ja_code.proofs.code.checked.Goals as goal

pub returns-in_err-instrs-clause-cause : goal.returns-in_err-instrs-clause-cause
returns-in_err-instrs-clause-cause c =
    let p = err_from_is_err_and c.from_residual.result c.from_residual.ensures.1 in
    rw (p.1, p.2) (c.in_err-instrs.ensures.cause c.args.rows.now)

pub returns-in_err-check_branches-clause-cause : goal.returns-in_err-check_branches-clause-cause
returns-in_err-check_branches-clause-cause c =
    let p = err_from_is_err_and c.from_residual-in_err-check_branches.result c.from_residual-in_err-check_branches.ensures.1 in
    let fails = rw (c.as_slice.ensures, c.as_slice-2.ensures.value) at c.in_err-check_branches.ensures in
    rw (p.1, p.2) (branch_cause c.args.code.now c.args.tags.now c.args.dims.now c.args.rows.now c.in_ok-instrs.instrs c.in_ok-instrs.ensures.spelled
    c.in_ok-instrs.starts.items c.in_ok-instrs.ensures.starts c.in_ok-instrs.ensures.size c.in_err-check_branches.field-0.0 fails)

pub returns-in_err-check_handlers-clause-cause : goal.returns-in_err-check_handlers-clause-cause
returns-in_err-check_handlers-clause-cause c =
    let p = err_from_is_err_and c.from_residual-in_err-check_handlers.result c.from_residual-in_err-check_handlers.ensures.1 in
    let passes = rw (c.as_slice.ensures, c.as_slice-2.ensures.value) at c.in_ok-check_branches.ensures in
    let fails = rw c.as_slice-3.ensures.value at c.in_err-check_handlers.ensures in
    rw (p.1, p.2) (handler_cause c.args.code.now c.args.tags.now c.args.dims.now c.args.rows.now c.in_ok-instrs.instrs c.in_ok-instrs.ensures.spelled
    c.in_ok-instrs.starts.items c.in_ok-instrs.ensures.starts c.in_ok-instrs.ensures.size c.in_err-check_handlers.field-0.0 passes fails)

pub returns-clause-found : goal.returns-clause-found
returns-clause-found c =
    let branches = rw (c.as_slice.ensures, c.as_slice-2.ensures.value) at c.in_ok-check_branches.ensures in
    let handlers = rw c.as_slice-3.ensures.value at c.in_ok-check_handlers.ensures in
    whole c.args.code.now c.args.tags.now c.args.dims.now c.args.rows.now c.in_ok-instrs.instrs c.in_ok-instrs.ensures.spelled
    c.in_ok-instrs.starts.items c.in_ok-instrs.ensures.starts c.in_ok-instrs.ensures.size c.from_vec-handlers.result
    (c.from_vec-handlers.ensures ∙ c.in_ok-from_slice.ensures.items) branches handlers
