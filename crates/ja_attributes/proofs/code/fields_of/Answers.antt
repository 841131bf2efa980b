use Rattle.std.proofs.Common.{inr}
use Rattle.std.proofs.lemmas.Result.{err_from_is_err_and}
use Rattle.ja_attributes.specs.InnerSteps.{onward}
use Rattle.ja_attributes.proofs.Codes.{or_later, more_left, none_left, layout_1, layout_2, layout_3, layout_4, layout_5, layout_6, layout_left, layout_read, within_3, within_4, within_5}
use Rattle.ja_attributes.proofs.code.fields_of.Goals as goal

pub returns-in_err-max_stack-clause-reads : goal.returns-in_err-max_stack-clause-reads
returns-in_err-max_stack-clause-reads c =
    let p = err_from_is_err_and c.from_residual.result c.from_residual.ensures.1 in
    rw (p.1, p.2) (inr (layout_1 c.args.pool.now c.args.at (onward c.args.base c.args.c.now) c.in_err-max_stack.field-0.0 c.in_err-max_stack.ensures))

pub returns-in_err-max_locals-clause-reads : goal.returns-in_err-max_locals-clause-reads
returns-in_err-max_locals-clause-reads c =
    let p = err_from_is_err_and c.from_residual-in_err-max_locals.result c.from_residual-in_err-max_locals.ensures.1 in
    rw (p.1, p.2)
    (inr (layout_2 c.args.pool.now c.args.at (onward c.args.base c.args.c.now) c.in_ok-max_stack.max_stack (onward c.args.base c.two_bytes.new.c) c.in_ok-max_stack.ensures
    c.in_err-max_locals.field-0.0 c.in_err-max_locals.ensures))

pub returns-in_err-code-clause-reads : goal.returns-in_err-code-clause-reads
returns-in_err-code-clause-reads c =
    let p = err_from_is_err_and c.from_residual-in_err-code.result c.from_residual-in_err-code.ensures.1 in
    rw (p.1, p.2)
    (inr (layout_3 c.args.pool.now c.args.at (onward c.args.base c.args.c.now) c.in_ok-max_stack.max_stack (onward c.args.base c.two_bytes.new.c) c.in_ok-max_stack.ensures
    c.in_ok-max_locals.max_locals (onward c.args.base c.two_bytes-2.new.c) c.in_ok-max_locals.ensures
    c.in_err-code.field-0.0 c.in_err-code.ensures.reads))

pub two_bytes-requires-3 : goal.two_bytes-requires-3
two_bytes-requires-3 c =
    within_3 c.args.base c.args.at c.args.c.now c.two_bytes.new.c c.two_bytes-2.new.c c.code_array.new.c c.in_ok-max_stack.max_stack c.in_ok-max_locals.max_locals c.in_ok-code.code.now
    c.requires c.in_ok-max_stack.ensures c.in_ok-max_locals.ensures c.in_ok-code.ensures.reads

pub returns-in_err-count-clause-reads : goal.returns-in_err-count-clause-reads
returns-in_err-count-clause-reads c =
    let p = err_from_is_err_and c.from_residual-in_err-count.result c.from_residual-in_err-count.ensures.1 in
    rw (p.1, p.2)
    (inr (layout_4 c.args.pool.now c.args.at (onward c.args.base c.args.c.now) c.in_ok-max_stack.max_stack (onward c.args.base c.two_bytes.new.c) c.in_ok-max_stack.ensures
    c.in_ok-max_locals.max_locals (onward c.args.base c.two_bytes-2.new.c) c.in_ok-max_locals.ensures
    c.in_ok-code.code.now (onward c.args.base c.code_array.new.c) c.in_ok-code.ensures.reads
    c.in_err-count.field-0.0 c.in_err-count.ensures))

pub handlers-requires : goal.handlers-requires
handlers-requires c =
    within_4 c.args.base c.args.at c.args.c.now c.two_bytes.new.c c.two_bytes-2.new.c c.code_array.new.c c.in_ok-max_stack.max_stack c.in_ok-max_locals.max_locals c.in_ok-code.code.now
    c.requires c.in_ok-max_stack.ensures c.in_ok-max_locals.ensures c.in_ok-code.ensures.reads c.two_bytes-3.new.c c.in_ok-count.count c.in_ok-count.ensures

pub returns-in_err-rows-clause-reads : goal.returns-in_err-rows-clause-reads
returns-in_err-rows-clause-reads c =
    let p = err_from_is_err_and c.from_residual-in_err-rows.result c.from_residual-in_err-rows.ensures.1 in
    rw (p.1, p.2)
    (or_later (layout_5 c.args.pool.now c.args.at (onward c.args.base c.args.c.now) c.in_ok-max_stack.max_stack (onward c.args.base c.two_bytes.new.c) c.in_ok-max_stack.ensures
    c.in_ok-max_locals.max_locals (onward c.args.base c.two_bytes-2.new.c) c.in_ok-max_locals.ensures
    c.in_ok-code.code.now (onward c.args.base c.code_array.new.c) c.in_ok-code.ensures.reads
    c.in_ok-count.count (onward c.args.base c.two_bytes-3.new.c) c.in_ok-count.ensures
    c.in_err-rows.field-0.0) c.in_err-rows.field-0.0 c.in_err-rows.ensures.reads)

pub any_attributes-requires : goal.any_attributes-requires
any_attributes-requires c =
    within_5 c.args.base c.args.at c.args.c.now c.two_bytes.new.c c.two_bytes-2.new.c c.code_array.new.c c.in_ok-max_stack.max_stack c.in_ok-max_locals.max_locals c.in_ok-code.code.now
    c.requires c.in_ok-max_stack.ensures c.in_ok-max_locals.ensures c.in_ok-code.ensures.reads c.two_bytes-3.new.c c.handlers.new.c c.in_ok-count.count c.in_ok-rows.rows.items
    c.in_ok-count.ensures c.in_ok-rows.ensures.reads

pub returns-in_err-any_attributes-clause-reads : goal.returns-in_err-any_attributes-clause-reads
returns-in_err-any_attributes-clause-reads c =
    let p = err_from_is_err_and c.from_residual-in_err-any_attributes.result c.from_residual-in_err-any_attributes.ensures.1 in
    rw (p.1, p.2)
    (inr (layout_6 c.args.pool.now c.args.at (onward c.args.base c.args.c.now) c.in_ok-max_stack.max_stack (onward c.args.base c.two_bytes.new.c) c.in_ok-max_stack.ensures
    c.in_ok-max_locals.max_locals (onward c.args.base c.two_bytes-2.new.c) c.in_ok-max_locals.ensures
    c.in_ok-code.code.now (onward c.args.base c.code_array.new.c) c.in_ok-code.ensures.reads
    c.in_ok-count.count (onward c.args.base c.two_bytes-3.new.c) c.in_ok-count.ensures
    c.in_ok-rows.rows.items (onward c.args.base c.handlers.new.c) c.in_ok-rows.ensures.reads
    c.in_err-any_attributes.field-0.0 c.in_err-any_attributes.ensures))

pub returns-then-not-is_empty-clause-reads : goal.returns-then-not-is_empty-clause-reads
returns-then-not-is_empty-clause-reads c =
    inr (layout_left c.args.pool.now c.args.at (onward c.args.base c.args.c.now) c.in_ok-max_stack.max_stack (onward c.args.base c.two_bytes.new.c) c.in_ok-max_stack.ensures
    c.in_ok-max_locals.max_locals (onward c.args.base c.two_bytes-2.new.c) c.in_ok-max_locals.ensures
    c.in_ok-code.code.now (onward c.args.base c.code_array.new.c) c.in_ok-code.ensures.reads
    c.in_ok-count.count (onward c.args.base c.two_bytes-3.new.c) c.in_ok-count.ensures
    c.in_ok-rows.rows.items (onward c.args.base c.handlers.new.c) c.in_ok-rows.ensures.reads
    (onward c.args.base c.any_attributes.new.c) c.in_ok-any_attributes.ensures
    (more_left c.rest.result.now c.any_attributes.new.c.rest c.is_empty.result c.rest.ensures c.is_empty.ensures c.if-not-is_empty.true))

pub returns-clause-reads : goal.returns-clause-reads
returns-clause-reads c =
    layout_read c.args.pool.now c.args.at (onward c.args.base c.args.c.now) c.in_ok-max_stack.max_stack (onward c.args.base c.two_bytes.new.c) c.in_ok-max_stack.ensures
    c.in_ok-max_locals.max_locals (onward c.args.base c.two_bytes-2.new.c) c.in_ok-max_locals.ensures
    c.in_ok-code.code.now (onward c.args.base c.code_array.new.c) c.in_ok-code.ensures.reads
    c.in_ok-count.count (onward c.args.base c.two_bytes-3.new.c) c.in_ok-count.ensures
    c.in_ok-rows.rows.items (onward c.args.base c.handlers.new.c) c.in_ok-rows.ensures.reads
    (onward c.args.base c.any_attributes.new.c) c.in_ok-any_attributes.ensures
    (none_left c.rest.result.now c.any_attributes.new.c.rest c.is_empty.result c.rest.ensures c.is_empty.ensures c.if-not-is_empty.false)

pub returns-clause-end : goal.returns-clause-end
returns-clause-end c = none_left c.rest.result.now c.any_attributes.new.c.rest c.is_empty.result c.rest.ensures c.is_empty.ensures c.if-not-is_empty.false
