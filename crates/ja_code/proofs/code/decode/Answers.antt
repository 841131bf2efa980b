use Rattle.ja_code.proofs.Ending.{only_spelled, only_fault}
use Rattle.ja_code.proofs.code.decode.Goals as goal

pub returns-clause-only : goal.returns-clause-only
returns-clause-only c =
    only_spelled c.args.code.now c.args.tags.now c.args.dims.now c.args.rows.now c.checked.result c.checked.ensures.found c.checked.ensures.cause

pub returns-clause-first : goal.returns-clause-first
returns-clause-first c =
    only_fault c.args.code.now c.args.tags.now c.args.dims.now c.args.rows.now c.checked.result c.checked.ensures.found c.checked.ensures.cause
