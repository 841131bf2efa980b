use Rattle.std.proofs.lemmas.Result.{err_from_is_err_and}
use Rattle.ja_attributes.specs.InnerSteps.{onward, seen}
use Rattle.ja_attributes.proofs.Heads.{any_read, any_cut}
use Rattle.ja_attributes.proofs.skip.any_attribute.Goals as goal

pub returns-in_err-attribute_in : goal.returns-in_err-attribute_in
returns-in_err-attribute_in c =
    let p = err_from_is_err_and c.from_residual.result c.from_residual.ensures.1 in
    rw (p.1, p.2) (any_cut c.args.pool.now (onward c.args.base c.args.c.now) c.in_err-attribute_in.field-0.0 c.in_err-attribute_in.ensures.reads)

pub returns : goal.returns
returns c =
    any_read c.args.pool.now (onward c.args.base c.args.c.now) (onward c.args.base c.attribute_in.new.c) (seen c.in_ok-attribute_in.field-0) c.in_ok-attribute_in.ensures.reads
