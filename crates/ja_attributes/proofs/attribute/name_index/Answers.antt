use Rattle.std.proofs.Common.{◌∙◌, ap, sym}
use Rattle.std.proofs.lemmas.Result.{err_from_is_err_and}
use Rattle.ja_pool.specs.Table.{tag_at}
use Rattle.ja_attributes.specs.InnerSteps.{onward}
use Rattle.ja_attributes.proofs.Heads.{name_cut, name_wrong, name_read}
use Rattle.ja_attributes.proofs.attribute.name_index.Goals as goal

pub returns-in_err-index : goal.returns-in_err-index
returns-in_err-index c =
    let p = err_from_is_err_and c.from_residual.result c.from_residual.ensures.1 in
    rw (p.1, p.2) (name_cut c.args.pool.now (onward c.args.base c.args.c.now) c.in_err-index.field-0.0 c.in_err-index.ensures)

pub returns-then-tag-ne-UTF8 : goal.returns-then-tag-ne-UTF8
returns-then-tag-ne-UTF8 c =
    rw c.place.ensures
    (name_wrong c.args.pool.now (onward c.args.base c.args.c.now) (onward c.args.base c.two_bytes.new.c) c.in_ok-index.index c.in_ok-index.ensures
    (λ e. c.if-tag-ne-UTF8.true (c.tag.ensures ∙ ap (tag_at c.args.pool.now) c.from.ensures ∙ e)))

pub returns : goal.returns
returns c =
    name_read c.args.pool.now (onward c.args.base c.args.c.now) (onward c.args.base c.two_bytes.new.c) c.in_ok-index.index c.in_ok-index.ensures
    (ap (tag_at c.args.pool.now) (sym c.from.ensures) ∙ sym c.tag.ensures ∙ c.if-tag-ne-UTF8.false)
