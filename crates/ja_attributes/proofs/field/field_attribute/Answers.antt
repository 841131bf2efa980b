use Rattle.std.proofs.Common.{sym, ◌∙◌}
use Rattle.std.proofs.lemmas.Result.{err_from_is_err_and}
use Rattle.ja_attributes.specs.InnerSteps.{seen}
use Rattle.ja_attributes.proofs.Heads.{head_named}
use Rattle.ja_attributes.proofs.Fields.{field_cut, field_other, field_reads}
use Rattle.ja_attributes.proofs.field.field_attribute.Goals as goal

pub returns-in_err-attribute : goal.returns-in_err-attribute
returns-in_err-attribute c =
    let p = err_from_is_err_and c.from_residual.result c.from_residual.ensures.1 in
    rw (p.1, p.2) (field_cut c.args.pool.now c.args.found c.args.c.now c.in_err-attribute.field-0.0 c.in_err-attribute.ensures.reads)

pub is_named-requires : goal.is_named-requires
is_named-requires c = head_named c.args.pool.now c.args.c.now c.next_attribute.new.c (seen c.in_ok-attribute.attribute) c.in_ok-attribute.ensures.reads

pub returns-then-not-is_named : goal.returns-then-not-is_named
returns-then-not-is_named c =
    field_other c.args.pool.now c.args.found c.args.c.now c.next_attribute.new.c (seen c.in_ok-attribute.attribute) c.in_ok-attribute.ensures.reads
    (sym c.is_named.ensures ∙ c.if-not-is_named.true)

pub returns : goal.returns
returns c =
    field_reads c.args.pool.now c.args.found c.args.c.now c.next_attribute.new.c (seen c.in_ok-attribute.attribute) c.first_constant.result c.in_ok-attribute.ensures.reads
    (sym c.is_named.ensures ∙ c.if-not-is_named.false) c.first_constant.ensures
