use Rattle.std.proofs.Common.{inr, sym, ◌∙◌}
use Rattle.std.proofs.lemmas.Result.{err_from_is_err_and}
use Rattle.ja_attributes.specs.InnerSteps.{seen, behind_all, content_of}
use Rattle.ja_attributes.proofs.Heads.{head_named}
use Rattle.ja_attributes.proofs.Codes.{method_cut, method_other, method_code, method_reads}
use Rattle.ja_attributes.proofs.method.method_attribute.Goals as goal

pub returns-in_err-attribute : goal.returns-in_err-attribute
returns-in_err-attribute c =
    let p = err_from_is_err_and c.from_residual.result c.from_residual.ensures.1 in
    rw (p.1, p.2) (inr (method_cut c.args.pool.now c.args.found c.args.c.now c.in_err-attribute.field-0.0 c.in_err-attribute.ensures.reads))

pub is_named-requires : goal.is_named-requires
is_named-requires c = head_named c.args.pool.now c.args.c.now c.next_attribute.new.c (seen c.in_ok-attribute.attribute) c.in_ok-attribute.ensures.reads

pub returns-then-not-is_named : goal.returns-then-not-is_named
returns-then-not-is_named c =
    method_other c.args.pool.now c.args.found c.args.c.now c.next_attribute.new.c (seen c.in_ok-attribute.attribute) c.in_ok-attribute.ensures.reads
    (sym c.is_named.ensures ∙ c.if-not-is_named.true)

pub returns-in_err-code : goal.returns-in_err-code
returns-in_err-code c =
    let p = err_from_is_err_and c.from_residual-in_err-code.result c.from_residual-in_err-code.ensures.1 in
    rw (p.1, p.2)
    (method_reads c.args.pool.now c.args.found c.args.c.now c.next_attribute.new.c (seen c.in_ok-attribute.attribute) c.in_err-code.field-0.0 c.in_ok-attribute.ensures.reads
    (sym c.is_named.ensures ∙ c.if-not-is_named.false) c.in_err-code.ensures)

pub returns : goal.returns
returns c =
    let h = seen c.in_ok-attribute.attribute in
    rw c.with_code.ensures
    (method_code c.args.pool.now c.args.found c.args.c.now c.next_attribute.new.c (behind_all (content_of h)) h c.in_ok-code.code c.in_ok-attribute.ensures.reads
    (sym c.is_named.ensures ∙ c.if-not-is_named.false) c.in_ok-code.ensures)
