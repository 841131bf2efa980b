use Rattle.std.proofs.Common.{not, sym, ap, ◌∙◌, arith}
use Rattle.ja_pool.specs.Table.{tag_at}
use Rattle.ja_attributes.specs.Attribute.{is_value_tag}
use Rattle.ja_attributes.specs.InnerSteps.{seen}
use Rattle.ja_attributes.proofs.Fields.{constant_second, constant_size, constant_wrong, constant_read}
use Rattle.ja_attributes.proofs.field.first_constant.Goals as goal

pub returns-then-is_some : goal.returns-then-is_some
returns-then-is_some c =
    constant_second c.args.pool.now c.args.found (seen c.args.attribute.now) (ap not (sym c.is_some.ensures ∙ c.if-is_some.true))

pub returns-then-attribute-ne2 : goal.returns-then-attribute-ne2
returns-then-attribute-ne2 c =
    constant_size c.args.pool.now c.args.found (seen c.args.attribute.now) (ap not (sym c.is_some.ensures ∙ c.if-is_some.false)) (λ e. c.if-attribute-ne2.true e)

pub returns-then-not-is_value_tag : goal.returns-then-not-is_value_tag
returns-then-not-is_value_tag c =
    constant_wrong c.args.pool.now c.args.found (seen c.args.attribute.now) c.number_of-index.result (ap not (sym c.is_some.ensures ∙ c.if-is_some.false)) (omega arith) (omega arith) c.number_of-index.ensures
    (ap (λ (t : _). is_value_tag t) (ap (tag_at c.args.pool.now) (sym c.from.ensures) ∙ sym c.tag.ensures) ∙ sym c.is_value_tag.ensures ∙ c.if-not-is_value_tag.true)

pub returns : goal.returns
returns c =
    constant_read c.args.pool.now c.args.found (seen c.args.attribute.now) c.number_of-index.result (ap not (sym c.is_some.ensures ∙ c.if-is_some.false)) (omega arith) (omega arith) c.number_of-index.ensures
    (ap (λ (t : _). is_value_tag t) (ap (tag_at c.args.pool.now) (sym c.from.ensures) ∙ sym c.tag.ensures) ∙ sym c.is_value_tag.ensures ∙ c.if-not-is_value_tag.false)
