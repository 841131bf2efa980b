use Rattle.ja_hier.proofs.fields.is_between.Goals as goal

pub returns-then-is_supertype : goal.returns-then-is_supertype
returns-then-is_supertype c = (
  λ t. record { above = c.is_supertype.ensures.0 c.if-is_supertype.true; below = c.is_at_or_above.ensures.0 t },
  λ between. c.is_at_or_above.ensures.1 between.below,
)
