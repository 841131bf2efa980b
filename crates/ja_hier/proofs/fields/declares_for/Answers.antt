use Rattle.std.proofs.Common.{ℕ, sym, ap, ◌∙◌}
use Rattle.std.specs.Prelude.{Option, is_some}
use Rattle.ja_hier.proofs.MethodWays.{place-there, is-there}
use Rattle.ja_hier.proofs.fields.declares_for.Goals as goal

pub returns-then-is_at_or_above : goal.returns-then-is_at_or_above
returns-then-is_at_or_above c = (
  λ t. record {
    above = c.is_at_or_above.ensures.0 c.if-is_at_or_above.true;
    declared = place-there _ (ap (λ (o : Option ℕ). is_some o) (sym c.field_in.ensures) ∙ sym c.is_some.ensures ∙ t);
  },
  λ for. c.is_some.ensures ∙ ap (λ (o : Option ℕ). is_some o) (c.field_in.ensures) ∙ is-there _ for.declared,
)
