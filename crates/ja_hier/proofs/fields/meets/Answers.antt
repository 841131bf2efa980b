use Rattle.std.proofs.Common.{ℕ, sym, ap, ◌∙◌}
use Rattle.std.specs.Prelude.{Option, is_some}
use Rattle.ja_hier.proofs.MethodWays.{place-there, is-there}
use Rattle.ja_hier.proofs.fields.meets.Goals as goal

pub returns-then-is_between : goal.returns-then-is_between
returns-then-is_between c = (
  λ t. record {
    between = c.is_between.ensures.0 c.if-is_between.true;
    declared = place-there _ (ap (λ (o : Option ℕ). is_some o) (sym c.field_in.ensures) ∙ sym c.is_some.ensures ∙ t);
  },
  λ at. c.is_some.ensures ∙ ap (λ (o : Option ℕ). is_some o) (c.field_in.ensures) ∙ is-there _ at.declared,
)
