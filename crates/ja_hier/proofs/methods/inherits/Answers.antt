use Rattle.std.proofs.Common.{ℕ, sym, ap, ◌∙◌}
use Rattle.std.specs.Prelude.{Option, is_some}
use Rattle.ja_hier.proofs.MethodWays.{place-there, is-there}
use Rattle.ja_hier.proofs.methods.inherits.Goals as goal

pub returns-then-is_superclass : goal.returns-then-is_superclass
returns-then-is_superclass c = (
  λ t. record {
    superclass = c.is_superclass.ensures.0 c.if-is_superclass.true;
    declared = place-there _ (ap (λ (o : Option ℕ). is_some o) (sym c.method_in.ensures) ∙ sym c.is_some.ensures ∙ t);
  },
  λ from. c.is_some.ensures ∙ ap (λ (o : Option ℕ). is_some o) (c.method_in.ensures) ∙ is-there _ from.declared,
)
