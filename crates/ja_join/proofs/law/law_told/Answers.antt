use Rattle.std.proofs.lemmas.Bool.{and_parts, and_from}
use Rattle.ja_join.specs.Steps.{told_by}
use Rattle.ja_join.proofs.law.law_told.Goals as goal

pub returns : goal.returns
returns c rule φ σ ψ after is = (
  (λ t. let x = (is after).0 t in let parts = and_parts (φ x.0) (σ (told_by rule.moves.items x.0)) x.2 in (x.0, x.1, parts.0, parts.1)),
  (λ x. (is after).1 x.0 x.1 (and_from (φ x.0) (σ (told_by rule.moves.items x.0)) x.2 x.3)),
)
