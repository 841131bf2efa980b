use Rattle.std.proofs.Common.{◌≡◌, true}
use Rattle.ja_hier.proofs.methods.overrides.Goals as goal

pub returns-then-is_candidate : goal.returns-then-is_candidate
returns-then-is_candidate c = (
  λ t. record { candidate = c.is_candidate.ensures.0 c.if-is_candidate.true; below = c.is_superinterface.ensures.0 t },
  λ over. c.is_superinterface.ensures.1 over.below,
)

pub returns-else-is_candidate : goal.returns-else-is_candidate
returns-else-is_candidate c = (
  λ t. absurd (cc t),
  λ over. let t : c.is_candidate.result ≡ true = c.is_candidate.ensures.1 over.candidate in absurd (cc (t, c.if-is_candidate.false)),
)
