use Rattle.ja_examples.proofs.Rested.{not_reached, not_warned}
use Rattle.ja_examples.proofs.law.law_resting.Goals as goal

pub returns : goal.returns
returns c = record { not_reached = not_reached; verdicts = ((λ t. absurd (cc t), λ w. absurd (not_warned w)), tt) }
