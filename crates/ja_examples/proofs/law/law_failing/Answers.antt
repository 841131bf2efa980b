use Rattle.ja_examples.proofs.Initialized.{init_threw}
use Rattle.ja_examples.proofs.Failed.{never_returns, not_warned}
use Rattle.ja_examples.proofs.law.law_failing.Goals as goal

pub returns : goal.returns
returns c = record { threw = init_threw; returned = never_returns; verdicts = ((λ t. absurd (cc t), λ w. absurd (not_warned w)), tt) }
