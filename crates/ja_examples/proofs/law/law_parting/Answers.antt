use Rattle.ja_examples.proofs.Parted.{not_stored, holds_nothing, verdicts}
use Rattle.ja_examples.proofs.law.law_parting.Goals as goal

pub returns : goal.returns
returns c = record { stored = not_stored; held = holds_nothing; clean = verdicts }
