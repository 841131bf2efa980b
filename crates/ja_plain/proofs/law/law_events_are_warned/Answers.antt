use Rattle.ja_plain.proofs.Environments.{warned}
use Rattle.ja_plain.proofs.law.law_events_are_warned.Goals as goal

pub returns : goal.returns
returns c = λ m actions. warned m actions
