use Rattle.ja_plain.proofs.Environments.{covered}
use Rattle.ja_plain.proofs.law.law_facts_cover.Goals as goal

pub returns : goal.returns
returns c = λ m actions. covered m actions
