use Rattle.ja_formula.proofs.Worked.{normal_work, thrown_parts}
use Rattle.ja_formula.proofs.law.law_parts.Goals as goal

pub returns-clause-normal : goal.returns-clause-normal
returns-clause-normal c p f frames m i method frame is = normal_work p f frames m i method frame is

pub returns-clause-thrown : goal.returns-clause-thrown
returns-clause-thrown c p f frames m i method frame is = thrown_parts p f frames m i method frame is
