use Rattle.ja_heads.proofs.Outline.{same-infos, same-entries}
use Rattle.ja_heads.proofs.law.law_one_heads.Goals as goal

pub returns-clause-classes : goal.returns-clause-classes
returns-clause-classes c = same-infos

pub returns-clause-entries : goal.returns-clause-entries
returns-clause-entries c = same-entries
