use Rattle.ja_work.proofs.Summing.{value_told, told_value, nothing_told, told_nothing, thrown_told, told_thrown}
use Rattle.ja_work.proofs.law.law_summaries.Goals as goal

pub returns-clause-value : goal.returns-clause-value
returns-clause-value c b after k = (value_told b after k, told_value b after k)

pub returns-clause-nothing : goal.returns-clause-nothing
returns-clause-nothing c b after = (nothing_told b after, told_nothing b after)

pub returns-clause-leaves : goal.returns-clause-leaves
returns-clause-leaves c b after = (thrown_told b after, told_thrown b after)
