use Rattle.ja_lib.proofs.OneAnswer.{one_content, not_both, one_fault}
use Rattle.ja_lib.proofs.law.law_one_answer.Goals as goal

pub returns-clause-one_content : goal.returns-clause-one_content
returns-clause-one_content c = one_content

pub returns-clause-not_both : goal.returns-clause-not_both
returns-clause-not_both c = not_both

pub returns-clause-one_fault : goal.returns-clause-one_fault
returns-clause-one_fault c = one_fault
