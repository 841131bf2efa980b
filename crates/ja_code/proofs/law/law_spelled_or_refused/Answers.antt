use Rattle.ja_code.proofs.Ending.{either_spelled, not_both, one_meaning, one_fault}
use Rattle.ja_code.proofs.law.law_spelled_or_refused.Goals as goal

pub returns-clause-either : goal.returns-clause-either
returns-clause-either c = either_spelled

pub returns-clause-not_both : goal.returns-clause-not_both
returns-clause-not_both c = not_both

pub returns-clause-one_meaning : goal.returns-clause-one_meaning
returns-clause-one_meaning c = one_meaning

pub returns-clause-one_fault : goal.returns-clause-one_fault
returns-clause-one_fault c = one_fault
