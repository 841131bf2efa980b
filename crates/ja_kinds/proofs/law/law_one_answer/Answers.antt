use Rattle.ja_kinds.proofs.Visits.{deed_law}
use Rattle.ja_kinds.proofs.OneAnswer.{one_solution, one_kinds, one_fault, kinds_or_fault}
use Rattle.ja_kinds.proofs.law.law_one_answer.Goals as goal

pub returns-clause-solution : goal.returns-clause-solution
returns-clause-solution c = one_solution

pub returns-clause-kinds : goal.returns-clause-kinds
returns-clause-kinds c = one_kinds

pub returns-clause-fault : goal.returns-clause-fault
returns-clause-fault c = one_fault deed_law

pub returns-clause-not_both : goal.returns-clause-not_both
returns-clause-not_both c = kinds_or_fault deed_law
