use Rattle.ja_work.proofs.Telling.{tests_told, affected_told}
use Rattle.ja_work.proofs.law.law_tests.Goals as goal

pub returns-clause-tests : goal.returns-clause-tests
returns-clause-tests c p f m i = tests_told p f m i

pub returns-clause-affected : goal.returns-clause-affected
returns-clause-affected c p f m i n count under = affected_told p f m i n count under
