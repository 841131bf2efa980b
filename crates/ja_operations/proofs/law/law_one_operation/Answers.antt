use Rattle.std.proofs.Common.{[]}
use Rattle.ja_operations.proofs.OneOperation.{one_operation, not_both, one_refusal}
use Rattle.ja_operations.proofs.law.law_one_operation.Goals as goal

pub returns-clause-one_operation : goal.returns-clause-one_operation
returns-clause-one_operation c = λ heads rows cl pool i before op other p q.
    one_operation heads rows (c.law_one_answer.ensures.field heads) (c.law_one_list.ensures.types heads)
    (c.law_one_answer.ensures.method heads) c.law_one_reading.ensures.field c.law_one_reading.ensures.method cl pool i before op other p q

pub returns-clause-not_both : goal.returns-clause-not_both
returns-clause-not_both c = λ heads rows cl pool i before op fault p q.
    not_both heads rows (c.law_one_answer.ensures.field heads) (c.law_one_list.ensures.types heads)
    (c.law_one_answer.ensures.method heads) c.law_one_reading.ensures.field c.law_one_reading.ensures.method cl pool i before op fault p q

pub returns-clause-one_refusal : goal.returns-clause-one_refusal
returns-clause-one_refusal c = λ heads cl pool i fault other p q.
    one_refusal heads (record { categories = []; rows = []; entries = [] }) (c.law_one_answer.ensures.field heads) (c.law_one_list.ensures.types heads)
    (c.law_one_answer.ensures.method heads) c.law_one_reading.ensures.field c.law_one_reading.ensures.method cl pool i fault other p q
