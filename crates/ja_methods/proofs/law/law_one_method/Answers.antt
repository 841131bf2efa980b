use Rattle.ja_methods.proofs.OneMethod.{one-method, one-refusal, not-both}
use Rattle.ja_methods.proofs.law.law_one_method.Goals as goal

pub returns-clause-one_method : goal.returns-clause-one_method
returns-clause-one_method c = one-method c.law_one_answer.ensures.kinds c.law_one_operation.ensures.one_operation c.law_one_reading.ensures.method

pub returns-clause-one_refusal : goal.returns-clause-one_refusal
returns-clause-one_refusal c = one-refusal c.law_one_answer.ensures.fault c.law_one_answer.ensures.not_both c.law_one_operation.ensures.one_refusal

pub returns-clause-not_both : goal.returns-clause-not_both
returns-clause-not_both c = not-both c.law_one_answer.ensures.not_both c.law_one_operation.ensures.not_both
