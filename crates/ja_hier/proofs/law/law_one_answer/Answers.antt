use Rattle.ja_hier.proofs.OneAnswer.{one-field-at, one-method}
use Rattle.ja_hier.proofs.law.law_one_answer.Goals as goal

pub returns : goal.returns
returns c = record { field = one-field-at; method = one-method }
