use Rattle.ja_pool.proofs.OneReading.{pool_unique, pool_no_fault}
use Rattle.ja_pool.proofs.Exact.{pool_or_fault, one_pool_fault}
use Rattle.ja_pool.proofs.law.law_one_reading.Goals as goal

pub returns : goal.returns
returns c = record {
  either = pool_or_fault;
  one = λ old new other_new table other p q. pool_unique old new other_new table other p q;
  no_fault = λ old new table fault p f. pool_no_fault old new table fault p f;
  one_fault = one_pool_fault;
}
