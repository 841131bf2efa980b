use Rattle.ja_assembly.proofs.ClassPools.{class_pool_right, class_pool, class_pool_ordered}
use Rattle.ja_assembly.proofs.law_pool.law_right_pool.Goals as goal

pub returns : goal.returns
returns c = record {
  right = λ c right few_strings few. class_pool_right c (record { right = right; few_strings = few_strings; few = few });
  pool = λ c right few_strings few. class_pool c (record { right = right; few_strings = few_strings; few = few });
  order = λ c right few_strings few. class_pool_ordered c (record { right = right; few_strings = few_strings; few = few });
}
