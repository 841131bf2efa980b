use Rattle.ja_machine.proofs.Marks.{has-none, has-union, has-set_of, within-says}
use Rattle.ja_machine.proofs.law.law_sets_of_categories.Goals as goal

pub returns : goal.returns
returns c = record {
  empty = λ k. has-none k;
  joined = λ a b k. has-union a b k;
  flagged = λ flags k. has-set_of flags k;
  within = λ a b. within-says a b;
}
