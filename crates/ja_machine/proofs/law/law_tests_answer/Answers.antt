use Rattle.ja_machine.specs.Reach.{links, bag_links}
use Rattle.ja_machine.proofs.Finds.{is_reached-says, is_tainted-says}
use Rattle.ja_machine.proofs.law.law_tests_answer.Goals as goal

pub returns : goal.returns
returns c = record {
  reached = λ heap a b. is_reached-says links heap a b;
  held = λ heap a b. is_reached-says bag_links heap a b;
  tainted = λ k heap value. is_tainted-says k heap value;
}
