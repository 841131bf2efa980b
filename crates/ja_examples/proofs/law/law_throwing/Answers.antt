use Rattle.ja_examples.proofs.Thrown as facts
use Rattle.ja_examples.proofs.law.law_throwing.Goals as goal

pub returns : goal.returns
returns c = record {
  constructed = facts.constructed;
  caught = facts.caught_again;
  threw = facts.threw;
  threw_on = facts.threw_on;
  caught_by_caller = facts.caught_by_caller;
  warned = facts.warned;
}
