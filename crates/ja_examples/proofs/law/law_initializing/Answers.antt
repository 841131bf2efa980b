use Rattle.std.proofs.Common.{refl}
use Rattle.ja_examples.proofs.Initialized as facts
use Rattle.ja_examples.proofs.law.law_initializing.Goals as goal

pub returns : goal.returns
returns c = record {
  reached = facts.init_reached;
  effect = facts.main_sets;
  called = facts.init_context;
  returned = facts.init_returned;
  stored = facts.in_field;
  verdicts = ((λ t. facts.warned, λ w. refl), tt);
}
