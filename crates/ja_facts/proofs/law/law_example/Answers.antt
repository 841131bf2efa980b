use Rattle.std.proofs.Common.{refl}
use Rattle.ja_facts.proofs.ExampleFacts as facts
use Rattle.ja_facts.proofs.law.law_example.Goals as goal

pub returns : goal.returns
returns c = record {
  context = facts.context;
  pushed = facts.pushed;
  stored = facts.kept_in_field;
  read = facts.read;
  threw = facts.threw;
  returned = facts.returned;
  warned = ((λ t. facts.warned, λ w. refl), tt);
  line = facts.line;
  named = facts.named;
}
