use Rattle.ja_examples.proofs.Entered as facts
use Rattle.ja_examples.proofs.law.law_entering.Goals as goal

pub returns : goal.returns
returns c = record { stored = facts.in_bags; called = facts.get_context; marked = facts.take_context; warned = facts.warned }
