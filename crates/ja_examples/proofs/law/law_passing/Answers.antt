use Rattle.ja_examples.proofs.Passed as facts
use Rattle.ja_examples.proofs.law.law_passing.Goals as goal

pub returns : goal.returns
returns c = record { called = facts.callee_context; returned = facts.callee_returned; goes_on = facts.after_call; warned = facts.warned }
