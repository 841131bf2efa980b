use Rattle.ja_examples.proofs.Stored as facts
use Rattle.ja_examples.proofs.law.law_elements.Goals as goal

pub returns : goal.returns
returns c = record { read = facts.element_read; stored = facts.in_arrays; written = facts.after_put; warned = facts.warned }
