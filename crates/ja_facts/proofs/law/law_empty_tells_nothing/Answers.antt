use Rattle.ja_facts.proofs.Empty.{only-spans, no-graph_fact}
use Rattle.ja_facts.proofs.law.law_empty_tells_nothing.Goals as goal

pub returns : goal.returns
returns c = record { sets = only-spans; graph = no-graph_fact }
