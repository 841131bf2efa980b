use Rattle.ja_facts.proofs.Kept.{kept_sets, kept_graph, kept_reach}
use Rattle.ja_facts.proofs.law.law_tables_tell_kept.Goals as goal

pub returns : goal.returns
returns c = record { sets = kept_sets; graph = kept_graph; reach = kept_reach }
