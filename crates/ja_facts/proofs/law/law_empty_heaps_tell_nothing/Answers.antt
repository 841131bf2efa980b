use Rattle.ja_facts.specs.Least.{Least}
use Rattle.ja_facts.specs.ClassSets.{Rule as ClassRule}
use Rattle.ja_facts.proofs.Empty.{no-held_fact, no-heap_fact, no-reach_fact}
use Rattle.ja_facts.proofs.law.law_empty_heaps_tell_nothing.Goals as goal

pub returns : goal.returns
returns c = record { held = no-held_fact; heaps = λ p f h. no-heap_fact p (Least (ClassRule p)) f h; reach = no-reach_fact }
