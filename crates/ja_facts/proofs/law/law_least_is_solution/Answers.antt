use Rattle.ja_facts.specs.ClassSets.{Rule as ClassRule}
use Rattle.ja_facts.specs.Held.{Rule as HeldRule}
use Rattle.ja_facts.specs.Sharing.{Rule as HeapRule}
use Rattle.ja_facts.specs.Reaching.{Rule as ReachRule}
use Rattle.ja_facts.specs.Analyses.{Classes, Heaps}
use Rattle.ja_facts.specs.Equations.{Rules}
use Rattle.ja_facts.proofs.LeastLaws.{Least-is_solution}
use Rattle.ja_facts.proofs.law.law_least_is_solution.Goals as goal

pub returns : goal.returns
returns c = record {
  classes = λ p. Least-is_solution (ClassRule p);
  held = λ p. Least-is_solution (HeldRule p (Classes p));
  sharing = λ p. Least-is_solution (HeapRule p (Classes p));
  reaching = λ p. Least-is_solution (ReachRule p (Classes p) (Heaps p));
  equations = λ p k. Least-is_solution (Rules p k);
}
