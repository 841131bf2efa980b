use Rattle.std.proofs.Common.{IsTrue}
use Rattle.ja_facts.specs.ClassSets.{Rule as ClassRule}
use Rattle.ja_facts.specs.Held.{Rule as HeldRule}
use Rattle.ja_facts.specs.Sharing.{Rule as HeapRule}
use Rattle.ja_facts.specs.Reaching.{Rule as ReachRule}
use Rattle.ja_facts.specs.Analyses.{Classes, Heaps}
use Rattle.ja_facts.specs.Equations.{Rules}
use Rattle.ja_facts.proofs.LeastLaws.{Least-below}
use Rattle.ja_facts.proofs.law.law_least_is_below.Goals as goal

pub returns : goal.returns
returns c = record {
  classes = λ p set solves f x. Least-below (ClassRule p) (λ g. IsTrue (set g)) solves f x;
  held = λ p set solves f x. Least-below (HeldRule p (Classes p)) (λ g. IsTrue (set g)) solves f x;
  sharing = λ p set solves f x. Least-below (HeapRule p (Classes p)) (λ g. IsTrue (set g)) solves f x;
  reaching = λ p set solves f x. Least-below (ReachRule p (Classes p) (Heaps p)) (λ g. IsTrue (set g)) solves f x;
  equations = λ p k set solves f x. Least-below (Rules p k) (λ g. IsTrue (set g)) solves f x;
}
