-- What is known of a program is known of it after a change.
use Rattle.ja_facts.specs.ClassSets.{Fact as ClassFact, Rule as ClassRule}
use Rattle.ja_facts.specs.Held.{Fact as HeldFact, Rule as HeldRule}
use Rattle.ja_facts.specs.Sharing.{Fact as HeapFact, Rule as HeapRule}
use Rattle.ja_facts.specs.Reaching.{Fact as ReachFact, Rule as ReachRule}
use Rattle.ja_facts.specs.Analyses.{Classes, Helds, Heaps, Reaches}
use Rattle.ja_facts.proofs.LeastLaws.{Least-monotone}
use Rattle.ja_projection.proofs.Changes.{Change, changed}
use Rattle.ja_projection.proofs.ClassRules.{class-rule, held-rule}
use Rattle.ja_projection.proofs.HeapRules.{heap-rule}
use Rattle.ja_projection.proofs.ReachRules.{reach-rule}

module _ (w : Change) where
  pub classes-kept : (f : ClassFact) → Classes w.program f → Classes (changed w) f
  classes-kept = Least-monotone (ClassRule w.program) (ClassRule (changed w)) (class-rule w)

  pub held-kept : (f : HeldFact) → Helds w.program f → Helds (changed w) f
  held-kept = Least-monotone (HeldRule w.program (Classes w.program)) (HeldRule (changed w) (Classes (changed w))) (held-rule w (Classes w.program) (Classes (changed w)) classes-kept)

  pub heaps-kept : (f : HeapFact) → Heaps w.program f → Heaps (changed w) f
  heaps-kept = Least-monotone (HeapRule w.program (Classes w.program)) (HeapRule (changed w) (Classes (changed w))) (heap-rule w (Classes w.program) (Classes (changed w)) classes-kept)

  pub reach-kept : (f : ReachFact) → Reaches w.program f → Reaches (changed w) f
  reach-kept =
      Least-monotone (ReachRule w.program (Classes w.program) (Heaps w.program)) (ReachRule (changed w) (Classes (changed w)) (Heaps (changed w)))
      (reach-rule w (Classes w.program) (Classes (changed w)) classes-kept (Heaps w.program) (Heaps (changed w)) heaps-kept)
