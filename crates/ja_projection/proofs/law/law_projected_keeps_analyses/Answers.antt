use Rattle.ja_projection.proofs.Changes.{back, into_category}
use Rattle.ja_projection.proofs.Kept.{classes-kept, held-kept, heaps-kept, reach-kept}
use Rattle.ja_projection.proofs.law.law_projected_keeps_analyses.Goals as goal

pub returns : goal.returns
returns c = record {
  classes = λ p k f. (classes-kept (back (into_category k p)) f, classes-kept (into_category k p) f);
  held = λ p k f. (held-kept (back (into_category k p)) f, held-kept (into_category k p) f);
  heaps = λ p k f. (heaps-kept (back (into_category k p)) f, heaps-kept (into_category k p) f);
  reach = λ p k f. (reach-kept (back (into_category k p)) f, reach-kept (into_category k p) f);
}
