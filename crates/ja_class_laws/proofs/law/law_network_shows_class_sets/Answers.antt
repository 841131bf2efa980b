use Rattle.ja_class_laws.proofs.Complete.{least-shows, shows-more}
use Rattle.ja_class_laws.proofs.law.law_network_shows_class_sets.Goals as goal
use Rattle.ja_facts.specs.Least.{Least}
use Rattle.ja_network.specs.Facts.{Tells}
use Rattle.ja_solving.specs.Rules.{Rule}

pub returns : goal.returns
returns c = record {
  least = λ p names whole right f. least-shows p names whole right f;
  solved = λ p names net whole right solved f. (
    λ h. shows-more p names (Least (Rule p names)) (Tells net) (λ g x. (solved g).1 x) f ((least-shows p names whole right f).0 h),
    λ h. (least-shows p names whole right f).1 (shows-more p names (Tells net) (Least (Rule p names)) (λ g x. (solved g).0 x) f h),
  );
}
