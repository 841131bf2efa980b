use Rattle.ja_facts.specs.Least.{Least}
use Rattle.ja_facts.specs.ClassSets.{Rule as ClassRule}
use Rattle.ja_facts.proofs.Joint.{pairs-fixed, effects-fixed}
use Rattle.ja_facts.proofs.law.law_joint_is_fixed.Goals as goal

pub returns : goal.returns
returns c = record { pairs = λ p f is. pairs-fixed p (Least (ClassRule p)) f is; effects = λ p f is. effects-fixed p (Least (ClassRule p)) f is }
