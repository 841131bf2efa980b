use Rattle.std.proofs.Common.{ℕ, refl, subst, sym}
use Rattle.ja_facts.specs.ClassSets.{CallsMethod}
use Rattle.ja_facts.specs.Analyses.{Classes}
use Rattle.ja_examples.specs.Choosing.{choosing}
use Rattle.ja_examples.proofs.Chosen.{either_calls_q, either_calls_r, single_calls_r, warned}
use Rattle.ja_examples.proofs.Single.{only_r, not_warned}
use Rattle.ja_examples.proofs.law.law_choosing.Goals as goal

pub returns : goal.returns
returns c = record {
  first = either_calls_q;
  second = either_calls_r;
  single = λ n. (only_r n, λ e. subst (λ (k : ℕ). Classes choosing (CallsMethod 3 1 k)) (sym e) single_calls_r);
  verdicts = ((λ t. warned, λ w. refl), ((λ t. absurd (cc t), λ w. absurd (not_warned w)), tt));
}
