use Rattle.std.proofs.Common.{subst, sym}
use Rattle.ja_facts.specs.Sharing.{Effect, Root}
use Rattle.ja_facts.specs.Analyses.{Heaps}
use Rattle.ja_examples.specs.Unlinking.{unlinking}
use Rattle.ja_examples.proofs.Unlinked.{changes_argument, affected}
use Rattle.ja_examples.proofs.Apart.{only_argument, not_affected}
use Rattle.ja_examples.proofs.Carried as facts
use Rattle.ja_examples.proofs.law.law_unlinking.Goals as goal

pub returns : goal.returns
returns c = record {
  effects = λ r. (only_argument r, λ e. subst (λ (s : Root). Heaps unlinking (Effect 0 s)) (sym e) changes_argument);
  affected = affected;
  not_affected = not_affected;
  reaches = facts.argument_reaches;
  written = facts.after_write;
  returned = facts.callee_returned;
  goes_on = facts.after_call;
  warned = facts.warned;
}
