use Rattle.std.proofs.Common.{refl}
use Rattle.ja_examples.proofs.Aliased as facts
use Rattle.ja_examples.proofs.law.law_aliasing.Goals as goal

pub returns : goal.returns
returns c = record {
  effect = facts.changes_statics;
  affected = facts.affected;
  returned = facts.init_returned;
  again = facts.again;
  verdicts = ((λ t. facts.warned, λ w. refl), tt);
}
