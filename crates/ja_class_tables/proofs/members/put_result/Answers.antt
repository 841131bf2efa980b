use Rattle.std.proofs.Common.{refl}
use Rattle.ja_class_tables.proofs.members.put_result.Goals as goal

pub returns : goal.returns
returns c = record {
  answers = c.in_ok-answers.answers;
  thrown = c.in_ok-thrown.thrown;
  exact_answers = record { size = c.in_ok-answers.ensures.size; each = c.in_ok-answers.ensures.same };
  exact_thrown = record { size = c.in_ok-thrown.ensures.size; each = c.in_ok-thrown.ensures.same };
  is = refl;
}
