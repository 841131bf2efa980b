use Rattle.std.proofs.Common.{◌≡◌, length}
use Rattle.std.specs.Vec.Iter.{into_iter_items, into_iter_len}
use Rattle.ja_lower.specs.InnerAnswers.{AreUnderWay}
use Rattle.ja_lower.proofs.methods.code_of.Given as goal

abbrev pub invariant-loop-answer : goal.invariant-loop-answer
invariant-loop-answer g l = record {
  way : AreUnderWay l.table l.classes l.code.methods l.code.sites (into_iter_items l.answer-iterator);
  counted : into_iter_len l.answer-iterator ≡ length (into_iter_items l.answer-iterator);
}
