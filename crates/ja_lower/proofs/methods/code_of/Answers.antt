use Rattle.std.proofs.Common.{zero, length, sym, ap, ◌∙◌, subst, arith}
use Rattle.std.specs.Vec.Iter.{into_iter_items}
use Rattle.ja_lower.specs.InnerAnswers.{AnswersFrom}
use Rattle.ja_lower.proofs.Answered.{next-answer, no-answer-left, nothing-left, under-way}
use Rattle.ja_lower.proofs.UpTo.{nothing-yet}
use Rattle.ja_lower.proofs.methods.code_of.Goals as goal

pub loop-answer-init : goal.loop-answer-init
loop-answer-init g c = record {
  way =
      under-way c.args.table.now c.args.classes.now c.new.result c.new-2.result (into_iter_items c.into_iter-answer-iterator.result)
      (nothing-yet c.args.table.now c.args.classes.now c.new.result c.new-2.result c.new.ensures c.new-2.ensures)
      (subst (AnswersFrom c.args.table.now c.args.classes.now zero zero) (sym c.into_iter-answer-iterator.ensures.into_iter_gives.0) c.in_ok-answers.ensures);
  counted = c.into_iter-answer-iterator.ensures.into_iter_gives.1 ∙ c.in_ok-answers.answers.ok.0 ∙ sym (ap length c.into_iter-answer-iterator.ensures.into_iter_gives.0);
}

pub add_answer-requires-clause-answer : goal.add_answer-requires-clause-answer
add_answer-requires-clause-answer g c =
    (next-answer c.args.table.now c.args.classes.now c.loop-answer.code.methods c.loop-answer.code.sites c.in-Some.answer (into_iter_items c.next.new.self) (into_iter_items c.loop-answer.answer-iterator)
    c.in-Some.ensures.steps.0 c.loop-answer.invariant.way).answer_is

pub add_answer-requires-clause-so_far : goal.add_answer-requires-clause-so_far
add_answer-requires-clause-so_far g c =
    (next-answer c.args.table.now c.args.classes.now c.loop-answer.code.methods c.loop-answer.code.sites c.in-Some.answer (into_iter_items c.next.new.self) (into_iter_items c.loop-answer.answer-iterator)
    c.in-Some.ensures.steps.0 c.loop-answer.invariant.way).so_far

pub loop-answer-preserved : goal.loop-answer-preserved
loop-answer-preserved g c =
    let next = next-answer c.args.table.now c.args.classes.now c.loop-answer.code.methods c.loop-answer.code.sites c.in-Some.answer (into_iter_items c.next.new.self) (into_iter_items c.loop-answer.answer-iterator)
    c.in-Some.ensures.steps.0 c.loop-answer.invariant.way in
    record {
      way = record { c = _; k = _; so_far = c.in_ok-add_answer.ensures.added; answers_left = next.answers_left };
      counted =
          let was = c.loop-answer.invariant.counted in
          let gone = c.in-Some.ensures.steps.1 in
          let short = ap length c.in-Some.ensures.steps.0 in
          omega arith;
    }

pub returns-clause-methods : goal.returns-clause-methods
returns-clause-methods g c =
    (no-answer-left c.args.table.now c.args.classes.now c.loop-answer.code.methods c.loop-answer.code.sites (into_iter_items c.loop-answer.answer-iterator)
    (nothing-left _ (sym c.loop-answer.invariant.counted ∙ c.in-None.ensures.steps.0)) c.loop-answer.invariant.way).methods_are

pub returns-clause-sites : goal.returns-clause-sites
returns-clause-sites g c =
    (no-answer-left c.args.table.now c.args.classes.now c.loop-answer.code.methods c.loop-answer.code.sites (into_iter_items c.loop-answer.answer-iterator)
    (nothing-left _ (sym c.loop-answer.invariant.counted ∙ c.in-None.ensures.steps.0)) c.loop-answer.invariant.way).sites_are
