use Rattle.std.proofs.Common.{◌+◌, Err, ap, ◌∙◌}
use Rattle.std.proofs.lemmas.Result.{err_from_is_err_and}
use Rattle.ja_assembly.specs.Unwritable.{CannotBeWritten}
use Rattle.ja_writable.specs.InnerJudging.{IsState}
use Rattle.ja_writable.proofs.Taken.{next_takes, next_refused}
use Rattle.ja_writable.proofs.judge_class.judge_next.Goals as goal

pub returns-in_err-judge_item-clause-taken : goal.returns-in_err-judge_item-clause-taken
returns-in_err-judge_item-clause-taken c = λ class k it state.
    let p = err_from_is_err_and c.from_residual.result c.from_residual.ensures.1 in
    next_refused class k c.args.superclass.now c.args.item.now c.args.behind.now c.args.place.now c.args.wants.now it state
    ((CannotBeWritten class (k + 1) → ⊥) × IsState class (k + 1) c.args.place.now c.args.wants.now) c.from_residual.result c.in_err-judge_item.field-0.0
    (p.1 ∙ ap (λ x. Err x) p.2) c.in_err-judge_item.ensures

pub returns-clause-taken : goal.returns-clause-taken
returns-clause-taken c = λ class k it state.
    next_takes class k c.args.superclass.now c.args.item.now c.args.behind.now c.args.place.now c.args.wants.now it state
    c.enter.new.self c.ask.new.wants c.judge_counts.result c.in_ok-judge_item.ensures c.in_ok-enter.ensures c.in_ok-ask.ensures c.judge_counts.ensures.full
