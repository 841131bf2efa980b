use Rattle.std.proofs.Common.{Err, ap, ◌∙◌}
use Rattle.std.proofs.lemmas.Result.{err_from_is_err_and}
use Rattle.ja_assembly.specs.Unwritable.{CannotBeWritten}
use Rattle.ja_writable.specs.InnerJudging.{IsState}
use Rattle.ja_writable.proofs.Taken.{first_takes, first_refused}
use Rattle.ja_writable.proofs.judge_class.judge_first.Goals as goal

pub returns-in_err-judge_head-clause-taken : goal.returns-in_err-judge_head-clause-taken
returns-in_err-judge_head-clause-taken c = λ class e f.
    let p = err_from_is_err_and c.from_residual.result c.from_residual.ensures.1 in
    first_refused class c.args.head.now ((CannotBeWritten class 0 → ⊥) × IsState class 0 c.args.place.now c.args.wants.now) c.from_residual.result c.in_err-judge_head.field-0.0 e
    (p.1 ∙ ap (λ x. Err x) p.2) c.in_err-judge_head.ensures

pub returns-clause-taken : goal.returns-clause-taken
returns-clause-taken c = λ class e f.
    first_takes class c.args.head.now c.args.items.now c.args.place.now c.args.wants.now (record { strings = c.args.wants.now.strings; keys = c.ask_head.new.keys }) c.judge_counts.result e f
    c.requires.none c.requires.no_keys c.requires.no_strings c.in_ok-ask_head.ensures c.in_ok-judge_head.ensures c.judge_counts.ensures.full
