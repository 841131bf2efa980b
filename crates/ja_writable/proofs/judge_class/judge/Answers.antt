use Rattle.std.proofs.Common.{sym, ◌∙◌}
use Rattle.ja_assembly.specs.Unwritable.{CannotBeWritten}
use Rattle.ja_writable.specs.InnerJudging.{IsState}
use Rattle.ja_writable.proofs.Taken.{first_cause}
use Rattle.ja_writable.proofs.judge_class.judge.Goals as goal

pub judge_rest-requires-clause-state : goal.judge_rest-requires-clause-state
judge_rest-requires-clause-state c =
    (c.in-Ok-judge_first.ensures.taken c.args.listing.now (sym c.head.ensures) (sym (c.as_slice-items.ensures ∙ c.items.ensures))).1

pub returns-in-Err-judge_first-clause-fault : goal.returns-in-Err-judge_first-clause-fault
returns-in-Err-judge_first-clause-fault c =
    let class = c.args.listing.now in
    let refused = c.in-Err-judge_first.ensures.taken class (sym c.head.ensures) (sym (c.as_slice-items.ensures ∙ c.items.ensures)) in
    rw (c.fault_of.ensures, c.number.ensures) (first_cause class c.in-Err-judge_first.flaw ((CannotBeWritten class 0 → ⊥) × IsState class 0 c.in-Ok.place c.judge_first.new.wants) refused)
