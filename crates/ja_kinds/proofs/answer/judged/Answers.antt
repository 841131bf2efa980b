use Rattle.std.proofs.Common.{◌≡◌, inr, false, None, sym, ◌∙◌}
use Rattle.ja_kinds.specs.Solution.{is_too_large, size}
use Rattle.ja_kinds.proofs.Firsts.{judged_fault, judged_kinds}
use Rattle.ja_kinds.proofs.answer.judged.Goals as goal

pub returns-then-is_too_large-clause-fault : goal.returns-then-is_too_large-clause-fault
returns-then-is_too_large-clause-fault c = inr (size (sym c.is_too_large.ensures ∙ c.if-is_too_large.true))

pub returns-in-Some-clause-fault : goal.returns-in-Some-clause-fault
returns-in-Some-clause-fault c =
    let small : is_too_large c.args.frame.now ≡ false = sym c.is_too_large.ensures ∙ c.if-is_too_large.false in
    inr (judged_fault c.args.pool.now c.args.code.now c.args.frame.now c.in_ok-states.states.items c.as_slice.result.now c.as_slice-instrs.result.now
    small c.in_ok-states.ensures c.as_slice.ensures.value c.as_slice-instrs.ensures c.in_ok-found.found c.in_ok-found.ensures c.in-Some.fault c.in-Some.is)

pub returns-clause-ok : goal.returns-clause-ok
returns-clause-ok c =
    let small : is_too_large c.args.frame.now ≡ false = sym c.is_too_large.ensures ∙ c.if-is_too_large.false in
    let none : c.in_ok-found.found ≡ None = cc in
    judged_kinds c.args.pool.now c.args.code.now c.args.frame.now c.in_ok-states.states.items c.as_slice.result.now c.as_slice-instrs.result.now
    small c.in_ok-states.ensures c.as_slice.ensures.value c.as_slice-instrs.ensures c.in_ok-found.found c.in_ok-found.ensures
    c.as_slice-2.result.now c.of.result none c.as_slice-2.ensures.value (c.of.ensures ∙ c.in_ok-states-2.ensures)
