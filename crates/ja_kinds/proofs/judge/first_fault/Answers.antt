use Rattle.std.proofs.Common.{◌≡◌, List, Some, None, sym, subst}
use Rattle.std.proofs.lemmas.List.{take_all}
use Rattle.ja_code.specs.declared.instr.RawInstr.{RawInstr}
use Rattle.ja_kinds.specs.Effect.{IsOneOf}
use Rattle.ja_kinds.specs.Solution.{IsRight}
use Rattle.ja_kinds.specs.InnerSolving.{state_at, IsFaultAt}
use Rattle.ja_kinds.proofs.Firsts.{right_more, first_found}
use Rattle.ja_kinds.proofs.judge.first_fault.Goals as goal

pub returns-in-Some : goal.returns-in-Some
returns-in-Some c =
    let found : IsFaultAt c.args.pool.now c.args.frame.now (state_at c.args.states.now) c.instr-item.result (Some c.in-Some.fault) =
    subst (IsFaultAt c.args.pool.now c.args.frame.now (state_at c.args.states.now) c.instr-item.result) c.in-Some.is c.in_ok-found.ensures in
    first_found c.args.pool.now c.args.frame.now (state_at c.args.states.now) c.args.instrs.now c.loop-instr.instr-index c.instr-item.result c.in-Some.fault
    c.loop-instr-test.true (sym c.instr-item.is) c.loop-instr.invariant found

pub loop-instr-preserved : goal.loop-instr-preserved
loop-instr-preserved c =
    let none : c.in_ok-found.found ≡ None = cc in
    let right : IsFaultAt c.args.pool.now c.args.frame.now (state_at c.args.states.now) c.instr-item.result None =
    subst (IsFaultAt c.args.pool.now c.args.frame.now (state_at c.args.states.now) c.instr-item.result) none c.in_ok-found.ensures in
    right_more c.args.pool.now c.args.frame.now (state_at c.args.states.now) c.args.instrs.now c.loop-instr.instr-index c.instr-item.result
    c.loop-instr-test.true (sym c.instr-item.is) c.loop-instr.invariant right

pub returns : goal.returns
returns c =
    subst (λ (is : List RawInstr). (i : RawInstr) → IsOneOf i is → IsRight c.args.pool.now c.args.frame.now (state_at c.args.states.now) i)
    (take_all c.loop-instr.instr-index c.args.instrs.now c.loop-instr-test.false) c.loop-instr.invariant
