use Rattle.std.proofs.Common.{◌≡◌, Some, get_or, ◌∙◌}
use Rattle.std.proofs.lemmas.List.{get_or_default}
use Rattle.ja_kinds.specs.declared.state.State.TheVariants.{Unreached}
use Rattle.ja_code.specs.Behaviour.{behaviour_at}
use Rattle.ja_kinds.specs.Effect.{Does}
use Rattle.ja_kinds.specs.InnerSolving.{state_at}
use Rattle.ja_kinds.proofs.Visits.{deed_law, idle_found, does_found}
use Rattle.ja_kinds.proofs.Firsts.{judged_answer, idle_right}
use Rattle.ja_kinds.proofs.judge.fault_in.Goals as goal

pub returns-in_default-found : goal.returns-in_default-found
returns-in_default-found c =
    let at : behaviour_at c.args.instr.now.opcode ≡ Some c.in-Some.behaviour = cc in
    idle_right c.args.pool.now c.args.frame.now (state_at c.args.states.now) c.args.instr.now
    (idle_found c.args.pool.now c.args.instr.now c.in-Some.behaviour c.in_ok-found.found at c.in_ok-found.ensures cc)

pub returns : goal.returns
returns c =
    let at : behaviour_at c.args.instr.now.opcode ≡ Some c.in-Some.behaviour = cc in
    let does : Does c.args.pool.now c.args.instr.now c.in-Some.behaviour c.in-Some-found.effect =
    does_found c.args.pool.now c.args.instr.now c.in-Some.behaviour c.in_ok-found.found at c.in_ok-found.ensures c.in-Some-found.effect cc in
    let read : get_or c.args.states.now c.args.instr.now.pc c.index-states-instr.result ≡ state_at c.args.states.now c.args.instr.now.pc =
    get_or_default c.args.states.now c.args.instr.now.pc c.index-states-instr.result Unreached c.if-instr-states.false in
    judged_answer deed_law c.args.pool.now c.args.frame.now (state_at c.args.states.now) c.args.instr.now c.in-Some.behaviour c.in-Some-found.effect
    c.index-states-instr.result c.fault_at.result does (c.index-states-instr.is ∙ read) c.fault_at.ensures
