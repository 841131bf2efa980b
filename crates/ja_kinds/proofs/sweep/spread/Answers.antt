use Rattle.std.proofs.Common.{◌≡◌, ℕ, true, false, List, Some, None, sym, subst}
use Rattle.ja_code.specs.declared.handler.RawHandler.{RawHandler}
use Rattle.ja_kinds.specs.declared.state.State.{State}
use Rattle.ja_code.specs.Behaviour.{behaviour_at}
use Rattle.ja_kinds.specs.Effect.{Does, LeadsTo}
use Rattle.ja_kinds.specs.Solution.{thrown, HandledAt}
use Rattle.ja_kinds.specs.InnerSolving.{state_at, IsWide, Hands}
use Rattle.ja_kinds.proofs.Hands.{wide_at}
use Rattle.ja_kinds.proofs.Monotone.{after_wide, thrown_wide}
use Rattle.ja_kinds.proofs.Visits.{deed_law, idle_opcode, idle_found, does_found, spreads_nothing, spreads_both, spreads_alone}
use Rattle.ja_kinds.proofs.sweep.spread.Goals as goal

pub returns-in_default : goal.returns-in_default
returns-in_default c =
    let none : behaviour_at c.args.instr.now.opcode ≡ None = cc in
    spreads_nothing c.args.pool.now c.args.code.now c.args.frame.now c.args.instr.now c.args.states.now c.args.dirty.now
    (idle_opcode c.args.pool.now c.args.instr.now none) c.requires.states

pub returns-in_default-found : goal.returns-in_default-found
returns-in_default-found c =
    let at : behaviour_at c.args.instr.now.opcode ≡ Some c.in-Some.behaviour = cc in
    spreads_nothing c.args.pool.now c.args.code.now c.args.frame.now c.args.instr.now c.args.states.now c.args.dirty.now
    (idle_found c.args.pool.now c.args.instr.now c.in-Some.behaviour c.in_ok-found.found at c.in_ok-found.ensures cc) c.requires.states

pub raise_after-requires-clause-state : goal.raise_after-requires-clause-state
raise_after-requires-clause-state c =
    subst (IsWide c.args.frame.now.max_locals) (sym c.in_ok-outcome.ensures.after)
    (after_wide c.args.frame.now.max_locals c.args.frame.now c.in-Some-found.effect (state_at c.args.states.now c.args.instr.now.pc)
    (wide_at c.args.frame.now.max_locals c.args.states.now c.args.instr.now.pc c.requires.states))

pub raise_handlers-requires-clause-state : goal.raise_handlers-requires-clause-state
raise_handlers-requires-clause-state c =
    let covered : c.is_covered-covered.result ≡ true = cc in
    subst (IsWide c.args.frame.now.max_locals) (sym (c.in_ok-outcome.ensures.thrown covered))
    (thrown_wide c.args.frame.now.max_locals c.args.frame.now c.in-Some-found.effect (state_at c.args.states.now c.args.instr.now.pc)
    (wide_at c.args.frame.now.max_locals c.args.states.now c.args.instr.now.pc c.requires.states))

pub returns : goal.returns
returns c =
    let at : behaviour_at c.args.instr.now.opcode ≡ Some c.in-Some.behaviour = cc in
    let does : Does c.args.pool.now c.args.instr.now c.in-Some.behaviour c.in-Some-found.effect =
    does_found c.args.pool.now c.args.instr.now c.in-Some.behaviour c.in_ok-found.found at c.in_ok-found.ensures c.in-Some-found.effect cc in
    let covered : c.is_covered-covered.result ≡ true = cc in
    let most : ℕ = c.args.frame.now.max_locals in
    let pc : ℕ = c.args.instr.now.pc in
    spreads_both c.args.pool.now c.args.code.now c.args.frame.now deed_law c.args.instr.now c.in-Some.behaviour c.in-Some-found.effect does
    c.args.states.now c.raise_after.new.states c.raise_handlers.new.states c.args.dirty.now c.raise_after.new.dirty c.raise_handlers.new.dirty
    c.in_ok-went_on.went_on c.in_ok-threw.threw c.requires.size
    (subst (λ (s : State). Hands most (λ (p : ℕ). LeadsTo c.args.instr.now c.in-Some.behaviour p) s c.args.states.now c.raise_after.new.states c.args.dirty.now c.raise_after.new.dirty c.in_ok-went_on.went_on)
    c.in_ok-outcome.ensures.after c.in_ok-went_on.ensures)
    (subst (λ (rows : List RawHandler). Hands most (λ (p : ℕ). HandledAt rows pc p) (thrown c.args.frame.now c.in-Some-found.effect (state_at c.args.states.now pc)) c.raise_after.new.states c.raise_handlers.new.states c.raise_after.new.dirty c.raise_handlers.new.dirty c.in_ok-threw.threw)
    c.as_slice-rows.ensures
    (subst (λ (s : State). Hands most (λ (p : ℕ). HandledAt c.as_slice-rows.result.now pc p) s c.raise_after.new.states c.raise_handlers.new.states c.raise_after.new.dirty c.raise_handlers.new.dirty c.in_ok-threw.threw)
    (c.in_ok-outcome.ensures.thrown covered) c.in_ok-threw.ensures))

pub returns-then-not-covered : goal.returns-then-not-covered
returns-then-not-covered c =
    let at : behaviour_at c.args.instr.now.opcode ≡ Some c.in-Some.behaviour = cc in
    let does : Does c.args.pool.now c.args.instr.now c.in-Some.behaviour c.in-Some-found.effect =
    does_found c.args.pool.now c.args.instr.now c.in-Some.behaviour c.in_ok-found.found at c.in_ok-found.ensures c.in-Some-found.effect cc in
    let bare : c.is_covered-covered.result ≡ false = cc in
    let pc : ℕ = c.args.instr.now.pc in
    spreads_alone c.args.pool.now c.args.code.now c.args.frame.now deed_law c.args.instr.now c.in-Some.behaviour c.in-Some-found.effect does
    c.args.states.now c.raise_after.new.states c.args.dirty.now c.raise_after.new.dirty c.in_ok-went_on.went_on c.requires.size
    (subst (λ (rows : List RawHandler). (place : ℕ) → HandledAt rows pc place → ⊥) c.as_slice-rows.ensures (c.is_covered-covered.ensures bare))
    (subst (λ (s : State). Hands c.args.frame.now.max_locals (λ (p : ℕ). LeadsTo c.args.instr.now c.in-Some.behaviour p) s c.args.states.now c.raise_after.new.states c.args.dirty.now c.raise_after.new.dirty c.in_ok-went_on.went_on)
    c.in_ok-outcome.ensures.after c.in_ok-went_on.ensures)
