use Rattle.std.proofs.Common.{ℕ, List, get_or, take, subst}
use Rattle.std.proofs.lemmas.List.{get_or_default, take_all}
use Rattle.ja_code.specs.declared.handler.RawHandler.{RawHandler}
use Rattle.ja_kinds.specs.Solution.{HandledAt}
use Rattle.ja_kinds.specs.InnerSolving.{Hands}
use Rattle.ja_kinds.proofs.Hands.{hands_none, hands_row}
use Rattle.ja_kinds.proofs.solve.raise_handlers.Goals as goal

pub loop-row-init : goal.loop-row-init
loop-row-init c =
    hands_none c.args.max_locals (λ (p : ℕ). HandledAt (take 0 c.args.rows.now) c.args.pc p) c.args.state.now c.args.states.now c.args.dirty.now c.requires.states (λ n h. h.there)

pub loop-row-preserved : goal.loop-row-preserved
loop-row-preserved c =
    let none : RawHandler = record { start = 0; end = 0; handler = 0; catch_type = 0 } in
    let i : ℕ = c.loop-row.row-index in
    hands_row c.args.max_locals c.args.state.now c.args.states.now c.loop-row.states c.raise_handler.new.states c.args.dirty.now c.loop-row.dirty c.raise_handler.new.dirty c.loop-row.changed c.in_ok-rose.rose c.args.rows.now i c.args.pc
    (get_or c.args.rows.now i none) c.loop-row-test.true (get_or_default c.args.rows.now i (get_or c.args.rows.now i none) none c.loop-row-test.true)
    c.loop-row.invariant c.in_ok-rose.ensures

pub returns : goal.returns
returns c =
    subst (λ (rows : List RawHandler). Hands c.args.max_locals (λ (p : ℕ). HandledAt rows c.args.pc p) c.args.state.now c.args.states.now c.loop-row.states c.args.dirty.now c.loop-row.dirty c.loop-row.changed)
    (take_all c.loop-row.row-index c.args.rows.now c.loop-row-test.false) c.loop-row.invariant
