use Rattle.std.proofs.Common.{ℕ, List, get_or, sym, subst, ◌∙◌}
use Rattle.std.proofs.lemmas.List.{get_or_default, take_all}
use Rattle.ja_code.specs.declared.handler.RawHandler.{RawHandler}
use Rattle.ja_kinds.specs.Solution.{HandledAt}
use Rattle.ja_kinds.proofs.Hands.{uncovered_more}
use Rattle.ja_kinds.proofs.solve.is_covered.Goals as goal

pub loop-row-preserved : goal.loop-row-preserved
loop-row-preserved c =
    let none : RawHandler = record { start = 0; end = 0; handler = 0; catch_type = 0 } in
    let i : ℕ = c.loop-row.row-index in
    uncovered_more c.args.rows.now i c.args.pc (get_or c.args.rows.now i none) c.loop-row-test.true
    (get_or_default c.args.rows.now i (get_or c.args.rows.now i none) none c.loop-row-test.true) c.loop-row.invariant (sym c.covers.ensures.test ∙ c.if-covers.false)

pub returns : goal.returns
returns c = λ e.
    subst (λ (rows : List RawHandler). (place : ℕ) → HandledAt rows c.args.pc place → ⊥)
    (take_all c.loop-row.row-index c.args.rows.now c.loop-row-test.false) c.loop-row.invariant
