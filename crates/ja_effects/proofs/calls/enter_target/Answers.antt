use Rattle.std.proofs.Common.{◌≡◌, ◌<◌, ◌≤◌, List, Some, length, sym, ap, subst, ◌∙◌, arith}
use Rattle.std.specs.Prelude.{slice_get}
use Rattle.ja_ir.specs.declared.method.Method.{Method}
use Rattle.ja_facts.specs.Crossings.{Enters, by_call}
use Rattle.ja_facts.specs.Told.{TellsGraph}
use Rattle.ja_effects.specs.Inner.{IsPassed}
use Rattle.ja_effects.proofs.Closing.{target-counts, not-empty}
use Rattle.ja_effects.proofs.calls.enter_target.Goals as goal

pub enter-requires-clause-params : goal.enter-requires-clause-params
enter-requires-clause-params c = λ callee found.
    omega (arith, target-counts c.args.p.now c.args.g.now c.args.m c.args.i c.args.n c.args.under c.args.call.now callee c.requires.graph c.requires.call c.requires.target found, c.arguments-count.ensures)

pub enter-requires-clause-enters : goal.enter-requires-clause-enters
enter-requires-clause-enters c =
    let found : slice_get c.args.p.now.methods c.args.n ≡ Some c.at.result.now = ap (λ (ms : List Method). slice_get ms c.args.n) (sym c.methods-else-n-len.ensures.same) ∙ c.at.ensures in
    subst (λ k. Enters c.args.p.now (TellsGraph c.args.p.now c.args.g.now) c.args.m c.args.i c.args.n k c.args.under) (sym c.arguments-count.ensures)
    (by_call c.requires.reached (record { listed = c.requires.target; method = c.at.result.now; found = found; code = not-empty c.is_empty.result c.at.result.now.code c.is_empty.ensures c.if-is_empty.false }) c.requires.call)

pub returns-clause-closed : goal.returns-clause-closed
returns-clause-closed c = λ e goes.
    subst (λ k. IsPassed c.args.p.now c.args.s.now c.enter.new.effects c.args.m c.args.i c.args.n k c.args.under) c.arguments-count.ensures (c.enter.ensures.closed e)
