use Rattle.std.proofs.Common.{◌≡◌, ℕ, List, Bool, sym, subst}
use Rattle.ja_ir.specs.Initializing.{InitAt}
use Rattle.ja_facts.specs.Told.{TellsGraph}
use Rattle.ja_effects.specs.Inner.{IsPassed}
use Rattle.ja_effects.proofs.Directing.{instr-in}
use Rattle.ja_effects.proofs.Entering.{idle-both}
use Rattle.ja_effects.proofs.Closing.{closed-at}
use Rattle.ja_effects.proofs.calls.enter_at.Goals as goal

pub returns-clause-closed : goal.returns-clause-closed
returns-clause-closed c = λ e.
    let a = c.enter_initializers-changed in
    let b = c.enter_call-changed in
    let both = idle-both a.result b.result e in
    closed-at c.args.p.now (TellsGraph c.args.p.now c.args.g.now) c.args.s.now b.new.effects c.args.m c.args.i c.at-instr.result.now (instr-in c.args.p.now c.args.m c.args.i c.args.method.now c.at-instr.result.now c.requires.found c.at-instr.ensures) (b.ensures.closed both.1)
    (subst (λ (t : List (List Bool)). (n : ℕ) → InitAt c.args.p.now c.args.m c.args.i n → IsPassed c.args.p.now c.args.s.now t c.args.m c.args.i n 0 c.at-instr.result.now.height) (sym (b.ensures.step.idle both.1)) (a.ensures.closed both.0))
