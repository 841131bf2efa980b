use Rattle.std.proofs.Common.{sym, ◌∙◌}
use Rattle.ja_effects.proofs.Entering.{passed-none, passed-some}
use Rattle.ja_effects.proofs.enter.pass.Goals as goal

pub returns-then-not-has-clause-gains : goal.returns-then-not-has-clause-gains
returns-then-not-has-clause-gains c = λ callee e a found number name.
    passed-none c.args.p.now c.args.s.now c.args.m c.args.i c.args.n c.args.k callee e a found number c.args.effects.now (sym c.has.ensures ∙ c.if-not-has.true)

pub returns-clause-gains : goal.returns-clause-gains
returns-clause-gains c = λ callee e a found number name.
    passed-some c.args.p.now c.args.s.now c.args.m c.args.i c.args.n c.args.k callee e a found number c.args.effects.now c.touch.new.effects (sym c.has.ensures ∙ c.if-not-has.false) (c.touch.ensures.gains a name)
