use Rattle.std.proofs.Common.{List, Bool, subst, sym}
use Rattle.ja_facts.specs.Verdict.{AreVerdictsOf}
use Rattle.ja_explicit.specs.Given.{Taints}
use Rattle.ja_explicit.specs.Tables.{items_of}
use Rattle.ja_explicit.proofs.Warned.{flags_verdicts}
use Rattle.ja_explicit.proofs.plain.solve_plain.Goals as goal

pub returns-clause-exact : goal.returns-clause-exact
returns-clause-exact c =
    let p = c.args.p.now in
    let f = c.args.facts.now in
    subst (λ (flags : List Bool). AreVerdictsOf p (λ x. Taints p f) p.sites flags) (sym c.in_ok-warned.ensures)
    (flags_verdicts p f c.methods-whole.ensures.whole c.requires.given (items_of c.in_ok-table.table) c.in_ok-table.ensures.sound c.in_ok-table.ensures.closed p.sites)
