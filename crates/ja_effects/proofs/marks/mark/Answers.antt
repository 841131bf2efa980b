use Rattle.std.proofs.Common.{◌≡◌, ◌<◌, ◌+◌, List, Bool, false, sym, subst, ◌∙◌, length, get_or, [], arith}
use Rattle.ja_facts.specs.Listing.{with_listed_in}
use Rattle.ja_effects.specs.Inner.{Gains, lacking}
use Rattle.ja_effects.proofs.Marking.{mark-gains, lacks-less}
use Rattle.ja_effects.proofs.marks.mark.Goals as goal

pub returns-clause-gains : goal.returns-clause-gains
returns-clause-gains c = λ r number.
    subst (λ (t : List (List Bool)). Gains c.args.p.now c.args.effects.now t (λ n s. (n ≡ c.args.m) × (s ≡ r))) (sym c.add.ensures.added)
    (mark-gains c.args.p.now c.args.effects.now c.args.m c.args.k c.args.method.now r c.requires.found c.requires.flags number)

pub returns-clause-falls : goal.returns-clause-falls
returns-clause-falls c = λ _.
    subst (λ (t : List (List Bool)). lacking t < lacking c.args.effects.now) (sym c.add.ensures.added)
    (lacks-less c.args.effects.now c.args.m c.args.k (sym c.has.ensures ∙ c.if-has.false) (omega (arith, c.requires.root, c.requires.flags c.args.m c.args.method.now c.requires.found)))
