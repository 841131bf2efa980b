use Rattle.std.proofs.Common.{◌≡◌, ◌↔◌, List, Bool, length, sym, subst}
use Rattle.ja_facts.specs.FactTables.{HeldTable}
use Rattle.ja_facts.specs.Least.{Least}
use Rattle.ja_facts.specs.Held.{Fact, Rule}
use Rattle.ja_facts.specs.Told.{TellsSets, TellsHeld}
use Rattle.ja_holds.specs.Searches.{AreDone, AreFields}
use Rattle.ja_holds.proofs.Exact.{exact, if_ok-both}
use Rattle.ja_holds.proofs.solve.holds.Goals as goal

pub returns-clause-exact : goal.returns-clause-exact
returns-clause-exact c =
    if_ok-both c.with_fields.result (λ (held : HeldTable). held.tokens ≡ c.in_ok-found.found.holds.tokens) (λ (held : HeldTable). AreFields c.args.p.now c.args.c.now (length c.args.p.now.fields) held.fields)
    (λ (held : HeldTable). (f : Fact) → TellsHeld c.args.p.now held f ↔ Least (Rule c.args.p.now (TellsSets c.args.p.now c.args.c.now)) f)
    (λ held tokens fields. exact c.args.p.now c.args.c.now held c.in_ok-found.found.spans c.requires
    (subst (λ (rows : List (List Bool)). AreDone c.args.p.now c.args.c.now c.in_ok-found.found.spans rows 0) (sym tokens) c.in_ok-found.ensures.done) fields)
    c.with_fields.ensures.tokens c.with_fields.ensures.fields
