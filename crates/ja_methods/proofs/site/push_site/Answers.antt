use Rattle.std.proofs.Common.{refl}
use Rattle.ja_methods.specs.InnerSites.{Joins}
use Rattle.ja_methods.proofs.SiteSteps.{no-site-silent, pushed}
use Rattle.ja_methods.proofs.site.push_site.Goals as goal

pub returns-in-None : goal.returns-in-None
returns-in-None c =
    let none = rw c.in-None.is at c.in_ok-site_of-in-Call.ensures in
    Joins.silent (no-site-silent c.args.hier.now c.args.instr.now c.in-Call.call c.in-Call.is none)

pub returns-in-Some : goal.returns-in-Some
returns-in-Some c =
    let found = rw c.in-Some.is at c.in_ok-site_of-in-Call.ensures in
    pushed c.args.hier.now c.args.index c.args.instr.now c.in-Call.call
    (record { index = c.args.index; positions = c.in-Some.found.positions; target = c.in-Some.found.target; category = c.in-Call.call.row.category }) c.args.sites.now c.push.new.self c.push.result
    c.in-Call.is refl found refl c.push.ensures.ok

pub returns-in_default : goal.returns-in_default
returns-in_default c = Joins.silent (λ call positions target is site. c.in_default.not-Call call is)
