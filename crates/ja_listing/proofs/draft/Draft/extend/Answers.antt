use Rattle.std.proofs.Common.{◌++◌, ap, sym, ◌∙◌, subst}
use Rattle.ja_listing.specs.Listed.{AreNumbered}
use Rattle.ja_listing.specs.InnerScope.{listed}
use Rattle.ja_listing.proofs.Listings.{numbers_extend}
use Rattle.ja_listing.proofs.draft.Draft.extend.Goals as goal

pub returns-clause-numbers : goal.returns-clause-numbers
returns-clause-numbers c =
    λ n h.
    numbers_extend n c.self.inside.done c.in-Some.listing c.push.new.self (ap (λ l. l.number) c.in_ok-push.ensures.ok)
    (subst (AreNumbered n) (sym c.self.view_is ∙ ap (λ o. c.self.inside.done ++ listed o) c.in-Some.is) h)
