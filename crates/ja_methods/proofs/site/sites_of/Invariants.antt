use Rattle.ja_methods.proofs.SiteSteps.{SitesBelow}
use Rattle.ja_methods.proofs.site.sites_of.Given as goal

abbrev pub invariant-loop-index : goal.invariant-loop-index
invariant-loop-index l = SitesBelow l.hier l.list l.index l.sites
