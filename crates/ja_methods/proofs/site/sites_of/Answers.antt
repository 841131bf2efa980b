use Rattle.std.proofs.Common.{refl}
use Rattle.std.proofs.lemmas.Option.{slice_get_read}
use Rattle.ja_methods.proofs.SiteSteps.{sites-more, sites-all}
use Rattle.ja_methods.proofs.site.sites_of.Goals as goal

pub loop-index-preserved : goal.loop-index-preserved
loop-index-preserved c =
    sites-more c.args.hier.now c.args.list.now c.loop-index.index c.index-list-index.result c.loop-index.sites c.push_site.new.sites
    (slice_get_read c.args.list.now _ c.loop-index.index c.index-list-index.result refl c.loop-index-test.true c.index-list-index.is) c.loop-index.invariant c.in_ok-push_site.ensures

pub returns : goal.returns
returns c = sites-all c.args.hier.now c.args.list.now c.loop-index.index c.loop-index.sites c.loop-index-test.false c.loop-index.invariant
