use Rattle.std.proofs.Common.{◌≡◌, ◌++◌, map, take}
use Rattle.ja_lower.specs.Program.{site_of}
use Rattle.ja_lower.proofs.methods.add_sites.Given as goal

abbrev pub invariant-loop-site : goal.invariant-loop-site
invariant-loop-site l = l.sites ≡ l.initial.sites ++ map (site_of l.m.0) (take l.site-index l.own)
