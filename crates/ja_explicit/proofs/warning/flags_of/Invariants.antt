use Rattle.std.proofs.Common.{◌≡◌, ◌++◌, map, drop}
use Rattle.ja_explicit.specs.Tables.{items_of}
use Rattle.ja_explicit.specs.InnerRounds as rounds
use Rattle.ja_explicit.proofs.warning.flags_of.Given as goal

abbrev pub invariant-loop-site : goal.invariant-loop-site
invariant-loop-site l = l.flags ++ map (rounds.is_warned l.p (items_of l.table)) (drop l.site-index l.site-items) ≡ map (rounds.is_warned l.p (items_of l.table)) l.p.sites
