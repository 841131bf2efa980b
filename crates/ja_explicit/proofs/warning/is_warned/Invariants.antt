use Rattle.std.proofs.Common.{◌≡◌, drop}
use Rattle.ja_explicit.specs.InnerRounds as rounds
use Rattle.ja_explicit.specs.Tables.{items_of}
use Rattle.ja_explicit.proofs.warning.is_warned.Given as goal

abbrev pub invariant-loop-k : goal.invariant-loop-k
invariant-loop-k l =
    rounds.is_warned l.p (drop l.k (items_of l.table)) l.site ≡ rounds.is_warned l.p (items_of l.table) l.site
