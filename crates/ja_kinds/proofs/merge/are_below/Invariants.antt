use Rattle.std.proofs.Common.{◌≡◌, drop}
use Rattle.ja_kinds.specs.InnerMerge.{are_below}
use Rattle.ja_kinds.proofs.merge.are_below.Given as goal

-- what is left is below exactly where all is
abbrev pub invariant-loop-i : goal.invariant-loop-i
invariant-loop-i l = are_below (drop l.i l.kinds) (drop l.i l.others) ≡ are_below l.kinds l.others
