use Rattle.std.proofs.Common.{◌≡◌, ◌++◌, drop}
use Rattle.ja_kinds.specs.InnerMerge.{met}
use Rattle.ja_kinds.proofs.merge.met.Given as goal

-- what is merged so far and what the rest gives are all
abbrev pub invariant-loop-i : goal.invariant-loop-i
invariant-loop-i l = l.list ++ met (drop l.i l.kinds) (drop l.i l.others) ≡ met l.kinds l.others
