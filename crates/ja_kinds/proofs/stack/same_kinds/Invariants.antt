use Rattle.std.proofs.Common.{◌≡◌, drop}
use Rattle.ja_kinds.specs.Frame.{same_kinds}
use Rattle.ja_kinds.proofs.stack.same_kinds.Given as goal

-- what is left has the same kinds exactly where all have
abbrev pub invariant-loop-i : goal.invariant-loop-i
invariant-loop-i l = same_kinds (drop l.i l.kinds) (drop l.i l.others) ≡ same_kinds l.kinds l.others
