use Rattle.std.proofs.Common.{◌≤◌, vec_len}
use Rattle.ja_io.proofs.walk.entries_of.Given as goal

-- there are never more than may be
abbrev pub invariant-loop-entry : goal.invariant-loop-entry
invariant-loop-entry g l = vec_len l.entries ≤ l.most
