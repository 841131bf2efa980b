use Rattle.std.proofs.Common.{ℕ, ◌<◌, [], length, get_or}
use Rattle.ja_supertypes.proofs.library.levels.Given as goal

abbrev pub invariant-loop-list : goal.invariant-loop-list
invariant-loop-list l = (c : ℕ) → c < l.list-index → length (get_or l.lists c []) < l.levels
