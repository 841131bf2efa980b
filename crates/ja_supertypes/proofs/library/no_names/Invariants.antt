use Rattle.std.proofs.Common.{◌≡◌, length}
use Rattle.ja_supertypes.proofs.library.no_names.Given as goal

abbrev pub invariant-loop : goal.invariant-loop
invariant-loop l = length l.lists.items ≡ l.counter
