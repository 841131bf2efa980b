use Rattle.std.proofs.Common.{◌≡◌, ◌++◌, drop}
use Rattle.ja_constraints.specs.LibraryCalls as library
use Rattle.ja_constraints.proofs.library.add_fills.Given as goal

abbrev pub invariant-loop-token : goal.invariant-loop-token
invariant-loop-token l = l.told ++ library.fills l.p (drop l.token-index l.made) ≡ l.fn.told ++ library.fills l.p l.made
