use Rattle.std.proofs.Common.{◌≡◌, ◌++◌, drop}
use Rattle.ja_constraints.specs.LibraryCalls as library
use Rattle.ja_constraints.proofs.library.add_each_fitting.Given as goal

abbrev pub invariant-loop-token : goal.invariant-loop-token
invariant-loop-token l = l.told ++ library.answers_each l.p l.m l.i l.name (drop l.token-index l.made) ≡ l.fn.told ++ library.answers_each l.p l.m l.i l.name l.made
