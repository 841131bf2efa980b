use Rattle.std.proofs.Common.{◌≡◌, ◌-◌, ◌++◌}
use Rattle.ja_constraints.specs.Links.{over}
use Rattle.ja_constraints.specs.Places.{argument_cell}
use Rattle.ja_constraints.specs.LibraryCalls.{argument_does, arguments_do}
use Rattle.ja_constraints.proofs.library.add_arguments.Given as goal

abbrev pub invariant-loop-k : goal.invariant-loop-k
invariant-loop-k l =
    l.told ++ over (λ k. argument_does l.m l.i k (argument_cell l.row l.locals l.height l.call k) l.call) l.k (l.count - l.k) ≡ l.fn.told ++ arguments_do l.m l.i l.row l.locals l.height l.call
