use Rattle.std.proofs.Common.{◌≡◌, ◌++◌, drop}
use Rattle.ja_explicit.specs.InnerStarts as starts
use Rattle.ja_explicit.proofs.environment.add_initializers.Given as goal

abbrev pub invariant-loop-m : goal.invariant-loop-m
invariant-loop-m l =
    l.out ++ starts.initializers (drop l.m-index l.inits)
    ≡ l.fn.out ++ starts.initializers l.inits
