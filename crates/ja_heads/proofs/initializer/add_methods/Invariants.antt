use Rattle.std.proofs.Common.{◌≡◌, ◌++◌, take}
use Rattle.ja_heads.specs.Initializers.{initializers_from}
use Rattle.ja_heads.proofs.initializer.add_methods.Given as goal

abbrev pub invariant-loop-k : goal.invariant-loop-k
invariant-loop-k l = l.inits ≡ l.initial.inits ++ initializers_from l.first (take l.k l.methods)
