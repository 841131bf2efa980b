use Rattle.std.proofs.Common.{◌≡◌, take}
use Rattle.ja_heads.specs.Initializers.{initializers_of}
use Rattle.ja_heads.specs.Signatures.{numbers_of}
use Rattle.ja_heads.proofs.initializer.initializers.Given as goal

abbrev pub invariant-loop-class : goal.invariant-loop-class
invariant-loop-class l = l.inits ≡ initializers_of l.hier (numbers_of (take l.class-index l.classes))
