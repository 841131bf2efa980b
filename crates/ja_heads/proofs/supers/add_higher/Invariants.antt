use Rattle.std.proofs.Common.{◌≡◌, ◌++◌, filter, take}
use Rattle.std.specs.Prelude.{nat_lt}
use Rattle.ja_heads.specs.Signatures.{numbers_of}
use Rattle.ja_heads.proofs.supers.add_higher.Given as goal

abbrev pub invariant-loop-d : goal.invariant-loop-d
invariant-loop-d l = numbers_of l.ids ≡ numbers_of l.initial.ids ++ filter (λ d. nat_lt l.class.0 d) (take l.d-index l.above)
