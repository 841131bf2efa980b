use Rattle.std.proofs.Common.{◌≡◌, map, take}
use Rattle.ja_kinds.specs.Effect.{kind_of_type}
use Rattle.ja_kinds.proofs.pool_kinds.kinds_of_types.Given as goal

abbrev pub invariant-loop-found : goal.invariant-loop-found
invariant-loop-found l = l.kinds ≡ map kind_of_type (take l.found-index l.types)
