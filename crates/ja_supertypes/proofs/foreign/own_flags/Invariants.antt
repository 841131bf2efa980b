use Rattle.std.proofs.Common.{◌≡◌, map, take}
use Rattle.ja_supertypes.specs.InnerForeign.{names_foreign}
use Rattle.ja_supertypes.proofs.foreign.own_flags.Given as goal

abbrev pub invariant-loop-head : goal.invariant-loop-head
invariant-loop-head l = l.flags.items ≡ map (names_foreign l.names.keys) (take l.head-index l.heads)
