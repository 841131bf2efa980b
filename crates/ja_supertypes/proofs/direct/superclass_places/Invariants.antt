use Rattle.std.proofs.Common.{◌≡◌, map, take}
use Rattle.ja_ir.specs.declared.head.ClassHead.{ClassHead}
use Rattle.ja_supertypes.specs.Supertypes.{place_of_some}
use Rattle.ja_supertypes.proofs.direct.superclass_places.Given as goal

abbrev pub invariant-loop-head : goal.invariant-loop-head
invariant-loop-head l = l.places ≡ map (λ (head : ClassHead). place_of_some l.names.keys head.superclass) (take l.head-index l.heads)
