use Rattle.std.proofs.Common.{◌≡◌, map, take}
use Rattle.std.specs.Prelude.{filter_map}
use Rattle.ja_ir.specs.declared.head.ClassHead.{ClassHead}
use Rattle.ja_supertypes.specs.Supertypes.{place_of}
use Rattle.ja_supertypes.proofs.direct.interface_places.Given as goal

abbrev pub invariant-loop-head : goal.invariant-loop-head
invariant-loop-head l = l.places ≡ map (λ (head : ClassHead). filter_map (place_of l.names.keys) head.interfaces) (take l.head-index l.heads)
