use Rattle.std.proofs.Common.{◌≡◌, ◌++◌, map, take}
use Rattle.std.specs.Prelude.{filter_map, option_to_list}
use Rattle.ja_ir.specs.declared.head.ClassHead.{ClassHead}
use Rattle.ja_supertypes.specs.Supertypes.{place_of, place_of_some}
use Rattle.ja_supertypes.proofs.direct.supertype_places.Given as goal

abbrev pub invariant-loop-head : goal.invariant-loop-head
invariant-loop-head l = l.places ≡ map (λ (head : ClassHead). filter_map (place_of l.names.keys) head.interfaces ++ option_to_list (place_of_some l.names.keys head.superclass)) (take l.head-index l.heads)
