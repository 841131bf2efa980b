use Rattle.std.proofs.Common.{◌≡◌, drop}
use Rattle.std.specs.List.{flat_map}
use Rattle.ja_pool.specs.InnerSlot.{slot_fields, wrong_place}
use Rattle.ja_pool.proofs.check.first_wrong.Given as goal

abbrev pub invariant-loop-slot : goal.invariant-loop-slot
invariant-loop-slot l = wrong_place l.tags (flat_map slot_fields (drop l.slot-index l.slots)) ≡ wrong_place l.tags (flat_map slot_fields l.slots)
