use Rattle.std.proofs.Common.{◌≡◌, map, take}
use Rattle.ja_pool.specs.Table.{dims_in}
use Rattle.ja_pool.specs.InnerKept.{table_in}
use Rattle.ja_pool.specs.InnerSlot.{seen}
use Rattle.ja_pool.proofs.look.all_dims.Given as goal

abbrev pub invariant-loop-slot : goal.invariant-loop-slot
invariant-loop-slot l = l.dims.items ≡ map (λ slot. dims_in (table_in l.bytes l.slots) (seen l.bytes slot)) (take l.slot-index l.slots)
