use Rattle.std.proofs.Common.{List, map, sym, ap, ◌∙◌, arith}
use Rattle.std.proofs.lemmas.List.{take_all}
use Rattle.ja_pool.specs.declared.slot.Slot.{Slot}
use Rattle.ja_pool.specs.Table.{dims_in}
use Rattle.ja_pool.specs.InnerSlot.{seen}
use Rattle.ja_pool.specs.InnerKept.{table_in}
use Rattle.ja_pool.proofs.Tables.{map-map}
use Rattle.ja_pool.proofs.look.all_dims.Goals as goal

pub returns : goal.returns
returns c =
    let bytes = c.args.bytes.now in
    let slots = c.args.slots.now in
    c.loop-slot.invariant ∙ ap (λ (t : List Slot). map (λ slot. dims_in (table_in bytes slots) (seen bytes slot)) t) (take_all c.loop-slot.slot-index slots (omega arith))
    ∙ sym (map-map (dims_in (table_in bytes slots)) bytes slots)
