use Rattle.std.proofs.Common.{◌≡◌, ℕ, ◌+◌, ◌-◌, ◌<◌, ◌^◌, List, take, sym, ap, subst, ◌∙◌, arith}
use Rattle.std.specs.List.{All, flat_map}
use Rattle.ja_pool.specs.declared.slot.Slot.{Slot}
use Rattle.ja_pool.specs.Entry.{spelling}
use Rattle.ja_pool.specs.InnerSlot.{slot_tags}
use Rattle.ja_pool.proofs.ReadParts.{places_ok, inside_ok, tagged_ok, bytes_are, pool_read, index_wrong}
use Rattle.ja_pool.proofs.read.pool_behind.Goals as goal
use Rattle.ja_pool.proofs.read.pool_behind.Goals.{After-split_at, After-first_wrong}

texts_are : (c : After-split_at) → c.split_at.result.0.now ≡ flat_map spelling c.in-Ok.ensures.ok.entries
texts_are c =
    let old = c.args.c.now in
    let new = c.entries.new.c in
    let size : c.place-end.result - c.place-base.result ≡ new.place - old.place = omega (arith, c.place-end.ensures, c.place-base.ensures) in
    c.split_at.ensures.front ∙ ap (take (c.place-end.result - c.place-base.result)) c.rest-bytes.ensures ∙ ap (λ (n : ℕ). take n old.rest) size ∙ bytes_are old new c.in-Ok.slots.items c.in-Ok.ensures.ok

pub first_wrong-requires : goal.first_wrong-requires
first_wrong-requires c =
    subst (λ (t : List Slot). All (λ slot. slot.place + 3 < 2 ^ 64) t) (sym c.deref-3.ensures.value)
    (places_ok c.args.c.now c.entries.new.c c.in-Ok.slots.items c.in-Ok.ensures.ok (omega (arith, c.place-end.ensures, c.place-end.type_inv)))

pub returns-in-Some-clause-fault : goal.returns-in-Some-clause-fault
returns-in-Some-clause-fault c =
    let wrong = rw c.deref-3.ensures.value at c.in-Some.ensures in
    index_wrong c.args.c.now c.entries.new.c c.in-Ok.slots.items c.deref-2.result.now c.args.count c.in-Some.at c.in-Ok.ensures.ok c.in-Ok.ensures.full
    (c.deref-2.ensures.value ∙ c.in-Ok-all_tags.ensures ∙ ap slot_tags c.deref.ensures.value) wrong

pub new-requires-clause-inside : goal.new-requires-clause-inside
new-requires-clause-inside c = inside_ok c.args.c.now c.entries.new.c c.in-Ok.slots.items c.split_at.result.0.now c.in-Ok.ensures.ok (texts_are (goal.at.new-requires-clause-inside c).After-split_at)

pub new-requires-clause-tagged : goal.new-requires-clause-tagged
new-requires-clause-tagged c = tagged_ok c.args.c.now c.entries.new.c c.in-Ok.slots.items c.in-Ok.ensures.ok

pub returns-in-Ok-new-clause-ok : goal.returns-in-Ok-new-clause-ok
returns-in-Ok-new-clause-ok c =
    let right = rw c.deref-3.ensures.value at (sym c.in_default.is ∙ c.first_wrong.ensures) in
    rw c.in-Ok-new.ensures
    (pool_read c.args.c.now c.entries.new.c c.in-Ok.slots.items c.split_at.result.0.now c.deref-2.result.now c.args.count c.in-Ok.ensures.ok
    (texts_are (goal.at.returns-in-Ok-new-clause-ok c).After-split_at) c.in-Ok.ensures.full
    (c.deref-2.ensures.value ∙ c.in-Ok-all_tags.ensures ∙ ap slot_tags c.deref.ensures.value) right)
