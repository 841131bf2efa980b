use Rattle.std.proofs.Common.{◌≡◌, ◌<◌, ◌+◌, ℕ, length, ap, arith}
use Rattle.std.specs.Prelude.{◌==◌}
use Rattle.ja_pool.proofs.Entries.{reads_more, room_for}
use Rattle.ja_pool.proofs.entry.entries.Goals as goal

pub loop-slots-preserved : goal.loop-slots-preserved
loop-slots-preserved c =
    let base = c.loop-slots.invariant.0 in
    let old = c.args.c.now in
    let slots = c.loop-slots.slots.items in
    let one = rw base at c.in-Ok.ensures.ok in
    let left : length slots < c.args.count = omega arith in
    let size : c.len-in-loop-slots.result ≡ length slots = omega arith in (
      base,
      reads_more old c.loop-slots.c c.entry.new.c _ slots c.add.new.slots.items c.in-Ok.slot c.loop-slots.invariant.1 one c.in-Ok-add.ensures,
      room_for c.loop-slots.c c.entry.new.c old.place _ slots c.add.new.slots.items c.in-Ok.slot c.args.count left (ap (λ (n : ℕ). n + 1 == c.args.count) size) one c.in-Ok-add.ensures,
    )
