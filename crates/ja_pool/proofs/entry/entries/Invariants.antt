use Rattle.std.proofs.Common.{◌≡◌, ◌≤◌, ◌-◌, length}
use Rattle.ja_pool.specs.InnerShape.{ReadsEntries}
use Rattle.ja_pool.proofs.entry.entries.Given as goal

abbrev pub invariant-loop-slots : goal.invariant-loop-slots
invariant-loop-slots l = (l.base ≡ l.fn.c.place) × ReadsEntries l.fn.c l.c l.slots.items × (length l.slots.items ≤ l.count)

abbrev pub decreases-loop-slots : goal.decreases-loop-slots
decreases-loop-slots l = l.count - length l.slots.items
