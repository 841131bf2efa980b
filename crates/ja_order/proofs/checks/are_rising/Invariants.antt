use Rattle.std.proofs.Common.{ℕ, ◌+◌, ◌<◌, ◌≤◌, get_or}
use Rattle.ja_order.proofs.checks.are_rising.Given as goal

abbrev pub invariant-loop-slot : goal.invariant-loop-slot
invariant-loop-slot l = (z : ℕ) → l.first ≤ z → z < l.slot → z + 1 < l.end → get_or l.places z 0 < get_or l.places (z + 1) 0
