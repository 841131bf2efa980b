use Rattle.std.proofs.Common.{◌≡◌, ℕ, ◌<◌, length, get_or}
use Rattle.ja_order.proofs.checks.are_found.Given as goal

abbrev pub invariant-loop-number : goal.invariant-loop-number
invariant-loop-number l = (z : ℕ) → z < l.number → (get_or l.places z 0 < length l.places) × (get_or l.numbers (get_or l.places z 0) 0 ≡ z)
