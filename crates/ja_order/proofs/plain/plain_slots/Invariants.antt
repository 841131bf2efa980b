use Rattle.std.proofs.Common.{◌≡◌, ℕ, ◌<◌, length, get_or}
use Rattle.ja_order.specs.Inner.{IsPlain}
use Rattle.ja_order.proofs.plain.plain_slots.Given as goal

abbrev pub invariant-loop-place : goal.invariant-loop-place
invariant-loop-place l = record {
  counted : length l.slots ≡ l.place;
  each : (j : ℕ) → j < l.place → IsPlain l.locals l.stack (get_or l.slots j 0) j;
}
