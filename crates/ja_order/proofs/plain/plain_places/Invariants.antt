use Rattle.std.proofs.Common.{◌≡◌, ℕ, ◌<◌, length, get_or}
use Rattle.ja_order.specs.Inner.{IsPlain}
use Rattle.ja_order.proofs.plain.plain_places.Given as goal

abbrev pub invariant-loop-slot : goal.invariant-loop-slot
invariant-loop-slot l = record {
  counted : length l.places ≡ l.slot;
  each : (z : ℕ) → z < l.slot → IsPlain l.locals l.stack z (get_or l.places z 0);
}
