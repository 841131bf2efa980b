use Rattle.std.proofs.Common.{◌≡◌, length}
use Rattle.ja_hier.proofs.ByPlace.{EachHasPlaces}
use Rattle.ja_hier.proofs.index.places_by_class.Given as goal

abbrev pub invariant-loop-head : goal.invariant-loop-head
invariant-loop-head l = record {
  size : length l.places ≡ l.head-index;
  each : EachHasPlaces l.member l.heads l.places;
}
