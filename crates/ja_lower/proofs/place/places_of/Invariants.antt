use Rattle.std.proofs.Common.{zero}
use Rattle.ja_lower.specs.InnerPlaces.{PlacesUpTo}
use Rattle.ja_lower.proofs.place.places_of.Given as goal

abbrev pub invariant-loop-c : goal.invariant-loop-c
invariant-loop-c l = PlacesUpTo l.classes l.c zero l.places
