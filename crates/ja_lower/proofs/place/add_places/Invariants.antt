use Rattle.ja_lower.specs.InnerPlaces.{PlacesUpTo}
use Rattle.ja_lower.proofs.place.add_places.Given as goal

abbrev pub invariant-loop-m : goal.invariant-loop-m
invariant-loop-m l = PlacesUpTo l.classes l.c l.m l.places
