use Rattle.std.proofs.Common.{◌≡◌, take}
use Rattle.std.specs.Prelude.{filter_map}
use Rattle.ja_supertypes.specs.Supertypes.{place_of}
use Rattle.ja_supertypes.proofs.direct.places_of.Given as goal

abbrev pub invariant-loop-name : goal.invariant-loop-name
invariant-loop-name l = l.places ≡ filter_map (place_of l.names.keys) (take l.name-index l.listed)
