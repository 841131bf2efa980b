use Rattle.std.proofs.Common.{◌≡◌, drop}
use Rattle.ja_machine.specs.InnerSearch.{meets_places}
use Rattle.ja_machine.specs.InnerSeen.{seen_by}
use Rattle.ja_machine.proofs.reach.Search.meet_places.Given as goal

-- what is left to meet makes of the search what all places make of it at the start
abbrev pub invariant-loop-place : goal.invariant-loop-place
invariant-loop-place l = meets_places (drop l.place-index l.places) (seen_by l.self) ≡ meets_places l.places (seen_by l.initial.self)
