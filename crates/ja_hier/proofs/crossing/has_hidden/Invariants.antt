use Rattle.std.proofs.Common.{◌≡◌, drop}
use Rattle.ja_hier.specs.InnerIndex.{first_place, is_hidden}
use Rattle.ja_hier.proofs.crossing.has_hidden.Given as goal

-- there is none at the places so far
abbrev pub invariant-loop-place : goal.invariant-loop-place
invariant-loop-place l = first_place (is_hidden l.desc) l.methods (drop l.place-index l.places) ≡ first_place (is_hidden l.desc) l.methods l.places
