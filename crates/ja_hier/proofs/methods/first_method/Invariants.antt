use Rattle.std.proofs.Common.{◌≡◌, drop}
use Rattle.ja_hier.specs.InnerIndex.{first_place, is_method}
use Rattle.ja_hier.proofs.methods.first_method.Given as goal

-- there is none at the places so far
abbrev pub invariant-loop-place : goal.invariant-loop-place
invariant-loop-place l = first_place (is_method l.skip l.desc) l.methods (drop l.place-index l.places) ≡ first_place (is_method l.skip l.desc) l.methods l.places
