use Rattle.std.proofs.Common.{◌≡◌, drop}
use Rattle.ja_hier.specs.InnerIndex.{first_place, is_field}
use Rattle.ja_hier.proofs.fields.first_field.Given as goal

-- there is none at the places so far
abbrev pub invariant-loop-place : goal.invariant-loop-place
invariant-loop-place l = first_place (is_field l.desc) l.fields (drop l.place-index l.places) ≡ first_place (is_field l.desc) l.fields l.places
