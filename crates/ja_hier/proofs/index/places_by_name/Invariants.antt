use Rattle.std.proofs.Common.{◌≡◌, ℕ, List, take}
use Rattle.ja_base.specs.Index.{numbers_at}
use Rattle.ja_hier.specs.InnerIndex.{member_names, places_from}
use Rattle.ja_hier.proofs.index.places_by_name.Given as goal

abbrev pub invariant-loop-place : goal.invariant-loop-place
invariant-loop-place l = (name : List ℕ) → numbers_at l.index name ≡ places_from 0 (take l.place (member_names l.member l.head)) name
