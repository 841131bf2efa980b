use Rattle.std.proofs.Common.{◌≡◌, drop}
use Rattle.ja_lib.specs.InnerIndex.{first_at}
use Rattle.ja_lib.proofs.table.first_row.Given as goal

-- the places so far say nothing
abbrev pub invariant-loop-place : goal.invariant-loop-place
invariant-loop-place l = first_at l.rows l.method l.desc (drop l.place-index l.places) ≡ first_at l.rows l.method l.desc l.places
