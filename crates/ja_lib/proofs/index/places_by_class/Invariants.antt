use Rattle.std.proofs.Common.{◌≡◌, ℕ, List, take}
use Rattle.ja_base.specs.Index.{numbers_at}
use Rattle.ja_lib.specs.InnerIndex.{places_from}
use Rattle.ja_lib.proofs.index.places_by_class.Given as goal

abbrev pub invariant-loop-place : goal.invariant-loop-place
invariant-loop-place l = (class : List ℕ) → numbers_at l.index class ≡ places_from 0 (take l.place l.rows) class
