-- Ends for which there is no rule.
use Rattle.std.specs.Prelude.{◌≡◌, ◌≢◌, ℕ, ◌<◌, true, List, Some, length, slice_index}
use Rattle.ja_work.specs.declared.clause.Spot.{Spot}
use Rattle.ja_work.specs.declared.clause.Clause.{Clause}
use Rattle.ja_work.specs.declared.frame.Frame.{Frame}
use Rattle.ja_work.specs.Frames.{number, size, spot_at, is_inside}

-- the clause of some other place looks at the spot at this place
pub record IsLookedAt (frame : Frame) (clauses : Spot → Clause) (q : ℕ) : Type 0 where
  pub from : ℕ
  pub within : from < size frame
  pub spot : Spot
  pub one : (clauses (spot_at frame from)).one ≡ Some spot
  pub inside : is_inside frame spot ≡ true
  pub at : slice_index frame.places (number frame spot) ≡ q
  pub other : q ≢ from

-- none is listed twice
abbrev pub AreDistinct : List ℕ → Type 0
AreDistinct places = (k l : ℕ) → k < l → l < length places → slice_index places k ≢ slice_index places l

-- the clauses look at more than four other places, or two of them at different values on the stack together
pub data IsWide (frame : Frame) (clauses : Spot → Clause) : Type 0 where
  many : (places : List ℕ) → 4 < length places → AreDistinct places → ((k : ℕ) → k < length places → IsLookedAt frame clauses (slice_index places k)) → IsWide frame clauses
  mixed : (j k : ℕ) → j < size frame → k < size frame → (clauses (spot_at frame j)).count ≢ 0 → (clauses (spot_at frame k)).count ≢ 0
      → (((clauses (spot_at frame j)).first ≡ (clauses (spot_at frame k)).first) → ((clauses (spot_at frame j)).count ≡ (clauses (spot_at frame k)).count) → ⊥) → IsWide frame clauses
