-- The places of the slots of a frame.
use Rattle.std.proofs.Common.{◌≡◌, ℕ, ◌<◌, length}
use Rattle.std.specs.Prelude.{slice_index}
use Rattle.std.proofs.Math.Logic.{∥∥₁_elim}
use Rattle.std.proofs.Math.Nat.{ℕ_set}
use Rattle.std.proofs.Math.Bridge.{le_prop}
use Rattle.ja_work.specs.declared.frame.Frame.{Frame}
use Rattle.ja_work.specs.Orders.{IsOrder}
use Rattle.ja_work.specs.Frames.{size}

module _ (frame : Frame) where
  pub places_count : length frame.places ≡ size frame
  places_count = ∥∥₁_elim frame.order (ℕ_set _ _) (λ (o : IsOrder (size frame) frame.places frame.slots). o.places_count)

  pub slots_count : length frame.slots ≡ size frame
  slots_count = ∥∥₁_elim frame.order (ℕ_set _ _) (λ (o : IsOrder (size frame) frame.places frame.slots). o.slots_count)

  pub place_within : (n : ℕ) → n < size frame → slice_index frame.places n < size frame
  place_within n lt = ∥∥₁_elim frame.order le_prop (λ (o : IsOrder (size frame) frame.places frame.slots). o.place_within n lt)

  pub slot_within : (j : ℕ) → j < size frame → slice_index frame.slots j < size frame
  slot_within j lt = ∥∥₁_elim frame.order le_prop (λ (o : IsOrder (size frame) frame.places frame.slots). o.slot_within j lt)
