-- Words of the private functions: orders by numbers alone, what each check finds, and the plain order.
use Rattle.std.specs.Prelude.{◌≡◌, ◌⊎◌, ℕ, ◌+◌, ◌<◌, ◌≤◌, List, length, slice_index}
use Rattle.ja_ir.specs.declared.method.Method.{Method}
use Rattle.ja_order.specs.declared.frame.Frame.{Frame}
use Rattle.ja_order.specs.declared.order.Order.{Order}
use Rattle.ja_order.specs.Order.{param_words}
use Rattle.ja_base.specs.Limit.{max_frame_values}

-- the frame of a method: how many locals, of which the first are those of parameters, and how many values on the stack
pub record IsFrameOf (method : Method) (frame : Frame) : Type 0 where
  pub params : frame.params ≡ param_words method
  pub locals : frame.locals ≡ method.locals
  pub stack : frame.stack ≡ method.stack

-- a frame has room for its parameters, and not too many slots
pub record IsSmall (frame : Frame) : Type 0 where
  pub room : frame.params ≤ frame.locals
  pub small : frame.locals + frame.stack ≤ max_frame_values

-- each number below n stands in the second list at the place below n that the first list has for it
abbrev pub AreFound : (places numbers : List ℕ) → ℕ → Type 0
AreFound places numbers n = (z : ℕ) → z < n → (slice_index places z < n) × (slice_index numbers (slice_index places z) ≡ z)

-- this is an order for a frame of so many locals, of which the first are those of parameters, and so many values on the stack. Each local of
-- parameters counts here, also the second word of a wide one
pub record IsOrderOf (words locals values : ℕ) (order : Order) : Type 0 where
  pub places_counted : length order.places ≡ locals + values + 2
  pub slots_counted : length order.slots ≡ locals + values + 2
  pub places_found : AreFound order.places order.slots (locals + values + 2)
  pub slots_found : AreFound order.slots order.places (locals + values + 2)
  pub params : (k l : ℕ) → k < l → l < words → slice_index order.places k < slice_index order.places l
  pub stack : (k l : ℕ) → k < l → l < values → slice_index order.places (locals + k) < slice_index order.places (locals + l)
  pub after_first : 0 < words → 0 < values → slice_index order.places 0 < slice_index order.places locals
  pub before_second : 1 < words → 0 < values → slice_index order.places locals < slice_index order.places 1
  pub dirt : slice_index order.places (locals + values) ≡ locals + values
  pub exc : slice_index order.places (locals + values + 1) ≡ locals + values + 1

-- the places from one slot up to another one rise
abbrev pub AreRising : List ℕ → (first end : ℕ) → Type 0
AreRising places first end = (z : ℕ) → first ≤ z → z + 1 < end → slice_index places z < slice_index places (z + 1)

-- p is the place of slot z in the plain order: the slots are as they are, but where there are locals and values on the stack, the lowest value comes
-- after the first local
abbrev pub IsPlain : (locals stack z p : ℕ) → Type 0
IsPlain locals stack z p =
    ((((locals ≡ 0) ⊎ (stack ≡ 0)) ⊎ ((z ≡ 0) ⊎ (locals < z))) × (p ≡ z))
    ⊎ (((0 < locals) × (0 < stack) × (z ≡ locals) × (p ≡ 1)) ⊎ ((0 < locals) × (0 < stack) × (0 < z) × (z < locals) × (p ≡ z + 1)))

-- these are the places of all slots in the plain order
pub record ArePlainPlaces (locals stack : ℕ) (places : List ℕ) : Type 0 where
  pub counted : length places ≡ locals + stack + 2
  pub each : (z : ℕ) → z < locals + stack + 2 → IsPlain locals stack z (slice_index places z)

-- these are the slots at all places in the plain order
pub record ArePlainSlots (locals stack : ℕ) (slots : List ℕ) : Type 0 where
  pub counted : length slots ≡ locals + stack + 2
  pub each : (j : ℕ) → j < locals + stack + 2 → IsPlain locals stack (slice_index slots j) j
