-- The order of a method's variables: a place for each slot of its frame.
use Rattle.std.specs.Prelude.{◌≡◌, ℕ, ◌+◌, ◌<◌, ◌≤◌, List, length, slice_index}
use Rattle.std.specs.List.{AllZip}
use Rattle.ja_base.specs.Descriptor.{words_of_all}
use Rattle.ja_ir.specs.declared.program.Parts.{Parts}
use Rattle.ja_ir.specs.declared.method.Method.{Method}
use Rattle.ja_ir.specs.Lookup.{is_member, HasCode}
use Rattle.ja_ir.specs.Operations.{count_of}
use Rattle.ja_ir.specs.Params.{param_count, param_local}
use Rattle.ja_order.specs.declared.order.Order.{Order}
use Rattle.ja_base.specs.Limit.{max_frame_values}

-- slots are numbered: the locals, then the values on the stack, the lowest first, then dirt and exc. This is the value over k others
abbrev pub stack_slot : Method → ℕ → ℕ
stack_slot method k = method.locals + k

-- the slot for what was stored
abbrev pub dirt_slot : Method → ℕ
dirt_slot method = method.locals + method.stack

-- the slot for what is thrown
abbrev pub exc_slot : Method → ℕ
exc_slot method = method.locals + method.stack + 1

-- the number of slots
abbrev pub slot_count : Method → ℕ
slot_count method = method.locals + method.stack + 2

-- how many locals the parameters take, from local 0 on (JVM specification 2.6.1)
abbrev pub param_words : Method → ℕ
param_words method = count_of (is_member method.flags) + words_of_all method.types.params

-- the frame has room for the parameters, and not too many slots
pub record HasFrame (method : Method) : Type 0 where
  pub room : param_words method ≤ method.locals
  pub small : method.locals + method.stack ≤ max_frame_values

-- the slots of a method have places
pub record HasPlaces (method : Method) (order : Order) : Type 0 where
  -- each slot has a place below the number of slots, and each place a slot
  pub places_counted : length order.places ≡ slot_count method
  pub slots_counted : length order.slots ≡ slot_count method
  pub place_within : (z : ℕ) → z < slot_count method → slice_index order.places z < slot_count method
  pub slot_within : (j : ℕ) → j < slot_count method → slice_index order.slots j < slot_count method
  -- a slot is at its place, and a place is that of its slot
  pub slot_at_place : (z : ℕ) → z < slot_count method → slice_index order.slots (slice_index order.places z) ≡ z
  pub place_of_slot : (j : ℕ) → j < slot_count method → slice_index order.places (slice_index order.slots j) ≡ j
  -- dirt and exc come last
  pub dirt : slice_index order.places (dirt_slot method) ≡ dirt_slot method
  pub exc : slice_index order.places (exc_slot method) ≡ exc_slot method

-- this is an order of the variables of a method with code
pub record IsOrder (method : Method) (order : Order) : Type 0 where
  pub placed : HasPlaces method order
  -- the locals of parameters are in their order, and so are the values on the stack
  pub params : (k l : ℕ) → k < l → l < param_count method → slice_index order.places (param_local method k) < slice_index order.places (param_local method l)
  pub stack : (k l : ℕ) → k < l → l < method.stack → slice_index order.places (stack_slot method k) < slice_index order.places (stack_slot method l)
  -- the lowest value, where a result is, lies between the first two parameters
  pub after_first : 0 < param_count method → 0 < method.stack → slice_index order.places (param_local method 0) < slice_index order.places (stack_slot method 0)
  pub before_second : 1 < param_count method → 0 < method.stack → slice_index order.places (stack_slot method 0) < slice_index order.places (param_local method 1)

-- the slots of the method have these places, and where it has code this is an order of its variables
pub record HasOrder (method : Method) (order : Order) : Type 0 where
  pub placed : HasPlaces method order
  pub ordered : HasCode method → IsOrder method order

-- one for each method of a program
abbrev pub AreOrders : Parts → List Order → Type 0
AreOrders p orders = AllZip HasOrder p.methods orders
