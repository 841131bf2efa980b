-- Which variables of a caller and its callee go together at a call.
use Rattle.std.specs.Prelude.{ℕ, ◌+◌, ◌*◌, ◌<◌, slice_index}
use Rattle.ja_ir.specs.declared.method.Method.{Method}
use Rattle.ja_ir.specs.Params.{param_count, param_local}
use Rattle.ja_order.specs.declared.order.Order.{Order}
use Rattle.ja_order.specs.Order.{stack_slot, dirt_slot, exc_slot}

-- the variable of a slot in one of four copies of a method's slots
abbrev pub variable_of : Order → (slot copy : ℕ) → ℕ
variable_of order slot copy = 4 * slice_index order.places slot + copy

-- one of four copies of the slots for what is known before, and another, later one for what is known after
pub record AreCopies (before after : ℕ) : Type 0 where
  pub later : before < after
  pub few : after < 4

-- the variable x of the callee and y of the caller go together at a call whose arguments stand over so many values: a parameter and its argument
-- before the call, and the result, dirt and exc after it
pub data Meets (callee caller : Method) (within around : Order) (base entered ended before after : ℕ) : ℕ → ℕ → Type 0 where
  argument : (k : ℕ) → k < param_count callee
      → Meets callee caller within around base entered ended before after (variable_of within (param_local callee k) entered) (variable_of around (stack_slot caller (base + k)) before)
  answer : 0 < callee.stack → base < caller.stack
      → Meets callee caller within around base entered ended before after (variable_of within (stack_slot callee 0) ended) (variable_of around (stack_slot caller base) after)
  stored : Meets callee caller within around base entered ended before after (variable_of within (dirt_slot callee) ended) (variable_of around (dirt_slot caller) after)
  thrown : Meets callee caller within around base entered ended before after (variable_of within (exc_slot callee) ended) (variable_of around (exc_slot caller) after)
