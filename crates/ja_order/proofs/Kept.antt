-- An order by numbers is one of a method's variables.
use Rattle.std.proofs.Common.{◌≡◌, ℕ, zero, suc, ◌+◌, ◌<◌, ◌≤◌, ap, subst, arith}
use Rattle.std.specs.Prelude.{slice_index}
use Rattle.ja_ir.specs.declared.method.Method.{Method}
use Rattle.ja_ir.specs.Lookup.{is_member}
use Rattle.ja_ir.specs.Params.{param_count, param_local}
use Rattle.ja_order.specs.declared.frame.Frame.{Frame}
use Rattle.ja_order.specs.declared.order.Order.{Order}
use Rattle.ja_order.specs.Order.{HasPlaces, IsOrder, stack_slot}
use Rattle.ja_order.specs.Inner.{IsOrderOf, IsFrameOf}
use Rattle.ja_order.proofs.Locals.{locals-rise, local-below, local-first}

-- which of its locals the parameters are
local-rises : (method : Method) (k l : ℕ) → k < l → l < param_count method → param_local method k < param_local method l
local-rises method = locals-rise (is_member method.flags) method.types.params

pub has_places : (method : Method) (P : ℕ) (order : Order) → IsOrderOf P method.locals method.stack order → HasPlaces method order
has_places method P order is = record {
  places_counted = is.places_counted;
  slots_counted = is.slots_counted;
  place_within = λ z lt. (is.places_found z lt).0;
  slot_within = λ j lt. (is.slots_found j lt).0;
  slot_at_place = λ z lt. (is.places_found z lt).1;
  place_of_slot = λ j lt. (is.slots_found j lt).1;
  dirt = is.dirt;
  exc = is.exc;
}

module _ (method : Method) (P : ℕ) (order : Order) (below : (k : ℕ) → k < param_count method → param_local method k < P) (is : IsOrderOf P method.locals method.stack order) where
  first-place : slice_index order.places (param_local method 0) ≡ slice_index order.places 0
  first-place = ap (slice_index order.places) (local-first (is_member method.flags) method.types.params)

  lowest-place : slice_index order.places (stack_slot method 0) ≡ slice_index order.places method.locals
  lowest-place = ap (slice_index order.places) (let e : method.locals + 0 ≡ method.locals = omega arith in e)

  -- the local of the second parameter is local 1 or a later one of parameters
  second-place : 1 < param_count method → slice_index order.places 1 ≤ slice_index order.places (param_local method 1)
  second-place more = at (param_local method 1) (let r = local-rises method 0 1 (omega arith) more in omega arith) (below 1 more)
    where
      at : (l : ℕ) → 0 < l → l < P → slice_index order.places 1 ≤ slice_index order.places l
      at zero pos lt = absurd (omega arith)
      at (suc zero) pos lt = omega arith
      at (suc (suc l)) pos lt = let r = is.params 1 (suc (suc l)) (omega arith) lt in omega arith

  pub method_order : IsOrder method order
  method_order = record {
    placed = has_places method P order is;
    params = λ k l lt less. is.params (param_local method k) (param_local method l) (local-rises method k l lt less) (below l less);
    stack = is.stack;
    after_first = λ some more. (let low = first-place in let same = lowest-place in let less = is.after_first (some-word some) more in omega arith);
    before_second = λ some more. (let same = lowest-place in let low = is.before_second (two-words some) more in let high = second-place some in omega arith);
  }
    where
      some-word : 0 < param_count method → 0 < P
      some-word some = let b = below 0 some in omega arith

      two-words : 1 < param_count method → 1 < P
      two-words some = let b = below 1 some in let r = local-rises method 0 1 (omega arith) some in omega arith

pub frame_order : (method : Method) (frame : Frame) (order : Order) → IsFrameOf method frame → IsOrderOf frame.params frame.locals frame.stack order → IsOrder method order
frame_order method frame order same is = method_order method frame.params order below moved
  where
    below : (k : ℕ) → k < param_count method → param_local method k < frame.params
    below k lt = let b = local-below (is_member method.flags) method.types.params k lt in let e = same.params in omega arith

    moved : IsOrderOf frame.params method.locals method.stack order
    moved = subst (λ n. IsOrderOf frame.params n method.stack order) same.locals (subst (λ n. IsOrderOf frame.params frame.locals n order) same.stack is)
