-- The renaming between a callee's variables and its caller's keeps their order.
use Rattle.std.proofs.Common.{◌≡◌, ◌≢◌, ℕ, zero, suc, ◌+◌, ◌*◌, ◌<◌, ◌≤◌, sym, ap, ◌∙◌, arith}
use Rattle.std.specs.Prelude.{slice_index}
use mathlib.Core.Logic.{dite}
use native.Mathlib.Decide.{dec_lt}
use Rattle.ja_ir.specs.declared.method.Method.{Method}
use Rattle.ja_ir.specs.Lookup.{is_member}
use Rattle.ja_ir.specs.Params.{param_count, param_local}
use Rattle.ja_order.specs.declared.order.Order.{Order}
use Rattle.ja_order.specs.Order.{HasFrame, IsOrder, dirt_slot, exc_slot, slot_count}
use Rattle.ja_order.specs.Calls.{AreCopies, Meets, argument, answer, stored, thrown}
use Rattle.ja_order.proofs.Locals.{local-below}

-- no two slots are at one place
one-slot : (method : Method) (order : Order) → IsOrder method order → (y z : ℕ) → y < slot_count method → z < slot_count method → slice_index order.places y ≡ slice_index order.places z → y ≡ z
one-slot method order is y z ly lz e = sym (is.placed.slot_at_place y ly) ∙ ap (slice_index order.slots) e ∙ is.placed.slot_at_place z lz

-- all slots but dirt and exc are before them
before-dirt : (method : Method) (order : Order) → IsOrder method order → (z : ℕ) → z < method.locals + method.stack → slice_index order.places z < method.locals + method.stack
before-dirt method order is z lt =
    let w = is.placed.place_within z (omega arith) in
    let d = is.placed.dirt in
    let e = is.placed.exc in
    let no-dirt : slice_index order.places z ≢ slice_index order.places (dirt_slot method) = λ same. (let z-is = one-slot method order is z (dirt_slot method) (omega arith) (omega arith) same in omega arith) in
    let no-exc : slice_index order.places z ≢ slice_index order.places (exc_slot method) = λ same. (let z-is = one-slot method order is z (exc_slot method) (omega arith) (omega arith) same in omega arith) in
    omega arith

module _ (callee caller : Method) (P Q : Order) (base entered ended before after : ℕ) (frame : HasFrame callee) (inner : IsOrder callee P) (outer : IsOrder caller Q)
    (fits : base + param_count callee ≤ caller.stack) (e4 : entered < 4) (d4 : ended < 4) (copies : AreCopies before after) where
  later : before < after
  later = copies.later

  few : after < 4
  few = copies.few

  -- a parameter is before dirt, and so is each value
  param-low : (k : ℕ) → k < param_count callee → slice_index P.places (param_local callee k) < callee.locals + callee.stack
  param-low k lt =
      let b = local-below (is_member callee.flags) callee.types.params k lt in let r = frame.room in
      before-dirt callee P inner (param_local callee k) (omega arith)

  result-low : 0 < callee.stack → slice_index P.places (callee.locals + 0) < callee.locals + callee.stack
  result-low some = before-dirt callee P inner (callee.locals + 0) (omega arith)

  value-low : (k : ℕ) → base + k < caller.stack → slice_index Q.places (caller.locals + (base + k)) < caller.locals + caller.stack
  value-low k lt = before-dirt caller Q outer (caller.locals + (base + k)) (omega arith)

  base-low : base < caller.stack → slice_index Q.places (caller.locals + base) < caller.locals + caller.stack
  base-low lt = before-dirt caller Q outer (caller.locals + base) (omega arith)

  -- the parameters rise as their arguments do
  param-order : (k l : ℕ) → k < param_count callee → slice_index P.places (param_local callee k) < slice_index P.places (param_local callee l) → k < l
  param-order k l lk less = dite (dec_lt k l) (λ lt. lt) (λ not. dite (dec_lt l k) (λ lt. let r = inner.params l k lt lk in absurd (omega arith)) (λ same. let e : k ≡ l = omega arith in let p = ap (λ n. slice_index P.places (param_local callee n)) e in absurd (omega arith)))

  arguments-rise : (k l : ℕ) → k < param_count callee → l < param_count callee → 4 * slice_index P.places (param_local callee k) + entered < 4 * slice_index P.places (param_local callee l) + entered
      → 4 * slice_index Q.places (caller.locals + (base + k)) + before < 4 * slice_index Q.places (caller.locals + (base + l)) + before
  arguments-rise k l lk ll less =
      let lt = param-order k l lk (omega arith) in
      let r = outer.stack (base + k) (base + l) (omega arith) (omega arith) in
      omega arith

  -- no parameter but the first is before the result
  past-result : (k : ℕ) → suc k < param_count callee → 0 < callee.stack → slice_index P.places (callee.locals + 0) < slice_index P.places (param_local callee (suc k))
  past-result zero lk some = inner.before_second lk some
  past-result (suc k) lk some = let b = inner.before_second (omega arith) some in let r = inner.params 1 (suc (suc k)) (omega arith) lk in omega arith

  argument-answer : (k : ℕ) → k < param_count callee → 0 < callee.stack → base < caller.stack → 4 * slice_index P.places (param_local callee k) + entered < 4 * slice_index P.places (callee.locals + 0) + ended
      → 4 * slice_index Q.places (caller.locals + (base + k)) + before < 4 * slice_index Q.places (caller.locals + base) + after
  argument-answer zero lk some room less = let e : caller.locals + (base + 0) ≡ caller.locals + base = omega arith in let q = ap (slice_index Q.places) e in let l = later in omega arith
  argument-answer (suc k) lk some room less = let p = past-result k lk some in absurd (omega arith)

  answer-argument : (l : ℕ) → l < param_count callee → 0 < callee.stack → base < caller.stack → 4 * slice_index P.places (callee.locals + 0) + ended < 4 * slice_index P.places (param_local callee l) + entered
      → 4 * slice_index Q.places (caller.locals + base) + after < 4 * slice_index Q.places (caller.locals + (base + l)) + before
  answer-argument zero ll some room less = let f = inner.after_first ll some in absurd (omega arith)
  answer-argument (suc l) ll some room less = let r = outer.stack base (base + suc l) (omega arith) (omega arith) in let f = few in omega arith

  pub renaming_rises : (x y u v : ℕ) → Meets callee caller P Q base entered ended before after x y → Meets callee caller P Q base entered ended before after u v → x < u → y < v
  renaming_rises x y u v (argument k lk) (argument l ll) less = arguments-rise k l lk ll less
  renaming_rises x y u v (argument k lk) (answer some room) less = argument-answer k lk some room less
  renaming_rises x y u v (argument k lk) stored less = let q = value-low k (omega arith) in let d = outer.placed.dirt in let f = later in omega (arith, few)
  renaming_rises x y u v (argument k lk) thrown less = let q = value-low k (omega arith) in let d = outer.placed.exc in let f = later in omega (arith, few)
  renaming_rises x y u v (answer some room) (argument l ll) less = answer-argument l ll some room less
  renaming_rises x y u v (answer some room) (answer some' room') less = absurd (omega arith)
  renaming_rises x y u v (answer some room) stored less = let q = base-low room in let d = outer.placed.dirt in omega arith
  renaming_rises x y u v (answer some room) thrown less = let q = base-low room in let d = outer.placed.exc in omega arith
  renaming_rises x y u v stored (argument l ll) less = let p = param-low l ll in let d = inner.placed.dirt in absurd (omega arith)
  renaming_rises x y u v stored (answer some room) less = let p = result-low some in let d = inner.placed.dirt in absurd (omega arith)
  renaming_rises x y u v stored stored less = absurd (omega arith)
  renaming_rises x y u v stored thrown less = let d = outer.placed.dirt in let e = outer.placed.exc in omega arith
  renaming_rises x y u v thrown (argument l ll) less = let p = param-low l ll in let d = inner.placed.exc in absurd (omega arith)
  renaming_rises x y u v thrown (answer some room) less = let p = result-low some in let d = inner.placed.exc in absurd (omega arith)
  renaming_rises x y u v thrown stored less = let d = inner.placed.dirt in let e = inner.placed.exc in absurd (omega arith)
  renaming_rises x y u v thrown thrown less = absurd (omega arith)
