-- What the program with two virtual calls comes to: each call goes to what its receivers select, and the first sink call is warned.
use Rattle.std.proofs.Common.{lit<, ◌≡◌, subst, ℕ, zero, suc, true, false, [], ◌∷◌, Some, refl, arith}
use Rattle.ja_base.specs.declared.java_type.Kind.TheVariants.{P1, R}
use Rattle.ja_ir.specs.declared.op.Op.TheVariants.{Const, New, Branch, Call, Return}
use Rattle.ja_ir.specs.declared.class.ClassInfo.{ClassInfo}
use Rattle.ja_ir.specs.Lookup.{OpAt, is_abstract, is_interface}
use Rattle.ja_ir.specs.Examples.{at}
use Rattle.ja_facts.specs.Slots.{Slot, Local, OnStack, CallAt, kept_local, kept_stack, left_local}
use Rattle.ja_facts.specs.Actions.{IsEntry}
use Rattle.ja_facts.specs.ClassSets.{Reached, InSlot, CallsLibrary, CallsMethod, CanBeMade, entry_runs, made as object_made, moved, selects_method, selected}
use Rattle.ja_facts.specs.Formulas.{Turns, copied, above, constant, made, answered, CallTurns, call_kept, call_answered, call_above}
use Rattle.ja_facts.specs.Sharing.{makes_object}
use Rattle.ja_facts.specs.Equations.{Context, At, Normal, entry_called, called, begins, Calls, IsWarned, call_resumes, method_returns}
use Rattle.ja_facts.specs.Analyses.{Classes, analyses_of}
use Rattle.ja_examples.specs.Truth.{only, tainted_result}
use Rattle.ja_examples.specs.Library.{source, sink}
use Rattle.ja_examples.specs.Choosing.{choosing, choosing_q, either_main, choosing_entry, choosing_site, class_q, class_r, call_m}
use Rattle.ja_examples.proofs.Deriving.{by_class, by_taint, Goes, op_at, leads, next, to_library, callee, step, no_read, Known, nothing_begins}
use Rattle.ja_facts.specs.Example.{nothing}

-- the instructions
either0 : Goes choosing 2 0 1 (at 0 (Const P1) (1 ∷ []) 0)
either0 = record { found = refl; listed = (0, lit< tt, refl) }

either1 : Goes choosing 2 1 2 (at 1 (Branch 1) (4 ∷ 2 ∷ []) 1)
either1 = record { found = refl; listed = (1, lit< tt, refl) }

jump1 : Goes choosing 2 1 4 (at 1 (Branch 1) (4 ∷ 2 ∷ []) 1)
jump1 = record { found = refl; listed = (0, lit< tt, refl) }

either2 : Goes choosing 2 2 3 (at 2 (New (record { 0 = 1 })) (3 ∷ []) 0)
either2 = record { found = refl; listed = (0, lit< tt, refl) }

either3 : Goes choosing 2 3 5 (at 3 (Branch 0) (5 ∷ []) 1)
either3 = record { found = refl; listed = (0, lit< tt, refl) }

either4 : Goes choosing 2 4 5 (at 4 (New (record { 0 = 2 })) (5 ∷ []) 0)
either4 = record { found = refl; listed = (0, lit< tt, refl) }

either5 : Goes choosing 2 5 6 (at 5 (Call call_m) (6 ∷ []) 1)
either5 = record { found = refl; listed = (0, lit< tt, refl) }

either6 : Goes choosing 2 6 7 (at 6 (Call sink) (7 ∷ []) 1)
either6 = record { found = refl; listed = (0, lit< tt, refl) }

single0 : Goes choosing 3 0 1 (at 0 (New (record { 0 = 2 })) (1 ∷ []) 0)
single0 = record { found = refl; listed = (0, lit< tt, refl) }

single1 : Goes choosing 3 1 2 (at 1 (Call call_m) (2 ∷ []) 1)
single1 = record { found = refl; listed = (0, lit< tt, refl) }

q0 : Goes choosing 0 0 1 (at 0 (Call source) (1 ∷ []) 0)
q0 = record { found = refl; listed = (0, lit< tt, refl) }

at_either : CallAt choosing 2 5 call_m 0
at_either = record { height = 1; at = op_at choosing either5; under_is = refl }

at_single : CallAt choosing 3 1 call_m 0
at_single = record { height = 1; at = op_at choosing single1; under_is = refl }

at_sink : CallAt choosing 2 6 sink 0
at_sink = record { height = 1; at = op_at choosing either6; under_is = refl }

at_source : CallAt choosing 0 0 source 0
at_source = record { height = 0; at = op_at choosing q0; under_is = refl }

-- what is reached
either_reached : Classes choosing (Reached 2 0)
either_reached = by_class choosing [] (Reached 2 0) (entry_runs (choosing_entry 2) (0, lit< tt, refl)) tt

reached1 : Classes choosing (Reached 2 1)
reached1 = next choosing either0 either_reached

reached2 : Classes choosing (Reached 2 2)
reached2 = next choosing either1 reached1

reached3 : Classes choosing (Reached 2 3)
reached3 = next choosing either2 reached2

reached4 : Classes choosing (Reached 2 4)
reached4 = next choosing jump1 reached1

reached5 : Classes choosing (Reached 2 5)
reached5 = next choosing either3 reached3

single_reached : Classes choosing (Reached 3 0)
single_reached = by_class choosing [] (Reached 3 0) (entry_runs (choosing_entry 3) (1, lit< tt, refl)) tt

single_reached1 : Classes choosing (Reached 3 1)
single_reached1 = next choosing single0 single_reached

-- an object of Q or of R can be made
can_q : CanBeMade choosing 1
can_q class e = let same : class_q ≡ class = cc e in subst (λ (x : ClassInfo). (is_abstract x.flags ≡ false) × (is_interface x.flags ≡ false)) same (refl, refl)

can_r : CanBeMade choosing 2
can_r class e = let same : class_r ≡ class = cc e in subst (λ (x : ClassInfo). (is_abstract x.flags ≡ false) × (is_interface x.flags ≡ false)) same (refl, refl)

-- the receivers
q_made : Classes choosing (InSlot 2 3 (OnStack 0) 1)
q_made = by_class choosing (Reached 2 2 ∷ []) (InSlot 2 3 (OnStack 0) 1) (object_made (op_at choosing either2) (leads choosing either2) can_q) (reached2, tt)

q_receives : Classes choosing (InSlot 2 5 (OnStack 0) 1)
q_receives =
    by_class choosing (Reached 2 3 ∷ InSlot 2 3 (OnStack 0) 1 ∷ []) (InSlot 2 5 (OnStack 0) 1)
    (moved (op_at choosing either3) (leads choosing either3) (kept_stack (lit< tt)) tt) (reached3, (q_made, tt))

r_receives : Classes choosing (InSlot 2 5 (OnStack 0) 2)
r_receives = by_class choosing (Reached 2 4 ∷ []) (InSlot 2 5 (OnStack 0) 2) (object_made (op_at choosing either4) (leads choosing either4) can_r) (reached4, tt)

single_receives : Classes choosing (InSlot 3 1 (OnStack 0) 2)
single_receives = by_class choosing (Reached 3 0 ∷ []) (InSlot 3 1 (OnStack 0) 2) (object_made (op_at choosing single0) (leads choosing single0) can_r) (single_reached, tt)

-- and what they select
pub either_calls_q : Classes choosing (CallsMethod 2 5 0)
either_calls_q =
    by_class choosing (Reached 2 5 ∷ InSlot 2 5 (OnStack 0) 1 ∷ []) (CallsMethod 2 5 0)
    (selects_method at_either refl (selected (class_q, refl) (λ named. refl))) (reached5, (q_receives, tt))

pub either_calls_r : Classes choosing (CallsMethod 2 5 1)
either_calls_r =
    by_class choosing (Reached 2 5 ∷ InSlot 2 5 (OnStack 0) 2 ∷ []) (CallsMethod 2 5 1)
    (selects_method at_either refl (selected (class_r, refl) (λ named. refl))) (reached5, (r_receives, tt))

pub single_calls_r : Classes choosing (CallsMethod 3 1 1)
single_calls_r =
    by_class choosing (Reached 3 1 ∷ InSlot 3 1 (OnStack 0) 2 ∷ []) (CallsMethod 3 1 1)
    (selects_method at_single refl (selected (class_r, refl) (λ named. refl))) (single_reached1, (single_receives, tt))

sources : Classes choosing (CallsLibrary 0 0)
sources = to_library choosing at_source refl refl (callee choosing reached5 either_calls_q)

-- the first main comes to its call with Q's object
is_entry : IsEntry choosing (choosing_entry 2) either_main
is_entry = record { listed = (0, lit< tt, refl); found = refl }

starts : (m : ℕ) → Known choosing (Context m nothing) → Known choosing (At m 0 nothing nothing)
starts m context = by_taint choosing (Context m nothing ∷ []) (At m 0 nothing nothing) begins (context, tt)

const_slots : (y : Slot) → Turns (analyses_of choosing) 2 0 nothing (Const P1) 0 y false
const_slots (Local l) = copied (kept_local tt)
const_slots (OnStack zero) = constant
const_slots (OnStack (suc k)) = above (omega arith)

test_slots : (y : Slot) → Turns (analyses_of choosing) 2 1 nothing (Branch 1) 1 y false
test_slots (Local l) = copied (kept_local tt)
test_slots (OnStack k) = above (omega arith)

new_slots : (y : Slot) → Turns (analyses_of choosing) 2 2 nothing (New (record { 0 = 1 })) 0 y false
new_slots (Local l) = copied (kept_local tt)
new_slots (OnStack zero) = made makes_object
new_slots (OnStack (suc k)) = above (omega arith)

jump_slots : (y : Slot) → Turns (analyses_of choosing) 2 3 nothing (Branch 0) 1 y false
jump_slots (Local l) = copied (kept_local tt)
jump_slots (OnStack zero) = copied (kept_stack (lit< tt))
jump_slots (OnStack (suc k)) = above (omega arith)

before_call : Known choosing (At 2 5 nothing nothing)
before_call =
    step choosing either3 (record { reached = refl; goes_on = refl; library = tt; slots = jump_slots; dirt = refl; exc = refl }) (no_read refl)
    (step choosing either2 (record { reached = refl; goes_on = refl; library = tt; slots = new_slots; dirt = refl; exc = refl }) (no_read refl)
    (step choosing either1 (record { reached = refl; goes_on = refl; library = tt; slots = test_slots; dirt = refl; exc = refl }) (no_read refl)
    (step choosing either0 (record { reached = refl; goes_on = refl; library = tt; slots = const_slots; dirt = refl; exc = refl }) (no_read refl)
    (starts 2 (by_taint choosing [] (Context 2 nothing) (entry_called (choosing_entry 2) [] (nothing_begins choosing is_entry)) tt)))))

-- Q's method answers something tainted
calls_q : Calls choosing (analyses_of choosing) 2 5 0 call_m 0 nothing nothing
calls_q = record {
  at = at_either;
  goes = either_calls_q;
  method = choosing_q;
  found = refl;
  hands = record { each = λ k below. refl; others = λ z other. refl; dirt = refl; exc = refl };
}

source_slots : (y : Slot) → Turns (analyses_of choosing) 0 0 nothing (Call source) 0 y ((only (OnStack 0 ∷ [])).slot y)
source_slots (Local l) = copied (kept_local tt)
source_slots (OnStack zero) = answered 0 refl refl (λ t. refl)
source_slots (OnStack (suc k)) = above (omega arith)

return_at : OpAt choosing 0 1 (Return (Some R)) 1
return_at = record { instr = at 1 (Return (Some R)) [] 1; found = refl; is_op = refl; is_height = refl }

q_returns : Known choosing (Normal 0 nothing tainted_result)
q_returns =
    by_taint choosing (At 0 1 nothing (only (OnStack 0 ∷ [])) ∷ []) (Normal 0 nothing tainted_result) (method_returns return_at) (
      step choosing q0 (record { reached = refl; goes_on = refl; library = sources; slots = source_slots; dirt = refl; exc = refl }) (no_read refl)
          (starts 0 (by_taint choosing (At 2 5 nothing nothing ∷ []) (Context 0 nothing) (called calls_q) (before_call, tt))),
      tt,
    )

return_slots : (y : Slot) → CallTurns (analyses_of choosing) 2 5 0 1 0 true nothing tainted_result y ((only (OnStack 0 ∷ [])).slot y)
return_slots (Local l) = call_kept left_local
return_slots (OnStack zero) = call_answered refl
return_slots (OnStack (suc k)) = call_above (omega arith)

after_call : Known choosing (At 2 6 nothing (only (OnStack 0 ∷ [])))
after_call =
    by_taint choosing (At 2 5 nothing nothing ∷ Normal 0 nothing tainted_result ∷ []) (At 2 6 nothing (only (OnStack 0 ∷ [])))
    (call_resumes calls_q (leads choosing either5) (record { slots = return_slots; dirt = refl; exc = refl })) (before_call, (q_returns, tt))

pub warned : IsWarned choosing (Known choosing) (choosing_site 2 6)
warned = record { call = sink; under = 0; at = at_sink; a = nothing; b = only (OnStack 0 ∷ []); fact = after_call; k = 0; listed = (0, lit< tt, refl); true_argument = refl }
