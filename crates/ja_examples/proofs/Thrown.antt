-- The facts of the program whose tainted exception is caught.
use Rattle.std.proofs.Common.{lit<, ℕ, zero, suc, true, false, List, [], ◌∷◌, refl, arith}
use Rattle.std.specs.Prelude.{codes}
use Rattle.ja_ir.specs.declared.op.Op.TheVariants.{Call, Throw}
use Rattle.ja_ir.specs.declared.method.Method.{Method}
use Rattle.ja_ir.specs.Lookup.{OpAt}
use Rattle.ja_ir.specs.Examples.{method, at}
use Rattle.ja_facts.specs.Slots.{Slot, Local, OnStack, CallAt, kept_local}
use Rattle.ja_facts.specs.Actions.{IsEntry, HasObjects}
use Rattle.ja_facts.specs.ClassSets.{Reached, CallsLibrary, CallsMethod, InThrown, InOut, entry_runs, throws_library, handler_reached, thrown_out, callee_throws}
use Rattle.ja_facts.specs.Formulas.{Assignment, Turns, copied, above, answered, IsExceptionalEnd, thrown, IsCallThrown, left_kept}
use Rattle.ja_facts.specs.Equations.{Context, At, Threw, constructor_called, entry_called, called, begins, caught, callee_caught, leaves, callee_leaves, HandsOver, Calls, IsCaught, IsWarned}
use Rattle.ja_facts.specs.Analyses.{Classes, analyses_of}
use Rattle.ja_examples.specs.Truth.{only, tainted_throw}
use Rattle.ja_examples.specs.Library.{trouble, show}
use Rattle.ja_examples.specs.Throwing.{throwing, throwing_entry, throwing_fail, throwing_relay, throwing_run, fail, relay, caught_site, plain_call}
use Rattle.ja_examples.proofs.Deriving.{by_class, by_taint, Goes, op_at, next, to_library, to_callee, callee, step, no_read, Known, nothing_begins}
use Rattle.ja_facts.specs.Example.{nothing}

-- the instructions
at_trouble : Goes throwing 1 0 1 (at 0 (Call trouble) (1 ∷ []) 0)
at_trouble = record { found = refl; listed = (0, lit< tt, refl) }

at_fail : CallAt throwing 2 0 fail 0
at_fail = record { height = 0; at = record { instr = at 0 (Call fail) (1 ∷ []) 0; found = refl; is_op = refl; is_height = refl }; under_is = refl }

at_relay : CallAt throwing 3 0 relay 0
at_relay = record { height = 0; at = record { instr = at 0 (Call relay) (1 ∷ []) 0; found = refl; is_op = refl; is_height = refl }; under_is = refl }

at_show : CallAt throwing 3 2 show 0
at_show = record { height = 1; at = record { instr = at 2 (Call show) (3 ∷ []) 1; found = refl; is_op = refl; is_height = refl }; under_is = refl }

throw1 : OpAt throwing 1 1 Throw 1
throw1 = record { instr = at 1 Throw [] 1; found = refl; is_op = refl; is_height = refl }

throw2 : OpAt throwing 1 2 Throw 1
throw2 = record { instr = at 2 Throw [] 1; found = refl; is_op = refl; is_height = refl }

-- what is called and thrown
run_reached : Classes throwing (Reached 3 0)
run_reached = by_class throwing [] (Reached 3 0) (entry_runs throwing_entry (0, lit< tt, refl)) tt

to_relay : Classes throwing (CallsMethod 3 0 2)
to_relay = to_callee throwing throwing_relay at_relay refl refl refl refl run_reached

relay_reached : Classes throwing (Reached 2 0)
relay_reached = callee throwing run_reached to_relay

to_fail : Classes throwing (CallsMethod 2 0 1)
to_fail = to_callee throwing throwing_fail at_fail refl refl refl refl relay_reached

fail_reached : Classes throwing (Reached 1 0)
fail_reached = callee throwing relay_reached to_fail

troubles : Classes throwing (CallsLibrary 1 0)
troubles = to_library throwing {under = 0} (record { height = 0; at = op_at throwing at_trouble; under_is = refl }) refl refl fail_reached

throw1_reached : Classes throwing (Reached 1 1)
throw1_reached = next throwing at_trouble fail_reached

throws1 : Classes throwing (InThrown 1 1 2)
throws1 = by_class throwing (Reached 1 1 ∷ []) (InThrown 1 1 2) (throws_library throw1 tt) (throw1_reached, tt)

throw2_reached : Classes throwing (Reached 1 2)
throw2_reached = by_class throwing (Reached 1 1 ∷ InThrown 1 1 2 ∷ []) (Reached 1 2) (handler_reached (0, lit< tt, refl)) (throw1_reached, (throws1, tt))

throws2 : Classes throwing (InThrown 1 2 2)
throws2 = by_class throwing (Reached 1 2 ∷ []) (InThrown 1 2 2) (throws_library throw2 tt) (throw2_reached, tt)

out_of_fail : Classes throwing (InOut 1 2)
out_of_fail = by_class throwing (Reached 1 2 ∷ InThrown 1 2 2 ∷ []) (InOut 1 2) (thrown_out (0, lit< tt, refl)) (throw2_reached, (throws2, tt))

relay_throws : Classes throwing (InThrown 2 0 2)
relay_throws = by_class throwing (Reached 2 0 ∷ CallsMethod 2 0 1 ∷ InOut 1 2 ∷ []) (InThrown 2 0 2) callee_throws (relay_reached, (to_fail, (out_of_fail, tt)))

out_of_relay : Classes throwing (InOut 2 2)
out_of_relay = by_class throwing (Reached 2 0 ∷ InThrown 2 0 2 ∷ []) (InOut 2 2) (thrown_out (0, lit< tt, refl)) (relay_reached, (relay_throws, tt))

run_throws : Classes throwing (InThrown 3 0 2)
run_throws = by_class throwing (Reached 3 0 ∷ CallsMethod 3 0 2 ∷ InOut 2 2 ∷ []) (InThrown 3 0 2) callee_throws (run_reached, (to_relay, (out_of_relay, tt)))

-- the environment's calls
run_entry : IsEntry throwing throwing_entry throwing_run
run_entry = record { listed = (0, lit< tt, refl); found = refl }

run_has_objects : HasObjects throwing throwing_entry
run_has_objects = record { method = throwing_run; is_entry = run_entry; member = refl }

pub constructed : Known throwing (Context 0 nothing)
constructed = by_taint throwing [] (Context 0 nothing) (constructor_called throwing_entry run_has_objects refl (record { slots = λ z. refl; dirt = refl; exc = refl })) tt

run_context : Known throwing (Context 3 nothing)
run_context = by_taint throwing [] (Context 3 nothing) (entry_called throwing_entry [] (nothing_begins throwing run_entry)) tt

started : (m : ℕ) → Known throwing (Context m nothing) → Known throwing (At m 0 nothing nothing)
started m context = by_taint throwing (Context m nothing ∷ []) (At m 0 nothing nothing) begins (context, tt)

run_starts : Known throwing (At 3 0 nothing nothing)
run_starts = started 3 run_context

-- calls without arguments
hands : (method : Method) (name : List ℕ) (m : ℕ) → HandsOver method (plain_call name m) 0 nothing nothing
hands method name m = record { each = λ k below. absurd (omega (arith, below)); others = λ z other. refl; dirt = refl; exc = refl }

calls_relay : Calls throwing (analyses_of throwing) 3 0 2 relay 0 nothing nothing
calls_relay = record { at = at_relay; goes = to_relay; method = throwing_relay; found = refl; hands = hands throwing_relay (codes "relay") 2 }

calls_fail : Calls throwing (analyses_of throwing) 2 0 1 fail 0 nothing nothing
calls_fail = record { at = at_fail; goes = to_fail; method = throwing_fail; found = refl; hands = hands throwing_fail (codes "fail") 1 }

relay_starts : Known throwing (At 2 0 nothing nothing)
relay_starts = started 2 (by_taint throwing (At 3 0 nothing nothing ∷ []) (Context 2 nothing) (called calls_relay) (run_starts, tt))

fail_starts : Known throwing (At 1 0 nothing nothing)
fail_starts = started 1 (by_taint throwing (At 2 0 nothing nothing ∷ []) (Context 1 nothing) (called calls_fail) (relay_starts, tt))

-- the exception is made
trouble_slots : (y : Slot) → Turns (analyses_of throwing) 1 0 nothing (Call trouble) 0 y ((only (OnStack 0 ∷ [])).slot y)
trouble_slots (Local l) = copied (kept_local tt)
trouble_slots (OnStack zero) = answered 0 refl refl (λ t. refl)
trouble_slots (OnStack (suc k)) = above (omega arith)

before_throw : Known throwing (At 1 1 nothing (only (OnStack 0 ∷ [])))
before_throw = step throwing at_trouble (record { reached = refl; goes_on = refl; library = troubles; slots = trouble_slots; dirt = refl; exc = refl }) (no_read refl) fail_starts

-- only what is thrown is true
abbrev flying : Assignment
flying = record { slot = λ z. false; dirt = false; exc = true }

thrown_end1 : IsExceptionalEnd throwing (analyses_of throwing) 1 1 (only (OnStack 0 ∷ [])) flying
thrown_end1 = record { instr = at 1 Throw [] 1; found = refl; reached = refl; throws = thrown {k = 0} refl (record { locals = λ l. refl; stack = λ k. refl; dirt = refl; is_exc = refl }) }

thrown_end2 : IsExceptionalEnd throwing (analyses_of throwing) 1 2 (only (OnStack 0 ∷ [])) flying
thrown_end2 = record { instr = at 2 Throw [] 1; found = refl; reached = refl; throws = thrown {k = 0} refl (record { locals = λ l. refl; stack = λ k. refl; dirt = refl; is_exc = refl }) }

-- behind a handler it is alone on the stack
is_caught : IsCaught flying (only (OnStack 0 ∷ []))
is_caught = record { locals = λ l. refl; first = refl; rest = λ k. refl; dirt = refl; exc = refl }

pub caught_again : Known throwing (At 1 2 nothing (only (OnStack 0 ∷ [])))
caught_again =
    by_taint throwing (At 1 1 nothing (only (OnStack 0 ∷ [])) ∷ []) (At 1 2 nothing (only (OnStack 0 ∷ [])))
    (caught throws1 (0, lit< tt, refl) thrown_end1 is_caught) (before_throw, tt)

pub threw : Known throwing (Threw 1 nothing tainted_throw)
threw =
    by_taint throwing (At 1 2 nothing (only (OnStack 0 ∷ [])) ∷ []) (Threw 1 nothing tainted_throw)
    (leaves throws2 (0, lit< tt, refl) thrown_end2) (caught_again, tt)

-- a call ends by it
call_thrown : (m n : ℕ) → IsCallThrown (analyses_of throwing) m 0 n 0 0 nothing tainted_throw flying
call_thrown m n = record { locals = λ l. left_kept; stack = λ j. refl; dirt = refl; is_exc = refl }

pub threw_on : Known throwing (Threw 2 nothing tainted_throw)
threw_on =
    by_taint throwing (At 2 0 nothing nothing ∷ Threw 1 nothing tainted_throw ∷ []) (Threw 2 nothing tainted_throw)
    (callee_leaves calls_fail relay_throws (0, lit< tt, refl) (call_thrown 2 1)) (relay_starts, (threw, tt))

pub caught_by_caller : Known throwing (At 3 2 nothing (only (OnStack 0 ∷ [])))
caught_by_caller =
    by_taint throwing (At 3 0 nothing nothing ∷ Threw 2 nothing tainted_throw ∷ []) (At 3 2 nothing (only (OnStack 0 ∷ [])))
    (callee_caught calls_relay run_throws (0, lit< tt, refl) (call_thrown 3 2) is_caught) (run_starts, (threw_on, tt))

pub warned : IsWarned throwing (Known throwing) caught_site
warned = record { call = show; under = 0; at = at_show; a = nothing; b = only (OnStack 0 ∷ []); fact = caught_by_caller; k = 0; listed = (0, lit< tt, refl); true_argument = refl }
