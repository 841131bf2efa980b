-- The facts of the program in which a call returns its tainted argument.
use Rattle.std.proofs.Common.{lit<, ◌≡◌, ℕ, zero, suc, ◌<◌, true, false, [], ◌∷◌, Some, refl, arith}
use Rattle.ja_base.specs.declared.java_type.Kind.TheVariants.{R}
use Rattle.ja_ir.specs.declared.op.Op.TheVariants.{Load, Call, Return}
use Rattle.ja_ir.specs.Lookup.{OpAt}
use Rattle.ja_ir.specs.Examples.{at}
use Rattle.ja_facts.specs.Slots.{Slot, Local, OnStack, CallAt, kept_local, loaded, left_local}
use Rattle.ja_facts.specs.Actions.{IsEntry}
use Rattle.ja_facts.specs.ClassSets.{Reached, CallsLibrary, CallsMethod, entry_runs}
use Rattle.ja_facts.specs.Formulas.{Turns, copied, above, answered, IsReturn, CallTurns, call_kept, call_answered, call_above}
use Rattle.ja_facts.specs.Equations.{Context, At, Normal, entry_called, called, begins, HandsOver, Calls, IsWarned, call_resumes, method_returns}
use Rattle.ja_facts.specs.Analyses.{Classes, analyses_of}
use Rattle.ja_examples.specs.Truth.{only, tainted_result}
use Rattle.ja_examples.specs.Library.{source, sink}
use Rattle.ja_examples.specs.Passing.{passing, passing_pass, passing_main, passing_entry, pass, passed_site}
use Rattle.ja_examples.proofs.Deriving.{by_class, by_taint, Goes, op_at, leads, next, to_library, to_callee, step, no_read, Known, nothing_begins}
use Rattle.ja_facts.specs.Example.{nothing}

goes0 : Goes passing 1 0 1 (at 0 (Call source) (1 ∷ []) 0)
goes0 = record { found = refl; listed = (0, lit< tt, refl) }

goes1 : Goes passing 1 1 2 (at 1 (Call pass) (2 ∷ []) 1)
goes1 = record { found = refl; listed = (0, lit< tt, refl) }

goes2 : Goes passing 1 2 3 (at 2 (Call sink) (3 ∷ []) 1)
goes2 = record { found = refl; listed = (0, lit< tt, refl) }

inside0 : Goes passing 0 0 1 (at 0 (Load R 0) (1 ∷ []) 0)
inside0 = record { found = refl; listed = (0, lit< tt, refl) }

at_source : CallAt passing 1 0 source 0
at_source = record { height = 0; at = op_at passing goes0; under_is = refl }

at_pass : CallAt passing 1 1 pass 0
at_pass = record { height = 1; at = op_at passing goes1; under_is = refl }

at_sink : CallAt passing 1 2 sink 0
at_sink = record { height = 1; at = op_at passing goes2; under_is = refl }

main_entry : IsEntry passing passing_entry passing_main
main_entry = record { listed = (0, lit< tt, refl); found = refl }

reached0 : Classes passing (Reached 1 0)
reached0 = by_class passing [] (Reached 1 0) (entry_runs passing_entry (0, lit< tt, refl)) tt

reached1 : Classes passing (Reached 1 1)
reached1 = next passing goes0 reached0

sources : Classes passing (CallsLibrary 1 0)
sources = to_library passing at_source refl refl reached0

calls_pass : Classes passing (CallsMethod 1 1 0)
calls_pass = to_callee passing passing_pass at_pass refl refl refl refl reached1

-- main's source
source_slots : (y : Slot) → Turns (analyses_of passing) 1 0 nothing (Call source) 0 y ((only (OnStack 0 ∷ [])).slot y)
source_slots (Local l) = copied (kept_local tt)
source_slots (OnStack zero) = answered 0 refl refl (λ t. refl)
source_slots (OnStack (suc k)) = above (omega arith)

context : Known passing (Context 1 nothing)
context = by_taint passing [] (Context 1 nothing) (entry_called passing_entry [] (nothing_begins passing main_entry)) tt

entered : Known passing (At 1 0 nothing nothing)
entered = by_taint passing (Context 1 nothing ∷ []) (At 1 0 nothing nothing) begins (context, tt)

before_call : Known passing (At 1 1 nothing (only (OnStack 0 ∷ [])))
before_call =
    step passing goes0 (record { reached = refl; goes_on = refl; library = sources; slots = source_slots; dirt = refl; exc = refl }) (no_read refl) entered

-- the call
other_slots : (z : Slot) → ((k : ℕ) → k < 1 → z ≡ Local 0 → ⊥) → (only (Local 0 ∷ [])).slot z ≡ false
other_slots (Local zero) other = absurd (other 0 (lit< tt) refl)
other_slots (Local (suc l)) other = refl
other_slots (OnStack k) other = refl

hands : HandsOver passing_pass pass 0 (only (OnStack 0 ∷ [])) (only (Local 0 ∷ []))
hands = record {
  each = λ k below. (let e : k ≡ 0 = omega (arith, below) in rw e refl);
  others = λ z other. other_slots z (λ k below e. other k below (let same : k ≡ 0 = omega (arith, below) in rw same e));
  dirt = refl;
  exc = refl;
}

calls : Calls passing (analyses_of passing) 1 1 0 pass 0 (only (OnStack 0 ∷ [])) (only (Local 0 ∷ []))
calls = record { at = at_pass; goes = calls_pass; method = passing_pass; found = refl; hands = hands }

pub callee_context : Known passing (Context 0 (only (Local 0 ∷ [])))
callee_context = by_taint passing (At 1 1 nothing (only (OnStack 0 ∷ [])) ∷ []) (Context 0 (only (Local 0 ∷ []))) (called calls) (before_call, tt)

-- the method loads its parameter and returns it
load_slots : (y : Slot) → Turns (analyses_of passing) 0 0 (only (Local 0 ∷ [])) (Load R 0) 0 y ((only (Local 0 ∷ OnStack 0 ∷ [])).slot y)
load_slots (Local zero) = copied (kept_local tt)
load_slots (Local (suc l)) = copied (kept_local tt)
load_slots (OnStack zero) = copied loaded
load_slots (OnStack (suc k)) = above (omega arith)

inside : Known passing (At 0 1 (only (Local 0 ∷ [])) (only (Local 0 ∷ OnStack 0 ∷ [])))
inside =
    step passing inside0 (record { reached = refl; goes_on = refl; library = tt; slots = load_slots; dirt = refl; exc = refl }) (no_read refl)
    (by_taint passing (Context 0 (only (Local 0 ∷ [])) ∷ []) (At 0 0 (only (Local 0 ∷ [])) (only (Local 0 ∷ []))) begins (callee_context, tt))

return_at : OpAt passing 0 1 (Return (Some R)) 1
return_at = record { instr = at 1 (Return (Some R)) [] 1; found = refl; is_op = refl; is_height = refl }

pub callee_returned : Known passing (Normal 0 (only (Local 0 ∷ [])) tainted_result)
callee_returned =
    by_taint passing (At 0 1 (only (Local 0 ∷ [])) (only (Local 0 ∷ OnStack 0 ∷ [])) ∷ []) (Normal 0 (only (Local 0 ∷ [])) tainted_result) (method_returns return_at) (inside, tt)

-- and the result is on the caller's stack
return_slots : (y : Slot) → CallTurns (analyses_of passing) 1 1 0 1 0 true (only (OnStack 0 ∷ [])) tainted_result y ((only (OnStack 0 ∷ [])).slot y)
return_slots (Local l) = call_kept left_local
return_slots (OnStack zero) = call_answered refl
return_slots (OnStack (suc k)) = call_above (omega arith)

return : IsReturn (analyses_of passing) 1 1 0 1 0 true (only (OnStack 0 ∷ [])) tainted_result (only (OnStack 0 ∷ []))
return = record { slots = return_slots; dirt = refl; exc = refl }

pub after_call : Known passing (At 1 2 nothing (only (OnStack 0 ∷ [])))
after_call =
    by_taint passing (At 1 1 nothing (only (OnStack 0 ∷ [])) ∷ Normal 0 (only (Local 0 ∷ [])) tainted_result ∷ []) (At 1 2 nothing (only (OnStack 0 ∷ [])))
    (call_resumes calls (leads passing goes1) return) (before_call, (callee_returned, tt))

pub warned : IsWarned passing (Known passing) passed_site
warned = record { call = sink; under = 0; at = at_sink; a = nothing; b = only (OnStack 0 ∷ []); fact = after_call; k = 0; listed = (0, lit< tt, refl); true_argument = refl }
