-- The taint of the node that is unlinked: it is stored into its field in the callee, and the caller has it after the call.
use Rattle.std.proofs.Common.{lit<, ℕ, zero, suc, false, [], ◌∷◌, None, refl, arith}
use Rattle.ja_base.specs.declared.java_type.Kind.TheVariants.{R}
use Rattle.ja_ir.specs.declared.op.Op.TheVariants.{Const, New, Load, Store, GetField, PutField, Call, Return}
use Rattle.ja_ir.specs.declared.method.Instr.{Instr}
use Rattle.ja_ir.specs.Lookup.{OpAt}
use Rattle.ja_ir.specs.Examples.{at}
use Rattle.ja_facts.specs.Slots.{Slot, Local, OnStack, CallAt, kept_local, kept_stack, loaded, stored as popped, left_local, left_stack}
use Rattle.ja_facts.specs.Actions.{IsEntry}
use Rattle.ja_facts.specs.ClassSets.{Reached}
use Rattle.ja_facts.specs.Held.{OfField}
use Rattle.ja_facts.specs.Sharing.{PairAt, OfSlot, keeps_slot, live_slot, loads_field, writes_field, makes_object, copied as copied_pair, IsNoCall, stays_slot, ends_normally}
use Rattle.ja_facts.specs.Slots.{Copies}
use Rattle.ja_facts.specs.Reaching.{ReachAt, ReachWithin, kept, copied as copied_reach, object_loaded_reached, within, library_ends}
use Rattle.ja_facts.specs.Formulas.{Turns, copied, above, constant, made, loaded as read_loaded, loads_field, answered, written, IsNormalEnd, CallTurns, call_kept, call_affected, call_above}
use Rattle.ja_facts.specs.Equations.{Context, At, Normal, Stored, entry_called, called, begins, steps, reads_stored_field, call_resumes, method_ends, stored, stores_field, reads_field, itself, Calls, IsWarned}
use Rattle.ja_facts.specs.Analyses.{Classes, Reaches, analyses_of}
use Rattle.ja_examples.specs.Truth.{only, dirty, stored_taint}
use Rattle.ja_examples.specs.Library.{source, sink}
use Rattle.ja_examples.specs.Unlinking.{unlinking, unlinking_f, unlinking_main, unlinking_entry, unlinked_site, unlink}
use Rattle.ja_examples.proofs.Deriving.{by_heap, by_reach, by_taint, Goes, op_at, leads, next, normal_end, step, no_read, Known, stepped, at_library, nothing_begins}
use Rattle.ja_examples.proofs.Unlinked.{main0, main1, main2, main3, main4, main5, main6, main7, at_unlink, f0, f1, f2, f3, f4, f5, at_source, calls_f, f_reached, f_reached1, f_reached2, f_reached3, f_reached4, f_reached5, sources, affected}
use Rattle.ja_facts.specs.Example.{nothing}

f6 : Goes unlinking 0 6 7 (at 6 (Load R 0) (7 ∷ []) 0)
f6 = record { found = refl; listed = (0, lit< tt, refl) }

f7 : Goes unlinking 0 7 8 (at 7 (Const R) (8 ∷ []) 1)
f7 = record { found = refl; listed = (0, lit< tt, refl) }

f8 : Goes unlinking 0 8 9 (at 8 (PutField (record { 0 = 0 })) (9 ∷ []) 2)
f8 = record { found = refl; listed = (0, lit< tt, refl) }

main8 : Goes unlinking 1 8 9 (at 8 (Call unlink) (9 ∷ []) 1)
main8 = record { found = refl; listed = (0, lit< tt, refl) }

main9 : Goes unlinking 1 9 10 (at 9 (Load R 2) (10 ∷ []) 0)
main9 = record { found = refl; listed = (0, lit< tt, refl) }

main10 : Goes unlinking 1 10 11 (at 10 (GetField (record { 0 = 1 })) (11 ∷ []) 1)
main10 = record { found = refl; listed = (0, lit< tt, refl) }

at_sink : CallAt unlinking 1 11 sink 0
at_sink = record { height = 1; at = record { instr = at 11 (Call sink) (12 ∷ []) 1; found = refl; is_op = refl; is_height = refl }; under_is = refl }

f_reached6 : Classes unlinking (Reached 0 6)
f_reached6 = next unlinking f5 f_reached5

f_reached7 : Classes unlinking (Reached 0 7)
f_reached7 = next unlinking f6 f_reached6

-- ---- what may reach the objects that are written

-- reachability is kept over an operation that is no call
over : {m i j : ℕ} {instr : Instr} (a c b d : Slot) → Goes unlinking m i j instr → IsNoCall instr.op → Classes unlinking (Reached m i)
    → Copies instr.op instr.height a c → Copies instr.op instr.height b d → Reaches unlinking (ReachAt m i (OfSlot a) b) → Reaches unlinking (ReachAt m j (OfSlot c) d)
over {m = m} {i = i} {j = j} a c b d g plain r first second x =
    by_reach unlinking (ReachAt m i (OfSlot a) b ∷ []) (ReachAt m j (OfSlot c) d) (kept (stepped unlinking g r) plain (keeps_slot first) second) (x, tt)

-- a local reaches what is on the stack over the source's call
over_source : (l : ℕ) → Reaches unlinking (ReachAt 0 4 (OfSlot (Local l)) (OnStack 0)) → Reaches unlinking (ReachAt 0 5 (OfSlot (Local l)) (OnStack 0))
over_source l x =
    by_reach unlinking (ReachWithin 0 4 (OfSlot (Local l)) (OnStack 0) ∷ []) (ReachAt 0 5 (OfSlot (Local l)) (OnStack 0))
    (library_ends (ends_normally (at_library unlinking at_source f_reached4 sources) (leads unlinking f4)) (stays_slot left_local) (left_stack (lit< tt)))
    (by_reach unlinking (ReachAt 0 4 (OfSlot (Local l)) (OnStack 0) ∷ []) (ReachWithin 0 4 (OfSlot (Local l)) (OnStack 0)) (within (at_library unlinking at_source f_reached4 sources)) (x, tt), tt)

-- the next node itself
node_reaches : Reaches unlinking (ReachAt 0 5 (OfSlot (Local 1)) (OnStack 0))
node_reaches =
    over_source 1
    (by_reach unlinking [] (ReachAt 0 4 (OfSlot (Local 1)) (OnStack 0)) (copied_reach (stepped unlinking f3 f_reached3) tt (kept_local tt) loaded (λ e. absurd (cc e))) tt)

-- the argument, from whose field it was read
next_reached : Reaches unlinking (ReachAt 0 2 (OfSlot (Local 0)) (OnStack 0))
next_reached =
    by_reach unlinking [] (ReachAt 0 2 (OfSlot (Local 0)) (OnStack 0))
    (object_loaded_reached (stepped unlinking f1 f_reached1) (loads_field {k = 0} refl) live_slot
    (by_heap unlinking [] (PairAt 0 1 (OfSlot (Local 0)) (OfSlot (OnStack 0))) (copied_pair (stepped unlinking f0 f_reached) tt (kept_local tt) loaded (λ e. absurd (cc e))) tt)
    (keeps_slot (kept_local tt))) tt

pub argument_reaches : Reaches unlinking (ReachAt 0 5 (OfSlot (Local 0)) (OnStack 0))
argument_reaches =
    over_source 0
    (over (Local 0) (Local 0) (Local 1) (OnStack 0) f3 tt f_reached3 (kept_local tt) loaded
    (over (Local 0) (Local 0) (OnStack 0) (Local 1) f2 tt f_reached2 (kept_local (λ e. absurd (cc e))) (popped refl) next_reached))

-- and the argument reaches itself where it is unlinked
argument_unlinked : Reaches unlinking (ReachAt 0 8 (OfSlot (Local 0)) (OnStack 0))
argument_unlinked =
    over (Local 0) (Local 0) (OnStack 0) (OnStack 0) f7 tt f_reached7 (kept_local tt) (kept_stack (lit< tt))
    (by_reach unlinking [] (ReachAt 0 7 (OfSlot (Local 0)) (OnStack 0)) (copied_reach (stepped unlinking f6 f_reached6) tt (kept_local tt) loaded (λ e. absurd (cc e))) tt)

-- ---- main up to the call

is_entry : IsEntry unlinking unlinking_entry unlinking_main
is_entry = record { listed = (0, lit< tt, refl); found = refl }

starts : (m : ℕ) → Known unlinking (Context m nothing) → Known unlinking (At m 0 nothing nothing)
starts m context = by_taint unlinking (Context m nothing ∷ []) (At m 0 nothing nothing) begins (context, tt)

new_slots : (i : ℕ) (y : Slot) → Turns (analyses_of unlinking) 1 i nothing (New (record { 0 = 0 })) 0 y false
new_slots i (Local l) = copied (kept_local tt)
new_slots i (OnStack zero) = made makes_object
new_slots i (OnStack (suc k)) = above (omega arith)

first_slots : (m i : ℕ) (y : Slot) → Turns (analyses_of unlinking) m i nothing (Store R 1) 1 y false
first_slots m i (Local zero) = copied (kept_local (λ e. absurd (cc e)))
first_slots m i (Local (suc zero)) = copied (popped {k = 0} refl)
first_slots m i (Local (suc (suc l))) = copied (kept_local (λ e. absurd (cc e)))
first_slots m i (OnStack k) = above (omega arith)

second_slots : (y : Slot) → Turns (analyses_of unlinking) 1 3 nothing (Store R 2) 1 y false
second_slots (Local zero) = copied (kept_local (λ e. absurd (cc e)))
second_slots (Local (suc zero)) = copied (kept_local (λ e. absurd (cc e)))
second_slots (Local (suc (suc zero))) = copied (popped {k = 0} refl)
second_slots (Local (suc (suc (suc l)))) = copied (kept_local (λ e. absurd (cc e)))
second_slots (OnStack k) = above (omega arith)

load_slots : (m i l : ℕ) (y : Slot) → Turns (analyses_of unlinking) m i nothing (Load R l) 0 y false
load_slots m i l (Local x) = copied (kept_local tt)
load_slots m i l (OnStack zero) = copied loaded
load_slots m i l (OnStack (suc k)) = above (omega arith)

value_slots : (y : Slot) → Turns (analyses_of unlinking) 1 5 nothing (Load R 2) 1 y false
value_slots (Local x) = copied (kept_local tt)
value_slots (OnStack zero) = copied (kept_stack (lit< tt))
value_slots (OnStack (suc zero)) = copied loaded
value_slots (OnStack (suc (suc k))) = above (omega arith)

link_slots : (y : Slot) → Turns (analyses_of unlinking) 1 6 nothing (PutField (record { 0 = 0 })) 2 y false
link_slots (Local l) = copied (kept_local tt)
link_slots (OnStack k) = above (omega arith)

before_link : Known unlinking (At 1 4 nothing nothing)
before_link =
    step unlinking main3 (record { reached = refl; goes_on = refl; library = tt; slots = second_slots; dirt = refl; exc = refl }) (no_read refl)
    (step unlinking main2 (record { reached = refl; goes_on = refl; library = tt; slots = new_slots 2; dirt = refl; exc = refl }) (no_read refl)
    (step unlinking main1 (record { reached = refl; goes_on = refl; library = tt; slots = first_slots 1 1; dirt = refl; exc = refl }) (no_read refl)
    (step unlinking main0 (record { reached = refl; goes_on = refl; library = tt; slots = new_slots 0; dirt = refl; exc = refl }) (no_read refl)
    (starts 1 (by_taint unlinking [] (Context 1 nothing) (entry_called unlinking_entry [] (nothing_begins unlinking is_entry)) tt)))))

before_call : Known unlinking (At 1 8 nothing nothing)
before_call =
    step unlinking main7 (record { reached = refl; goes_on = refl; library = tt; slots = load_slots 1 7 1; dirt = refl; exc = refl }) (no_read refl)
    (step unlinking main6 (record { reached = refl; goes_on = refl; library = tt; slots = link_slots; dirt = refl; exc = refl }) (no_read refl)
    (step unlinking main5 (record { reached = refl; goes_on = refl; library = tt; slots = value_slots; dirt = refl; exc = refl }) (no_read refl)
    (step unlinking main4 (record { reached = refl; goes_on = refl; library = tt; slots = load_slots 1 4 1; dirt = refl; exc = refl }) (no_read refl) before_link)))

-- ---- the callee

calls : Calls unlinking (analyses_of unlinking) 1 8 0 unlink 0 nothing nothing
calls = record { at = at_unlink; goes = calls_f; method = unlinking_f; found = refl; hands = record { each = λ k below. refl; others = λ z other. refl; dirt = refl; exc = refl } }

next_slots : (y : Slot) → Turns (analyses_of unlinking) 0 1 nothing (GetField (record { 0 = 0 })) 1 y false
next_slots (Local l) = copied (kept_local tt)
next_slots (OnStack zero) = read_loaded (loads_field {k = 0} refl) (λ t. absurd (cc t))
next_slots (OnStack (suc k)) = above (omega arith)

source_slots : (y : Slot) → Turns (analyses_of unlinking) 0 4 nothing (Call source) 1 y ((only (OnStack 1 ∷ [])).slot y)
source_slots (Local l) = copied (kept_local tt)
source_slots (OnStack zero) = copied (kept_stack (lit< tt))
source_slots (OnStack (suc zero)) = answered 1 refl refl (λ t. refl)
source_slots (OnStack (suc (suc k))) = above (omega arith)

write_slots : (y : Slot) → Turns (analyses_of unlinking) 0 5 (only (OnStack 1 ∷ [])) (PutField (record { 0 = 1 })) 2 y ((dirty (Local 0 ∷ Local 1 ∷ [])).slot y)
write_slots (Local zero) = written (writes_field {k = 0} refl) (kept_local tt) argument_reaches (λ t. refl)
write_slots (Local (suc zero)) = written (writes_field {k = 0} refl) (kept_local tt) node_reaches (λ t. refl)
write_slots (Local (suc (suc l))) = copied (kept_local tt)
write_slots (OnStack k) = above (omega arith)

again_slots : (y : Slot) → Turns (analyses_of unlinking) 0 6 (dirty (Local 0 ∷ Local 1 ∷ [])) (Load R 0) 0 y ((dirty (Local 0 ∷ Local 1 ∷ OnStack 0 ∷ [])).slot y)
again_slots (Local l) = copied (kept_local tt)
again_slots (OnStack zero) = copied loaded
again_slots (OnStack (suc k)) = above (omega arith)

null_slots : (y : Slot) → Turns (analyses_of unlinking) 0 7 (dirty (Local 0 ∷ Local 1 ∷ OnStack 0 ∷ [])) (Const R) 1 y ((dirty (Local 0 ∷ Local 1 ∷ OnStack 0 ∷ [])).slot y)
null_slots (Local l) = copied (kept_local tt)
null_slots (OnStack zero) = copied (kept_stack (lit< tt))
null_slots (OnStack (suc zero)) = constant
null_slots (OnStack (suc (suc k))) = above (omega arith)

-- the argument is clean once the node is unlinked
unlink_slots : (y : Slot) → Turns (analyses_of unlinking) 0 8 (dirty (Local 0 ∷ Local 1 ∷ OnStack 0 ∷ [])) (PutField (record { 0 = 0 })) 2 y ((dirty (Local 1 ∷ [])).slot y)
unlink_slots (Local zero) = written (writes_field {k = 0} refl) (kept_local tt) argument_unlinked (λ t. absurd (cc t))
unlink_slots (Local (suc zero)) = copied (kept_local tt)
unlink_slots (Local (suc (suc l))) = copied (kept_local tt)
unlink_slots (OnStack k) = above (omega arith)

next_end : IsNormalEnd unlinking (analyses_of unlinking) 0 1 nothing nothing
next_end = normal_end unlinking f1 (record { reached = refl; goes_on = refl; library = tt; slots = next_slots; dirt = refl; exc = refl })

before_source : Known unlinking (At 0 4 nothing nothing)
before_source =
    step unlinking f3 (record { reached = refl; goes_on = refl; library = tt; slots = load_slots 0 3 1; dirt = refl; exc = refl }) (no_read refl)
    (step unlinking f2 (record { reached = refl; goes_on = refl; library = tt; slots = first_slots 0 2; dirt = refl; exc = refl }) (no_read refl)
    (by_taint unlinking (At 0 1 nothing nothing ∷ []) (At 0 2 nothing nothing) (steps (op_at unlinking f1) (leads unlinking f1) next_end (λ f r reads. refl)) (
      step unlinking f0 (record { reached = refl; goes_on = refl; library = tt; slots = load_slots 0 0 0; dirt = refl; exc = refl }) (no_read refl)
          (starts 0 (by_taint unlinking (At 1 8 nothing nothing ∷ []) (Context 0 nothing) (called calls) (before_call, tt))),
      tt,
    )))

before_write : Known unlinking (At 0 5 nothing (only (OnStack 1 ∷ [])))
before_write = step unlinking f4 (record { reached = refl; goes_on = refl; library = sources; slots = source_slots; dirt = refl; exc = refl }) (no_read refl) before_source

in_field : Known unlinking (Stored (OfField 1))
in_field = by_taint unlinking (At 0 5 nothing (only (OnStack 1 ∷ [])) ∷ []) (Stored (OfField 1)) (stored (op_at unlinking f5) (stores_field {k = 0} refl) refl) (before_write, tt)

pub after_write : Known unlinking (At 0 6 nothing (dirty (Local 0 ∷ Local 1 ∷ [])))
after_write = step unlinking f5 (record { reached = refl; goes_on = refl; library = tt; slots = write_slots; dirt = refl; exc = refl }) (no_read refl) before_write

unlinked : Known unlinking (At 0 9 nothing (dirty (Local 1 ∷ [])))
unlinked =
    step unlinking f8 (record { reached = refl; goes_on = refl; library = tt; slots = unlink_slots; dirt = refl; exc = refl }) (no_read refl)
    (step unlinking f7 (record { reached = refl; goes_on = refl; library = tt; slots = null_slots; dirt = refl; exc = refl }) (no_read refl)
    (step unlinking f6 (record { reached = refl; goes_on = refl; library = tt; slots = again_slots; dirt = refl; exc = refl }) (no_read refl) after_write))

return_at : OpAt unlinking 0 9 (Return None) 0
return_at = record { instr = at 9 (Return None) [] 0; found = refl; is_op = refl; is_height = refl }

pub callee_returned : Known unlinking (Normal 0 nothing stored_taint)
callee_returned = by_taint unlinking (At 0 9 nothing (dirty (Local 1 ∷ [])) ∷ []) (Normal 0 nothing stored_taint) (method_ends return_at) (unlinked, tt)

-- ---- main after the call

call_slots : (y : Slot) → CallTurns (analyses_of unlinking) 1 8 0 1 0 false nothing stored_taint y ((dirty (Local 2 ∷ [])).slot y)
call_slots (Local zero) = call_kept left_local
call_slots (Local (suc zero)) = call_kept left_local
call_slots (Local (suc (suc zero))) = call_affected left_local affected (λ t. refl)
call_slots (Local (suc (suc (suc l)))) = call_kept left_local
call_slots (OnStack k) = call_above (omega arith)

pub after_call : Known unlinking (At 1 9 nothing (dirty (Local 2 ∷ [])))
after_call =
    by_taint unlinking (At 1 8 nothing nothing ∷ Normal 0 nothing stored_taint ∷ []) (At 1 9 nothing (dirty (Local 2 ∷ [])))
    (call_resumes calls (leads unlinking main8) (record { slots = call_slots; dirt = refl; exc = refl })) (before_call, (callee_returned, tt))

node_slots : (y : Slot) → Turns (analyses_of unlinking) 1 9 (dirty (Local 2 ∷ [])) (Load R 2) 0 y ((dirty (Local 2 ∷ OnStack 0 ∷ [])).slot y)
node_slots (Local l) = copied (kept_local tt)
node_slots (OnStack zero) = copied loaded
node_slots (OnStack (suc k)) = above (omega arith)

read_slots : (y : Slot) → Turns (analyses_of unlinking) 1 10 (dirty (Local 2 ∷ OnStack 0 ∷ [])) (GetField (record { 0 = 1 })) 1 y ((dirty (Local 2 ∷ OnStack 0 ∷ [])).slot y)
read_slots (Local l) = copied (kept_local tt)
read_slots (OnStack zero) = read_loaded (loads_field {k = 0} refl) (λ t. refl)
read_slots (OnStack (suc k)) = above (omega arith)

read_end : IsNormalEnd unlinking (analyses_of unlinking) 1 10 (dirty (Local 2 ∷ OnStack 0 ∷ [])) (dirty (Local 2 ∷ OnStack 0 ∷ []))
read_end = normal_end unlinking main10 (record { reached = refl; goes_on = refl; library = tt; slots = read_slots; dirt = refl; exc = refl })

before_sink : Known unlinking (At 1 11 nothing (dirty (Local 2 ∷ OnStack 0 ∷ [])))
before_sink =
    by_taint unlinking (At 1 10 nothing (dirty (Local 2 ∷ OnStack 0 ∷ [])) ∷ Stored (OfField 1) ∷ []) (At 1 11 nothing (dirty (Local 2 ∷ OnStack 0 ∷ [])))
    (reads_stored_field (op_at unlinking main10) (leads unlinking main10) read_end (reads_field {k = 0} refl) refl itself)
    (step unlinking main9 (record { reached = refl; goes_on = refl; library = tt; slots = node_slots; dirt = refl; exc = refl }) (no_read refl) after_call, (in_field, tt))

pub warned : IsWarned unlinking (Known unlinking) unlinked_site
warned = record { call = sink; under = 0; at = at_sink; a = nothing; b = dirty (Local 2 ∷ OnStack 0 ∷ []); fact = before_sink; k = 0; listed = (0, lit< tt, refl); true_argument = refl }
