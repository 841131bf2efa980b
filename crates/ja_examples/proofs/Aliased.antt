-- What a class initialiser does to an object that main has in a local: it shares with a static field, which the initialiser changes.
use Rattle.std.proofs.Common.{lit<, ◌≡◌, ℕ, zero, suc, false, [], ◌∷◌, None, refl, arith}
use Rattle.ja_base.specs.declared.java_type.Kind.TheVariants.{R}
use Rattle.ja_ir.specs.declared.op.Op.TheVariants.{New, Load, Store, GetStatic, PutStatic, GetField, PutField, Shuffle, Call, Return}
use Rattle.ja_ir.specs.Lookup.{OpAt}
use Rattle.ja_ir.specs.Examples.{at}
use Rattle.ja_ir.specs.Initializing.{InitAt}
use Rattle.ja_facts.specs.Slots.{Slot, Local, OnStack, CallAt, kept_local, kept_stack, loaded, stored as popped, left_local, left_stack}
use Rattle.ja_facts.specs.Actions.{IsEntry}
use Rattle.ja_facts.specs.ClassSets.{Reached, CallsLibrary, entry_runs, initializes}
use Rattle.ja_facts.specs.Held.{OfField}
use Rattle.ja_facts.specs.Sharing.{PairAt, PairWithin, Effect, StaticFields, Statics, OfSlot, Old, keeps_slot, keeps_old, copied as copied_pair, makes_object, static_written, writes_static, turned, statics_meet_old, static_loaded as static_pair, loads_static, within, library_ends, ends_normally, stays_slot, stays_old, written_effect, writes_field}
use Rattle.ja_facts.specs.Analyses.{Classes, Heaps, analyses_of}
use Rattle.ja_facts.specs.Formulas.{Turns, copied, above, made, static_loaded, answered, loaded as read_loaded, loads_field, IsNormalEnd, IsAffected, CallTurns, call_kept, call_affected, call_above}
use Rattle.ja_facts.specs.Equations.{Context, At, Normal, Stored, IsNothing, entry_called, initialized, begins, steps, reads_stored_field, initializer_resumes, method_ends, stored, stores_field, reads_field, reads_static, Reads, itself, IsWarned}
use Rattle.ja_facts.specs.Example.{nothing}
use Rattle.ja_examples.specs.Truth.{only, dirty, stored_taint}
use Rattle.ja_examples.specs.Library.{source, sink}
use Rattle.ja_examples.specs.Initializing.{main_entry, main_site}
use Rattle.ja_examples.specs.Aliasing.{aliasing, aliasing_main}
use Rattle.ja_examples.proofs.Deriving.{Known, by_class, by_heap, by_taint, nothing_begins, Goes, op_at, leads, next, stepped, at_library, to_library, normal_end, step, no_read}

-- main
main0 : Goes aliasing 0 0 1 (at 0 (New (record { 0 = 1 })) (1 ∷ []) 0)
main0 = record { found = refl; listed = (0, lit< tt, refl) }

main1 : Goes aliasing 0 1 2 (at 1 (Store R 0) (2 ∷ []) 1)
main1 = record { found = refl; listed = (0, lit< tt, refl) }

main2 : Goes aliasing 0 2 3 (at 2 (Load R 0) (3 ∷ []) 0)
main2 = record { found = refl; listed = (0, lit< tt, refl) }

main3 : Goes aliasing 0 3 4 (at 3 (PutStatic (record { 0 = 0 })) (4 ∷ []) 1)
main3 = record { found = refl; listed = (0, lit< tt, refl) }

main4 : Goes aliasing 0 4 5 (at 4 (GetStatic (record { 0 = 2 })) (5 ∷ []) 0)
main4 = record { found = refl; listed = (0, lit< tt, refl) }

main5 : Goes aliasing 0 5 6 (at 5 (Shuffle 1 []) (6 ∷ []) 1)
main5 = record { found = refl; listed = (0, lit< tt, refl) }

main6 : Goes aliasing 0 6 7 (at 6 (Load R 0) (7 ∷ []) 0)
main6 = record { found = refl; listed = (0, lit< tt, refl) }

main7 : Goes aliasing 0 7 8 (at 7 (GetField (record { 0 = 1 })) (8 ∷ []) 1)
main7 = record { found = refl; listed = (0, lit< tt, refl) }

main8 : Goes aliasing 0 8 9 (at 8 (Call sink) (9 ∷ []) 1)
main8 = record { found = refl; listed = (0, lit< tt, refl) }

at_sink : CallAt aliasing 0 8 sink 0
at_sink = record { height = 1; at = op_at aliasing main8; under_is = refl }

-- the class initialiser
init0 : Goes aliasing 1 0 1 (at 0 (GetStatic (record { 0 = 0 })) (1 ∷ []) 0)
init0 = record { found = refl; listed = (0, lit< tt, refl) }

init1 : Goes aliasing 1 1 2 (at 1 (Call source) (2 ∷ []) 1)
init1 = record { found = refl; listed = (0, lit< tt, refl) }

init2 : Goes aliasing 1 2 3 (at 2 (PutField (record { 0 = 1 })) (3 ∷ []) 2)
init2 = record { found = refl; listed = (0, lit< tt, refl) }

at_source : CallAt aliasing 1 1 source 1
at_source = record { height = 1; at = op_at aliasing init1; under_is = refl }

return_at : OpAt aliasing 1 3 (Return None) 0
return_at = record { instr = at 3 (Return None) [] 0; found = refl; is_op = refl; is_height = refl }

-- the read of K's field names K
named : InitAt aliasing 0 4 1
named = record { instr = at 4 (GetStatic (record { 0 = 2 })) (5 ∷ []) 0; found = refl; listed = (0, lit< tt, refl) }

main_reached2 : Classes aliasing (Reached 0 2)
main_reached2 = next aliasing main1 (next aliasing main0 (by_class aliasing [] (Reached 0 0) (entry_runs main_entry (0, lit< tt, refl)) tt))

main_reached3 : Classes aliasing (Reached 0 3)
main_reached3 = next aliasing main2 main_reached2

init_reached : Classes aliasing (Reached 1 0)
init_reached = by_class aliasing (Reached 0 4 ∷ []) (Reached 1 0) (initializes named) (next aliasing main3 main_reached3, tt)

init_reached1 : Classes aliasing (Reached 1 1)
init_reached1 = next aliasing init0 init_reached

sources : Classes aliasing (CallsLibrary 1 1)
sources = to_library aliasing at_source refl refl init_reached1

-- ---- what the initialiser changes, and what main's object shares with

-- what A's field refers to was there when the initialiser began
field_old : Heaps aliasing (PairAt 1 1 (OfSlot (OnStack 0)) (Old StaticFields))
field_old =
    by_heap aliasing (PairAt 1 0 Statics (Old StaticFields) ∷ []) (PairAt 1 1 (OfSlot (OnStack 0)) (Old StaticFields))
    (static_pair (stepped aliasing init0 init_reached) loads_static keeps_old)
    (by_heap aliasing [] (PairAt 1 0 Statics (Old StaticFields)) (statics_meet_old (at 0 (GetStatic (record { 0 = 0 })) (1 ∷ []) 0) refl) tt, tt)

written_old : Heaps aliasing (PairAt 1 2 (OfSlot (OnStack 0)) (Old StaticFields))
written_old =
    by_heap aliasing (PairWithin 1 1 (OfSlot (OnStack 0)) (Old StaticFields) ∷ []) (PairAt 1 2 (OfSlot (OnStack 0)) (Old StaticFields))
    (library_ends (ends_normally (at_library aliasing at_source init_reached1 sources) (leads aliasing init1)) (stays_slot (left_stack (lit< tt))) stays_old) (
      by_heap aliasing (PairAt 1 1 (OfSlot (OnStack 0)) (Old StaticFields) ∷ []) (PairWithin 1 1 (OfSlot (OnStack 0)) (Old StaticFields))
          (within (at_library aliasing at_source init_reached1 sources)) (field_old, tt),
      tt,
    )

pub changes_statics : Heaps aliasing (Effect 1 StaticFields)
changes_statics =
    by_heap aliasing (PairAt 1 2 (OfSlot (OnStack 0)) (Old StaticFields) ∷ []) (Effect 1 StaticFields)
    (written_effect (op_at aliasing init2) (next aliasing init1 init_reached1) (writes_field {k = 0} refl)) (written_old, tt)

object_shared : Heaps aliasing (PairAt 0 4 Statics (OfSlot (Local 0)))
object_shared =
    by_heap aliasing (PairAt 0 3 (OfSlot (OnStack 0)) (OfSlot (Local 0)) ∷ []) (PairAt 0 4 Statics (OfSlot (Local 0)))
    (static_written (stepped aliasing main3 main_reached3) (writes_static {k = 0} refl) (keeps_slot (kept_local tt))) (
      by_heap aliasing [] (PairAt 0 3 (OfSlot (OnStack 0)) (OfSlot (Local 0)))
          (copied_pair (stepped aliasing main2 main_reached2) tt loaded (kept_local tt) (λ e. absurd (cc e))) tt,
      tt,
    )

pub affected : IsAffected (analyses_of aliasing) 0 4 1 0 0 (Local 0)
affected = record {
  root = StaticFields;
  is_root = tt;
  effect = changes_statics;
  pair = by_heap aliasing (PairAt 0 4 Statics (OfSlot (Local 0)) ∷ []) (PairAt 0 4 (OfSlot (Local 0)) Statics) turned (object_shared, tt);
}

-- ---- main up to the read

is_entry : IsEntry aliasing main_entry aliasing_main
is_entry = record { listed = (0, lit< tt, refl); found = refl }

is_nothing : IsNothing nothing
is_nothing = record { slots = λ z. refl; dirt = refl; exc = refl }

entered : Known aliasing (At 0 0 nothing nothing)
entered =
    by_taint aliasing (Context 0 nothing ∷ []) (At 0 0 nothing nothing) begins
    (by_taint aliasing [] (Context 0 nothing) (entry_called main_entry [] (nothing_begins aliasing is_entry)) tt, tt)

new_slots : (y : Slot) → Turns (analyses_of aliasing) 0 0 nothing (New (record { 0 = 1 })) 0 y false
new_slots (Local l) = copied (kept_local tt)
new_slots (OnStack zero) = made makes_object
new_slots (OnStack (suc k)) = above (omega arith)

keep_slots : (y : Slot) → Turns (analyses_of aliasing) 0 1 nothing (Store R 0) 1 y false
keep_slots (Local zero) = copied (popped refl)
keep_slots (Local (suc l)) = copied (kept_local (λ e. absurd (cc e)))
keep_slots (OnStack k) = above (omega arith)

load_slots : (y : Slot) → Turns (analyses_of aliasing) 0 2 nothing (Load R 0) 0 y false
load_slots (Local l) = copied (kept_local tt)
load_slots (OnStack zero) = copied loaded
load_slots (OnStack (suc k)) = above (omega arith)

share_slots : (y : Slot) → Turns (analyses_of aliasing) 0 3 nothing (PutStatic (record { 0 = 0 })) 1 y false
share_slots (Local l) = copied (kept_local tt)
share_slots (OnStack k) = above (omega arith)

before_init : Known aliasing (At 0 4 nothing nothing)
before_init =
    step aliasing main3 (record { reached = refl; goes_on = refl; library = tt; slots = share_slots; dirt = refl; exc = refl }) (no_read refl)
    (step aliasing main2 (record { reached = refl; goes_on = refl; library = tt; slots = load_slots; dirt = refl; exc = refl }) (no_read refl)
    (step aliasing main1 (record { reached = refl; goes_on = refl; library = tt; slots = keep_slots; dirt = refl; exc = refl }) (no_read refl)
    (step aliasing main0 (record { reached = refl; goes_on = refl; library = tt; slots = new_slots; dirt = refl; exc = refl }) (no_read refl) entered)))

-- ---- the initialiser

init_entered : Known aliasing (At 1 0 nothing nothing)
init_entered =
    by_taint aliasing (Context 1 nothing ∷ []) (At 1 0 nothing nothing) begins
    (by_taint aliasing (At 0 4 nothing nothing ∷ []) (Context 1 nothing) (initialized named is_nothing) (before_init, tt), tt)

object_slots : (y : Slot) → Turns (analyses_of aliasing) 1 0 nothing (GetStatic (record { 0 = 0 })) 0 y false
object_slots (Local l) = copied (kept_local tt)
object_slots (OnStack zero) = static_loaded
object_slots (OnStack (suc k)) = above (omega arith)

object_end : IsNormalEnd aliasing (analyses_of aliasing) 1 0 nothing nothing
object_end = normal_end aliasing init0 (record { reached = refl; goes_on = refl; library = tt; slots = object_slots; dirt = refl; exc = refl })

before_source : Known aliasing (At 1 1 nothing nothing)
before_source =
    by_taint aliasing (At 1 0 nothing nothing ∷ []) (At 1 1 nothing nothing) (steps (op_at aliasing init0) (leads aliasing init0) object_end (λ f r reads. refl)) (init_entered, tt)

source_slots : (y : Slot) → Turns (analyses_of aliasing) 1 1 nothing (Call source) 1 y ((only (OnStack 1 ∷ [])).slot y)
source_slots (Local l) = copied (kept_local tt)
source_slots (OnStack zero) = copied (kept_stack (lit< tt))
source_slots (OnStack (suc zero)) = answered 1 refl refl (λ t. refl)
source_slots (OnStack (suc (suc k))) = above (omega arith)

before_put : Known aliasing (At 1 2 nothing (only (OnStack 1 ∷ [])))
before_put = step aliasing init1 (record { reached = refl; goes_on = refl; library = sources; slots = source_slots; dirt = refl; exc = refl }) (no_read refl) before_source

pub in_field : Known aliasing (Stored (OfField 1))
in_field = by_taint aliasing (At 1 2 nothing (only (OnStack 1 ∷ [])) ∷ []) (Stored (OfField 1)) (stored (op_at aliasing init2) (stores_field {k = 0} refl) refl) (before_put, tt)

put_slots : (y : Slot) → Turns (analyses_of aliasing) 1 2 (only (OnStack 1 ∷ [])) (PutField (record { 0 = 1 })) 2 y ((dirty []).slot y)
put_slots (Local l) = copied (kept_local tt)
put_slots (OnStack k) = above (omega arith)

pub init_returned : Known aliasing (Normal 1 nothing stored_taint)
init_returned =
    by_taint aliasing (At 1 3 nothing (dirty []) ∷ []) (Normal 1 nothing stored_taint) (method_ends return_at)
    (step aliasing init2 (record { reached = refl; goes_on = refl; library = tt; slots = put_slots; dirt = refl; exc = refl }) (no_read refl) before_put, tt)

-- ---- main stands before the read again, and its object is tainted

again_slots : (y : Slot) → CallTurns (analyses_of aliasing) 0 4 1 0 0 false nothing stored_taint y ((dirty (Local 0 ∷ [])).slot y)
again_slots (Local zero) = call_affected left_local affected (λ t. refl)
again_slots (Local (suc l)) = call_kept left_local
again_slots (OnStack k) = call_above (omega arith)

pub again : Known aliasing (At 0 4 nothing (dirty (Local 0 ∷ [])))
again =
    by_taint aliasing (At 0 4 nothing nothing ∷ Normal 1 nothing stored_taint ∷ []) (At 0 4 nothing (dirty (Local 0 ∷ [])))
    (initializer_resumes (op_at aliasing main4) named is_nothing (record { slots = again_slots; dirt = refl; exc = refl })) (before_init, (init_returned, tt))

word_slots : (y : Slot) → Turns (analyses_of aliasing) 0 4 (dirty (Local 0 ∷ [])) (GetStatic (record { 0 = 2 })) 0 y ((dirty (Local 0 ∷ [])).slot y)
word_slots (Local l) = copied (kept_local tt)
word_slots (OnStack zero) = static_loaded
word_slots (OnStack (suc k)) = above (omega arith)

word_end : IsNormalEnd aliasing (analyses_of aliasing) 0 4 (dirty (Local 0 ∷ [])) (dirty (Local 0 ∷ []))
word_end = normal_end aliasing main4 (record { reached = refl; goes_on = refl; library = tt; slots = word_slots; dirt = refl; exc = refl })

no_word : (f : ℕ) (r : Slot) → Reads (GetStatic (record { 0 = 2 })) 0 f r → (dirty (Local 0 ∷ [])).slot r ≡ false
no_word f r reads_static = refl

pop_slots : (y : Slot) → Turns (analyses_of aliasing) 0 5 (dirty (Local 0 ∷ [])) (Shuffle 1 []) 1 y ((dirty (Local 0 ∷ [])).slot y)
pop_slots (Local l) = copied (kept_local tt)
pop_slots (OnStack k) = above (omega arith)

take_slots : (y : Slot) → Turns (analyses_of aliasing) 0 6 (dirty (Local 0 ∷ [])) (Load R 0) 0 y ((dirty (Local 0 ∷ OnStack 0 ∷ [])).slot y)
take_slots (Local l) = copied (kept_local tt)
take_slots (OnStack zero) = copied loaded
take_slots (OnStack (suc k)) = above (omega arith)

before_read : Known aliasing (At 0 7 nothing (dirty (Local 0 ∷ OnStack 0 ∷ [])))
before_read =
    step aliasing main6 (record { reached = refl; goes_on = refl; library = tt; slots = take_slots; dirt = refl; exc = refl }) (no_read refl)
    (step aliasing main5 (record { reached = refl; goes_on = refl; library = tt; slots = pop_slots; dirt = refl; exc = refl }) (no_read refl)
    (by_taint aliasing (At 0 4 nothing (dirty (Local 0 ∷ [])) ∷ []) (At 0 5 nothing (dirty (Local 0 ∷ [])))
    (steps (op_at aliasing main4) (leads aliasing main4) word_end no_word) (again, tt)))

read_slots : (y : Slot) → Turns (analyses_of aliasing) 0 7 (dirty (Local 0 ∷ OnStack 0 ∷ [])) (GetField (record { 0 = 1 })) 1 y ((dirty (Local 0 ∷ OnStack 0 ∷ [])).slot y)
read_slots (Local l) = copied (kept_local tt)
read_slots (OnStack zero) = read_loaded (loads_field {k = 0} refl) (λ t. refl)
read_slots (OnStack (suc k)) = above (omega arith)

read_end : IsNormalEnd aliasing (analyses_of aliasing) 0 7 (dirty (Local 0 ∷ OnStack 0 ∷ [])) (dirty (Local 0 ∷ OnStack 0 ∷ []))
read_end = normal_end aliasing main7 (record { reached = refl; goes_on = refl; library = tt; slots = read_slots; dirt = refl; exc = refl })

before_sink : Known aliasing (At 0 8 nothing (dirty (Local 0 ∷ OnStack 0 ∷ [])))
before_sink =
    by_taint aliasing (At 0 7 nothing (dirty (Local 0 ∷ OnStack 0 ∷ [])) ∷ Stored (OfField 1) ∷ []) (At 0 8 nothing (dirty (Local 0 ∷ OnStack 0 ∷ [])))
    (reads_stored_field (op_at aliasing main7) (leads aliasing main7) read_end (reads_field {k = 0} refl) refl itself) (before_read, (in_field, tt))

pub warned : IsWarned aliasing (Known aliasing) (main_site 8)
warned = record { call = sink; under = 0; at = at_sink; a = nothing; b = dirty (Local 0 ∷ OnStack 0 ∷ []); fact = before_sink; k = 0; listed = (0, lit< tt, refl); true_argument = refl }
