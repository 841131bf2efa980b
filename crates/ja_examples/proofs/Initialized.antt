-- The facts of the program whose class initialiser fills a field, and the throw of the one whose class initialiser throws.
use Rattle.std.proofs.Common.{lit<, zero, suc, false, [], ◌∷◌, None, refl, arith}
use Rattle.ja_base.specs.declared.java_type.Kind.TheVariants.{R}
use Rattle.ja_ir.specs.declared.op.Op.TheVariants.{Const, GetStatic, PutStatic, Shuffle, Call, Throw, Return}
use Rattle.ja_ir.specs.Lookup.{OpAt}
use Rattle.ja_ir.specs.Examples.{at}
use Rattle.ja_ir.specs.Initializing.{InitAt}
use Rattle.ja_facts.specs.Slots.{Slot, Local, OnStack, CallAt, kept_local, left_local}
use Rattle.ja_facts.specs.Actions.{IsEntry}
use Rattle.ja_facts.specs.ClassSets.{Reached, CallsLibrary, InThrown, entry_runs, initializes, throws_library}
use Rattle.ja_facts.specs.Held.{OfField}
use Rattle.ja_facts.specs.Crossings.{by_initializer}
use Rattle.ja_facts.specs.Sharing.{PairAt, Effect, StaticFields, Statics, Old, writes_static, statics_meet_old, static_effect, entered_effect}
use Rattle.ja_facts.specs.Analyses.{Classes, Heaps, analyses_of}
use Rattle.ja_facts.specs.Formulas.{Turns, copied, above, constant, static_loaded, answered, thrown, IsNormalEnd, IsExceptionalEnd, CallTurns, call_kept, call_above}
use Rattle.ja_facts.specs.Equations.{Context, At, Normal, Threw, Stored, IsNothing, entry_called, initialized, begins, steps, reads_stored_field, initializer_resumes, leaves, method_ends, stored, stores_static, reads_static, itself, IsWarned}
use Rattle.ja_facts.specs.Example.{nothing, clean_return}
use Rattle.ja_examples.specs.Truth.{only}
use Rattle.ja_examples.specs.Library.{source, sink}
use Rattle.ja_examples.specs.Initializing.{initializing, failing, naming_main, main_entry, main_site}
use Rattle.ja_examples.proofs.Deriving.{Known, by_class, by_heap, by_taint, nothing_begins, Goes, op_at, leads, next, to_library, normal_end, step, no_read}

-- main
main0 : Goes initializing 0 0 1 (at 0 (GetStatic (record { 0 = 1 })) (1 ∷ []) 0)
main0 = record { found = refl; listed = (0, lit< tt, refl) }

main1 : Goes initializing 0 1 2 (at 1 (Shuffle 1 []) (2 ∷ []) 1)
main1 = record { found = refl; listed = (0, lit< tt, refl) }

main2 : Goes initializing 0 2 3 (at 2 (GetStatic (record { 0 = 0 })) (3 ∷ []) 0)
main2 = record { found = refl; listed = (0, lit< tt, refl) }

main3 : Goes initializing 0 3 4 (at 3 (Call sink) (4 ∷ []) 1)
main3 = record { found = refl; listed = (0, lit< tt, refl) }

at_sink : CallAt initializing 0 3 sink 0
at_sink = record { height = 1; at = op_at initializing main3; under_is = refl }

-- the class initialiser
init0 : Goes initializing 1 0 1 (at 0 (Call source) (1 ∷ []) 0)
init0 = record { found = refl; listed = (0, lit< tt, refl) }

init1 : Goes initializing 1 1 2 (at 1 (PutStatic (record { 0 = 0 })) (2 ∷ []) 1)
init1 = record { found = refl; listed = (0, lit< tt, refl) }

at_source : CallAt initializing 1 0 source 0
at_source = record { height = 0; at = op_at initializing init0; under_is = refl }

return_at : OpAt initializing 1 2 (Return None) 0
return_at = record { instr = at 2 (Return None) [] 0; found = refl; is_op = refl; is_height = refl }

-- the first instruction of main names K
named : InitAt initializing 0 0 1
named = record { instr = at 0 (GetStatic (record { 0 = 1 })) (1 ∷ []) 0; found = refl; listed = (0, lit< tt, refl) }

main_reached : Classes initializing (Reached 0 0)
main_reached = by_class initializing [] (Reached 0 0) (entry_runs main_entry (0, lit< tt, refl)) tt

pub init_reached : Classes initializing (Reached 1 0)
init_reached = by_class initializing (Reached 0 0 ∷ []) (Reached 1 0) (initializes named) (main_reached, tt)

sources : Classes initializing (CallsLibrary 1 0)
sources = to_library initializing at_source refl refl init_reached

-- the initialiser sets a static field, and so does main by it
sets : Heaps initializing (Effect 1 StaticFields)
sets = by_heap initializing [] (Effect 1 StaticFields) (static_effect (op_at initializing init1) (next initializing init0 init_reached) (writes_static {k = 0} refl)) tt

statics_old : Heaps initializing (PairAt 0 0 Statics (Old StaticFields))
statics_old = by_heap initializing [] (PairAt 0 0 Statics (Old StaticFields)) (statics_meet_old (at 0 (GetStatic (record { 0 = 1 })) (1 ∷ []) 0) refl) tt

pub main_sets : Heaps initializing (Effect 0 StaticFields)
main_sets =
    by_heap initializing (Effect 1 StaticFields ∷ PairAt 0 0 Statics (Old StaticFields) ∷ []) (Effect 0 StaticFields)
    (entered_effect StaticFields (by_initializer main_reached named (op_at initializing main0)) tt) (sets, (statics_old, tt))

-- ---- taint

is_entry : IsEntry initializing main_entry naming_main
is_entry = record { listed = (0, lit< tt, refl); found = refl }

is_nothing : IsNothing nothing
is_nothing = record { slots = λ z. refl; dirt = refl; exc = refl }

entered : Known initializing (At 0 0 nothing nothing)
entered =
    by_taint initializing (Context 0 nothing ∷ []) (At 0 0 nothing nothing) begins
    (by_taint initializing [] (Context 0 nothing) (entry_called main_entry [] (nothing_begins initializing is_entry)) tt, tt)

pub init_context : Known initializing (Context 1 nothing)
init_context = by_taint initializing (At 0 0 nothing nothing ∷ []) (Context 1 nothing) (initialized named is_nothing) (entered, tt)

source_slots : (y : Slot) → Turns (analyses_of initializing) 1 0 nothing (Call source) 0 y ((only (OnStack 0 ∷ [])).slot y)
source_slots (Local l) = copied (kept_local tt)
source_slots (OnStack zero) = answered 0 refl refl (λ t. refl)
source_slots (OnStack (suc k)) = above (omega arith)

before_put : Known initializing (At 1 1 nothing (only (OnStack 0 ∷ [])))
before_put =
    step initializing init0 (record { reached = refl; goes_on = refl; library = sources; slots = source_slots; dirt = refl; exc = refl }) (no_read refl)
    (by_taint initializing (Context 1 nothing ∷ []) (At 1 0 nothing nothing) begins (init_context, tt))

pub in_field : Known initializing (Stored (OfField 0))
in_field =
    by_taint initializing (At 1 1 nothing (only (OnStack 0 ∷ [])) ∷ []) (Stored (OfField 0)) (stored (op_at initializing init1) (stores_static {k = 0} refl) refl) (before_put, tt)

put_slots : (y : Slot) → Turns (analyses_of initializing) 1 1 (only (OnStack 0 ∷ [])) (PutStatic (record { 0 = 0 })) 1 y false
put_slots (Local l) = copied (kept_local tt)
put_slots (OnStack k) = above (omega arith)

pub init_returned : Known initializing (Normal 1 nothing clean_return)
init_returned =
    by_taint initializing (At 1 2 nothing nothing ∷ []) (Normal 1 nothing clean_return) (method_ends return_at)
    (step initializing init1 (record { reached = refl; goes_on = refl; library = tt; slots = put_slots; dirt = refl; exc = refl }) (no_read refl) before_put, tt)

-- main goes on before the same instruction
again_slots : (y : Slot) → CallTurns (analyses_of initializing) 0 0 1 0 0 false nothing clean_return y false
again_slots (Local l) = call_kept left_local
again_slots (OnStack k) = call_above (omega arith)

again : Known initializing (At 0 0 nothing nothing)
again =
    by_taint initializing (At 0 0 nothing nothing ∷ Normal 1 nothing clean_return ∷ []) (At 0 0 nothing nothing)
    (initializer_resumes (op_at initializing main0) named is_nothing (record { slots = again_slots; dirt = refl; exc = refl })) (entered, (init_returned, tt))

word_slots : (y : Slot) → Turns (analyses_of initializing) 0 0 nothing (GetStatic (record { 0 = 1 })) 0 y false
word_slots (Local l) = copied (kept_local tt)
word_slots (OnStack zero) = static_loaded
word_slots (OnStack (suc k)) = above (omega arith)

word_end : IsNormalEnd initializing (analyses_of initializing) 0 0 nothing nothing
word_end = normal_end initializing main0 (record { reached = refl; goes_on = refl; library = tt; slots = word_slots; dirt = refl; exc = refl })

pop_slots : (y : Slot) → Turns (analyses_of initializing) 0 1 nothing (Shuffle 1 []) 1 y false
pop_slots (Local l) = copied (kept_local tt)
pop_slots (OnStack k) = above (omega arith)

before_read : Known initializing (At 0 2 nothing nothing)
before_read =
    step initializing main1 (record { reached = refl; goes_on = refl; library = tt; slots = pop_slots; dirt = refl; exc = refl }) (no_read refl)
    (by_taint initializing (At 0 0 nothing nothing ∷ []) (At 0 1 nothing nothing) (steps (op_at initializing main0) (leads initializing main0) word_end (λ f r reads. refl)) (again, tt))

read_slots : (y : Slot) → Turns (analyses_of initializing) 0 2 nothing (GetStatic (record { 0 = 0 })) 0 y ((only (OnStack 0 ∷ [])).slot y)
read_slots (Local l) = copied (kept_local tt)
read_slots (OnStack zero) = static_loaded
read_slots (OnStack (suc k)) = above (omega arith)

read_end : IsNormalEnd initializing (analyses_of initializing) 0 2 nothing (only (OnStack 0 ∷ []))
read_end = normal_end initializing main2 (record { reached = refl; goes_on = refl; library = tt; slots = read_slots; dirt = refl; exc = refl })

before_sink : Known initializing (At 0 3 nothing (only (OnStack 0 ∷ [])))
before_sink =
    by_taint initializing (At 0 2 nothing nothing ∷ Stored (OfField 0) ∷ []) (At 0 3 nothing (only (OnStack 0 ∷ [])))
    (reads_stored_field (op_at initializing main2) (leads initializing main2) read_end reads_static refl itself) (before_read, (in_field, tt))

pub warned : IsWarned initializing (Known initializing) (main_site 3)
warned = record { call = sink; under = 0; at = at_sink; a = nothing; b = only (OnStack 0 ∷ []); fact = before_sink; k = 0; listed = (0, lit< tt, refl); true_argument = refl }

-- ---- the class initialiser that throws

fail0 : Goes failing 1 0 1 (at 0 (Const R) (1 ∷ []) 0)
fail0 = record { found = refl; listed = (0, lit< tt, refl) }

fail1 : OpAt failing 1 1 Throw 1
fail1 = record { instr = at 1 Throw [] 1; found = refl; is_op = refl; is_height = refl }

fail_named : InitAt failing 0 0 1
fail_named = record { instr = at 0 (GetStatic (record { 0 = 1 })) (1 ∷ []) 0; found = refl; listed = (0, lit< tt, refl) }

fail_reached : Classes failing (Reached 1 1)
fail_reached =
    next failing fail0 (by_class failing (Reached 0 0 ∷ []) (Reached 1 0) (initializes fail_named) (by_class failing [] (Reached 0 0) (entry_runs main_entry (0, lit< tt, refl)) tt, tt))

fail_throws : Classes failing (InThrown 1 1 3)
fail_throws = by_class failing (Reached 1 1 ∷ []) (InThrown 1 1 3) (throws_library fail1 tt) (fail_reached, tt)

null_slots : (y : Slot) → Turns (analyses_of failing) 1 0 nothing (Const R) 0 y false
null_slots (Local l) = copied (kept_local tt)
null_slots (OnStack zero) = constant
null_slots (OnStack (suc k)) = above (omega arith)

fail_entry : IsEntry failing main_entry naming_main
fail_entry = record { listed = (0, lit< tt, refl); found = refl }

before_throw : Known failing (At 1 1 nothing nothing)
before_throw =
    step failing fail0 (record { reached = refl; goes_on = refl; library = tt; slots = null_slots; dirt = refl; exc = refl }) (no_read refl)
    (by_taint failing (Context 1 nothing ∷ []) (At 1 0 nothing nothing) begins (
      by_taint failing (At 0 0 nothing nothing ∷ []) (Context 1 nothing) (initialized fail_named is_nothing)
          (by_taint failing (Context 0 nothing ∷ []) (At 0 0 nothing nothing) begins (by_taint failing [] (Context 0 nothing) (entry_called main_entry [] (nothing_begins failing fail_entry)) tt, tt), tt),
      tt,
    ))

throw_end : IsExceptionalEnd failing (analyses_of failing) 1 1 nothing nothing
throw_end = record { instr = at 1 Throw [] 1; found = refl; reached = refl; throws = thrown {k = 0} refl (record { locals = λ l. refl; stack = λ k. refl; dirt = refl; is_exc = refl }) }

pub init_threw : Known failing (Threw 1 nothing clean_return)
init_threw = by_taint failing (At 1 1 nothing nothing ∷ []) (Threw 1 nothing clean_return) (leaves fail_throws (0, lit< tt, refl) throw_end) (before_throw, tt)
