-- The facts of the program that stores a tainted text into an array.
use Rattle.std.proofs.Common.{lit<, zero, suc, false, [], ◌∷◌, refl, arith}
use Rattle.ja_base.specs.declared.java_type.Kind.TheVariants.{P1, R}
use Rattle.ja_ir.specs.declared.op.Op.TheVariants.{Const, Load, Store, NewArray, ArrStore, ArrLoad, Call}
use Rattle.ja_ir.specs.Examples.{at}
use Rattle.ja_facts.specs.Slots.{Slot, Local, OnStack, CallAt, kept_local, kept_stack, loaded, stored as popped, left_local, left_stack}
use Rattle.ja_facts.specs.Actions.{IsEntry}
use Rattle.ja_facts.specs.ClassSets.{Reached, InSlot, InBag, CallsLibrary, entry_runs, element_put, element_got, library_fresh}
use Rattle.ja_facts.specs.Held.{OfBag}
use Rattle.ja_facts.specs.Sharing.{OfSlot, keeps_slot, makes_array, writes_element, stays_slot, ends_normally}
use Rattle.ja_facts.specs.Reaching.{ReachAt, ReachWithin, kept, copied as copied_reach, within, library_ends}
use Rattle.ja_facts.specs.Formulas.{Turns, copied, above, constant, made, loaded as read_loaded, loads_element, answered, written}
use Rattle.ja_facts.specs.Equations.{Context, At, Stored, entry_called, begins, stored, stores_reference, IsWarned}
use Rattle.ja_facts.specs.Analyses.{Classes, Reaches, analyses_of}
use Rattle.ja_examples.specs.Truth.{only, dirty}
use Rattle.ja_examples.specs.Library.{string, source, sink}
use Rattle.ja_examples.specs.Elements.{elements, elements_main, elements_entry, element_site}
use Rattle.ja_examples.proofs.Deriving.{by_class, by_reach, by_taint, Goes, op_at, leads, next, to_library, step, no_read, Known, stepped, at_library, nothing_begins}
use Rattle.ja_facts.specs.Example.{nothing}

goes0 : Goes elements 0 0 1 (at 0 (Const P1) (1 ∷ []) 0)
goes0 = record { found = refl; listed = (0, lit< tt, refl) }

goes1 : Goes elements 0 1 2 (at 1 (NewArray (record { 0 = 3 }) 1) (2 ∷ []) 1)
goes1 = record { found = refl; listed = (0, lit< tt, refl) }

goes2 : Goes elements 0 2 3 (at 2 (Store R 0) (3 ∷ []) 1)
goes2 = record { found = refl; listed = (0, lit< tt, refl) }

goes3 : Goes elements 0 3 4 (at 3 (Load R 0) (4 ∷ []) 0)
goes3 = record { found = refl; listed = (0, lit< tt, refl) }

goes4 : Goes elements 0 4 5 (at 4 (Const P1) (5 ∷ []) 1)
goes4 = record { found = refl; listed = (0, lit< tt, refl) }

goes5 : Goes elements 0 5 6 (at 5 (Call source) (6 ∷ []) 2)
goes5 = record { found = refl; listed = (0, lit< tt, refl) }

goes6 : Goes elements 0 6 7 (at 6 (ArrStore R) (7 ∷ []) 3)
goes6 = record { found = refl; listed = (0, lit< tt, refl) }

goes7 : Goes elements 0 7 8 (at 7 (Load R 0) (8 ∷ []) 0)
goes7 = record { found = refl; listed = (0, lit< tt, refl) }

goes8 : Goes elements 0 8 9 (at 8 (Const P1) (9 ∷ []) 1)
goes8 = record { found = refl; listed = (0, lit< tt, refl) }

goes9 : Goes elements 0 9 10 (at 9 (ArrLoad R) (10 ∷ []) 2)
goes9 = record { found = refl; listed = (0, lit< tt, refl) }

goes10 : Goes elements 0 10 11 (at 10 (Call sink) (11 ∷ []) 1)
goes10 = record { found = refl; listed = (0, lit< tt, refl) }

at_source : CallAt elements 0 5 source 2
at_source = record { height = 2; at = op_at elements goes5; under_is = refl }

at_sink : CallAt elements 0 10 sink 0
at_sink = record { height = 1; at = op_at elements goes10; under_is = refl }

-- what is reached, and the tokens of the element
reached3 : Classes elements (Reached 0 3)
reached3 = next elements goes2 (next elements goes1 (next elements goes0 (by_class elements [] (Reached 0 0) (entry_runs elements_entry (0, lit< tt, refl)) tt)))

reached4 : Classes elements (Reached 0 4)
reached4 = next elements goes3 reached3

reached5 : Classes elements (Reached 0 5)
reached5 = next elements goes4 reached4

reached6 : Classes elements (Reached 0 6)
reached6 = next elements goes5 reached5

reached9 : Classes elements (Reached 0 9)
reached9 = next elements goes8 (next elements goes7 (next elements goes6 reached6))

sources : Classes elements (CallsLibrary 0 5)
sources = to_library elements at_source refl refl reached5

text_made : Classes elements (InSlot 0 6 (OnStack 2) 1)
text_made =
    by_class elements (Reached 0 5 ∷ CallsLibrary 0 5 ∷ []) (InSlot 0 6 (OnStack 2) 1)
    (library_fresh {type = string} at_source (leads elements goes5) (record { has = refl; reference = refl }) (0, lit< tt, refl) refl) (reached5, (sources, tt))

pub in_bag : Classes elements (InBag 3 1)
in_bag = by_class elements (Reached 0 6 ∷ InSlot 0 6 (OnStack 2) 1 ∷ []) (InBag 3 1) (element_put (op_at elements goes6)) (reached6, (text_made, tt))

pub element_read : Classes elements (InSlot 0 10 (OnStack 0) 1)
element_read = by_class elements (Reached 0 9 ∷ InBag 3 1 ∷ []) (InSlot 0 10 (OnStack 0) 1) (element_got (op_at elements goes9) (leads elements goes9)) (reached9, (in_bag, tt))

-- the local reaches the array on the stack
array_reaches : Reaches elements (ReachAt 0 6 (OfSlot (Local 0)) (OnStack 0))
array_reaches =
    by_reach elements (ReachWithin 0 5 (OfSlot (Local 0)) (OnStack 0) ∷ []) (ReachAt 0 6 (OfSlot (Local 0)) (OnStack 0))
    (library_ends (ends_normally (at_library elements at_source reached5 sources) (leads elements goes5)) (stays_slot left_local) (left_stack (lit< tt))) (
      by_reach elements (ReachAt 0 5 (OfSlot (Local 0)) (OnStack 0) ∷ []) (ReachWithin 0 5 (OfSlot (Local 0)) (OnStack 0)) (within (at_library elements at_source reached5 sources)) (
        by_reach elements (ReachAt 0 4 (OfSlot (Local 0)) (OnStack 0) ∷ []) (ReachAt 0 5 (OfSlot (Local 0)) (OnStack 0))
            (kept (stepped elements goes4 reached4) tt (keeps_slot (kept_local tt)) (kept_stack (lit< tt)))
            (by_reach elements [] (ReachAt 0 4 (OfSlot (Local 0)) (OnStack 0)) (copied_reach (stepped elements goes3 reached3) tt (kept_local tt) loaded (λ e. absurd (cc e))) tt, tt),
        tt,
      ),
      tt,
    )

-- taint
is_entry : IsEntry elements elements_entry elements_main
is_entry = record { listed = (0, lit< tt, refl); found = refl }

length_slots : (y : Slot) → Turns (analyses_of elements) 0 0 nothing (Const P1) 0 y false
length_slots (Local l) = copied (kept_local tt)
length_slots (OnStack zero) = constant
length_slots (OnStack (suc k)) = above (omega arith)

array_slots : (y : Slot) → Turns (analyses_of elements) 0 1 nothing (NewArray (record { 0 = 3 }) 1) 1 y false
array_slots (Local l) = copied (kept_local tt)
array_slots (OnStack zero) = made (makes_array refl)
array_slots (OnStack (suc k)) = above (omega arith)

store_slots : (y : Slot) → Turns (analyses_of elements) 0 2 nothing (Store R 0) 1 y false
store_slots (Local zero) = copied (popped {k = 0} refl)
store_slots (Local (suc l)) = copied (kept_local (λ e. absurd (cc e)))
store_slots (OnStack k) = above (omega arith)

load_slots : (y : Slot) → Turns (analyses_of elements) 0 3 nothing (Load R 0) 0 y false
load_slots (Local l) = copied (kept_local tt)
load_slots (OnStack zero) = copied loaded
load_slots (OnStack (suc k)) = above (omega arith)

place_slots : (y : Slot) → Turns (analyses_of elements) 0 4 nothing (Const P1) 1 y false
place_slots (Local l) = copied (kept_local tt)
place_slots (OnStack zero) = copied (kept_stack (lit< tt))
place_slots (OnStack (suc zero)) = constant
place_slots (OnStack (suc (suc k))) = above (omega arith)

source_slots : (y : Slot) → Turns (analyses_of elements) 0 5 nothing (Call source) 2 y ((only (OnStack 2 ∷ [])).slot y)
source_slots (Local l) = copied (kept_local tt)
source_slots (OnStack zero) = copied (kept_stack (lit< tt))
source_slots (OnStack (suc zero)) = copied (kept_stack (lit< tt))
source_slots (OnStack (suc (suc zero))) = answered 2 refl refl (λ t. refl)
source_slots (OnStack (suc (suc (suc k)))) = above (omega arith)

put_slots : (y : Slot) → Turns (analyses_of elements) 0 6 (only (OnStack 2 ∷ [])) (ArrStore R) 3 y ((dirty (Local 0 ∷ [])).slot y)
put_slots (Local zero) = written (writes_element {k = 0} refl) (kept_local tt) array_reaches (λ t. refl)
put_slots (Local (suc l)) = copied (kept_local tt)
put_slots (OnStack k) = above (omega arith)

again_slots : (y : Slot) → Turns (analyses_of elements) 0 7 (dirty (Local 0 ∷ [])) (Load R 0) 0 y ((dirty (Local 0 ∷ OnStack 0 ∷ [])).slot y)
again_slots (Local l) = copied (kept_local tt)
again_slots (OnStack zero) = copied loaded
again_slots (OnStack (suc k)) = above (omega arith)

index_slots : (y : Slot) → Turns (analyses_of elements) 0 8 (dirty (Local 0 ∷ OnStack 0 ∷ [])) (Const P1) 1 y ((dirty (Local 0 ∷ OnStack 0 ∷ [])).slot y)
index_slots (Local l) = copied (kept_local tt)
index_slots (OnStack zero) = copied (kept_stack (lit< tt))
index_slots (OnStack (suc zero)) = constant
index_slots (OnStack (suc (suc k))) = above (omega arith)

get_slots : (y : Slot) → Turns (analyses_of elements) 0 9 (dirty (Local 0 ∷ OnStack 0 ∷ [])) (ArrLoad R) 2 y ((dirty (Local 0 ∷ OnStack 0 ∷ [])).slot y)
get_slots (Local l) = copied (kept_local tt)
get_slots (OnStack zero) = read_loaded (loads_element {k = 0} refl) (λ t. refl)
get_slots (OnStack (suc k)) = above (omega arith)

before_put : Known elements (At 0 6 nothing (only (OnStack 2 ∷ [])))
before_put =
    step elements goes5 (record { reached = refl; goes_on = refl; library = sources; slots = source_slots; dirt = refl; exc = refl }) (no_read refl)
    (step elements goes4 (record { reached = refl; goes_on = refl; library = tt; slots = place_slots; dirt = refl; exc = refl }) (no_read refl)
    (step elements goes3 (record { reached = refl; goes_on = refl; library = tt; slots = load_slots; dirt = refl; exc = refl }) (no_read refl)
    (step elements goes2 (record { reached = refl; goes_on = refl; library = tt; slots = store_slots; dirt = refl; exc = refl }) (no_read refl)
    (step elements goes1 (record { reached = refl; goes_on = refl; library = tt; slots = array_slots; dirt = refl; exc = refl }) (no_read refl)
    (step elements goes0 (record { reached = refl; goes_on = refl; library = tt; slots = length_slots; dirt = refl; exc = refl }) (no_read refl)
    (by_taint elements (Context 0 nothing ∷ []) (At 0 0 nothing nothing) begins
    (by_taint elements [] (Context 0 nothing) (entry_called elements_entry [] (nothing_begins elements is_entry)) tt, tt)))))))

pub in_arrays : Known elements (Stored (OfBag 3))
in_arrays = by_taint elements (At 0 6 nothing (only (OnStack 2 ∷ [])) ∷ []) (Stored (OfBag 3)) (stored (op_at elements goes6) (stores_reference {k = 0} refl) refl) (before_put, tt)

pub after_put : Known elements (At 0 7 nothing (dirty (Local 0 ∷ [])))
after_put = step elements goes6 (record { reached = refl; goes_on = refl; library = tt; slots = put_slots; dirt = refl; exc = refl }) (no_read refl) before_put

before_sink : Known elements (At 0 10 nothing (dirty (Local 0 ∷ OnStack 0 ∷ [])))
before_sink =
    step elements goes9 (record { reached = refl; goes_on = refl; library = tt; slots = get_slots; dirt = refl; exc = refl }) (no_read refl)
    (step elements goes8 (record { reached = refl; goes_on = refl; library = tt; slots = index_slots; dirt = refl; exc = refl }) (no_read refl)
    (step elements goes7 (record { reached = refl; goes_on = refl; library = tt; slots = again_slots; dirt = refl; exc = refl }) (no_read refl) after_put))

pub warned : IsWarned elements (Known elements) element_site
warned = record { call = sink; under = 0; at = at_sink; a = nothing; b = dirty (Local 0 ∷ OnStack 0 ∷ []); fact = before_sink; k = 0; listed = (0, lit< tt, refl); true_argument = refl }
