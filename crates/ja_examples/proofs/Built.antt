-- The facts of the program whose builder takes a tainted text.
use Rattle.std.proofs.Common.{lit<, ℕ, zero, suc, false, [], ◌∷◌, refl, arith}
use Rattle.ja_base.specs.declared.java_type.Kind.TheVariants.{R}
use Rattle.ja_ir.specs.declared.op.Op.{Op}
use Rattle.ja_ir.specs.declared.op.Op.TheVariants.{New, Load, Store, GetField, PutField, Shuffle, Call}
use Rattle.ja_ir.specs.Examples.{at}
use Rattle.ja_facts.specs.Slots.{Slot, Local, OnStack, CallAt, kept_local, kept_stack, loaded, stored as stored_into, left_local, left_stack}
use Rattle.ja_facts.specs.Actions.{IsEntry}
use Rattle.ja_facts.specs.ClassSets.{Reached, InSlot, InField, Spans, Takes, CallsLibrary, entry_runs, made as object_made, moved, put, got, selects_library, elsewhere, spans_itself, taker}
use Rattle.ja_facts.specs.Held.{TokenHolds, FieldHolds, OfBag, holds_bag, of_field}
use Rattle.ja_facts.specs.Sharing.{PairAt, PairWithin, OfSlot, keeps_slot, kept, copied as copied_pair, written as written_pair, within, library_ends, live_slot, writes_field, makes_object, stays_slot, ends_normally}
use Rattle.ja_facts.specs.Formulas.{Turns, copied, above, made, loaded as read_loaded, loads_field, answered, absorbed, IsNormalEnd}
use Rattle.ja_facts.specs.Equations.{Context, At, Stored, entry_called, begins, reads_stored_field, held, reads_field, taken, IsWarned}
use Rattle.ja_facts.specs.Analyses.{Classes, Helds, Heaps, analyses_of}
use Rattle.ja_examples.specs.Truth.{only, dirty}
use Rattle.ja_examples.specs.Library.{source, append, to_text, sink}
use Rattle.ja_examples.specs.Building.{building, building_main, building_entry, built_site}
use Rattle.ja_examples.proofs.Deriving.{by_class, by_held, by_heap, by_taint, Goes, op_at, leads, next, to_library, normal_end, step, no_read, Known, stepped, at_library, nothing_begins}
use Rattle.ja_facts.specs.Example.{nothing}

abbrev s : Op
s = GetField (record { 0 = 0 })

goes0 : Goes building 0 0 1 (at 0 (New (record { 0 = 0 })) (1 ∷ []) 0)
goes0 = record { found = refl; listed = (0, lit< tt, refl) }

goes1 : Goes building 0 1 2 (at 1 (Store R 0) (2 ∷ []) 1)
goes1 = record { found = refl; listed = (0, lit< tt, refl) }

goes2 : Goes building 0 2 3 (at 2 (New (record { 0 = 2 })) (3 ∷ []) 0)
goes2 = record { found = refl; listed = (0, lit< tt, refl) }

goes3 : Goes building 0 3 4 (at 3 (Store R 1) (4 ∷ []) 1)
goes3 = record { found = refl; listed = (0, lit< tt, refl) }

goes4 : Goes building 0 4 5 (at 4 (Load R 0) (5 ∷ []) 0)
goes4 = record { found = refl; listed = (0, lit< tt, refl) }

goes5 : Goes building 0 5 6 (at 5 (Load R 1) (6 ∷ []) 1)
goes5 = record { found = refl; listed = (0, lit< tt, refl) }

goes6 : Goes building 0 6 7 (at 6 (PutField (record { 0 = 0 })) (7 ∷ []) 2)
goes6 = record { found = refl; listed = (0, lit< tt, refl) }

goes7 : Goes building 0 7 8 (at 7 (Load R 1) (8 ∷ []) 0)
goes7 = record { found = refl; listed = (0, lit< tt, refl) }

goes8 : Goes building 0 8 9 (at 8 (Call source) (9 ∷ []) 1)
goes8 = record { found = refl; listed = (0, lit< tt, refl) }

goes9 : Goes building 0 9 10 (at 9 (Call append) (10 ∷ []) 2)
goes9 = record { found = refl; listed = (0, lit< tt, refl) }

goes10 : Goes building 0 10 11 (at 10 (Shuffle 1 []) (11 ∷ []) 1)
goes10 = record { found = refl; listed = (0, lit< tt, refl) }

goes11 : Goes building 0 11 12 (at 11 (Load R 0) (12 ∷ []) 0)
goes11 = record { found = refl; listed = (0, lit< tt, refl) }

goes12 : Goes building 0 12 13 (at 12 (GetField (record { 0 = 0 })) (13 ∷ []) 1)
goes12 = record { found = refl; listed = (0, lit< tt, refl) }

goes13 : Goes building 0 13 14 (at 13 (Call to_text) (14 ∷ []) 1)
goes13 = record { found = refl; listed = (0, lit< tt, refl) }

goes14 : Goes building 0 14 15 (at 14 (Call sink) (15 ∷ []) 1)
goes14 = record { found = refl; listed = (0, lit< tt, refl) }

at_source : CallAt building 0 8 source 1
at_source = record { height = 1; at = op_at building goes8; under_is = refl }

at_append : CallAt building 0 9 append 0
at_append = record { height = 2; at = op_at building goes9; under_is = refl }

at_text : CallAt building 0 13 to_text 0
at_text = record { height = 1; at = op_at building goes13; under_is = refl }

at_sink : CallAt building 0 14 sink 0
at_sink = record { height = 1; at = op_at building goes14; under_is = refl }

-- ---- which instructions are reached, and where the builder's token is

reached0 : Classes building (Reached 0 0)
reached0 = by_class building [] (Reached 0 0) (entry_runs building_entry (0, lit< tt, refl)) tt

reached2 : Classes building (Reached 0 2)
reached2 = next building goes1 (next building goes0 reached0)

reached3 : Classes building (Reached 0 3)
reached3 = next building goes2 reached2

reached4 : Classes building (Reached 0 4)
reached4 = next building goes3 reached3

reached5 : Classes building (Reached 0 5)
reached5 = next building goes4 reached4

reached6 : Classes building (Reached 0 6)
reached6 = next building goes5 reached5

reached7 : Classes building (Reached 0 7)
reached7 = next building goes6 reached6

reached8 : Classes building (Reached 0 8)
reached8 = next building goes7 reached7

reached9 : Classes building (Reached 0 9)
reached9 = next building goes8 reached8

reached12 : Classes building (Reached 0 12)
reached12 = next building goes11 (next building goes10 (next building goes9 reached9))

reached13 : Classes building (Reached 0 13)
reached13 = next building goes12 reached12

reached14 : Classes building (Reached 0 14)
reached14 = next building goes13 reached13

builder_made : Classes building (InSlot 0 3 (OnStack 0) 2)
builder_made = by_class building (Reached 0 2 ∷ []) (InSlot 0 3 (OnStack 0) 2) (object_made (op_at building goes2) (leads building goes2) (λ class e. absurd (cc e))) (reached2, tt)

in_local4 : Classes building (InSlot 0 4 (Local 1) 2)
in_local4 =
    by_class building (Reached 0 3 ∷ InSlot 0 3 (OnStack 0) 2 ∷ []) (InSlot 0 4 (Local 1) 2)
    (moved (op_at building goes3) (leads building goes3) (stored_into refl) tt) (reached3, (builder_made, tt))

in_local5 : Classes building (InSlot 0 5 (Local 1) 2)
in_local5 =
    by_class building (Reached 0 4 ∷ InSlot 0 4 (Local 1) 2 ∷ []) (InSlot 0 5 (Local 1) 2)
    (moved (op_at building goes4) (leads building goes4) (kept_local tt) tt) (reached4, (in_local4, tt))

in_local6 : Classes building (InSlot 0 6 (Local 1) 2)
in_local6 =
    by_class building (Reached 0 5 ∷ InSlot 0 5 (Local 1) 2 ∷ []) (InSlot 0 6 (Local 1) 2)
    (moved (op_at building goes5) (leads building goes5) (kept_local tt) tt) (reached5, (in_local5, tt))

pushed6 : Classes building (InSlot 0 6 (OnStack 1) 2)
pushed6 =
    by_class building (Reached 0 5 ∷ InSlot 0 5 (Local 1) 2 ∷ []) (InSlot 0 6 (OnStack 1) 2)
    (moved (op_at building goes5) (leads building goes5) loaded tt) (reached5, (in_local5, tt))

pub in_field : Classes building (InField 0 2)
in_field = by_class building (Reached 0 6 ∷ InSlot 0 6 (OnStack 1) 2 ∷ []) (InField 0 2) (put (op_at building goes6)) (reached6, (pushed6, tt))

in_local7 : Classes building (InSlot 0 7 (Local 1) 2)
in_local7 =
    by_class building (Reached 0 6 ∷ InSlot 0 6 (Local 1) 2 ∷ []) (InSlot 0 7 (Local 1) 2)
    (moved (op_at building goes6) (leads building goes6) (kept_local tt) tt) (reached6, (in_local6, tt))

pushed8 : Classes building (InSlot 0 8 (OnStack 0) 2)
pushed8 =
    by_class building (Reached 0 7 ∷ InSlot 0 7 (Local 1) 2 ∷ []) (InSlot 0 8 (OnStack 0) 2)
    (moved (op_at building goes7) (leads building goes7) loaded tt) (reached7, (in_local7, tt))

receiver : Classes building (InSlot 0 9 (OnStack 0) 2)
receiver =
    by_class building (Reached 0 8 ∷ InSlot 0 8 (OnStack 0) 2 ∷ []) (InSlot 0 9 (OnStack 0) 2)
    (moved (op_at building goes8) (leads building goes8) (kept_stack (lit< tt)) tt) (reached8, (pushed8, tt))

read_builder : Classes building (InSlot 0 13 (OnStack 0) 2)
read_builder = by_class building (Reached 0 12 ∷ InField 0 2 ∷ []) (InSlot 0 13 (OnStack 0) 2) (got (op_at building goes12) (leads building goes12)) (reached12, (in_field, tt))

-- ---- the calls go to the library, and the builder's bag takes the text

sources : Classes building (CallsLibrary 0 8)
sources = to_library building at_source refl refl reached8

appends : Classes building (CallsLibrary 0 9)
appends =
    by_class building (Reached 0 9 ∷ InSlot 0 9 (OnStack 0) 2 ∷ []) (CallsLibrary 0 9)
    (selects_library at_append refl (elsewhere (λ is. absurd (cc is.1)) refl)) (reached9, (receiver, tt))

texts : Classes building (CallsLibrary 0 13)
texts =
    by_class building (Reached 0 13 ∷ InSlot 0 13 (OnStack 0) 2 ∷ []) (CallsLibrary 0 13)
    (selects_library at_text refl (elsewhere (λ is. absurd (cc is.1)) refl)) (reached13, (read_builder, tt))

spans : Classes building (Spans 2 2)
spans = by_class building [] (Spans 2 2) spans_itself tt

takes : Classes building (Takes 0 9 2)
takes =
    by_class building (Reached 0 9 ∷ CallsLibrary 0 9 ∷ InSlot 0 9 (OnStack 0) 2 ∷ Spans 2 2 ∷ []) (Takes 0 9 2) (taker 0 at_append (refl, refl) refl)
    (reached9, (appends, (receiver, (spans, tt))))

-- ---- the field may hold the bags of library objects

token_holds : Helds building (TokenHolds 2 (OfBag 2))
token_holds = by_held building [] (TokenHolds 2 (OfBag 2)) (holds_bag spans refl) tt

pub field_holds : Helds building (FieldHolds 0 (OfBag 2))
field_holds = by_held building (TokenHolds 2 (OfBag 2) ∷ []) (FieldHolds 0 (OfBag 2)) (of_field in_field) (token_holds, tt)

-- ---- the locals meet the builder on the stack

object_pushed : Heaps building (PairAt 0 5 (OfSlot (Local 0)) (OfSlot (OnStack 0)))
object_pushed =
    by_heap building [] (PairAt 0 5 (OfSlot (Local 0)) (OfSlot (OnStack 0)))
    (copied_pair (stepped building goes4 reached4) tt (kept_local tt) loaded (λ e. absurd (cc e))) tt

object_under : Heaps building (PairAt 0 6 (OfSlot (Local 0)) (OfSlot (OnStack 0)))
object_under =
    by_heap building (PairAt 0 5 (OfSlot (Local 0)) (OfSlot (OnStack 0)) ∷ []) (PairAt 0 6 (OfSlot (Local 0)) (OfSlot (OnStack 0)))
    (kept (stepped building goes5 reached5) tt (keeps_slot (kept_local tt)) (keeps_slot (kept_stack (lit< tt)))) (object_pushed, tt)

value_pushed : Heaps building (PairAt 0 6 (OfSlot (OnStack 1)) (OfSlot (Local 1)))
value_pushed =
    by_heap building [] (PairAt 0 6 (OfSlot (OnStack 1)) (OfSlot (Local 1)))
    (copied_pair (stepped building goes5 reached5) tt loaded (kept_local tt) (λ e. absurd (cc e))) tt

-- after the write, the object meets the builder
object_meets : Heaps building (PairAt 0 7 (OfSlot (Local 0)) (OfSlot (Local 1)))
object_meets =
    by_heap building (PairAt 0 6 (OfSlot (Local 0)) (OfSlot (OnStack 0)) ∷ PairAt 0 6 (OfSlot (OnStack 1)) (OfSlot (Local 1)) ∷ []) (PairAt 0 7 (OfSlot (Local 0)) (OfSlot (Local 1)))
    (written_pair (stepped building goes6 reached6) (writes_field {k = 0} refl) live_slot (keeps_slot (kept_local tt)) (keeps_slot (kept_local tt)))
    (object_under, (value_pushed, tt))

object_builder8 : Heaps building (PairAt 0 8 (OfSlot (Local 0)) (OfSlot (OnStack 0)))
object_builder8 =
    by_heap building (PairAt 0 7 (OfSlot (Local 0)) (OfSlot (Local 1)) ∷ []) (PairAt 0 8 (OfSlot (Local 0)) (OfSlot (OnStack 0)))
    (kept (stepped building goes7 reached7) tt (keeps_slot (kept_local tt)) (keeps_slot loaded)) (object_meets, tt)

builder_builder8 : Heaps building (PairAt 0 8 (OfSlot (Local 1)) (OfSlot (OnStack 0)))
builder_builder8 =
    by_heap building [] (PairAt 0 8 (OfSlot (Local 1)) (OfSlot (OnStack 0)))
    (copied_pair (stepped building goes7 reached7) tt (kept_local tt) loaded (λ e. absurd (cc e))) tt

-- the source's call leaves pairs as they are
over_source : (l : ℕ) → Heaps building (PairAt 0 8 (OfSlot (Local l)) (OfSlot (OnStack 0))) → Heaps building (PairAt 0 9 (OfSlot (Local l)) (OfSlot (OnStack 0)))
over_source l x =
    by_heap building (PairWithin 0 8 (OfSlot (Local l)) (OfSlot (OnStack 0)) ∷ []) (PairAt 0 9 (OfSlot (Local l)) (OfSlot (OnStack 0)))
    (library_ends (ends_normally (at_library building at_source reached8 sources) (leads building goes8)) (stays_slot left_local) (stays_slot (left_stack (lit< tt))))
    (by_heap building (PairAt 0 8 (OfSlot (Local l)) (OfSlot (OnStack 0)) ∷ []) (PairWithin 0 8 (OfSlot (Local l)) (OfSlot (OnStack 0))) (within (at_library building at_source reached8 sources)) (x, tt), tt)

pub met : Heaps building (PairAt 0 9 (OfSlot (Local 0)) (OfSlot (OnStack 0)))
met = over_source 0 object_builder8

met_builder : Heaps building (PairAt 0 9 (OfSlot (Local 1)) (OfSlot (OnStack 0)))
met_builder = over_source 1 builder_builder8

-- ---- taint

main_entry : IsEntry building building_entry building_main
main_entry = record { listed = (0, lit< tt, refl); found = refl }

context : Known building (Context 0 nothing)
context = by_taint building [] (Context 0 nothing) (entry_called building_entry [] (nothing_begins building main_entry)) tt

entered : Known building (At 0 0 nothing nothing)
entered = by_taint building (Context 0 nothing ∷ []) (At 0 0 nothing nothing) begins (context, tt)

-- the instructions before the source leave nothing true
object_slots : (i t : ℕ) (y : Slot) → Turns (analyses_of building) 0 i nothing (New (record { 0 = t })) 0 y false
object_slots i t (Local l) = copied (kept_local tt)
object_slots i t (OnStack zero) = made makes_object
object_slots i t (OnStack (suc k)) = above (omega arith)

store0_slots : (y : Slot) → Turns (analyses_of building) 0 1 nothing (Store R 0) 1 y false
store0_slots (Local zero) = copied (stored_into {k = 0} refl)
store0_slots (Local (suc l)) = copied (kept_local (λ e. absurd (cc e)))
store0_slots (OnStack k) = above (omega arith)

store1_slots : (y : Slot) → Turns (analyses_of building) 0 3 nothing (Store R 1) 1 y false
store1_slots (Local zero) = copied (kept_local (λ e. absurd (cc e)))
store1_slots (Local (suc zero)) = copied (stored_into {k = 0} refl)
store1_slots (Local (suc (suc l))) = copied (kept_local (λ e. absurd (cc e)))
store1_slots (OnStack k) = above (omega arith)

load_slots : (i l : ℕ) (y : Slot) → Turns (analyses_of building) 0 i nothing (Load R l) 0 y false
load_slots i l (Local x) = copied (kept_local tt)
load_slots i l (OnStack zero) = copied loaded
load_slots i l (OnStack (suc k)) = above (omega arith)

second_slots : (y : Slot) → Turns (analyses_of building) 0 5 nothing (Load R 1) 1 y false
second_slots (Local x) = copied (kept_local tt)
second_slots (OnStack zero) = copied (kept_stack (lit< tt))
second_slots (OnStack (suc zero)) = copied loaded
second_slots (OnStack (suc (suc k))) = above (omega arith)

put_slots : (y : Slot) → Turns (analyses_of building) 0 6 nothing (PutField (record { 0 = 0 })) 2 y false
put_slots (Local l) = copied (kept_local tt)
put_slots (OnStack k) = above (omega arith)

before_store : Known building (At 0 4 nothing nothing)
before_store =
    step building goes3 (record { reached = refl; goes_on = refl; library = tt; slots = store1_slots; dirt = refl; exc = refl }) (no_read refl)
    (step building goes2 (record { reached = refl; goes_on = refl; library = tt; slots = object_slots 2 2; dirt = refl; exc = refl }) (no_read refl)
    (step building goes1 (record { reached = refl; goes_on = refl; library = tt; slots = store0_slots; dirt = refl; exc = refl }) (no_read refl)
    (step building goes0 (record { reached = refl; goes_on = refl; library = tt; slots = object_slots 0 0; dirt = refl; exc = refl }) (no_read refl) entered)))

before_source : Known building (At 0 8 nothing nothing)
before_source =
    step building goes7 (record { reached = refl; goes_on = refl; library = tt; slots = load_slots 7 1; dirt = refl; exc = refl }) (no_read refl)
    (step building goes6 (record { reached = refl; goes_on = refl; library = tt; slots = put_slots; dirt = refl; exc = refl }) (no_read refl)
    (step building goes5 (record { reached = refl; goes_on = refl; library = tt; slots = second_slots; dirt = refl; exc = refl }) (no_read refl)
    (step building goes4 (record { reached = refl; goes_on = refl; library = tt; slots = load_slots 4 0; dirt = refl; exc = refl }) (no_read refl) before_store)))

-- the source pushes a tainted text
source_slots : (y : Slot) → Turns (analyses_of building) 0 8 nothing (Call source) 1 y ((only (OnStack 1 ∷ [])).slot y)
source_slots (Local l) = copied (kept_local tt)
source_slots (OnStack zero) = copied (kept_stack (lit< tt))
source_slots (OnStack (suc zero)) = answered 1 refl refl (λ t. refl)
source_slots (OnStack (suc (suc k))) = above (omega arith)

before_append : Known building (At 0 9 nothing (only (OnStack 1 ∷ [])))
before_append = step building goes8 (record { reached = refl; goes_on = refl; library = sources; slots = source_slots; dirt = refl; exc = refl }) (no_read refl) before_source

pub in_bags : Known building (Stored (OfBag 2))
in_bags = by_taint building (At 0 9 nothing (only (OnStack 1 ∷ [])) ∷ []) (Stored (OfBag 2)) (taken at_append takes refl) (before_append, tt)

-- what meets the builder is true after it took the text
append_slots : (y : Slot) → Turns (analyses_of building) 0 9 (only (OnStack 1 ∷ [])) (Call append) 2 y ((dirty (Local 0 ∷ Local 1 ∷ OnStack 0 ∷ [])).slot y)
append_slots (Local zero) = absorbed 0 refl (kept_local tt) (record { x = 0; source = (refl, refl); pair = met }) (λ t. refl)
append_slots (Local (suc zero)) = absorbed 0 refl (kept_local tt) (record { x = 0; source = (refl, refl); pair = met_builder }) (λ t. refl)
append_slots (Local (suc (suc l))) = copied (kept_local tt)
append_slots (OnStack zero) = answered 0 refl refl (λ t. refl)
append_slots (OnStack (suc k)) = above (omega arith)

pub appended : Known building (At 0 10 nothing (dirty (Local 0 ∷ Local 1 ∷ OnStack 0 ∷ [])))
appended = step building goes9 (record { reached = refl; goes_on = refl; library = appends; slots = append_slots; dirt = refl; exc = refl }) (no_read refl) before_append

pop_slots : (y : Slot) → Turns (analyses_of building) 0 10 (dirty (Local 0 ∷ Local 1 ∷ OnStack 0 ∷ [])) (Shuffle 1 []) 1 y ((dirty (Local 0 ∷ Local 1 ∷ [])).slot y)
pop_slots (Local l) = copied (kept_local tt)
pop_slots (OnStack k) = above (omega arith)

again_slots : (y : Slot) → Turns (analyses_of building) 0 11 (dirty (Local 0 ∷ Local 1 ∷ [])) (Load R 0) 0 y ((dirty (Local 0 ∷ Local 1 ∷ OnStack 0 ∷ [])).slot y)
again_slots (Local l) = copied (kept_local tt)
again_slots (OnStack zero) = copied loaded
again_slots (OnStack (suc k)) = above (omega arith)

before_read : Known building (At 0 12 nothing (dirty (Local 0 ∷ Local 1 ∷ OnStack 0 ∷ [])))
before_read =
    step building goes11 (record { reached = refl; goes_on = refl; library = tt; slots = again_slots; dirt = refl; exc = refl }) (no_read refl)
    (step building goes10 (record { reached = refl; goes_on = refl; library = tt; slots = pop_slots; dirt = refl; exc = refl }) (no_read refl) appended)

-- what is read of the field is tainted, since the field may hold the bags
read_slots : (y : Slot) → Turns (analyses_of building) 0 12 (dirty (Local 0 ∷ Local 1 ∷ OnStack 0 ∷ [])) s 1 y ((dirty (Local 0 ∷ Local 1 ∷ OnStack 0 ∷ [])).slot y)
read_slots (Local l) = copied (kept_local tt)
read_slots (OnStack zero) = read_loaded (loads_field {k = 0} refl) (λ t. refl)
read_slots (OnStack (suc k)) = above (omega arith)

read_end : IsNormalEnd building (analyses_of building) 0 12 (dirty (Local 0 ∷ Local 1 ∷ OnStack 0 ∷ [])) (dirty (Local 0 ∷ Local 1 ∷ OnStack 0 ∷ []))
read_end = normal_end building goes12 (record { reached = refl; goes_on = refl; library = tt; slots = read_slots; dirt = refl; exc = refl })

pub read : Known building (At 0 13 nothing (dirty (Local 0 ∷ Local 1 ∷ OnStack 0 ∷ [])))
read =
    by_taint building (At 0 12 nothing (dirty (Local 0 ∷ Local 1 ∷ OnStack 0 ∷ [])) ∷ Stored (OfBag 2) ∷ []) (At 0 13 nothing (dirty (Local 0 ∷ Local 1 ∷ OnStack 0 ∷ [])))
    (reads_stored_field (op_at building goes12) (leads building goes12) read_end (reads_field {k = 0} refl) refl (held field_holds)) (before_read, (in_bags, tt))

-- so is its text
text_slots : (y : Slot) → Turns (analyses_of building) 0 13 (dirty (Local 0 ∷ Local 1 ∷ OnStack 0 ∷ [])) (Call to_text) 1 y ((dirty (Local 0 ∷ Local 1 ∷ OnStack 0 ∷ [])).slot y)
text_slots (Local l) = copied (kept_local tt)
text_slots (OnStack zero) = answered 0 refl refl (λ t. refl)
text_slots (OnStack (suc k)) = above (omega arith)

text : Known building (At 0 14 nothing (dirty (Local 0 ∷ Local 1 ∷ OnStack 0 ∷ [])))
text = step building goes13 (record { reached = refl; goes_on = refl; library = texts; slots = text_slots; dirt = refl; exc = refl }) (no_read refl) read

pub warned : IsWarned building (Known building) built_site
warned = record { call = sink; under = 0; at = at_sink; a = nothing; b = dirty (Local 0 ∷ Local 1 ∷ OnStack 0 ∷ []); fact = text; k = 0; listed = (0, lit< tt, refl); true_argument = refl }
