-- What the method that unlinks a node may change, and what its call affects.
use Rattle.std.proofs.Common.{lit<, ℕ, [], ◌∷◌, refl}
use Rattle.ja_base.specs.declared.java_type.Kind.TheVariants.{R}
use Rattle.ja_ir.specs.declared.op.Op.TheVariants.{New, Load, Store, GetField, PutField, Call}
use Rattle.ja_ir.specs.declared.method.Instr.{Instr}
use Rattle.ja_ir.specs.Examples.{at}
use Rattle.ja_facts.specs.Slots.{Local, OnStack, CallAt, kept_local, kept_stack, loaded, stored, left_stack}
use Rattle.ja_facts.specs.ClassSets.{Reached, CallsLibrary, CallsMethod, entry_runs}
use Rattle.ja_facts.specs.Sharing.{PairAt, PairWithin, Effect, Arg, Name, OfSlot, Old, Keeps, keeps_slot, keeps_old, kept, copied, made, makes_object, object_loaded, loads_field, written, writes_field, live_slot, turned, within, library_ends, entered_begins_old, written_effect, IsNoCall, stays_slot, stays_old, ends_normally}
use Rattle.ja_facts.specs.Formulas.{IsAffected}
use Rattle.ja_facts.specs.Analyses.{Classes, Heaps, analyses_of}
use Rattle.ja_examples.specs.Library.{source}
use Rattle.ja_examples.specs.Unlinking.{unlinking, unlinking_f, unlinking_entry, unlink}
use Rattle.ja_examples.proofs.Deriving.{by_class, by_heap, Goes, op_at, leads, next, to_library, to_callee, callee, stepped, at_library}
use Rattle.ja_facts.specs.Crossings.{by_call}

-- main
pub main0 : Goes unlinking 1 0 1 (at 0 (New (record { 0 = 0 })) (1 ∷ []) 0)
main0 = record { found = refl; listed = (0, lit< tt, refl) }

pub main1 : Goes unlinking 1 1 2 (at 1 (Store R 1) (2 ∷ []) 1)
main1 = record { found = refl; listed = (0, lit< tt, refl) }

pub main2 : Goes unlinking 1 2 3 (at 2 (New (record { 0 = 0 })) (3 ∷ []) 0)
main2 = record { found = refl; listed = (0, lit< tt, refl) }

pub main3 : Goes unlinking 1 3 4 (at 3 (Store R 2) (4 ∷ []) 1)
main3 = record { found = refl; listed = (0, lit< tt, refl) }

pub main4 : Goes unlinking 1 4 5 (at 4 (Load R 1) (5 ∷ []) 0)
main4 = record { found = refl; listed = (0, lit< tt, refl) }

pub main5 : Goes unlinking 1 5 6 (at 5 (Load R 2) (6 ∷ []) 1)
main5 = record { found = refl; listed = (0, lit< tt, refl) }

pub main6 : Goes unlinking 1 6 7 (at 6 (PutField (record { 0 = 0 })) (7 ∷ []) 2)
main6 = record { found = refl; listed = (0, lit< tt, refl) }

pub main7 : Goes unlinking 1 7 8 (at 7 (Load R 1) (8 ∷ []) 0)
main7 = record { found = refl; listed = (0, lit< tt, refl) }

pub at_unlink : CallAt unlinking 1 8 unlink 0
at_unlink = record { height = 1; at = record { instr = at 8 (Call unlink) (9 ∷ []) 1; found = refl; is_op = refl; is_height = refl }; under_is = refl }

-- f
pub f0 : Goes unlinking 0 0 1 (at 0 (Load R 0) (1 ∷ []) 0)
f0 = record { found = refl; listed = (0, lit< tt, refl) }

pub f1 : Goes unlinking 0 1 2 (at 1 (GetField (record { 0 = 0 })) (2 ∷ []) 1)
f1 = record { found = refl; listed = (0, lit< tt, refl) }

pub f2 : Goes unlinking 0 2 3 (at 2 (Store R 1) (3 ∷ []) 1)
f2 = record { found = refl; listed = (0, lit< tt, refl) }

pub f3 : Goes unlinking 0 3 4 (at 3 (Load R 1) (4 ∷ []) 0)
f3 = record { found = refl; listed = (0, lit< tt, refl) }

pub f4 : Goes unlinking 0 4 5 (at 4 (Call source) (5 ∷ []) 1)
f4 = record { found = refl; listed = (0, lit< tt, refl) }

pub f5 : Goes unlinking 0 5 6 (at 5 (PutField (record { 0 = 1 })) (6 ∷ []) 2)
f5 = record { found = refl; listed = (0, lit< tt, refl) }

pub at_source : CallAt unlinking 0 4 source 1
at_source = record { height = 1; at = op_at unlinking f4; under_is = refl }

-- what is reached
main_reached : Classes unlinking (Reached 1 0)
main_reached = by_class unlinking [] (Reached 1 0) (entry_runs unlinking_entry (0, lit< tt, refl)) tt

reached1 : Classes unlinking (Reached 1 1)
reached1 = next unlinking main0 main_reached

reached2 : Classes unlinking (Reached 1 2)
reached2 = next unlinking main1 reached1

reached3 : Classes unlinking (Reached 1 3)
reached3 = next unlinking main2 reached2

reached4 : Classes unlinking (Reached 1 4)
reached4 = next unlinking main3 reached3

reached5 : Classes unlinking (Reached 1 5)
reached5 = next unlinking main4 reached4

reached6 : Classes unlinking (Reached 1 6)
reached6 = next unlinking main5 reached5

reached7 : Classes unlinking (Reached 1 7)
reached7 = next unlinking main6 reached6

pub reached8 : Classes unlinking (Reached 1 8)
reached8 = next unlinking main7 reached7

pub calls_f : Classes unlinking (CallsMethod 1 8 0)
calls_f = to_callee unlinking unlinking_f at_unlink refl refl refl refl reached8

pub f_reached : Classes unlinking (Reached 0 0)
f_reached = callee unlinking reached8 calls_f

pub f_reached1 : Classes unlinking (Reached 0 1)
f_reached1 = next unlinking f0 f_reached

pub f_reached2 : Classes unlinking (Reached 0 2)
f_reached2 = next unlinking f1 f_reached1

pub f_reached3 : Classes unlinking (Reached 0 3)
f_reached3 = next unlinking f2 f_reached2

pub f_reached4 : Classes unlinking (Reached 0 4)
f_reached4 = next unlinking f3 f_reached3

pub f_reached5 : Classes unlinking (Reached 0 5)
f_reached5 = next unlinking f4 f_reached4

pub sources : Classes unlinking (CallsLibrary 0 4)
sources = to_library unlinking at_source refl refl f_reached4

-- a pair is kept over an operation that is no call
over : {m i j : ℕ} {instr : Instr} (a b c d : Name) → Goes unlinking m i j instr → IsNoCall instr.op → Classes unlinking (Reached m i)
    → Keeps instr.op instr.height a c → Keeps instr.op instr.height b d → Heaps unlinking (PairAt m i a b) → Heaps unlinking (PairAt m j c d)
over {m = m} {i = i} {j = j} a b c d g plain r first second x =
    by_heap unlinking (PairAt m i a b ∷ []) (PairAt m j c d) (kept (stepped unlinking g r) plain first second) (x, tt)

abbrev l1 : Name
l1 = OfSlot (Local 1)

abbrev s0 : Name
s0 = OfSlot (OnStack 0)

-- the first node meets itself where f is called
first_made : Heaps unlinking (PairAt 1 1 s0 s0)
first_made = by_heap unlinking [] (PairAt 1 1 s0 s0) (made (stepped unlinking main0 main_reached) makes_object) tt

first_stored : Heaps unlinking (PairAt 1 2 l1 l1)
first_stored = over s0 s0 l1 l1 main1 tt reached1 (keeps_slot (stored refl)) (keeps_slot (stored refl)) first_made

first4 : Heaps unlinking (PairAt 1 4 l1 l1)
first4 =
    over l1 l1 l1 l1 main3 tt reached3 (keeps_slot (kept_local (λ e. absurd (cc e)))) (keeps_slot (kept_local (λ e. absurd (cc e))))
    (over l1 l1 l1 l1 main2 tt reached2 (keeps_slot (kept_local tt)) (keeps_slot (kept_local tt)) first_stored)

first7 : Heaps unlinking (PairAt 1 7 l1 l1)
first7 =
    over l1 l1 l1 l1 main6 tt reached6 (keeps_slot (kept_local tt)) (keeps_slot (kept_local tt))
    (over l1 l1 l1 l1 main5 tt reached5 (keeps_slot (kept_local tt)) (keeps_slot (kept_local tt))
    (over l1 l1 l1 l1 main4 tt reached4 (keeps_slot (kept_local tt)) (keeps_slot (kept_local tt)) first4))

argument_meets : Heaps unlinking (PairAt 1 8 s0 s0)
argument_meets = over l1 l1 s0 s0 main7 tt reached7 (keeps_slot loaded) (keeps_slot loaded) first7

-- so its parameter meets what the parameter reached, and so does the node after it
abbrev old : Name
old = Old (Arg 0)

parameter_old : Heaps unlinking (PairAt 0 0 (OfSlot (Local 0)) old)
parameter_old =
    by_heap unlinking (PairAt 1 8 s0 s0 ∷ []) (PairAt 0 0 (OfSlot (Local 0)) old)
    (entered_begins_old unlinking_f (Arg 0) (Arg 0) (by_call reached8 calls_f at_unlink) refl (lit< tt) (lit< tt)) (argument_meets, tt)

pushed_old : Heaps unlinking (PairAt 0 1 s0 old)
pushed_old = over (OfSlot (Local 0)) old s0 old f0 tt f_reached (keeps_slot loaded) keeps_old parameter_old

next_old : Heaps unlinking (PairAt 0 2 s0 old)
next_old =
    by_heap unlinking (PairAt 0 1 s0 old ∷ []) (PairAt 0 2 s0 old)
    (object_loaded (stepped unlinking f1 f_reached1) (loads_field {k = 0} refl) keeps_old) (pushed_old, tt)

node_old : Heaps unlinking (PairAt 0 4 s0 old)
node_old =
    over l1 old s0 old f3 tt f_reached3 (keeps_slot loaded) keeps_old
    (over s0 old l1 old f2 tt f_reached2 (keeps_slot (stored refl)) keeps_old next_old)

written_old : Heaps unlinking (PairAt 0 5 s0 old)
written_old =
    by_heap unlinking (PairWithin 0 4 s0 old ∷ []) (PairAt 0 5 s0 old)
    (library_ends (ends_normally (at_library unlinking at_source f_reached4 sources) (leads unlinking f4)) (stays_slot (left_stack (lit< tt))) stays_old)
    (by_heap unlinking (PairAt 0 4 s0 old ∷ []) (PairWithin 0 4 s0 old) (within (at_library unlinking at_source f_reached4 sources)) (node_old, tt), tt)

pub changes_argument : Heaps unlinking (Effect 0 (Arg 0))
changes_argument =
    by_heap unlinking (PairAt 0 5 s0 old ∷ []) (Effect 0 (Arg 0)) (written_effect (op_at unlinking f5) f_reached5 (writes_field {k = 0} refl)) (written_old, tt)

-- the second node is reached from the first, so it meets the argument
first_under : Heaps unlinking (PairAt 1 6 l1 s0)
first_under =
    over l1 s0 l1 s0 main5 tt reached5 (keeps_slot (kept_local tt)) (keeps_slot (kept_stack (lit< tt)))
    (by_heap unlinking [] (PairAt 1 5 l1 s0) (copied (stepped unlinking main4 reached4) tt (kept_local tt) loaded (λ e. absurd (cc e))) tt)

second_value : Heaps unlinking (PairAt 1 6 (OfSlot (OnStack 1)) (OfSlot (Local 2)))
second_value =
    by_heap unlinking [] (PairAt 1 6 (OfSlot (OnStack 1)) (OfSlot (Local 2)))
    (copied (stepped unlinking main5 reached5) tt loaded (kept_local tt) (λ e. absurd (cc e))) tt

linked : Heaps unlinking (PairAt 1 7 l1 (OfSlot (Local 2)))
linked =
    by_heap unlinking (PairAt 1 6 l1 s0 ∷ PairAt 1 6 (OfSlot (OnStack 1)) (OfSlot (Local 2)) ∷ []) (PairAt 1 7 l1 (OfSlot (Local 2)))
    (written (stepped unlinking main6 reached6) (writes_field {k = 0} refl) live_slot (keeps_slot (kept_local tt)) (keeps_slot (kept_local tt)))
    (first_under, (second_value, tt))

second_meets : Heaps unlinking (PairAt 1 8 (OfSlot (Local 2)) s0)
second_meets =
    over (OfSlot (Local 2)) l1 (OfSlot (Local 2)) s0 main7 tt reached7 (keeps_slot (kept_local tt)) (keeps_slot loaded)
    (by_heap unlinking (PairAt 1 7 l1 (OfSlot (Local 2)) ∷ []) (PairAt 1 7 (OfSlot (Local 2)) l1) turned (linked, tt))

pub affected : IsAffected (analyses_of unlinking) 1 8 0 1 0 (Local 2)
affected = record { root = Arg 0; is_root = lit< tt; effect = changes_argument; pair = second_meets }
