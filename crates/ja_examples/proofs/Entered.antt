-- The facts of the program whose second entry reads what the first one stored.
use Rattle.std.proofs.Common.{lit<, ◌≡◌, zero, suc, inl, inr, false, true, [], ◌∷◌, refl, arith, subst, sym}
use Rattle.ja_base.specs.declared.java_type.Kind.TheVariants.{R}
use Rattle.ja_ir.specs.declared.op.Op.TheVariants.{Load, Call}
use Rattle.ja_ir.specs.Examples.{at}
use Rattle.ja_facts.specs.Slots.{Slot, Local, OnStack, CallAt, kept_local, kept_stack, loaded}
use Rattle.ja_facts.specs.Actions.{IsEntry}
use Rattle.ja_facts.specs.ClassSets.{Reached, InEnv, InParam, InSlot, Spans, Takes, CallsLibrary, env_fresh, entry_takes, entry_runs, begins as begins_slot, moved, selects_library, elsewhere, spans_itself, taker}
use Rattle.ja_facts.specs.Held.{TokenHolds, OfBag, holds_bag, Cell}
use Rattle.ja_facts.specs.Formulas.{Turns, copied, above, answered}
use Rattle.ja_facts.specs.Equations.{Context, At, Stored, entry_called, begins, taken, IsWarned, MayBeTrue, MayBegin, IsReason, MayReach}
use Rattle.ja_facts.specs.Analyses.{Classes, Helds, analyses_of}
use Rattle.ja_examples.specs.Truth.{only}
use Rattle.ja_examples.specs.Library.{builder, source, append, to_text, sink}
use Rattle.ja_examples.specs.Entering.{entering, entering_put, entering_get, entering_take, put_entry, get_entry, take_entry, entered_site}
use Rattle.ja_examples.proofs.Deriving.{by_class, by_held, by_taint, Goes, op_at, leads, next, to_library, step, no_read, Known, nothing_begins}
use Rattle.ja_facts.specs.Example.{nothing}
use Rattle.ja_examples.proofs.Listed.{only_item, no_item}
use Rattle.std.specs.Prelude.{Contains}

-- the instructions
put0 : Goes entering 0 0 1 (at 0 (Load R 0) (1 ∷ []) 0)
put0 = record { found = refl; listed = (0, lit< tt, refl) }

put1 : Goes entering 0 1 2 (at 1 (Call source) (2 ∷ []) 1)
put1 = record { found = refl; listed = (0, lit< tt, refl) }

put2 : Goes entering 0 2 3 (at 2 (Call append) (3 ∷ []) 2)
put2 = record { found = refl; listed = (0, lit< tt, refl) }

get0 : Goes entering 1 0 1 (at 0 (Load R 0) (1 ∷ []) 0)
get0 = record { found = refl; listed = (0, lit< tt, refl) }

get1 : Goes entering 1 1 2 (at 1 (Call to_text) (2 ∷ []) 1)
get1 = record { found = refl; listed = (0, lit< tt, refl) }

get2 : Goes entering 1 2 3 (at 2 (Call sink) (3 ∷ []) 1)
get2 = record { found = refl; listed = (0, lit< tt, refl) }

at_source : CallAt entering 0 1 source 1
at_source = record { height = 1; at = op_at entering put1; under_is = refl }

at_append : CallAt entering 0 2 append 0
at_append = record { height = 2; at = op_at entering put2; under_is = refl }

at_text : CallAt entering 1 1 to_text 0
at_text = record { height = 1; at = op_at entering get1; under_is = refl }

at_sink : CallAt entering 1 2 sink 0
at_sink = record { height = 1; at = op_at entering get2; under_is = refl }

-- the entries
is_put : IsEntry entering put_entry entering_put
is_put = record { listed = (0, lit< tt, refl); found = refl }

is_get : IsEntry entering get_entry entering_get
is_get = record { listed = (1, lit< tt, refl); found = refl }

is_take : IsEntry entering take_entry entering_take
is_take = record { listed = (2, lit< tt, refl); found = refl }

-- the environment makes library objects, and gives them to the first two
made_by_environment : Classes entering (InEnv 2)
made_by_environment = by_class entering [] (InEnv 2) (env_fresh put_entry entering_put 0 2 builder is_put refl (0, lit< tt, refl)) tt

put_given : Classes entering (InParam 0 0 2)
put_given = by_class entering (InEnv 2 ∷ []) (InParam 0 0 2) (entry_takes put_entry entering_put 0 builder is_put refl refl refl) (made_by_environment, tt)

get_given : Classes entering (InParam 1 0 2)
get_given = by_class entering (InEnv 2 ∷ []) (InParam 1 0 2) (entry_takes get_entry entering_get 0 builder is_get refl refl refl) (made_by_environment, tt)

put_reached : Classes entering (Reached 0 0)
put_reached = by_class entering [] (Reached 0 0) (entry_runs put_entry (0, lit< tt, refl)) tt

put_reached1 : Classes entering (Reached 0 1)
put_reached1 = next entering put0 put_reached

put_reached2 : Classes entering (Reached 0 2)
put_reached2 = next entering put1 put_reached1

get_reached : Classes entering (Reached 1 0)
get_reached = by_class entering [] (Reached 1 0) (entry_runs get_entry (1, lit< tt, refl)) tt

get_reached1 : Classes entering (Reached 1 1)
get_reached1 = next entering get0 get_reached

-- the receivers of the two builder calls
put_slot : Classes entering (InSlot 0 1 (OnStack 0) 2)
put_slot =
    by_class entering (Reached 0 0 ∷ InSlot 0 0 (Local 0) 2 ∷ []) (InSlot 0 1 (OnStack 0) 2)
    (moved (op_at entering put0) (leads entering put0) loaded tt)
    (put_reached, (by_class entering (Reached 0 0 ∷ InParam 0 0 2 ∷ []) (InSlot 0 0 (Local 0) 2) (begins_slot entering_put refl) (put_reached, (put_given, tt)), tt))

put_receiver : Classes entering (InSlot 0 2 (OnStack 0) 2)
put_receiver =
    by_class entering (Reached 0 1 ∷ InSlot 0 1 (OnStack 0) 2 ∷ []) (InSlot 0 2 (OnStack 0) 2)
    (moved (op_at entering put1) (leads entering put1) (kept_stack (lit< tt)) tt) (put_reached1, (put_slot, tt))

get_receiver : Classes entering (InSlot 1 1 (OnStack 0) 2)
get_receiver =
    by_class entering (Reached 1 0 ∷ InSlot 1 0 (Local 0) 2 ∷ []) (InSlot 1 1 (OnStack 0) 2)
    (moved (op_at entering get0) (leads entering get0) loaded tt)
    (get_reached, (by_class entering (Reached 1 0 ∷ InParam 1 0 2 ∷ []) (InSlot 1 0 (Local 0) 2) (begins_slot entering_get refl) (get_reached, (get_given, tt)), tt))

sources : Classes entering (CallsLibrary 0 1)
sources = to_library entering at_source refl refl put_reached1

appends : Classes entering (CallsLibrary 0 2)
appends =
    by_class entering (Reached 0 2 ∷ InSlot 0 2 (OnStack 0) 2 ∷ []) (CallsLibrary 0 2)
    (selects_library at_append refl (elsewhere (λ is. absurd (cc is.1)) refl)) (put_reached2, (put_receiver, tt))

texts : Classes entering (CallsLibrary 1 1)
texts =
    by_class entering (Reached 1 1 ∷ InSlot 1 1 (OnStack 0) 2 ∷ []) (CallsLibrary 1 1)
    (selects_library at_text refl (elsewhere (λ is. absurd (cc is.1)) refl)) (get_reached1, (get_receiver, tt))

spans : Classes entering (Spans 2 2)
spans = by_class entering [] (Spans 2 2) spans_itself tt

takes : Classes entering (Takes 0 2 2)
takes =
    by_class entering (Reached 0 2 ∷ CallsLibrary 0 2 ∷ InSlot 0 2 (OnStack 0) 2 ∷ Spans 2 2 ∷ []) (Takes 0 2 2) (taker 0 at_append (refl, refl) refl)
    (put_reached2, (appends, (put_receiver, (spans, tt))))

token_holds : Helds entering (TokenHolds 2 (OfBag 2))
token_holds = by_held entering [] (TokenHolds 2 (OfBag 2)) (holds_bag spans refl) tt

-- the first entry stores
put_context : Known entering (Context 0 nothing)
put_context = by_taint entering [] (Context 0 nothing) (entry_called put_entry [] (nothing_begins entering is_put)) tt

load_slots : (y : Slot) → Turns (analyses_of entering) 0 0 nothing (Load R 0) 0 y false
load_slots (Local l) = copied (kept_local tt)
load_slots (OnStack zero) = copied loaded
load_slots (OnStack (suc k)) = above (omega arith)

source_slots : (y : Slot) → Turns (analyses_of entering) 0 1 nothing (Call source) 1 y ((only (OnStack 1 ∷ [])).slot y)
source_slots (Local l) = copied (kept_local tt)
source_slots (OnStack zero) = copied (kept_stack (lit< tt))
source_slots (OnStack (suc zero)) = answered 1 refl refl (λ t. refl)
source_slots (OnStack (suc (suc k))) = above (omega arith)

before_append : Known entering (At 0 2 nothing (only (OnStack 1 ∷ [])))
before_append =
    step entering put1 (record { reached = refl; goes_on = refl; library = sources; slots = source_slots; dirt = refl; exc = refl }) (no_read refl)
    (step entering put0 (record { reached = refl; goes_on = refl; library = tt; slots = load_slots; dirt = refl; exc = refl }) (no_read refl)
    (by_taint entering (Context 0 nothing ∷ []) (At 0 0 nothing nothing) begins (put_context, tt)))

pub in_bags : Known entering (Stored (OfBag 2))
in_bags = by_taint entering (At 0 2 nothing (only (OnStack 1 ∷ [])) ∷ []) (Stored (OfBag 2)) (taken at_append takes refl) (before_append, tt)

-- so the second may be called with its parameter true
get_reaches : MayReach (analyses_of entering) 1 entering_get 0 (OfBag 2)
get_reaches = record { reference = refl; token = 2; inside = get_given; holds = token_holds }

get_may : (z : Slot) → (only (Local 0 ∷ [])).slot z ≡ true → MayBeTrue (analyses_of entering) get_entry entering_get (OfBag 2 ∷ []) z
get_may (Local zero) t = record {
  k = 0;
  below = lit< tt;
  is_slot = refl;
  why = inr (record { cell = OfBag 2; listed = (0, lit< tt, refl); reaches = get_reaches });
}
get_may (Local (suc l)) t = absurd (cc t)
get_may (OnStack k) t = absurd (cc t)

get_reasons : (c : Cell) → Contains (OfBag 2 ∷ []) c → IsReason (analyses_of entering) get_entry entering_get (only (Local 0 ∷ [])) c
get_reasons c l = subst (λ (x : Cell). IsReason (analyses_of entering) get_entry entering_get (only (Local 0 ∷ [])) x) (sym (only_item (OfBag 2) c l)) the_reason
  where
    the_reason : IsReason (analyses_of entering) get_entry entering_get (only (Local 0 ∷ [])) (OfBag 2)
    the_reason = record { k = 0; below = lit< tt; is_true = refl; unmarked = no_item 0; reaches = get_reaches }

get_begins : MayBegin entering (analyses_of entering) get_entry (only (Local 0 ∷ [])) (OfBag 2 ∷ [])
get_begins = record { method = entering_get; is_entry = is_get; parameters = get_may; reasons = get_reasons; once = (no_item (OfBag 2), tt); dirt = refl; exc = refl }

pub get_context : Known entering (Context 1 (only (Local 0 ∷ [])))
get_context =
    by_taint entering (Stored (OfBag 2) ∷ []) (Context 1 (only (Local 0 ∷ []))) (entry_called get_entry (OfBag 2 ∷ []) get_begins) (in_bags, tt)

-- and the third, whose position is marked
take_may : (z : Slot) → (only (Local 0 ∷ [])).slot z ≡ true → MayBeTrue (analyses_of entering) take_entry entering_take [] z
take_may (Local zero) t = record { k = 0; below = lit< tt; is_slot = refl; why = inl (0, lit< tt, refl) }
take_may (Local (suc l)) t = absurd (cc t)
take_may (OnStack k) t = absurd (cc t)

pub take_context : Known entering (Context 2 (only (Local 0 ∷ [])))
take_context = by_taint entering [] (Context 2 (only (Local 0 ∷ []))) (entry_called take_entry [] (record { method = entering_take; is_entry = is_take; parameters = take_may; reasons = λ c l. absurd (no_item c l); once = tt; dirt = refl; exc = refl })) tt

-- what the second passes to the sink is tainted
get_slots : (y : Slot) → Turns (analyses_of entering) 1 0 (only (Local 0 ∷ [])) (Load R 0) 0 y ((only (Local 0 ∷ OnStack 0 ∷ [])).slot y)
get_slots (Local l) = copied (kept_local tt)
get_slots (OnStack zero) = copied loaded
get_slots (OnStack (suc k)) = above (omega arith)

text_slots : (y : Slot) → Turns (analyses_of entering) 1 1 (only (Local 0 ∷ OnStack 0 ∷ [])) (Call to_text) 1 y ((only (Local 0 ∷ OnStack 0 ∷ [])).slot y)
text_slots (Local l) = copied (kept_local tt)
text_slots (OnStack zero) = answered 0 refl refl (λ t. refl)
text_slots (OnStack (suc k)) = above (omega arith)

before_sink : Known entering (At 1 2 (only (Local 0 ∷ [])) (only (Local 0 ∷ OnStack 0 ∷ [])))
before_sink =
    step entering get1 (record { reached = refl; goes_on = refl; library = texts; slots = text_slots; dirt = refl; exc = refl }) (no_read refl)
    (step entering get0 (record { reached = refl; goes_on = refl; library = tt; slots = get_slots; dirt = refl; exc = refl }) (no_read refl)
    (by_taint entering (Context 1 (only (Local 0 ∷ [])) ∷ []) (At 1 0 (only (Local 0 ∷ [])) (only (Local 0 ∷ []))) begins (get_context, tt)))

pub warned : IsWarned entering (Known entering) entered_site
warned = record { call = sink; under = 0; at = at_sink; a = only (Local 0 ∷ []); b = only (Local 0 ∷ OnStack 0 ∷ []); fact = before_sink; k = 0; listed = (0, lit< tt, refl); true_argument = refl }
