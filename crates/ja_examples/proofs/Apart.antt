-- What the method that unlinks a node does not change, and what its call does not affect: until the call, no node of main meets its
-- argument or the static fields; and in f nothing ever meets the static fields.
use Rattle.std.proofs.Common.{lit<, ◌≡◌, ◌≢◌, ◌⊎◌, inl, inr, ℕ, zero, suc, ◌+◌, ◌<◌, ◌≤◌, Bool, true, false, List, [], ◌∷◌, Some, refl, sym, ap, subst, ◌∙◌, arith}
use Rattle.std.specs.Prelude.{Contains, slice_get}
use Rattle.ja_base.specs.declared.id.MethodId.{MethodId}
use Rattle.ja_ir.specs.declared.class.MethodAt.TheVariants.{Program, Library}
use Rattle.ja_ir.specs.declared.method.Method.{Method}
use Rattle.ja_ir.specs.declared.method.Instr.{Instr}
use Rattle.ja_ir.specs.declared.entry.Entry.{Entry}
use Rattle.ja_ir.specs.declared.row.RowEffect.TheVariants.{Quiet}
use Rattle.ja_ir.specs.declared.op.CallOp.{CallOp}
use Rattle.ja_ir.specs.declared.op.Op.{Op}
use Rattle.ja_ir.specs.declared.op.Op.TheVariants.{Load, Store, GetStatic, PutStatic, Call}
use Rattle.ja_ir.specs.Lookup.{OpAt, Leads, instr_at, is_member}
use Rattle.ja_ir.specs.declared.row.RowEffect.{RowEffect}
use Rattle.ja_ir.specs.Operations.{arguments, is_dispatched}
use Rattle.ja_facts.specs.Least.{Each}
use Rattle.ja_facts.specs.Slots.{Slot, Local, OnStack, Copies, CallAt, kept_local, kept_stack, loaded, stored, shuffled, checked, argument}
use Rattle.ja_facts.specs.Actions.{IsRun, runs_initializer, runs_constructor, runs_entry}
use Rattle.ja_facts.specs.ClassSets.{Fact as ClassFact, Reached, InEnv, InSlot, InThrown, InParam, InResult, InOut, InField, InBag, CallsMethod, CallsAbstract, CallsLibrary, Spans, Takes, Rule as ClassRule, found_method, selects_method, by_static, by_special}
use Rattle.ja_facts.specs.ClassSets.{IsSource}
use Rattle.ja_facts.specs.Sharing.{Fact as HeapFact, PairAt, PairWithin, Effect, Root, Arg, StaticFields, Name, OfSlot, Statics, Old, Keeps, keeps_slot, keeps_statics, keeps_old, Loads, loads_field, loads_element, loads_static, Writes, writes_field, writes_element, writes_static, IsRootOf, IsReference, root_name, start_name, Rule as HeapRule, LibraryEnds, ends_normally, ends_by_exception, RaisesNew, raised_here, raised_at_abstract, entered_begins, entered_begins_old, crossing_kept, affected_answer, answer_meets, answer_meets_itself, entered_effect}
use Rattle.ja_facts.specs.Sharing.{turned, turned_within, statics_meet, statics_meet_old, run_begins, run_begins_old, kept, copied, made, object_loaded, object_loaded_meets, static_loaded, static_loaded_meets, static_loaded_shares, written, static_written, within, absorbed, library_ends, library_meets, library_argument, library_argument_meets, library_member, affected_meets, throws_new, throw_kept, library_throws, thrown, thrown_meets, written_effect, static_effect, library_effect}
use Rattle.ja_facts.specs.Formulas.{IsAffected}
use Rattle.ja_facts.proofs.LeastLaws.{Least-below}
use Rattle.ja_facts.specs.Analyses.{Classes, Heaps, analyses_of}
use Rattle.ja_examples.specs.Unlinking.{unlinking, unlinking_f, unlinking_main, unlinking_entry, unlink}
use Rattle.ja_examples.proofs.Listed.{AllFrom, all_at, only_item, no_item}
use Rattle.ja_ir.specs.Params.{IsReferenceParam, param_local}
use Rattle.ja_facts.specs.Crossings.{Enters, by_call, by_initializer, Crossing, Crosses, call_returns, call_throws, initializer_returns, IsHandled}
use Rattle.ja_ir.specs.Initializing.{inits_of_class}
use Rattle.ja_examples.proofs.Initless.{no_init, no_initializer}

-- ---- the instructions

-- in f nothing reads or sets a static field, and calls are quiet and go to the library
abbrev InF : ℕ → Op → Type 0
InF i (GetStatic f) = ⊥
InF i (PutStatic f) = ⊥
InF i (Call call) = (call.row.effect ≡ Quiet) × (is_dispatched call.kind ≡ false) × (call.found ≡ Some Library)
InF i _ = Unit {0}

-- nor in main, where instruction 8 alone calls f, and local 0 is not used
abbrev InMain : ℕ → Op → Type 0
InMain i (GetStatic f) = ⊥
InMain i (PutStatic f) = ⊥
InMain i (Load kind l) = l ≢ 0
InMain i (Store kind l) = l ≢ 0
InMain i (Call call) = (call.row.effect ≡ Quiet) × (is_dispatched call.kind ≡ false) × (((i ≢ 8) × (call.found ≡ Some Library)) ⊎ ((i ≡ 8) × (call ≡ unlink)))
InMain i _ = Unit {0}

-- the same by the method's number
abbrev Ok : ℕ → ℕ → Op → Type 0
Ok zero i op = InF i op
Ok (suc zero) i op = InMain i op
Ok (suc (suc m)) i op = ⊥

-- each instruction of main leads to the one after it, if to any
abbrev GoesOn : ℕ → List ℕ → Type 0
GoesOn i next = (next ≡ []) ⊎ (next ≡ suc i ∷ [])

abbrev OfF : ℕ → Instr → Type 0
OfF i x = InF i x.op

abbrev OfMain : ℕ → Instr → Type 0
OfMain i x = InMain i x.op × GoesOn i x.next

all_f : AllFrom OfF 0 unlinking_f.code
all_f = (tt, (tt, (tt, (tt, ((refl, refl, refl), (tt, (tt, (tt, (tt, (tt, tt))))))))))

not_first : (l : ℕ) → suc l ≢ 0
not_first l e = absurd (omega (arith, e))

all_main : AllFrom OfMain 0 unlinking_main.code
all_main = (
  (tt, inr refl),
  (
    (not_first 0, inr refl),
    (
      (tt, inr refl),
      (
        (not_first 1, inr refl),
        (
          (not_first 0, inr refl),
          (
            (not_first 1, inr refl),
            (
              (tt, inr refl),
              (
                (not_first 0, inr refl),
                (((refl, refl, inr (refl, refl)), inr refl), ((not_first 1, inr refl), ((tt, inr refl), (((refl, refl, inl (λ e. absurd (omega (arith, e)), refl)), inr refl), ((tt, inl refl), tt))))),
              ),
            ),
          ),
        ),
      ),
    ),
  ),
)

main_at : (i : ℕ) (x : Instr) → instr_at unlinking 1 i ≡ Some x → OfMain i x
main_at i x e = all_at OfMain unlinking_main.code all_main i x e

ok_at : (m : ℕ) {i height : ℕ} {op : Op} → OpAt unlinking m i op height → Ok m i op
ok_at zero {i = i} o = subst (λ (z : Op). InF i z) o.is_op (all_at OfF unlinking_f.code all_f i o.instr o.found)
ok_at (suc zero) {i = i} o = subst (λ (z : Op). InMain i z) o.is_op (main_at i o.instr o.found).0
ok_at (suc (suc m)) o = absurd (cc o.found)

leads_next : (i j : ℕ) → Leads unlinking 1 i j → j ≡ suc i
leads_next i j l =
    elim (main_at i l.instr l.found).1 [
      | inl none ↦ absurd (no_item j (subst (λ (next : List ℕ). Contains next j) none l.listed))
      | inr one ↦ only_item (suc i) j (subst (λ (next : List ℕ). Contains next j) one l.listed)
    ]

no_handler : (m i j : ℕ) → IsHandled unlinking m i j → ⊥
no_handler zero i j h = let same : unlinking_f ≡ h.method = cc h.found in no_item h.handler (subst (λ (method : Method). Contains method.handlers h.handler) (sym same) h.listed)
no_handler (suc zero) i j h = let same : unlinking_main ≡ h.method = cc h.found in no_item h.handler (subst (λ (method : Method). Contains method.handlers h.handler) (sym same) h.listed)
no_handler (suc (suc m)) i j h = absurd (cc h.found)

-- ---- the calls

-- a call is quiet, does not choose by its receiver, and goes to the library or is the one of f
abbrev IsQuiet : ℕ → ℕ → CallOp → Type 0
IsQuiet m i call = (call.row.effect ≡ Quiet) × (is_dispatched call.kind ≡ false) × (((call.found ≡ Some Library) × ((m ≡ 1) × (i ≡ 8) → ⊥)) ⊎ ((m ≡ 1) × (i ≡ 8) × (call ≡ unlink)))

call_at : (m : ℕ) {i under : ℕ} {call : CallOp} → CallAt unlinking m i call under → IsQuiet m i call
call_at zero {i = i} {call = call} at = let ok : InF i (Call call) = ok_at zero at.at in (ok.0, ok.1, inl (ok.2, λ both. absurd (omega (arith, both.0))))
call_at (suc zero) {i = i} {call = call} at =
    let ok : InMain i (Call call) = ok_at (suc zero) at.at in
    (ok.0, ok.1, elim ok.2 [ inl far ↦ inl (far.1, λ both. far.0 both.1) | inr here ↦ inr (refl, here.0, here.1) ])
call_at (suc (suc m)) at = absurd (ok_at (suc (suc m)) at.at)

-- only instruction 8 of main goes to a method
abbrev CallsOnly : ClassFact → Type 0
CallsOnly (CallsMethod m i n) = (m ≡ 1) × (i ≡ 8) × (n ≡ 0)
CallsOnly _ = Unit {0}

abbrev number_id : ℕ → MethodId
number_id n = record { 0 = n }

finds_f : (m i n : ℕ) (call : CallOp) → IsQuiet m i call → call.found ≡ Some (Program (record { 0 = n })) → (m ≡ 1) × (i ≡ 8) × (n ≡ 0)
finds_f m i n call quiet e =
    elim quiet.2 [
      | inl far ↦ absurd (let both : Some Library ≡ Some (Program (record { 0 = n })) = sym far.0 ∙ e in cc both)
      | inr here ↦ (here.0, here.1, number n (sym (ap (λ (c : CallOp). c.found) here.2) ∙ e))
    ]
  where
    number : (n : ℕ) → unlink.found ≡ Some (Program (record { 0 = n })) → n ≡ 0
    number n same =
        let target : Some (Program (record { 0 = n })) ≡ Some (Program (record { 0 = 0 })) = sym same in
        let inner : Program (record { 0 = n }) ≡ Program (record { 0 = 0 }) = cc target in
        let id : number_id n ≡ number_id 0 = cc inner in
        ap (λ (it : MethodId). it.0) id

quiet_kind : (m i : ℕ) (call : CallOp) → IsQuiet m i call → is_dispatched call.kind ≡ false
quiet_kind m i call quiet = quiet.1

calls_f : {ps : List ClassFact} {m i n : ℕ} → ClassRule unlinking ps (CallsMethod m i n) → (m ≡ 1) × (i ≡ 8) × (n ≡ 0)
calls_f {m = m} {i = i} {n = n} (found_method {call = call} method at (by_static k e) found can) = finds_f m i n call (call_at m at) e
calls_f {m = m} {i = i} {n = n} (found_method {call = call} method at (by_special k e) found can) = finds_f m i n call (call_at m at) e
calls_f {m = m} {i = i} (selects_method {call = call} at dispatched d) = absurd (cc (quiet_kind m i call (call_at m at), dispatched))

calls_solve : (ps : List ClassFact) (f : ClassFact) → ClassRule unlinking ps f → Each CallsOnly ps → CallsOnly f
calls_solve ps (Reached m i) rule each = tt
calls_solve ps (InEnv t) rule each = tt
calls_solve ps (InSlot m i z t) rule each = tt
calls_solve ps (InThrown m i t) rule each = tt
calls_solve ps (InParam m k t) rule each = tt
calls_solve ps (InResult m t) rule each = tt
calls_solve ps (InOut m t) rule each = tt
calls_solve ps (InField f t) rule each = tt
calls_solve ps (InBag b t) rule each = tt
calls_solve ps (CallsMethod m i n) rule each = calls_f rule
calls_solve ps (CallsAbstract m i n) rule each = tt
calls_solve ps (CallsLibrary m i) rule each = tt
calls_solve ps (Spans t u) rule each = tt
calls_solve ps (Takes m i b) rule each = tt

goes_to_f : (m i n : ℕ) → Classes unlinking (CallsMethod m i n) → (m ≡ 1) × (i ≡ 8) × (n ≡ 0)
goes_to_f m i n x = Least-below (ClassRule unlinking) CallsOnly calls_solve (CallsMethod m i n) x

-- ---- the sides

-- in main the argument and the static fields stand on one side, the nodes on the other
abbrev main_side : Slot → Bool
main_side (Local zero) = true
main_side (Local (suc l)) = false
main_side (OnStack k) = false

-- in f the static fields, and what they reached, stand on one side
abbrev side : ℕ → Name → Bool
side zero (OfSlot z) = false
side zero Statics = true
side zero (Old (Arg k)) = false
side zero (Old StaticFields) = true
side (suc m) (OfSlot z) = main_side z
side (suc m) Statics = true
side (suc m) (Old r) = true

-- f has one parameter
abbrev IsFine : ℕ → Name → Type 0
IsFine zero (OfSlot z) = Unit {0}
IsFine zero Statics = Unit {0}
IsFine zero (Old (Arg k)) = k ≡ 0
IsFine zero (Old StaticFields) = Unit {0}
IsFine (suc m) a = Unit {0}

-- a place in f, or in main up to the call
abbrev IsEarly : ℕ → ℕ → Type 0
IsEarly zero i = Unit {0}
IsEarly (suc m) i = i ≤ 8

record Apart (m i : ℕ) (a b : Name) : Type 0 where
  first : IsFine m a
  second : IsFine m b
  sides : IsEarly m i → side m a ≡ side m b

abbrev Holds : HeapFact → Type 0
Holds (PairAt m i a b) = Apart m i a b
Holds (PairWithin m i a b) = Apart m i a b
Holds (Effect zero r) = r ≡ Arg 0
Holds (Effect (suc m) r) = Unit {0}

fine_slot : (m : ℕ) (z : Slot) → IsFine m (OfSlot z)
fine_slot zero z = tt
fine_slot (suc m) z = tt

fine_statics : (m : ℕ) → IsFine m Statics
fine_statics zero = tt
fine_statics (suc m) = tt

fine_fields : (m : ℕ) → IsFine m (Old StaticFields)
fine_fields zero = tt
fine_fields (suc m) = tt

fine_main : (m : ℕ) (a : Name) → m ≡ 1 → IsFine m a
fine_main zero a e = absurd (omega (arith, e))
fine_main (suc m) a e = tt

fine_kept : (m : ℕ) {op : Op} {height : ℕ} {a c : Name} → Keeps op height a c → IsFine m a → IsFine m c
fine_kept m (keeps_slot {y = y} copies) fine = fine_slot m y
fine_kept m keeps_statics fine = fine
fine_kept m keeps_old fine = fine

statics_side : (m : ℕ) → side m Statics ≡ side m (Old StaticFields)
statics_side zero = refl
statics_side (suc m) = refl

stack_side : (m k : ℕ) → side m (OfSlot (OnStack k)) ≡ false
stack_side zero k = refl
stack_side (suc m) k = refl

-- a local that main uses is a node
local_side : (l : ℕ) → l ≢ 0 → main_side (Local l) ≡ false
local_side zero other = absurd (other refl)
local_side (suc l) other = refl

main_copies : (i : ℕ) {op : Op} {height : ℕ} {z y : Slot} → InMain i op → Copies op height z y → main_side z ≡ main_side y
main_copies i ok (kept_local k) = refl
main_copies i ok (kept_stack k) = refl
main_copies i ok (loaded {l = l}) = local_side l ok
main_copies i ok (stored {l = l} h) = sym (local_side l ok)
main_copies i ok (shuffled under j k h g) = refl
main_copies i ok (checked h) = refl

slot_side : (m i : ℕ) {op : Op} {height : ℕ} {z y : Slot} → Ok m i op → Copies op height z y → side m (OfSlot z) ≡ side m (OfSlot y)
slot_side zero i ok copies = refl
slot_side (suc zero) i ok copies = main_copies i ok copies
slot_side (suc (suc m)) i ok copies = absurd ok

kept_side : (m i : ℕ) {op : Op} {height : ℕ} {a c : Name} → Ok m i op → Keeps op height a c → side m a ≡ side m c
kept_side m i ok (keeps_slot copies) = slot_side m i ok copies
kept_side m i ok keeps_statics = refl
kept_side m i ok keeps_old = refl

early_before : (m i j : ℕ) → Leads unlinking m i j → IsEarly m j → IsEarly m i
early_before zero i j l early = tt
early_before (suc zero) i j l early = let e : j ≡ suc i = leads_next i j l in omega (arith, e, early)
early_before (suc (suc m)) i j l early = absurd (cc l.found)

-- a pair that goes on as it is
move : (m i j : ℕ) {op : Op} {height : ℕ} {a b c d : Name} → Ok m i op → Leads unlinking m i j → Keeps op height a c → Keeps op height b d → Apart m i a b → Apart m j c d
move m i j ok l k h x = record {
  first = fine_kept m k x.first;
  second = fine_kept m h x.second;
  sides = λ early. sym (kept_side m i ok k) ∙ x.sides (early_before m i j l early) ∙ kept_side m i ok h;
}

-- a new name in place of one of the same side
instead : (m i j : ℕ) {op : Op} {height : ℕ} {b d : Name} (x r : Slot) → side m (OfSlot x) ≡ side m (OfSlot r) → Ok m i op → Leads unlinking m i j → Keeps op height b d
    → Apart m i (OfSlot x) b → Apart m j (OfSlot r) d
instead m i j x r same ok l h pair = record {
  first = fine_slot m r;
  second = fine_kept m h pair.second;
  sides = λ early. sym same ∙ pair.sides (early_before m i j l early) ∙ kept_side m i ok h;
}

both : (m i : ℕ) (r : Slot) → Apart m i (OfSlot r) (OfSlot r)
both m i r = record { first = fine_slot m r; second = fine_slot m r; sides = λ early. refl }

takes_side : (m : ℕ) {op : Op} {height : ℕ} {x r : Slot} → Loads op height x r → side m (OfSlot x) ≡ side m (OfSlot r)
takes_side m (loads_field h) = refl
takes_side m (loads_element h) = refl

writes_side : (m : ℕ) {op : Op} {height : ℕ} {x v : Slot} → Writes op height x v → side m (OfSlot x) ≡ side m (OfSlot v)
writes_side m (writes_field {k = k} h) = stack_side m k ∙ sym (stack_side m (suc k))
writes_side m (writes_element {k = k} h) = stack_side m k ∙ sym (stack_side m (suc (suc k)))

-- the arguments stand on the side of a result
answer_side : (m k under : ℕ) → side m (OfSlot (argument under k)) ≡ side m (OfSlot (OnStack under))
answer_side m k under = stack_side m (under + k) ∙ sym (stack_side m under)

-- a library call leads on to the next instruction with the pairs that it has then
ends_next : (m i j : ℕ) {left : ℕ} → LibraryEnds unlinking (Classes unlinking) m i j left → Leads unlinking m i j
ends_next m i j (ends_normally library l) = l
ends_next m i j (ends_by_exception library handled) = absurd (no_handler m i j handled)

-- a pair that stays
stayed : (m i j : ℕ) {left : ℕ} {a b : Name} → LibraryEnds unlinking (Classes unlinking) m i j left → Apart m i a b → Apart m j a b
stayed m i j ends x = record { first = x.first; second = x.second; sides = λ early. x.sides (early_before m i j (ends_next m i j ends) early) }

-- a result in place of an argument
answered : (m i j under k : ℕ) {b : Name} → Leads unlinking m i j → Apart m i (OfSlot (argument under k)) b → Apart m j (OfSlot (OnStack under)) b
answered m i j under k l x = record {
  first = fine_slot m (OnStack under);
  second = x.second;
  sides = λ early. sym (answer_side m k under) ∙ x.sides (early_before m i j l early);
}

-- no class has a class initialiser
no_inits : (c : ℕ) → inits_of_class (slice_get unlinking.classes c) ≡ []
no_inits zero = refl
no_inits (suc c) = refl

-- main's call of f alone enters a method, and it comes back behind it
enters_f : (m i n : ℕ) {count under : ℕ} → Enters unlinking (Classes unlinking) m i n count under → (m ≡ 1) × (i ≡ 8) × (n ≡ 0)
enters_f m i n (by_call reached calls at) = goes_to_f m i n calls
enters_f m i n (by_initializer reached init o) = absurd (no_init unlinking no_inits init)

crosses_f : (m i n : ℕ) {x : Crossing} → Crosses unlinking (Classes unlinking) m i n x → (m ≡ 1) × (i ≡ 8) × Leads unlinking m i x.back
crosses_f m i n (call_returns reached calls at l) = ((goes_to_f m i n calls).0, (goes_to_f m i n calls).1, l)
crosses_f m i n (call_throws {j = j} reached calls at handled) = absurd (no_handler m i j handled)
crosses_f m i n (initializer_returns reached init o) = absurd (no_init unlinking no_inits init)

-- after the call anything may be
late : (m i n : ℕ) (x : Crossing) (a b : Name) → Crosses unlinking (Classes unlinking) m i n x → Apart m x.back a b
late m i n x a b crosses = record {
  first = fine_main m a (crosses_f m i n crosses).0;
  second = fine_main m b (crosses_f m i n crosses).0;
  sides = λ early. absurd (no_early m x.back (crosses_f m i n crosses).0 (crosses_f m i n crosses).1 (crosses_f m i n crosses).2 early);
}
  where
    no_early : (m j : ℕ) → m ≡ 1 → i ≡ 8 → Leads unlinking m i j → IsEarly m j → ⊥
    no_early zero j is at l early = omega (arith, is)
    no_early (suc zero) j is at l early = let e : j ≡ suc i = leads_next i j l in omega (arith, e, at, early)
    no_early (suc (suc m)) j is at l early = omega (arith, is)

no_get : (m i : ℕ) {f height : ℕ} → OpAt unlinking m i (GetStatic (record { 0 = f })) height → ⊥
no_get zero i o = ok_at zero o
no_get (suc zero) i o = ok_at (suc zero) o
no_get (suc (suc m)) i o = ok_at (suc (suc m)) o

no_set : (m i : ℕ) {f height : ℕ} → OpAt unlinking m i (PutStatic (record { 0 = f })) height → ⊥
no_set zero i o = ok_at zero o
no_set (suc zero) i o = ok_at (suc zero) o
no_set (suc (suc m)) i o = ok_at (suc (suc m)) o

no_source : (m x : ℕ) {i under : ℕ} {call : CallOp} → CallAt unlinking m i call under → IsSource call x call.row.effect → ⊥
no_source m x {call = call} at source = subst (λ (effect : RowEffect). IsSource call x effect) (call_at m at).0 source

-- ---- where methods begin

-- the static fields, or an argument
abbrev root_side : Root → Bool
root_side (Arg k) = false
root_side StaticFields = true

called_root : (m under : ℕ) (r : Root) → m ≡ 1 → side m (root_name under r) ≡ root_side r
called_root zero under r e = absurd (omega (arith, e))
called_root (suc m) under (Arg k) e = refl
called_root (suc m) under StaticFields e = refl

begun_root : (n : ℕ) (method : Method) (r : Root) → n ≡ 0 → side n (start_name method r) ≡ root_side r
begun_root zero method (Arg k) e = refl
begun_root zero method StaticFields e = refl
begun_root (suc n) method r e = absurd (omega (arith, e))

begun_old : (n : ℕ) (r : Root) → n ≡ 0 → side n (Old r) ≡ root_side r
begun_old zero (Arg k) e = refl
begun_old zero StaticFields e = refl
begun_old (suc n) r e = absurd (omega (arith, e))

fine_start : (n : ℕ) (method : Method) (r : Root) → IsFine n (start_name method r)
fine_start n method (Arg k) = fine_slot n (Local (param_local method k))
fine_start n method StaticFields = fine_statics n

-- the pair of two roots at a call of f says that they stand on one side
called_sides : (m i under : ℕ) (s r : Root) → m ≡ 1 → i ≡ 8 → Apart m i (root_name under s) (root_name under r) → root_side s ≡ root_side r
called_sides m i under s r is at pair = sym (called_root m under s is) ∙ pair.sides (early m at) ∙ called_root m under r is
  where
    early : (m : ℕ) → i ≡ 8 → IsEarly m i
    early zero e = tt
    early (suc m) e = omega (arith, e)

-- f has one argument
one_argument : (m i n : ℕ) {under k : ℕ} {call : CallOp} → CallAt unlinking m i call under → Classes unlinking (CallsMethod m i n) → k < arguments call → k ≡ 0
one_argument m i n {k = k} {call = call} at calls below =
    elim (call_at m at).2 [
      | inl far ↦ absurd (far.1 ((goes_to_f m i n calls).0, (goes_to_f m i n calls).1))
      | inr here ↦ (let one : k < arguments unlink = subst (λ (c : CallOp). k < arguments c) here.2 below in omega (arith, one))
    ]

entered_argument : (m i n : ℕ) {count under k : ℕ} → Enters unlinking (Classes unlinking) m i n count under → k < count → k ≡ 0
entered_argument m i n (by_call reached calls at) below = one_argument m i n at calls below
entered_argument m i n (by_initializer reached init o) below = absurd (no_init unlinking no_inits init)

fine_old : (m i n : ℕ) {count under : ℕ} (r : Root) → Enters unlinking (Classes unlinking) m i n count under → IsRootOf count r → IsFine n (Old r)
fine_old m i n (Arg k) enters below = fine n (enters_f m i n enters).2 (entered_argument m i n enters below)
  where
    fine : (n : ℕ) → n ≡ 0 → k ≡ 0 → IsFine n (Old (Arg k))
    fine zero e f = f
    fine (suc n) e f = tt
fine_old m i n StaticFields enters below = fine_fields n

-- the environment runs main alone
the_entry : (entry : Entry) → Contains unlinking.entries entry → unlinking_entry ≡ entry
the_entry entry (zero, below, e) = e
the_entry entry (suc k, below, e) = absurd (omega (arith, below))

is_run : (m : ℕ) → IsRun unlinking m → m ≡ 1
is_run m (runs_initializer x) = absurd (no_initializer unlinking no_inits x)
is_run m (runs_constructor entry objects cons) =
    let found : Some unlinking_main ≡ Some objects.method = subst (λ (e : Entry). slice_get unlinking.methods e.method.0 ≡ Some objects.method) (sym (the_entry entry objects.is_entry.listed)) objects.is_entry.found in
    let same : unlinking_main ≡ objects.method = cc found in
    absurd (cc (subst (λ (method : Method). is_member method.flags ≡ true) (sym same) objects.member))
is_run m (runs_entry entry method x e) = e ∙ sym (ap (λ (it : Entry). it.method.0) (the_entry entry x.listed))

run_root : (m : ℕ) (method : Method) (r : Root) → m ≡ 1 → slice_get unlinking.methods m ≡ Some method → IsReference method r → side m (start_name method r) ≡ true
run_root zero method r e found is = absurd (omega (arith, e))
run_root (suc zero) method (Arg k) e found is =
    let same : unlinking_main ≡ method = cc found in
    subst (λ (it : Method). main_side (Local (param_local it k)) ≡ true) same (first k (subst (λ (it : Method). IsReferenceParam it k) (sym same) is))
  where
    first : (k : ℕ) → IsReferenceParam unlinking_main k → main_side (Local (param_local unlinking_main k)) ≡ true
    first zero is = refl
    first (suc k) is = absurd (cc is)
run_root (suc zero) method StaticFields e found is = refl
run_root (suc (suc m)) method r e found is = absurd (omega (arith, e))

run_old : (m : ℕ) (r : Root) → m ≡ 1 → side m (Old r) ≡ true
run_old zero r e = absurd (omega (arith, e))
run_old (suc m) r e = refl

-- ---- every rule keeps the sides apart

swapped : (m i : ℕ) (a b : Name) → Apart m i a b → Apart m i b a
swapped m i a b x = record { first = x.second; second = x.first; sides = λ early. sym (x.sides early) }

-- a write through an object puts a name of its side beside what meets the value
joined : (m i j : ℕ) {op : Op} {height : ℕ} {x v : Slot} {a b c d : Name} → Ok m i op → Leads unlinking m i j → side m (OfSlot x) ≡ side m (OfSlot v) → Keeps op height a c → Keeps op height b d
    → Apart m i a (OfSlot x) → Apart m i (OfSlot v) b → Apart m j c d
joined m i j ok l same k h through value = record {
  first = fine_kept m k through.first;
  second = fine_kept m h value.second;
  sides = λ early.
      sym (kept_side m i ok k) ∙ through.sides (early_before m i j l early) ∙ same ∙ value.sides (early_before m i j l early) ∙ kept_side m i ok h;
}

written_root : (m i : ℕ) (x : Slot) (r : Root) → Apart m i (OfSlot x) (Old r) → Holds (Effect m r)
written_root zero i x (Arg k) pair = ap Arg pair.second
written_root zero i x StaticFields pair = absurd (cc (pair.sides tt))
written_root (suc m) i x r pair = tt

called_effect : (m : ℕ) (r : Root) → m ≡ 1 → Holds (Effect m r)
called_effect zero r e = absurd (omega (arith, e))
called_effect (suc m) r e = tt

no_raise : (m i j : ℕ) → RaisesNew unlinking (Classes unlinking) m i j → ⊥
no_raise m i j (raised_here o reached new handled) = no_handler m i j handled
no_raise m i j (raised_at_abstract at reached calls handled) = no_handler m i j handled

pairs_solve : (ps : List HeapFact) (f : HeapFact) → HeapRule unlinking (Classes unlinking) ps f → Each Holds ps → Holds f
pairs_solve _ _ (turned {m = m} {i = i} {a = a} {b = b}) each = swapped m i a b each.0
pairs_solve _ _ (turned_within {m = m} {i = i} {a = a} {b = b}) each = swapped m i a b each.0
pairs_solve _ _ (statics_meet {m = m} instr found) each = record { first = fine_statics m; second = fine_statics m; sides = λ early. refl }
pairs_solve _ _ (statics_meet_old {m = m} instr found) each = record { first = fine_statics m; second = fine_fields m; sides = λ early. statics_side m }
pairs_solve _ _ (run_begins {m = m} method s r run begins is_s is_r) each = record {
  first = fine_start m method s;
  second = fine_start m method r;
  sides = λ early. run_root m method s (is_run m run) begins is_s ∙ sym (run_root m method r (is_run m run) begins is_r);
}
pairs_solve _ _ (run_begins_old {m = m} method s r run begins is_s is_r) each = record {
  first = fine_start m method s;
  second = fine_main m (Old r) (is_run m run);
  sides = λ early. run_root m method s (is_run m run) begins is_s ∙ sym (run_old m r (is_run m run));
}
pairs_solve _ _ (entered_begins {m = m} {i = i} {n = n} {under = under} method s r enters begins is_s is_r) each =
    let at : (m ≡ 1) × (i ≡ 8) × (n ≡ 0) = enters_f m i n enters in
    record {
      first = fine_start n method s;
      second = fine_start n method r;
      sides = λ early. begun_root n method s at.2 ∙ called_sides m i under s r at.0 at.1 each.0 ∙ sym (begun_root n method r at.2);
    }
pairs_solve _ _ (entered_begins_old {m = m} {i = i} {n = n} {under = under} method s r enters begins is_s is_r) each =
    let at : (m ≡ 1) × (i ≡ 8) × (n ≡ 0) = enters_f m i n enters in
    record {
      first = fine_start n method s;
      second = fine_old m i n r enters is_r;
      sides = λ early. begun_root n method s at.2 ∙ called_sides m i under s r at.0 at.1 each.0 ∙ sym (begun_old n r at.2);
    }
pairs_solve _ _ (kept {m = m} {i = i} {j = j} step plain k h) each = move m i j (ok_at m step.at) step.leads k h each.0
pairs_solve _ _ (copied {m = m} {i = i} {x = x} {y = y} step plain k h other) each = record {
  first = fine_slot m x;
  second = fine_slot m y;
  sides = λ early. sym (slot_side m i (ok_at m step.at) k) ∙ slot_side m i (ok_at m step.at) h;
}
pairs_solve _ _ (made {m = m} {j = j} {r = r} step makes) each = both m j r
pairs_solve _ _ (object_loaded {m = m} {i = i} {j = j} {x = x} {r = r} step takes h) each = instead m i j x r (takes_side m takes) (ok_at m step.at) step.leads h each.0
pairs_solve _ _ (object_loaded_meets {m = m} {j = j} {r = r} step takes) each = both m j r
pairs_solve _ _ (static_loaded {m = m} {i = i} step loads_static h) each = absurd (no_get m i step.at)
pairs_solve _ _ (static_loaded_meets {m = m} {i = i} step loads_static) each = absurd (no_get m i step.at)
pairs_solve _ _ (static_loaded_shares {m = m} {i = i} step loads_static) each = absurd (no_get m i step.at)
pairs_solve _ _ (written {m = m} {i = i} {j = j} step writes live k h) each = joined m i j (ok_at m step.at) step.leads (writes_side m writes) k h each.0 each.1.0
pairs_solve _ _ (static_written {m = m} {i = i} step (writes_static e) h) each = absurd (no_set m i step.at)
pairs_solve _ _ (within library) each = each.0
pairs_solve _ _ (absorbed {m = m} x v library source below live) each = absurd (no_source m x library.at source)
pairs_solve _ _ (library_ends {m = m} {i = i} {j = j} ends k h) each = stayed m i j ends each.0
pairs_solve _ _ (library_throws {m = m} {i = i} {j = j} library handled) each = absurd (no_handler m i j handled)
pairs_solve _ _ (library_meets {m = m} {j = j} {under = under} answer itself) each = both m j (OnStack under)
pairs_solve _ _ (library_argument {m = m} {i = i} {j = j} {under = under} answer is some h) each = answered m i j under 0 answer.leads each.0
pairs_solve _ _ (library_argument_meets {m = m} {j = j} {under = under} answer is some) each = both m j (OnStack under)
pairs_solve _ _ (library_member {m = m} {i = i} {j = j} {under = under} k answer from h) each = answered m i j under k answer.leads each.0
pairs_solve _ _ (crossing_kept {m = m} {i = i} {n = n} {a = a} {b = b} x crosses k h) each = late m i n x a b crosses
pairs_solve _ _ (affected_meets {m = m} {i = i} {n = n} {a = a} {b = b} x s r crosses is_s is_r live k h) each = late m i n x a b crosses
pairs_solve _ _ (affected_answer {m = m} {i = i} {n = n} {a = a} x s crosses is_s answers live k) each = late m i n x a (OfSlot (OnStack x.left)) crosses
pairs_solve _ _ (answer_meets {m = m} {i = i} {n = n} {b = b} x r crosses is_r answers h) each = late m i n x (OfSlot (OnStack x.left)) b crosses
pairs_solve _ _ (answer_meets_itself {m = m} {i = i} {n = n} x crosses answers) each = late m i n x (OfSlot (OnStack x.left)) (OfSlot (OnStack x.left)) crosses
pairs_solve _ _ (throws_new {m = m} {i = i} {j = j} raises) each = absurd (no_raise m i j raises)
pairs_solve _ _ (throw_kept {m = m} {i = i} {j = j} raises k h) each = absurd (no_raise m i j raises)
pairs_solve _ _ (thrown {m = m} {i = i} {j = j} throws h) each = absurd (no_handler m i j throws.handled)
pairs_solve _ _ (thrown_meets {m = m} {i = i} {j = j} throws) each = absurd (no_handler m i j throws.handled)
pairs_solve _ _ (written_effect {m = m} {i = i} {x = x} {r = r} o reached writes) each = written_root m i x r each.0
pairs_solve _ _ (static_effect {m = m} {i = i} o reached (writes_static e)) each = absurd (no_set m i o)
pairs_solve _ _ (library_effect {m = m} x library source) each = absurd (no_source m x library.at source)
pairs_solve _ _ (entered_effect {m = m} {i = i} {n = n} {r = r} s enters is_s) each = called_effect m r (enters_f m i n enters).0

holds : (f : HeapFact) → Heaps unlinking f → Holds f
holds f x = Least-below (HeapRule unlinking (Classes unlinking)) Holds pairs_solve f x

-- f changes what its argument reached, and nothing else that it was given
pub only_argument : (r : Root) → Heaps unlinking (Effect 0 r) → r ≡ Arg 0
only_argument r x = holds (Effect 0 r) x

-- main's argument is not affected by the call
pub not_affected : IsAffected (analyses_of unlinking) 1 8 0 1 0 (Local 0) → ⊥
not_affected x =
    let pair : Apart 1 8 (OfSlot (Local 0)) (root_name 0 x.root) = holds (PairAt 1 8 (OfSlot (Local 0)) (root_name 0 x.root)) x.pair in
    let same : Apart 1 8 (OfSlot (Local 0)) (root_name 0 (Arg 0)) = subst (λ (r : Root). Apart 1 8 (OfSlot (Local 0)) (root_name 0 r)) (only_argument x.root x.effect) pair in
    absurd (cc (same.sides (lit< tt)))
