-- The class initialiser that nothing names is not reached, and what it would store is not read: the sink call is clean.
use Rattle.std.proofs.Common.{◌≡◌, ℕ, zero, suc, true, false, List, [], ◌∷◌, Some, refl, sym, ap, subst, ◌∙◌, arith}
use Rattle.std.specs.Prelude.{Contains, slice_get}
use Rattle.ja_base.specs.declared.id.MethodId.{MethodId}
use Rattle.ja_ir.specs.declared.method.Method.{Method}
use Rattle.ja_ir.specs.declared.method.Instr.{Instr}
use Rattle.ja_ir.specs.declared.entry.Entry.{Entry}
use Rattle.ja_ir.specs.declared.op.CallOp.{CallOp}
use Rattle.ja_ir.specs.declared.op.Op.{Op}
use Rattle.ja_ir.specs.declared.op.Op.TheVariants.{GetStatic, PutStatic, PutField, ArrStore, Call}
use Rattle.ja_ir.specs.Lookup.{OpAt, Leads, instr_at, is_member}
use Rattle.ja_ir.specs.Handlers.{Inside, dest}
use Rattle.ja_ir.specs.Initializing.{InitAt, inits_of, inits_of_class}
use Rattle.ja_ir.specs.Examples.{at}
use Rattle.ja_facts.specs.Least.{Each}
use Rattle.ja_facts.specs.Slots.{Slot, OnStack}
use Rattle.ja_facts.specs.Actions.{IsInitializer, HasObjects}
use Rattle.ja_facts.specs.ClassSets.{Fact as ClassFact, Reached, InEnv, InSlot, InThrown, InParam, InResult, InOut, InField, InBag, CallsMethod, CallsAbstract, CallsLibrary, Spans, Takes, Rule as ClassRule, initializer_runs, constructor_runs, entry_runs, next_reached, initializes, handler_reached, callee_reached}
use Rattle.ja_facts.specs.Held.{Cell}
use Rattle.ja_facts.specs.Analyses.{Classes, analyses_of}
use Rattle.ja_facts.specs.Equations.{Fact, Context, At, Normal, Threw, Stored, Rule, Reads, reads_static, Stores, stores_field, stores_static, stores_reference, stores_word, stores_pair, initializer_called, constructor_called, entry_called, called, initialized, begins, steps, reads_stored_field, call_resumes, initializer_resumes, caught, callee_caught, leaves, callee_leaves, method_returns, method_ends, stored, taken, IsWarned}
use Rattle.ja_facts.proofs.LeastLaws.{Least-below}
use Rattle.ja_examples.specs.Library.{sink}
use Rattle.ja_examples.specs.Initializing.{resting, plain_main, filling, main_entry, main_site}
use Rattle.ja_examples.proofs.Clean.{outside, lowest_argument}
use Rattle.ja_examples.proofs.Deriving.{Known}
use Rattle.ja_examples.proofs.Listed.{AllFrom, all_at, no_item, next_of}
use Rattle.ja_examples.proofs.Quiet.{IsQuiet, no_callee, calls_none, takes_none}

-- ---- the instructions

-- calls are quiet, and nothing is stored
abbrev pub IsStoreless : Op → Type 0
IsStoreless (Call call) = IsQuiet call
IsStoreless (PutStatic f) = ⊥
IsStoreless (PutField f) = ⊥
IsStoreless (ArrStore kind) = ⊥
IsStoreless _ = Unit {0}

abbrev IsCallQuiet : Op → Type 0
IsCallQuiet (Call call) = IsQuiet call
IsCallQuiet _ = Unit {0}

-- of main: no class is initialised, and each instruction leads to the one after it, if to any
record OfMain (i : ℕ) (x : Instr) : Type 0 where
  op : IsStoreless x.op
  inits : inits_of resting x.op ≡ []
  on : (j : ℕ) → Contains x.next j → j ≡ suc i

-- of the class initialiser
record OfInit (i : ℕ) (x : Instr) : Type 0 where
  op : IsCallQuiet x.op
  inits : inits_of resting x.op ≡ []

all_main : AllFrom OfMain 0 plain_main.code
all_main = (
  record { op = tt; inits = refl; on = next_of 0 (1 ∷ []) refl },
  (record { op = (refl, refl, refl); inits = refl; on = next_of 1 (2 ∷ []) refl }, (record { op = tt; inits = refl; on = λ j c. absurd (no_item j c) }, tt)),
)

all_init : AllFrom OfInit 0 filling.code
all_init = (record { op = (refl, refl, refl); inits = refl }, (record { op = tt; inits = refl }, (record { op = tt; inits = refl }, tt)))

quiet : (m i height : ℕ) (call : CallOp) → OpAt resting m i (Call call) height → IsQuiet call
quiet zero i height call o = let it : OfMain i o.instr = all_at OfMain plain_main.code all_main i o.instr o.found in subst (λ (op : Op). IsStoreless op) o.is_op it.op
quiet (suc zero) i height call o = let it : OfInit i o.instr = all_at OfInit filling.code all_init i o.instr o.found in subst (λ (op : Op). IsCallQuiet op) o.is_op it.op
quiet (suc (suc m)) i height call o = absurd (cc o.found)

-- nothing names K
no_named : (m : ℕ) {i n : ℕ} → InitAt resting m i n → ⊥
no_named zero {i = i} {n = n} x =
    let it : OfMain i x.instr = all_at OfMain plain_main.code all_main i x.instr x.found in
    no_item (record { 0 = n }) (subst (λ (ms : List MethodId). Contains ms (record { 0 = n })) it.inits x.listed)
no_named (suc zero) {i = i} {n = n} x =
    let it : OfInit i x.instr = all_at OfInit filling.code all_init i x.instr x.found in
    no_item (record { 0 = n }) (subst (λ (ms : List MethodId). Contains ms (record { 0 = n })) it.inits x.listed)
no_named (suc (suc m)) x = absurd (cc x.found)

the_entry : (entry : Entry) → Contains resting.entries entry → main_entry ≡ entry
the_entry entry (zero, below, e) = e
the_entry entry (suc k, below, e) = absurd (omega (arith, below))

-- the environment initialises nothing, and makes no object
no_first : {m : ℕ} → IsInitializer resting m → ⊥
no_first {m = m} x =
    no_item (record { 0 = m })
    (subst (λ (entry : Entry). Contains (inits_of_class (slice_get resting.classes entry.class.0)) (record { 0 = m })) (sym (the_entry x.entry x.listed)) x.initializes)

no_objects : (entry : Entry) → HasObjects resting entry → ⊥
no_objects entry objects =
    let found : Some plain_main ≡ Some objects.method = subst (λ (e : Entry). slice_get resting.methods e.method.0 ≡ Some objects.method) (sym (the_entry entry objects.is_entry.listed)) objects.is_entry.found in
    let same : plain_main ≡ objects.method = cc found in
    let member : is_member plain_main.flags ≡ true = subst (λ (method : Method). is_member method.flags ≡ true) (sym same) objects.member in
    cc member

no_dest : (m i t j : ℕ) → Contains (dest resting m i t) (Inside j) → ⊥
no_dest zero i t j c = outside c
no_dest (suc zero) i t j c = outside c
no_dest (suc (suc m)) i t j c = outside c

-- ---- only main is reached

abbrev OnlyMain : ClassFact → Type 0
OnlyMain (Reached m i) = m ≡ 0
OnlyMain (CallsMethod m i n) = ⊥
OnlyMain _ = Unit {0}

in_main : {ps : List ClassFact} (m i : ℕ) → ClassRule resting ps (Reached m i) → Each OnlyMain ps → m ≡ 0
in_main m i (initializer_runs x) each = absurd (no_first x)
in_main m i (constructor_runs entry objects cons) each = absurd (no_objects entry objects)
in_main m i (entry_runs entry listed) each = sym (ap (λ (e : Entry). e.method.0) (the_entry entry listed))
in_main m i (next_reached l) each = each.0
in_main m i (initializes {m = k} x) each = absurd (no_named k x)
in_main m i (handler_reached goes) each = each.0
in_main m i callee_reached each = absurd each.1.0

main_solve : (ps : List ClassFact) (f : ClassFact) → ClassRule resting ps f → Each OnlyMain ps → OnlyMain f
main_solve ps (Reached m i) rule each = in_main m i rule each
main_solve ps (InEnv t) rule each = tt
main_solve ps (InSlot m i z t) rule each = tt
main_solve ps (InThrown m i t) rule each = tt
main_solve ps (InParam m k t) rule each = tt
main_solve ps (InResult m t) rule each = tt
main_solve ps (InOut m t) rule each = tt
main_solve ps (InField f t) rule each = tt
main_solve ps (InBag b t) rule each = tt
main_solve ps (CallsMethod m i n) rule each = no_callee resting quiet m i n rule
main_solve ps (CallsAbstract m i n) rule each = tt
main_solve ps (CallsLibrary m i) rule each = tt
main_solve ps (Spans t u) rule each = tt
main_solve ps (Takes m i b) rule each = tt

pub not_reached : (i : ℕ) → Classes resting (Reached 1 i) → ⊥
not_reached i x = let same : 1 ≡ 0 = Least-below (ClassRule resting) OnlyMain main_solve (Reached 1 i) x in cc same

-- ---- so nothing is stored

abbrev IsFine : Fact → Type 0
IsFine (Context m a) = m ≡ 0
IsFine (At m i a b) = (m ≡ 0) × (i ≡ 1 → b.slot (OnStack 0) ≡ false)
IsFine (Normal m a s) = Unit {0}
IsFine (Threw m a s) = Unit {0}
IsFine (Stored c) = ⊥

next_in_main : (m i j : ℕ) → m ≡ 0 → Leads resting m i j → j ≡ suc i
next_in_main m i j e l =
    let here : Leads resting 0 i j = subst (λ (n : ℕ). Leads resting n i j) e l in
    let it : OfMain i here.instr = all_at OfMain plain_main.code all_main i here.instr here.found in
    it.on j here.listed

-- the first instruction reads the field of A
reads_first : (m i j : ℕ) {op : Op} {height : ℕ} → m ≡ 0 → OpAt resting m i op height → Leads resting m i j → j ≡ 1 → Reads op height 0 (OnStack 0)
reads_first m i j {op = op} {height = height} e o l one =
    let first : i ≡ 0 = (let next : j ≡ suc i = next_in_main m i j e l in omega (arith, next, one)) in
    let found : instr_at resting 0 0 ≡ Some o.instr = subst (λ (k : ℕ). instr_at resting 0 k ≡ Some o.instr) first (subst (λ (n : ℕ). instr_at resting n i ≡ Some o.instr) e o.found) in
    let same : at 0 (GetStatic (record { 0 = 0 })) (1 ∷ []) 0 ≡ o.instr = cc found in
    let is : GetStatic (record { 0 = 0 }) ≡ op = ap (λ (x : Instr). x.op) same ∙ o.is_op in
    let low : 0 ≡ height = ap (λ (x : Instr). x.height) same ∙ o.is_height in
    subst (λ (h : ℕ). Reads op h 0 (OnStack 0)) low (subst (λ (z : Op). Reads z 0 0 (OnStack 0)) is reads_static)

no_store : (m i : ℕ) {op : Op} {height : ℕ} {cell : Cell} {v : Slot} → m ≡ 0 → OpAt resting m i op height → Stores resting op height cell v → ⊥
no_store m i {op = op} {height = height} e o s =
    let here : OpAt resting 0 i op height = subst (λ (n : ℕ). OpAt resting n i op height) e o in
    let it : OfMain i here.instr = all_at OfMain plain_main.code all_main i here.instr here.found in
    none (subst (λ (z : Op). IsStoreless z) here.is_op it.op) s
  where
    none : {op : Op} {height : ℕ} {cell : Cell} {v : Slot} → IsStoreless op → Stores resting op height cell v → ⊥
    none ok (stores_field h) = ok
    none ok (stores_static h) = ok
    none ok (stores_reference h) = ok
    none ok (stores_word h) = ok
    none ok (stores_pair h) = ok

fine_solve : (ps : List Fact) (f : Fact) → Rule resting (analyses_of resting) ps f → Each IsFine ps → IsFine f
fine_solve _ _ (initializer_called x is) each = absurd (no_first x)
fine_solve _ _ (constructor_called entry objects cons is) each = absurd (no_objects entry objects)
fine_solve _ _ (entry_called entry cells x) each = sym (ap (λ (e : Entry). e.method.0) (the_entry entry x.is_entry.listed))
fine_solve _ _ (called {m = m} {i = i} {n = n} calls) each = absurd (calls_none resting quiet m i n calls.goes)
fine_solve _ _ (initialized {m = m} x is) each = absurd (no_named m x)
fine_solve _ _ begins each = (each.0, λ e. absurd (cc e))
fine_solve _ _ (steps {m = m} {i = i} {j = j} o l ends reads) each = (each.0.0, λ e. reads 0 (OnStack 0) (reads_first m i j each.0.0 o l e))
fine_solve _ _ (reads_stored_field o l ends reads is answers) each = absurd each.1.0
fine_solve _ _ (call_resumes {m = m} {i = i} {n = n} calls l ret) each = absurd (calls_none resting quiet m i n calls.goes)
fine_solve _ _ (initializer_resumes {m = m} o x is ret) each = absurd (no_named m x)
fine_solve _ _ (caught {m = m} {i = i} {j = j} {t = t} x goes ends h) each = absurd (no_dest m i t j goes)
fine_solve _ _ (callee_caught {m = m} {i = i} {j = j} {t = t} calls x goes ends h) each = absurd (no_dest m i t j goes)
fine_solve _ _ (leaves x goes ends) each = tt
fine_solve _ _ (callee_leaves calls x goes ends) each = tt
fine_solve _ _ (method_returns o) each = tt
fine_solve _ _ (method_ends o) each = tt
fine_solve _ _ (stored {m = m} {i = i} o s is) each = no_store m i each.0.0 o s
fine_solve _ _ (taken {m = m} {i = i} {t = t} at takes is) each = takes_none resting quiet m i t takes

pub not_warned : IsWarned resting (Known resting) (main_site 1) → ⊥
not_warned w =
    let fine : IsFine (At 0 1 w.a w.b) = Least-below (Rule resting (analyses_of resting)) IsFine fine_solve (At 0 1 w.a w.b) w.fact in
    let clean : w.b.slot (OnStack 0) ≡ false = fine.1 refl in
    let is : w.b.slot (OnStack 0) ≡ true = subst (λ (z : Slot). w.b.slot z ≡ true) (lowest_argument resting 0 1 (at 1 (Call sink) (2 ∷ []) 1) w.call w.under w.k refl refl refl w.at w.listed) w.true_argument in
    absurd (cc (clean, is))
