-- A text that is marked for pages alone: nothing is true in the category of SQL, and the text is in that of pages.
use Rattle.std.proofs.Common.{lit<, ◌≡◌, ℕ, zero, suc, ◌+◌, ◌<◌, Bool, true, false, ◌||◌, List, [], ◌∷◌, Some, refl, sym, ap, subst, arith}
use Rattle.std.specs.Prelude.{Contains, slice_get, min}
use Rattle.ja_base.specs.declared.java_type.Kind.{Kind}
use Rattle.ja_base.specs.declared.java_type.Kind.TheVariants.{P1, P2, R, T}
use Rattle.ja_ir.specs.declared.program.Parts.{Parts}
use Rattle.ja_ir.specs.declared.method.Method.{Method}
use Rattle.ja_ir.specs.declared.method.Instr.{Instr}
use Rattle.ja_ir.specs.declared.entry.Entry.{Entry}
use Rattle.ja_ir.specs.declared.row.RowEffect.{RowEffect}
use Rattle.ja_ir.specs.declared.row.RowEffect.TheVariants.{Quiet, Absorb, Blend}
use Rattle.ja_ir.specs.declared.row.RowResult.{RowResult}
use Rattle.ja_ir.specs.declared.row.RowResult.TheVariants.{Fresh, Argument, Member, Any}
use Rattle.ja_ir.specs.declared.op.CallOp.{CallOp}
use Rattle.ja_ir.specs.declared.op.Op.{Op}
use Rattle.ja_ir.specs.declared.op.Op.TheVariants.{GetStatic, PutStatic, PutField, ArrStore, Shuffle, Call}
use Rattle.ja_ir.specs.Lookup.{OpAt, instr_at}
use Rattle.ja_ir.specs.Operations.{arguments}
use Rattle.ja_ir.specs.Params.{param_count}
use Rattle.ja_ir.specs.Handlers.{Inside, dest}
use Rattle.ja_ir.specs.Initializing.{inits_of_class}
use Rattle.ja_ir.specs.Categories.{projected, method_in}
use Rattle.ja_ir.specs.Examples.{at}
use Rattle.ja_facts.specs.Least.{Each}
use Rattle.ja_facts.specs.Slots.{Slot, Local, OnStack, CallAt, kept_local, kept_stack, shuffled}
use Rattle.ja_facts.specs.Actions.{IsEntry}
use Rattle.ja_facts.specs.ClassSets.{Reached, CallsLibrary, entry_runs}
use Rattle.ja_facts.specs.Held.{Cell}
use Rattle.ja_facts.specs.Analyses.{Analyses, Classes, analyses_of}
use Rattle.ja_facts.specs.Formulas.{Assignment, Implies, any_below, any_stacked, any_argument, first_argument, flow_by, flow, put_in, put_by, changes, answer_by, answer_of, Turns, copied, above, constant, made, measured, tested, mixed, loaded, static_loaded, written, absorbed, answered}
use Rattle.ja_facts.specs.Equations.{Fact, Context, At, Normal, Threw, Stored, Rule, MayBeTrue, Stores, stores_field, stores_static, stores_reference, stores_word, stores_pair, initializer_called, constructor_called, entry_called, called, initialized, begins, steps, reads_stored_field, call_resumes, initializer_resumes, caught, callee_caught, leaves, callee_leaves, method_returns, method_ends, stored, taken, IsWarned, Taints}
use Rattle.ja_facts.specs.Example.{nothing}
use Rattle.ja_facts.proofs.LeastLaws.{Least-below}
use Rattle.ja_examples.specs.Truth.{only}
use Rattle.ja_examples.specs.Labelling.{labelling, labelling_main, labelling_entry, labelled_site, page_source, sink_of}
use Rattle.ja_examples.proofs.Clean.{outside}
use Rattle.ja_examples.proofs.Deriving.{Known, by_class, by_taint, nothing_begins, Goes, op_at, next, to_library, step, no_read}
use Rattle.ja_examples.proofs.Initless.{no_init}
use Rattle.ja_examples.proofs.Listed.{AllFrom, all_at}
use Rattle.ja_examples.proofs.Quiet.{IsQuiet, calls_none, takes_none}

-- ---- where nothing is true, a step of an instruction that makes nothing tainted makes nothing true

either : (t u : Bool) → t ≡ false → u ≡ false → (t || u) ≡ false
either false u e f = f
either true u e f = absurd (cc e)

at_most : (t u : Bool) → u ≡ false → Implies t u → t ≡ false
at_most false u e h = refl
at_most true u e h = absurd (let is : u ≡ true = h refl in cc (e, is))

below : (test : ℕ → Bool) (n : ℕ) → ((k : ℕ) → test k ≡ false) → any_below test n ≡ false
below test zero none = refl
below test (suc n) none = either (any_below test n) (test n) (below test n none) (none n)

module _ (b : Assignment) (none : (z : Slot) → b.slot z ≡ false) where
  stacked : (under count : ℕ) → any_stacked b under count ≡ false
  stacked under count = below (λ k. b.slot (OnStack (under + k))) count (λ k. none (OnStack (under + k)))

  -- the call makes nothing tainted where no argument is
  module _ (call : CallOp) (under : ℕ) (tame : (any : Bool) → any ≡ false → flow_by call.row.flow any ≡ false) where
    no_flow : flow b call under ≡ false
    no_flow = tame (any_argument b call under) (stacked under (arguments call))

    no_put : put_in b call under ≡ false
    no_put = either (flow b call under) (any_argument b call under) no_flow (stacked under (arguments call))

    by_effect : (effect : RowEffect) (put : Bool) → put ≡ false → put_by effect put ≡ false
    by_effect Quiet put e = refl
    by_effect Absorb put e = e
    by_effect Blend put e = e

    no_change : changes b call under ≡ false
    no_change = by_effect call.row.effect (put_in b call under) no_put

    by_result : (result : RowResult) → answer_by result (flow b call under) (first_argument b call under) (any_argument b call under) (changes b call under) ≡ false
    by_result Fresh = no_flow
    by_result Argument = either (first_argument b call under) (changes b call under) (stacked under (min 1 (arguments call))) no_change
    by_result Member =
        either (flow b call under) (first_argument b call under || changes b call under) no_flow
        (either (first_argument b call under) (changes b call under) (stacked under (min 1 (arguments call))) no_change)
    by_result Any = either (flow b call under) (any_argument b call under) no_flow (stacked under (arguments call))

    no_answer : (kind : Kind) → answer_of kind b call under ≡ false
    no_answer R = by_result call.row.result
    no_answer P1 = no_flow
    no_answer P2 = no_flow
    no_answer T = no_flow

  -- the operation reads no static field, and makes nothing tainted of itself
  abbrev IsTame : Op → Type 0
  IsTame (GetStatic f) = ⊥
  IsTame (Call call) = (any : Bool) → any ≡ false → flow_by call.row.flow any ≡ false
  IsTame _ = Unit {0}

  turns_false : {A : Analyses} {m i : ℕ} {op : Op} {height : ℕ} {y : Slot} {t : Bool} → IsTame op → Turns A m i b op height y t → t ≡ false
  turns_false ok (copied {z = z} c) = none z
  turns_false ok (above h) = refl
  turns_false ok constant = refl
  turns_false ok (made h) = refl
  turns_false ok (measured h) = refl
  turns_false ok (tested h) = refl
  turns_false ok (mixed {n = n} {under = under} h) = stacked under n
  turns_false ok (loaded {x = x} {t = t} l h) = at_most t (b.slot x) (none x) h
  turns_false ok static_loaded = absurd ok
  turns_false ok (written {v = v} {y = y} {t = t} w c r h) = at_most t (b.slot y || b.slot v) (either (b.slot y) (b.slot v) (none y) (none v)) h
  turns_false ok (absorbed {call = call} {y = y} {t = t} under e c s h) = at_most t (b.slot y || put_in b call under) (either (b.slot y) (put_in b call under) (none y) (no_put call under ok)) h
  turns_false ok (answered {call = call} {type = type} {t = t} under e g h) = at_most t (answer_of type.kind b call under) (no_answer call under ok type.kind) h

-- ---- the category of SQL

abbrev sql : Parts
sql = projected 0 labelling

-- no call makes anything tainted of itself, and nothing is stored
abbrev IsCalm : Op → Type 0
IsCalm (GetStatic f) = ⊥
IsCalm (PutStatic f) = ⊥
IsCalm (PutField f) = ⊥
IsCalm (ArrStore kind) = ⊥
IsCalm (Call call) = (any : Bool) → any ≡ false → flow_by call.row.flow any ≡ false
IsCalm _ = Unit {0}

abbrev OfSql : ℕ → Instr → Type 0
OfSql i x = IsCalm x.op

all_sql : AllFrom OfSql 0 (method_in 0 labelling_main).code
all_sql = (λ any e. e, (tt, (λ any e. refl, (λ any e. refl, (tt, tt)))))

calm : (m i : ℕ) {op : Op} {height : ℕ} → OpAt sql m i op height → IsCalm op
calm zero i o = subst (λ (z : Op). IsCalm z) o.is_op (all_at OfSql (method_in 0 labelling_main).code all_sql i o.instr o.found)
calm (suc m) i o = absurd (cc o.found)

calm_at : (m i : ℕ) (x : Instr) → instr_at sql m i ≡ Some x → IsCalm x.op
calm_at m i x found = calm m i {height = x.height} (record { instr = x; found = found; is_op = refl; is_height = refl })

tame : (b : Assignment) (none : (z : Slot) → b.slot z ≡ false) (op : Op) → IsCalm op → IsTame b none op
tame b none op ok = of_op op ok
  where
    of_op : (op : Op) → IsCalm op → IsTame b none op
    of_op (GetStatic f) ok = ok
    of_op (Call call) ok = ok
    of_op _ ok = tt

no_store : {op : Op} {height : ℕ} {cell : Cell} {v : Slot} → IsCalm op → Stores sql op height cell v → ⊥
no_store ok (stores_field h) = ok
no_store ok (stores_static h) = ok
no_store ok (stores_reference h) = ok
no_store ok (stores_word h) = ok
no_store ok (stores_pair h) = ok

-- the calls of the program itself
abbrev IsCallQuiet : Op → Type 0
IsCallQuiet (Call call) = IsQuiet call
IsCallQuiet _ = Unit {0}

abbrev OfMain : ℕ → Instr → Type 0
OfMain i x = IsCallQuiet x.op

all_main : AllFrom OfMain 0 labelling_main.code
all_main = ((refl, refl, refl), (tt, ((refl, refl, refl), ((refl, refl, refl), (tt, tt)))))

quiet : (m i height : ℕ) (call : CallOp) → OpAt labelling m i (Call call) height → IsQuiet call
quiet zero i height call o = subst (λ (z : Op). IsCallQuiet z) o.is_op (all_at OfMain labelling_main.code all_main i o.instr o.found)
quiet (suc m) i height call o = absurd (cc o.found)

no_inits : (c : ℕ) → inits_of_class (slice_get sql.classes c) ≡ []
no_inits zero = refl
no_inits (suc c) = refl

no_dest : (m i t j : ℕ) → Contains (dest sql m i t) (Inside j) → ⊥
no_dest zero i t j c = outside c
no_dest (suc m) i t j c = outside c

the_entry : (entry : Entry) → Contains sql.entries entry → 0 ≡ entry.method.0
the_entry entry (zero, below, e) = ap (λ (it : Entry). it.method.0) e
the_entry entry (suc k, below, e) = absurd (omega (arith, below))

-- main has no parameters
no_param : (entry : Entry) (method : Method) (k : ℕ) → IsEntry sql entry method → k < param_count method → ⊥
no_param entry method k is less =
    let found : Some (method_in 0 labelling_main) ≡ Some method = subst (λ (n : ℕ). slice_get sql.methods n ≡ Some method) (sym (the_entry entry is.listed)) is.found in
    let same : method_in 0 labelling_main ≡ method = cc found in
    let none : k < 0 = subst (λ (it : Method). k < param_count it) (sym same) less in
    omega (arith, none)

entry_false : (entry : Entry) (method : Method) (cells : List Cell) (z : Slot) → IsEntry sql entry method → (t : Bool) → (t ≡ true → MayBeTrue (analyses_of labelling) entry method cells z) → t ≡ false
entry_false entry method cells z is false may = refl
entry_false entry method cells z is true may = absurd (let it : MayBeTrue (analyses_of labelling) entry method cells z = may refl in no_param entry method it.k is it.below)

abbrev IsFalse : Fact → Type 0
IsFalse (Context m a) = (z : Slot) → a.slot z ≡ false
IsFalse (At m i a b) = (z : Slot) → b.slot z ≡ false
IsFalse (Normal m a s) = Unit {0}
IsFalse (Threw m a s) = Unit {0}
IsFalse (Stored c) = ⊥

false_solve : (ps : List Fact) (f : Fact) → Rule sql (analyses_of labelling) ps f → Each IsFalse ps → IsFalse f
false_solve _ _ (initializer_called x is) each = is.slots
false_solve _ _ (constructor_called entry objects cons is) each = is.slots
false_solve _ _ (entry_called {a = a} entry cells x) each = λ z. entry_false entry x.method cells z x.is_entry (a.slot z) (x.parameters z)
false_solve _ _ (called {m = m} {i = i} {n = n} calls) each = absurd (calls_none labelling quiet m i n calls.goes)
false_solve _ _ (initialized x is) each = is.slots
false_solve _ _ begins each = each.0
false_solve _ _ (steps {m = m} {i = i} {b = b} o l ends reads) each = λ y. turns_false b each.0 (tame b each.0 ends.instr.op (calm_at m i ends.instr ends.found)) (ends.slots y)
false_solve _ _ (reads_stored_field o l ends reads is answers) each = absurd each.1.0
false_solve _ _ (call_resumes {m = m} {i = i} {n = n} calls l ret) each = absurd (calls_none labelling quiet m i n calls.goes)
false_solve _ _ (initializer_resumes o x is ret) each = absurd (no_init sql no_inits x)
false_solve _ _ (caught {m = m} {i = i} {j = j} {t = t} x goes ends h) each = absurd (no_dest m i t j goes)
false_solve _ _ (callee_caught {m = m} {i = i} {j = j} {t = t} calls x goes ends h) each = absurd (no_dest m i t j goes)
false_solve _ _ (leaves x goes ends) each = tt
false_solve _ _ (callee_leaves calls x goes ends) each = tt
false_solve _ _ (method_returns o) each = tt
false_solve _ _ (method_ends o) each = tt
false_solve _ _ (stored {m = m} {i = i} o s is) each = no_store (calm m i o) s
false_solve _ _ (taken {m = m} {i = i} {t = t} at takes is) each = takes_none labelling quiet m i t takes

pub sql_clean : IsWarned labelling (Taints labelling 0) (labelled_site 2 0) → ⊥
sql_clean w =
    let clean : IsFalse (At 0 2 w.a w.b) = Least-below (Rule sql (analyses_of labelling)) IsFalse false_solve (At 0 2 w.a w.b) w.fact in
    let is : w.b.slot (OnStack (w.under + w.k)) ≡ false = clean (OnStack (w.under + w.k)) in
    let not : w.b.slot (OnStack (w.under + w.k)) ≡ true = w.true_argument in
    absurd (cc (is, not))

-- ---- the category of pages

main0 : Goes labelling 0 0 1 (at 0 (Call page_source) (1 ∷ []) 0)
main0 = record { found = refl; listed = (0, lit< tt, refl) }

main1 : Goes labelling 0 1 2 (at 1 (Shuffle 1 (0 ∷ 0 ∷ [])) (2 ∷ []) 1)
main1 = record { found = refl; listed = (0, lit< tt, refl) }

main2 : Goes labelling 0 2 3 (at 2 (Call (sink_of 0)) (3 ∷ []) 2)
main2 = record { found = refl; listed = (0, lit< tt, refl) }

at_source : CallAt labelling 0 0 page_source 0
at_source = record { height = 0; at = op_at labelling main0; under_is = refl }

at_sql : CallAt labelling 0 2 (sink_of 0) 1
at_sql = record { height = 2; at = op_at labelling main2; under_is = refl }

at_page : CallAt labelling 0 3 (sink_of 1) 0
at_page = record { height = 1; at = record { instr = at 3 (Call (sink_of 1)) (4 ∷ []) 1; found = refl; is_op = refl; is_height = refl }; under_is = refl }

reached0 : Classes labelling (Reached 0 0)
reached0 = by_class labelling [] (Reached 0 0) (entry_runs labelling_entry (0, lit< tt, refl)) tt

sources : Classes labelling (CallsLibrary 0 0)
sources = to_library labelling at_source refl refl reached0

sinks : Classes labelling (CallsLibrary 0 2)
sinks = to_library labelling at_sql refl refl (next labelling main1 (next labelling main0 reached0))

is_entry : IsEntry labelling labelling_entry labelling_main
is_entry = record { listed = (0, lit< tt, refl); found = refl }

source_slots : (y : Slot) → Turns (analyses_of labelling) 0 0 nothing (Call page_source) 0 y ((only (OnStack 0 ∷ [])).slot y)
source_slots (Local l) = copied (kept_local tt)
source_slots (OnStack zero) = answered 0 refl refl (λ t. refl)
source_slots (OnStack (suc k)) = above (omega arith)

twice_slots : (y : Slot) → Turns (analyses_of labelling) 0 1 (only (OnStack 0 ∷ [])) (Shuffle 1 (0 ∷ 0 ∷ [])) 1 y ((only (OnStack 0 ∷ OnStack 1 ∷ [])).slot y)
twice_slots (Local l) = copied (kept_local tt)
twice_slots (OnStack zero) = copied (shuffled 0 0 0 refl refl)
twice_slots (OnStack (suc zero)) = copied (shuffled 0 1 0 refl refl)
twice_slots (OnStack (suc (suc k))) = above (omega arith)

sink_slots : (y : Slot) → Turns (analyses_of labelling) 0 2 (only (OnStack 0 ∷ OnStack 1 ∷ [])) (Call (sink_of 0)) 2 y ((only (OnStack 0 ∷ [])).slot y)
sink_slots (Local l) = copied (kept_local tt)
sink_slots (OnStack zero) = copied (kept_stack (lit< tt))
sink_slots (OnStack (suc k)) = above (omega arith)

before_page : Known labelling (At 0 3 nothing (only (OnStack 0 ∷ [])))
before_page =
    step labelling main2 (record { reached = refl; goes_on = refl; library = sinks; slots = sink_slots; dirt = refl; exc = refl }) (no_read refl)
    (step labelling main1 (record { reached = refl; goes_on = refl; library = tt; slots = twice_slots; dirt = refl; exc = refl }) (no_read refl)
    (step labelling main0 (record { reached = refl; goes_on = refl; library = sources; slots = source_slots; dirt = refl; exc = refl }) (no_read refl)
    (by_taint labelling (Context 0 nothing ∷ []) (At 0 0 nothing nothing) begins
    (by_taint labelling [] (Context 0 nothing) (entry_called labelling_entry [] (nothing_begins labelling is_entry)) tt, tt))))

pub page_warned : IsWarned labelling (Known labelling) (labelled_site 3 1)
page_warned = record { call = sink_of 1; under = 0; at = at_page; a = nothing; b = only (OnStack 0 ∷ []); fact = before_page; k = 0; listed = (0, lit< tt, refl); true_argument = refl }
