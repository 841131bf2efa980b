-- A class initialiser that throws does not return, so that nothing goes on after it; and the sink call is clean.
use Rattle.std.proofs.Common.{◌≡◌, ℕ, zero, suc, true, false, List, [], ◌∷◌, Option, None, Some, refl, ap, subst, ◌∙◌, arith}
use Rattle.std.specs.Prelude.{Contains, slice_get}
use Rattle.ja_base.specs.declared.id.MethodId.{MethodId}
use Rattle.ja_base.specs.declared.java_type.Kind.{Kind}
use Rattle.ja_ir.specs.declared.method.Instr.{Instr}
use Rattle.ja_ir.specs.declared.op.CallOp.{CallOp}
use Rattle.ja_ir.specs.declared.op.Op.{Op}
use Rattle.ja_ir.specs.declared.op.Op.TheVariants.{GetStatic, PutStatic, PutField, ArrStore, Call, Return}
use Rattle.ja_ir.specs.Lookup.{OpAt, Leads, instr_at}
use Rattle.ja_ir.specs.Handlers.{Inside, dest}
use Rattle.ja_ir.specs.Initializing.{inits_of_class}
use Rattle.ja_ir.specs.Examples.{at}
use Rattle.ja_facts.specs.Least.{Each}
use Rattle.ja_facts.specs.Slots.{Slot, OnStack}
use Rattle.ja_facts.specs.Held.{Cell}
use Rattle.ja_facts.specs.Analyses.{analyses_of}
use Rattle.ja_facts.specs.Formulas.{Assignment, Summary}
use Rattle.ja_facts.specs.Equations.{Fact, Context, At, Normal, Threw, Stored, Rule, Reads, reads_static, Stores, stores_field, stores_static, stores_reference, stores_word, stores_pair, initializer_called, constructor_called, entry_called, called, initialized, begins, steps, reads_stored_field, call_resumes, initializer_resumes, caught, callee_caught, leaves, callee_leaves, method_returns, method_ends, stored, taken, IsWarned}
use Rattle.ja_facts.proofs.LeastLaws.{Least-below}
use Rattle.ja_examples.specs.Library.{sink}
use Rattle.ja_examples.specs.Initializing.{failing, naming_main, throwing_up, main_site}
use Rattle.ja_examples.proofs.Clean.{outside, lowest_argument}
use Rattle.ja_examples.proofs.Deriving.{Known}
use Rattle.ja_examples.proofs.Initless.{of_init}
use Rattle.ja_examples.proofs.Listed.{AllFrom, all_at, no_item, only_item, next_of}
use Rattle.ja_examples.proofs.Quiet.{IsQuiet, calls_none, takes_none}

-- ---- the instructions

-- calls are quiet, and nothing is stored
abbrev IsStoreless : Op → Type 0
IsStoreless (Call call) = IsQuiet call
IsStoreless (PutStatic f) = ⊥
IsStoreless (PutField f) = ⊥
IsStoreless (ArrStore kind) = ⊥
IsStoreless _ = Unit {0}

-- nor does anything return
abbrev IsEndless : Op → Type 0
IsEndless (Call call) = ⊥
IsEndless (PutStatic f) = ⊥
IsEndless (PutField f) = ⊥
IsEndless (ArrStore kind) = ⊥
IsEndless (Return kind) = ⊥
IsEndless _ = Unit {0}

record OfMain (i : ℕ) (x : Instr) : Type 0 where
  op : IsStoreless x.op
  on : (j : ℕ) → Contains x.next j → j ≡ suc i

abbrev OfInit : ℕ → Instr → Type 0
OfInit i x = IsEndless x.op

all_main : AllFrom OfMain 0 naming_main.code
all_main = (
  record { op = tt; on = next_of 0 (1 ∷ []) refl },
  (
    record { op = tt; on = next_of 1 (2 ∷ []) refl },
    (
      record { op = tt; on = next_of 2 (3 ∷ []) refl },
      (record { op = (refl, refl, refl); on = next_of 3 (4 ∷ []) refl }, (record { op = tt; on = λ j c. absurd (no_item j c) }, tt)),
    ),
  ),
)

all_init : AllFrom OfInit 0 throwing_up.code
all_init = (tt, (tt, tt))

of_main : {i height : ℕ} {op : Op} → OpAt failing 0 i op height → IsStoreless op
of_main {i = i} o = let it : OfMain i o.instr = all_at OfMain naming_main.code all_main i o.instr o.found in subst (λ (z : Op). IsStoreless z) o.is_op it.op

of_clinit : {i height : ℕ} {op : Op} → OpAt failing 1 i op height → IsEndless op
of_clinit {i = i} o = subst (λ (z : Op). IsEndless z) o.is_op (all_at OfInit throwing_up.code all_init i o.instr o.found)

quiet : (m i height : ℕ) (call : CallOp) → OpAt failing m i (Call call) height → IsQuiet call
quiet zero i height call o = of_main o
quiet (suc zero) i height call o = absurd (of_clinit o)
quiet (suc (suc m)) i height call o = absurd (cc o.found)

-- the only class initialiser is method 1
names_one : (c n : ℕ) → Contains (inits_of_class (slice_get failing.classes c)) (record { 0 = n }) → n ≡ 1
names_one zero n l = absurd (no_item (record { 0 = n }) l)
names_one (suc zero) n l = let same : id_of n ≡ id_of 1 = only_item (id_of 1) (id_of n) l in ap (λ (it : MethodId). it.0) same
  where
    id_of : ℕ → MethodId
    id_of k = record { 0 = k }
names_one (suc (suc c)) n l = absurd (no_item (record { 0 = n }) l)

no_dest : (m i t j : ℕ) → Contains (dest failing m i t) (Inside j) → ⊥
no_dest zero i t j c = outside c
no_dest (suc zero) i t j c = outside c
no_dest (suc (suc m)) i t j c = outside c

-- ---- nothing is stored, and the initialiser does not return

abbrev IsFine : Fact → Type 0
IsFine (Context m a) = Unit {0}
IsFine (At m i a b) = m ≡ 0 → i ≡ 3 → b.slot (OnStack 0) ≡ false
IsFine (Normal m a s) = m ≡ 1 → ⊥
IsFine (Threw m a s) = Unit {0}
IsFine (Stored c) = ⊥

-- the instruction before the sink call reads the field of A
reads_third : (m i j : ℕ) {op : Op} {height : ℕ} → m ≡ 0 → OpAt failing m i op height → Leads failing m i j → j ≡ 3 → Reads op height 0 (OnStack 0)
reads_third m i j {op = op} {height = height} e o l three =
    let here : Leads failing 0 i j = subst (λ (n : ℕ). Leads failing n i j) e l in
    let it : OfMain i here.instr = all_at OfMain naming_main.code all_main i here.instr here.found in
    let two : i ≡ 2 = (let next : j ≡ suc i = it.on j here.listed in omega (arith, next, three)) in
    let found : instr_at failing 0 2 ≡ Some o.instr = subst (λ (k : ℕ). instr_at failing 0 k ≡ Some o.instr) two (subst (λ (n : ℕ). instr_at failing n i ≡ Some o.instr) e o.found) in
    let same : at 2 (GetStatic (record { 0 = 0 })) (3 ∷ []) 0 ≡ o.instr = cc found in
    let is : GetStatic (record { 0 = 0 }) ≡ op = ap (λ (x : Instr). x.op) same ∙ o.is_op in
    let low : 0 ≡ height = ap (λ (x : Instr). x.height) same ∙ o.is_height in
    subst (λ (h : ℕ). Reads op h 0 (OnStack 0)) low (subst (λ (z : Op). Reads z 0 0 (OnStack 0)) is reads_static)

stores_none : {op : Op} {height : ℕ} {cell : Cell} {v : Slot} → IsStoreless op → Stores failing op height cell v → ⊥
stores_none ok (stores_field h) = ok
stores_none ok (stores_static h) = ok
stores_none ok (stores_reference h) = ok
stores_none ok (stores_word h) = ok
stores_none ok (stores_pair h) = ok

ends_none : {op : Op} {height : ℕ} {cell : Cell} {v : Slot} → IsEndless op → Stores failing op height cell v → ⊥
ends_none ok (stores_field h) = ok
ends_none ok (stores_static h) = ok
ends_none ok (stores_reference h) = ok
ends_none ok (stores_word h) = ok
ends_none ok (stores_pair h) = ok

no_store : (m i : ℕ) {op : Op} {height : ℕ} {cell : Cell} {v : Slot} → OpAt failing m i op height → Stores failing op height cell v → ⊥
no_store zero i o s = stores_none (of_main o) s
no_store (suc zero) i o s = ends_none (of_clinit o) s
no_store (suc (suc m)) i o s = absurd (cc o.found)

no_return : (m i : ℕ) {height : ℕ} (kind : Option Kind) → OpAt failing m i (Return kind) height → m ≡ 1 → ⊥
no_return zero i kind o e = cc e
no_return (suc zero) i kind o e = of_clinit o
no_return (suc (suc m)) i kind o e = absurd (cc o.found)

fine_solve : (ps : List Fact) (f : Fact) → Rule failing (analyses_of failing) ps f → Each IsFine ps → IsFine f
fine_solve _ _ (initializer_called x is) each = tt
fine_solve _ _ (constructor_called entry objects cons is) each = tt
fine_solve _ _ (entry_called entry cells x) each = tt
fine_solve _ _ (called calls) each = tt
fine_solve _ _ (initialized x is) each = tt
fine_solve _ _ begins each = λ e f. absurd (omega (arith, f))
fine_solve _ _ (steps {m = m} {i = i} {j = j} o l ends reads) each = λ e f. reads 0 (OnStack 0) (reads_third m i j e o l f)
fine_solve _ _ (reads_stored_field o l ends reads is answers) each = absurd each.1.0
fine_solve _ _ (call_resumes {m = m} {i = i} {n = n} calls l ret) each = absurd (calls_none failing quiet m i n calls.goes)
fine_solve _ _ (initializer_resumes {n = n} o x is ret) each = absurd (each.1.0 (of_init failing (λ (n : ℕ). n ≡ 1) names_one x))
fine_solve _ _ (caught {m = m} {i = i} {j = j} {t = t} x goes ends h) each = absurd (no_dest m i t j goes)
fine_solve _ _ (callee_caught {m = m} {i = i} {j = j} {t = t} calls x goes ends h) each = absurd (no_dest m i t j goes)
fine_solve _ _ (leaves x goes ends) each = tt
fine_solve _ _ (callee_leaves calls x goes ends) each = tt
fine_solve _ _ (method_returns {m = m} {i = i} {kind = kind} o) each = no_return m i (Some kind) o
fine_solve _ _ (method_ends {m = m} {i = i} o) each = no_return m i None o
fine_solve _ _ (stored {m = m} {i = i} o s is) each = no_store m i o s
fine_solve _ _ (taken {m = m} {i = i} {t = t} at takes is) each = takes_none failing quiet m i t takes

is_fine : (f : Fact) → Known failing f → IsFine f
is_fine = Least-below (Rule failing (analyses_of failing)) IsFine fine_solve

pub never_returns : (a : Assignment) (s : Summary) → Known failing (Normal 1 a s) → ⊥
never_returns a s x = is_fine (Normal 1 a s) x refl

pub not_warned : IsWarned failing (Known failing) (main_site 3) → ⊥
not_warned w =
    let clean : w.b.slot (OnStack 0) ≡ false = is_fine (At 0 3 w.a w.b) w.fact refl refl in
    let is : w.b.slot (OnStack 0) ≡ true = subst (λ (z : Slot). w.b.slot z ≡ true) (lowest_argument failing 0 3 (at 3 (Call sink) (4 ∷ []) 1) w.call w.under w.k refl refl refl w.at w.listed) w.true_argument in
    absurd (cc (clean, is))
