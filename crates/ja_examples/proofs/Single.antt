-- What the calls of the program with two virtual calls do not go to, and its second sink call, which is clean.
use Rattle.std.proofs.Common.{◌≡◌, ◌⊎◌, inl, inr, ℕ, zero, suc, ◌+◌, Bool, true, false, List, [], ◌∷◌, Some, refl, sym, ap, subst, ◌∙◌, arith}
use Rattle.std.specs.Prelude.{Contains, slice_get}
use Rattle.ja_base.specs.declared.id.MethodId.{MethodId}
use Rattle.ja_ir.specs.declared.op.Token.{Token}
use Rattle.ja_ir.specs.declared.class.MethodAt.{MethodAt}
use Rattle.ja_ir.specs.declared.class.MethodAt.TheVariants.{Program, Library}
use Rattle.ja_ir.specs.declared.method.Instr.{Instr}
use Rattle.ja_ir.specs.declared.op.CallOp.{CallOp}
use Rattle.ja_ir.specs.declared.op.CallKind.TheVariants.{Virtual, Static, Special, StaticField, MemberField}
use Rattle.ja_ir.specs.declared.op.Op.{Op}
use Rattle.ja_ir.specs.declared.op.Op.TheVariants.{Text, New, Call, Return}
use Rattle.ja_ir.specs.Lookup.{OpAt, Leads, instr_at, select}
use Rattle.ja_ir.specs.Operations.{arguments, is_dispatched}
use Rattle.ja_ir.specs.Handlers.{Inside, dest}
use Rattle.ja_ir.specs.Examples.{at}
use Rattle.ja_facts.specs.Least.{Each}
use Rattle.ja_facts.specs.Slots.{Slot, OnStack, CallAt, IsLeft, left_local, left_stack}
use Rattle.ja_facts.specs.ClassSets.{Fact as ClassFact, Reached, InEnv, InSlot, InThrown, InParam, InResult, InOut, InField, InBag, CallsMethod, CallsAbstract, CallsLibrary, Spans, Takes, Dispatches, IsClass, Finds, Rule as ClassRule}
use Rattle.ja_facts.specs.ClassSets.{begins as begins_slot, moved, text_made, made as object_made, array_made, got, got_static, element_got, handled, handler_keeps, found_method, found_library, selects_method, selects_library, selected, elsewhere, by_static, by_special, in_static_field, in_member_field, answered as call_answers, library_fresh, library_argument, library_member}
use Rattle.ja_facts.specs.Formulas.{Assignment, Summary, IsNormalEnd, IsLibraryPart, CallTurns, call_kept, call_affected, call_answered, call_above}
use Rattle.ja_facts.specs.Equations.{Fact, Context, At, Normal, Threw, Stored, initializer_called, constructor_called, entry_called, called, initialized, begins, steps, reads_stored_field, call_resumes, initializer_resumes, caught, callee_caught, leaves, callee_leaves, method_returns, method_ends, stored, taken, IsWarned, Rule}
use Rattle.ja_facts.proofs.LeastLaws.{Least-below}
use Rattle.ja_facts.specs.Analyses.{Classes, analyses_of}
use Rattle.ja_examples.specs.Library.{sink}
use Rattle.ja_examples.specs.Choosing.{choosing, choosing_r, single_main, choosing_site, call_m, class_r}
use Rattle.ja_examples.proofs.Clean.{outside, no_copy, text_turns, lowest_argument}
use Rattle.ja_examples.proofs.Listed.{AllFrom, all_at, no_item, next_of}
use Rattle.ja_facts.specs.Crossings.{has_result}
use Rattle.ja_ir.specs.Initializing.{inits_of_class}
use Rattle.ja_examples.proofs.Deriving.{Known}
use Rattle.ja_examples.proofs.Initless.{no_init}

-- ---- the instructions of R's method and of the second main

abbrev IsOfR : ℕ → Op → ℕ → Type 0
IsOfR i (Call call) height = ⊥
IsOfR i (Return kind) height = (i ≡ 1) × (height ≡ 1)
IsOfR i _ height = Unit {0}

abbrev IsOfSingle : ℕ → Op → ℕ → Type 0
IsOfSingle i (Call call) height = ((i ≡ 1) × (call ≡ call_m) × (height ≡ 1)) ⊎ ((i ≡ 2) × (call ≡ sink))
IsOfSingle i _ height = Unit {0}

abbrev GoesOn : ℕ → List ℕ → Type 0
GoesOn i next = (j : ℕ) → Contains next j → j ≡ suc i

abbrev InR : ℕ → Instr → Type 0
InR i x = IsOfR i x.op x.height × GoesOn i x.next

abbrev InSingle : ℕ → Instr → Type 0
InSingle i x = IsOfSingle i x.op x.height × GoesOn i x.next

all_r : AllFrom InR 0 choosing_r.code
all_r = ((tt, next_of 0 (1 ∷ []) refl), (((refl, refl), λ j c. absurd (no_item j c)), tt))

all_single : AllFrom InSingle 0 single_main.code
all_single = (
  (tt, next_of 0 (1 ∷ []) refl),
  ((inl (refl, refl, refl), next_of 1 (2 ∷ []) refl), ((inr (refl, refl), next_of 2 (3 ∷ []) refl), ((tt, λ j c. absurd (no_item j c)), tt))),
)

of_r : (m : ℕ) {i height : ℕ} {op : Op} → m ≡ 1 → OpAt choosing m i op height → IsOfR i op height
of_r m {i = i} {height = height} {op = op} e o =
    let here : OpAt choosing 1 i op height = subst (λ (n : ℕ). OpAt choosing n i op height) e o in
    subst (λ (h : ℕ). IsOfR i op h) here.is_height (subst (λ (z : Op). IsOfR i z here.instr.height) here.is_op (all_at InR choosing_r.code all_r i here.instr here.found).0)

of_single : (m : ℕ) {i height : ℕ} {op : Op} → m ≡ 3 → OpAt choosing m i op height → IsOfSingle i op height
of_single m {i = i} {height = height} {op = op} e o =
    let here : OpAt choosing 3 i op height = subst (λ (n : ℕ). OpAt choosing n i op height) e o in
    subst (λ (h : ℕ). IsOfSingle i op h) here.is_height (subst (λ (z : Op). IsOfSingle i z here.instr.height) here.is_op (all_at InSingle single_main.code all_single i here.instr here.found).0)

next_in_r : (m i j : ℕ) → m ≡ 1 → Leads choosing m i j → j ≡ suc i
next_in_r m i j e l = let here : Leads choosing 1 i j = subst (λ (n : ℕ). Leads choosing n i j) e l in (all_at InR choosing_r.code all_r i here.instr here.found).1 j here.listed

next_in_single : (m i j : ℕ) → m ≡ 3 → Leads choosing m i j → j ≡ suc i
next_in_single m i j e l = let here : Leads choosing 3 i j = subst (λ (n : ℕ). Leads choosing n i j) e l in (all_at InSingle single_main.code all_single i here.instr here.found).1 j here.listed

-- the first instruction of R's method makes a text, and that of the second main an object of R
the_text : (m i j : ℕ) (x : Instr) → m ≡ 1 → j ≡ 1 → Leads choosing m i j → instr_at choosing m i ≡ Some x → at 0 Text (1 ∷ []) 0 ≡ x
the_text m i j x e f l found =
    let first : i ≡ 0 = (let next : j ≡ suc i = next_in_r m i j e l in omega (arith, next, f)) in
    let here : instr_at choosing 1 0 ≡ Some x = subst (λ (k : ℕ). instr_at choosing 1 k ≡ Some x) first (subst (λ (n : ℕ). instr_at choosing n i ≡ Some x) e found) in
    cc here

the_new : (m i j : ℕ) {op : Op} {height : ℕ} → m ≡ 3 → j ≡ 1 → Leads choosing m i j → OpAt choosing m i op height → (New (record { 0 = 2 }) ≡ op) × (0 ≡ height)
the_new m i j e f l o =
    let first : i ≡ 0 = (let next : j ≡ suc i = next_in_single m i j e l in omega (arith, next, f)) in
    let here : instr_at choosing 3 0 ≡ Some o.instr = subst (λ (k : ℕ). instr_at choosing 3 k ≡ Some o.instr) first (subst (λ (n : ℕ). instr_at choosing n i ≡ Some o.instr) e o.found) in
    let same : at 0 (New (record { 0 = 2 })) (1 ∷ []) 0 ≡ o.instr = cc here in
    (ap (λ (x : Instr). x.op) same ∙ o.is_op, ap (λ (x : Instr). x.height) same ∙ o.is_height)

no_dest : (m i t j : ℕ) → Contains (dest choosing m i t) (Inside j) → ⊥
no_dest zero i t j c = outside c
no_dest (suc zero) i t j c = outside c
no_dest (suc (suc zero)) i t j c = outside c
no_dest (suc (suc (suc zero))) i t j c = outside c
no_dest (suc (suc (suc (suc zero)))) i t j c = outside c
no_dest (suc (suc (suc (suc (suc m))))) i t j c = outside c

-- ---- where the second main's call goes

abbrev SelectsR : ClassFact → Type 0
SelectsR (InSlot m i z t) = m ≡ 3 → i ≡ 1 → z ≡ OnStack 0 → t ≡ 2
SelectsR (CallsMethod m i n) = (m ≡ 3 → n ≡ 1) × (m ≡ 1 → ⊥)
SelectsR (CallsLibrary m i) = m ≡ 3 → i ≡ 1 → ⊥
SelectsR _ = Unit {0}

-- an instruction before that call makes its receiver
not_call : (m i j under : ℕ) {call : CallOp} {t : ℕ} → CallAt choosing m i call under → Leads choosing m i j → m ≡ 3 → j ≡ 1 → t ≡ 2
not_call m i j under at l e f = absurd (cc (the_new m i j e f l at.at).0)

number_of : (t : ℕ) → New (record { 0 = 2 }) ≡ New (record { 0 = t }) → t ≡ 2
number_of t e = let tokens : made_token 2 ≡ made_token t = cc e in sym (ap (λ (it : Token). it.0) tokens)
  where
    made_token : ℕ → Token
    made_token n = record { 0 = n }

in_slot : {ps : List ClassFact} (m i : ℕ) (z : Slot) (t : ℕ) → ClassRule choosing ps (InSlot m i z t) → Each SelectsR ps → m ≡ 3 → i ≡ 1 → z ≡ OnStack 0 → t ≡ 2
in_slot m i z t (begins_slot method found) each e f g = absurd (omega (arith, f))
in_slot m j y t (moved {i = i} o l copies passes) each e f g =
    absurd (no_copy 2 (inr (the_new m i j e f l o).0) (g ∙ ap OnStack (the_new m i j e f l o).1) copies)
in_slot m j y t (text_made {i = i} o l) each e f g = absurd (cc (the_new m i j e f l o).0)
in_slot m j y t (object_made {i = i} o l can) each e f g = number_of t (the_new m i j e f l o).0
in_slot m j y t (array_made {i = i} o l h outer) each e f g = absurd (cc (the_new m i j e f l o).0)
in_slot m j y t (got {i = i} o l) each e f g = absurd (cc (the_new m i j e f l o).0)
in_slot m j y t (got_static {i = i} o l) each e f g = absurd (cc (the_new m i j e f l o).0)
in_slot m j y t (element_got {i = i} o l) each e f g = absurd (cc (the_new m i j e f l o).0)
in_slot m j y t (handled {i = i} goes) each e f g = absurd (no_dest m i t j goes)
in_slot m j y t (handler_keeps {i = i} {t = thrown} goes) each e f g = absurd (no_dest m i thrown j goes)
in_slot m j y t (call_answers {i = i} {under = under} at l) each e f g = not_call m i j under at l e f
in_slot m j y t (library_fresh {i = i} {under = under} at l has new fits) each e f g = not_call m i j under at l e f
in_slot m j y t (library_argument {i = i} {under = under} at l has self some fits) each e f g = not_call m i j under at l e f
in_slot m j y t (library_member {i = i} {under = under} k at l has from fits) each e f g = not_call m i j under at l e f

chosen : (call : CallOp) (t : ℕ) {target : MethodAt} → Dispatches choosing call t target → (target ≡ select choosing t call.name call.desc) ⊎ ((target ≡ Library) × (IsClass choosing t → ⊥))
chosen call t (selected class fit) = inl refl
chosen call t (elsewhere other named) = inr (refl, other)

selects_r : (call : CallOp) (t : ℕ) → call ≡ call_m → t ≡ 2 → select choosing t call.name call.desc ≡ Program (record { 0 = 1 })
selects_r call t e f =
    subst (λ (c : CallOp). select choosing t c.name c.desc ≡ Program (record { 0 = 1 })) (sym e) (subst (λ (n : ℕ). select choosing n call_m.name call_m.desc ≡ Program (record { 0 = 1 })) (sym f) refl)

is_r : (t : ℕ) → t ≡ 2 → IsClass choosing t
is_r t e = subst (λ (n : ℕ). IsClass choosing n) (sym e) (class_r, refl)

-- the receiver of that call is alone on the stack
lowest : (i under height : ℕ) (call : CallOp) → IsOfSingle i (Call call) height → i ≡ 1 → height ≡ under + arguments call → (under ≡ 0) × (call ≡ call_m)
lowest i under height call (inl x) e h =
    let one : arguments call ≡ 1 = ap (λ (c : CallOp). arguments c) x.1 in
    (let at : height ≡ 1 = x.2 in omega (arith, at, h, one), x.1)
lowest i under height call (inr x) e h = absurd (let two : i ≡ 2 = x.0 in omega (arith, e, two))

method_number : (n k : ℕ) → Program (record { 0 = n }) ≡ Program (record { 0 = k }) → n ≡ k
method_number n k e = let ids : id_of n ≡ id_of k = cc e in ap (λ (it : MethodId). it.0) ids
  where
    id_of : ℕ → MethodId
    id_of x = record { 0 = x }

found_single : (i n height : ℕ) (call : CallOp) → IsOfSingle i (Call call) height → call.found ≡ Some (Program (record { 0 = n })) → ⊥
found_single i n height call (inl x) e = let same : call_m.found ≡ Some (Program (record { 0 = n })) = sym (ap (λ (c : CallOp). c.found) x.1) ∙ e in cc same
found_single i n height call (inr x) e = let same : sink.found ≡ Some (Program (record { 0 = n })) = sym (ap (λ (c : CallOp). c.found) x.1) ∙ e in cc same

calls_one : {ps : List ClassFact} (m i n : ℕ) → ClassRule choosing ps (CallsMethod m i n) → Each SelectsR ps → m ≡ 3 → n ≡ 1
calls_one m i n (found_method {call = call} method at (by_static k h) found can) each e = absurd (found_single i n at.height call (of_single m e at.at) h)
calls_one m i n (found_method {call = call} method at (by_special k h) found can) each e = absurd (found_single i n at.height call (of_single m e at.at) h)
calls_one m i n (selects_method {under = under} {t = t} {call = call} at dispatched d) each e =
    elim (of_single m e at.at) [
      | inl x ↦
          let place : (under ≡ 0) × (call ≡ call_m) = lowest i under at.height call (inl x) x.0 at.under_is in
          let low : under + 0 ≡ 0 = (let zero_under : under ≡ 0 = place.0 in omega (arith, zero_under)) in
          let token : t ≡ 2 = each.1.0 e x.0 (ap OnStack low) in
          elim (chosen call t d) [
            | inl here ↦ method_number n 1 (here ∙ selects_r call t place.1 token)
            | inr there ↦ absurd (there.1 (is_r t token))
          ]
      | inr x ↦ absurd (let kind : false ≡ true = sym (ap (λ (c : CallOp). is_dispatched c.kind) x.1) ∙ dispatched in cc kind)
    ]

no_call_in_r : {ps : List ClassFact} (m i n : ℕ) → ClassRule choosing ps (CallsMethod m i n) → m ≡ 1 → ⊥
no_call_in_r m i n (found_method method at finds found can) e = of_r m e at.at
no_call_in_r m i n (selects_method at dispatched d) e = of_r m e at.at

is_virtual : (m i : ℕ) {under : ℕ} {call : CallOp} → CallAt choosing m i call under → m ≡ 3 → i ≡ 1 → (under ≡ 0) × (call ≡ call_m)
is_virtual m i {under = under} {call = call} at e f = lowest i under at.height call (of_single m e at.at) f at.under_is

no_library : {ps : List ClassFact} (m i : ℕ) → ClassRule choosing ps (CallsLibrary m i) → Each SelectsR ps → m ≡ 3 → i ≡ 1 → ⊥
no_library m i (found_library {call = call} at finds) each e f = no_find call (is_virtual m i at e f).1 finds
  where
    no_find : (call : CallOp) → call ≡ call_m → Finds call Library → ⊥
    no_find call same (by_static k h) = let kind : Virtual ≡ Static = sym (ap (λ (c : CallOp). c.kind) same) ∙ k in cc kind
    no_find call same (by_special k h) = let kind : Virtual ≡ Special = sym (ap (λ (c : CallOp). c.kind) same) ∙ k in cc kind
    no_find call same (in_static_field k) = let kind : Virtual ≡ StaticField = sym (ap (λ (c : CallOp). c.kind) same) ∙ k in cc kind
    no_find call same (in_member_field k) = let kind : Virtual ≡ MemberField = sym (ap (λ (c : CallOp). c.kind) same) ∙ k in cc kind
no_library m i (selects_library {under = under} {t = t} {call = call} at dispatched d) each e f =
    let place : (under ≡ 0) × (call ≡ call_m) = is_virtual m i at e f in
    let low : under + 0 ≡ 0 = (let zero_under : under ≡ 0 = place.0 in omega (arith, zero_under)) in
    let token : t ≡ 2 = each.1.0 e f (ap OnStack low) in
    elim (chosen call t d) [
      | inl here ↦ absurd (let same : Library ≡ Program (record { 0 = 1 }) = here ∙ selects_r call t place.1 token in cc same)
      | inr there ↦ absurd (there.1 (is_r t token))
    ]

selects_solve : (ps : List ClassFact) (f : ClassFact) → ClassRule choosing ps f → Each SelectsR ps → SelectsR f
selects_solve ps (Reached m i) rule each = tt
selects_solve ps (InEnv t) rule each = tt
selects_solve ps (InSlot m i z t) rule each = in_slot m i z t rule each
selects_solve ps (InThrown m i t) rule each = tt
selects_solve ps (InParam m k t) rule each = tt
selects_solve ps (InResult m t) rule each = tt
selects_solve ps (InOut m t) rule each = tt
selects_solve ps (InField f t) rule each = tt
selects_solve ps (InBag b t) rule each = tt
selects_solve ps (CallsMethod m i n) rule each = (calls_one m i n rule each, no_call_in_r m i n rule)
selects_solve ps (CallsAbstract m i n) rule each = tt
selects_solve ps (CallsLibrary m i) rule each = no_library m i rule each
selects_solve ps (Spans t u) rule each = tt
selects_solve ps (Takes m i b) rule each = tt

class_fact : (f : ClassFact) → Classes choosing f → SelectsR f
class_fact f x = Least-below (ClassRule choosing) SelectsR selects_solve f x

pub only_r : (n : ℕ) → Classes choosing (CallsMethod 3 1 n) → n ≡ 1
only_r n x = (class_fact (CallsMethod 3 1 n) x).0 refl

-- ---- so its answer is clean

abbrev IsClean : Fact → Type 0
IsClean (Context m a) = Unit {0}
IsClean (At m i a b) = (m ≡ 1 → i ≡ 1 → b.slot (OnStack 0) ≡ false) × (m ≡ 3 → i ≡ 2 → b.slot (OnStack 0) ≡ false)
IsClean (Normal m a s) = m ≡ 1 → s.result ≡ false
IsClean (Threw m a s) = Unit {0}
IsClean (Stored c) = Unit {0}

after_text : (m i j : ℕ) (b after : Assignment) → Leads choosing m i j → IsNormalEnd choosing (analyses_of choosing) m i b after → m ≡ 1 → j ≡ 1 → after.slot (OnStack 0) ≡ false
after_text m i j b after l ends e f =
    let same : at 0 Text (1 ∷ []) 0 ≡ ends.instr = the_text m i j ends.instr e f l ends.found in
    text_turns (analyses_of choosing) m i b (ap (λ (x : Instr). x.op) same) (ap (λ (x : Instr). OnStack x.height) same) (ends.slots (OnStack 0))

-- the second main's call has no library part
no_part : (m i j : ℕ) (b after : Assignment) → Leads choosing m i j → IsNormalEnd choosing (analyses_of choosing) m i b after → m ≡ 3 → j ≡ 2 → ⊥
no_part m i j b after l ends e f =
    let first : i ≡ 1 = (let next : j ≡ suc i = next_in_single m i j e l in omega (arith, next, f)) in
    let found : instr_at choosing 3 1 ≡ Some ends.instr = subst (λ (k : ℕ). instr_at choosing 3 k ≡ Some ends.instr) first (subst (λ (n : ℕ). instr_at choosing n i ≡ Some ends.instr) e ends.found) in
    let same : at 1 (Call call_m) (2 ∷ []) 1 ≡ ends.instr = cc found in
    let part : Classes choosing (CallsLibrary m i) = subst (λ (x : Instr). IsLibraryPart (analyses_of choosing) m i x.op) (sym same) ends.library in
    class_fact (CallsLibrary m i) part e first

popped_receiver : {y : Slot} (under : ℕ) → under ≡ 0 → y ≡ OnStack 0 → IsLeft under y → ⊥
popped_receiver under low e left_local = cc e
popped_receiver under low e (left_stack {k = k} h) = let same : k ≡ 0 = cc e in omega (arith, h, low, same)

-- what it pushes is the callee's result
result_turns : (m i n count under : ℕ) (answers : Bool) (b : Assignment) (s : Summary) {y : Slot} {t : Bool} → under ≡ 0 → y ≡ OnStack 0 → s.result ≡ false
    → CallTurns (analyses_of choosing) m i n count under answers b s y t → t ≡ false
result_turns m i n count under answers b s low e clean (call_kept left) = absurd (popped_receiver under low e left)
result_turns m i n count under answers b s low e clean (call_affected left affected h) = absurd (popped_receiver under low e left)
result_turns m i n count under answers b s low e clean (call_answered is) = clean
result_turns m i n count under answers b s low e clean (call_above h) = refl

-- no class has a class initialiser
no_inits : (c : ℕ) → inits_of_class (slice_get choosing.classes c) ≡ []
no_inits zero = refl
no_inits (suc zero) = refl
no_inits (suc (suc zero)) = refl
no_inits (suc (suc (suc c))) = refl

clean_solve : (ps : List Fact) (f : Fact) → Rule choosing (analyses_of choosing) ps f → Each IsClean ps → IsClean f
clean_solve _ _ (initializer_called x is) each = tt
clean_solve _ _ (constructor_called entry objects cons is) each = tt
clean_solve _ _ (entry_called entry cells x) each = tt
clean_solve _ _ (called x) each = tt
clean_solve _ _ (initialized x is) each = tt
clean_solve _ _ begins each = (λ e f. absurd (omega (arith, f)), λ e f. absurd (omega (arith, f)))
clean_solve _ _ (steps {m = m} {i = i} {j = j} {b = b} {after = after} o l ends reads) each =
    (after_text m i j b after l ends, λ e f. absurd (no_part m i j b after l ends e f))
clean_solve _ _ (reads_stored_field {m = m} {i = i} {j = j} {b = b} {after = after} o l ends reads true_one answers) each =
    (after_text m i j b after l ends, λ e f. absurd (no_part m i j b after l ends e f))
clean_solve _ _ (initializer_resumes o x is h) each = absurd (no_init choosing no_inits x)
clean_solve _ _ (call_resumes {m = m} {i = i} {j = j} {n = n} {under = under} {call = call} {b = b} {after = after} {s = s} calls l ret) each = (
  λ e f. absurd ((class_fact (CallsMethod m i n) calls.goes).1 e),
  λ e f.
      let first : i ≡ 1 = (let next : j ≡ suc i = next_in_single m i j e l in omega (arith, next, f)) in
      result_turns m i n (arguments call) under (has_result call.result) b s (is_virtual m i calls.at e first).0 refl (each.1.0 ((class_fact (CallsMethod m i n) calls.goes).0 e)) (ret.slots (OnStack 0)),
)
clean_solve _ _ (caught {m = m} {i = i} {j = j} {t = t} x goes ends h) each = absurd (no_dest m i t j goes)
clean_solve _ _ (callee_caught {m = m} {i = i} {j = j} {t = t} calls x goes ends h) each = absurd (no_dest m i t j goes)
clean_solve _ _ (leaves x goes ends) each = tt
clean_solve _ _ (callee_leaves calls x goes ends) each = tt
clean_solve _ _ (method_returns {m = m} {i = i} {k = k} {b = b} o) each = λ e.
    let here : (i ≡ 1) × (suc k ≡ 1) = of_r m e o in
    let low : k ≡ 0 = (let one : suc k ≡ 1 = here.1 in omega (arith, one)) in
    ap (λ (n : ℕ). b.slot (OnStack n)) low ∙ each.0.0 e here.0
clean_solve _ _ (method_ends o) each = λ e. refl
clean_solve _ _ (stored o s is) each = tt
clean_solve _ _ (taken at takes is) each = tt

is_clean : (f : Fact) → Known choosing f → IsClean f
is_clean f x = Least-below (Rule choosing (analyses_of choosing)) IsClean clean_solve f x

pub not_warned : IsWarned choosing (Known choosing) (choosing_site 3 2) → ⊥
not_warned w =
    let clean : w.b.slot (OnStack 0) ≡ false = (is_clean (At 3 2 w.a w.b) w.fact).1 refl refl in
    let is : w.b.slot (OnStack 0) ≡ true = subst (λ (z : Slot). w.b.slot z ≡ true) (lowest_argument choosing 3 2 (at 2 (Call sink) (3 ∷ []) 1) w.call w.under w.k refl refl refl w.at w.listed) w.true_argument in
    absurd (cc (clean, is))
