-- The clean sink: nothing tainted is stored into the second field or into what it may hold, so what is read of it is clean.
use Rattle.std.proofs.Common.{◌≡◌, ℕ, zero, suc, true, false, List, [], ◌∷◌, Some, refl, sym, ap, subst, ◌∙◌, arith, inl}
use Rattle.std.specs.Prelude.{Contains, slice_get}
use Rattle.ja_ir.specs.declared.class.Field.{Field}
use Rattle.ja_ir.specs.declared.class.MethodAt.TheVariants.{Program, Library}
use Rattle.ja_ir.specs.declared.method.Instr.{Instr}
use Rattle.ja_ir.specs.declared.op.CallOp.{CallOp}
use Rattle.ja_ir.specs.declared.op.Op.{Op}
use Rattle.ja_ir.specs.declared.op.Op.TheVariants.{Text, GetStatic, PutStatic, GetField, PutField, Call, NewArray, ArrLoad, ArrStore}
use Rattle.ja_ir.specs.Lookup.{OpAt, Leads, instr_at}
use Rattle.ja_ir.specs.Operations.{is_dispatched}
use Rattle.ja_ir.specs.Tokens.{absorbs}
use Rattle.ja_ir.specs.Handlers.{Inside, dest}
use Rattle.ja_ir.specs.Examples.{at}
use Rattle.ja_facts.specs.Least.{Each}
use Rattle.ja_facts.specs.Slots.{Slot, OnStack, CallAt}
use Rattle.ja_facts.specs.ClassSets.{Fact as ClassFact, Reached, InEnv, InSlot, InThrown, InParam, InResult, InOut, InField, InBag, CallsMethod, CallsAbstract, CallsLibrary, Spans, Takes, HasField, Rule as ClassRule, spans_itself, spans_field, spans_bag}
use Rattle.ja_facts.specs.ClassSets.{begins as begins_slot, moved, text_made, made as object_made, array_made, got, got_static, put, put_static, text_field, element_got, handled, handler_keeps, found_method, selects_method, by_static, by_special, answered as call_answered, library_fresh, library_argument, library_member}
use Rattle.ja_facts.specs.Held.{Fact as HeldFact, TokenHolds, FieldHolds, Cell, OfField, holds_field, holds_bag, of_field, Rule as HeldRule}
use Rattle.ja_facts.specs.Formulas.{Assignment, IsNormalEnd}
use Rattle.ja_facts.specs.Equations.{Fact, Context, At, Normal, Threw, Stored, initializer_called, constructor_called, entry_called, called, initialized, begins, steps, reads_stored_field, call_resumes, initializer_resumes, caught, callee_caught, leaves, callee_leaves, method_returns, method_ends, stored, taken, Reads, reads_field, reads_static, itself, held, stores_field, stores_static, stores_reference, stores_word, stores_pair, IsWarned, Answers, Rule, Taints}
use Rattle.ja_facts.specs.Verdict.{AreVerdicts}
use Rattle.ja_facts.proofs.LeastLaws.{Least-below}
use Rattle.ja_facts.specs.Analyses.{Classes, Helds, analyses_of}
use Rattle.ja_examples.specs.Library.{sink}
use Rattle.ja_examples.specs.Parting.{parting, parting_main, parted_site, two_fields}
use Rattle.ja_examples.proofs.Clean.{outside, no_copy, text_turns, lowest_argument}
use Rattle.ja_examples.proofs.Listed.{AllFrom, all_at, no_item, next_of, flag_of}
use Rattle.ja_ir.specs.Initializing.{inits_of_class}
use Rattle.ja_examples.proofs.Deriving.{Known}
use Rattle.ja_examples.proofs.Initless.{no_init}

-- ---- the instructions

-- instruction 6 alone writes to the second field; calls go to the library; there are no arrays and no static fields
abbrev IsOf : ℕ → Op → ℕ → Type 0
IsOf i (PutField f) height = f.0 ≡ 1 → (i ≡ 6) × (height ≡ 3)
IsOf i (Call call) height = (is_dispatched call.kind ≡ false) × (call.found ≡ Some Library)
IsOf i (GetStatic f) height = ⊥
IsOf i (PutStatic f) height = ⊥
IsOf i (NewArray last dimensions) height = ⊥
IsOf i (ArrLoad kind) height = ⊥
IsOf i (ArrStore kind) height = ⊥
IsOf i _ height = Unit {0}

-- and each instruction leads to the one after it, if to any
abbrev IsInstr : ℕ → Instr → Type 0
IsInstr i x = IsOf i x.op x.height × ((j : ℕ) → Contains x.next j → j ≡ suc i)

all_main : AllFrom IsInstr 0 parting_main.code
all_main = (
  (tt, next_of 0 (1 ∷ []) refl),
  (
    (tt, next_of 1 (2 ∷ []) refl),
    (
      ((refl, refl), next_of 2 (3 ∷ []) refl),
      (
        (λ e. absurd (omega (arith, e)), next_of 3 (4 ∷ []) refl),
        (
          (tt, next_of 4 (5 ∷ []) refl),
          (
            (tt, next_of 5 (6 ∷ []) refl),
            (
              (λ e. (refl, refl), next_of 6 (7 ∷ []) refl),
              (
                (tt, next_of 7 (8 ∷ []) refl),
                (((refl, refl), next_of 8 (9 ∷ []) refl), ((tt, λ j c. absurd (no_item j c)), tt)),
              ),
            ),
          ),
        ),
      ),
    ),
  ),
)

of_main : (m : ℕ) {i height : ℕ} {op : Op} → OpAt parting m i op height → IsOf i op height
of_main zero {i = i} {height = height} o =
    subst (λ (h : ℕ). IsOf i _ h) o.is_height (subst (λ (z : Op). IsOf i z o.instr.height) o.is_op (all_at IsInstr parting_main.code all_main i o.instr o.found).0)
of_main (suc m) o = absurd (cc o.found)

leads_next : (m i j : ℕ) → Leads parting m i j → j ≡ suc i
leads_next zero i j l = (all_at IsInstr parting_main.code all_main i l.instr l.found).1 j l.listed
leads_next (suc m) i j l = absurd (cc l.found)

-- instruction 5 makes a text, and instruction 7 reads the second field
the_text : (m i : ℕ) (x : Instr) → instr_at parting m i ≡ Some x → i ≡ 5 → at 5 Text (6 ∷ []) 2 ≡ x
the_text zero i x found e = let here : instr_at parting 0 5 ≡ Some x = subst (λ (k : ℕ). instr_at parting 0 k ≡ Some x) e found in cc here
the_text (suc m) i x found e = absurd (cc found)

the_read : (m i : ℕ) (x : Instr) → instr_at parting m i ≡ Some x → i ≡ 7 → at 7 (GetField (record { 0 = 1 })) (8 ∷ []) 1 ≡ x
the_read zero i x found e = let here : instr_at parting 0 7 ≡ Some x = subst (λ (k : ℕ). instr_at parting 0 k ≡ Some x) e found in cc here
the_read (suc m) i x found e = absurd (cc found)

before : (m i j k : ℕ) → Leads parting m i j → j ≡ suc k → i ≡ k
before m i j k l e = let next : j ≡ suc i = leads_next m i j l in omega (arith, next, e)

text_op : (m i j : ℕ) {op : Op} {height : ℕ} → OpAt parting m i op height → Leads parting m i j → j ≡ 6 → Text ≡ op
text_op m i j o l e = ap (λ (x : Instr). x.op) (the_text m i o.instr o.found (before m i j 5 l e)) ∙ o.is_op

text_height : (m i j : ℕ) {op : Op} {height : ℕ} → OpAt parting m i op height → Leads parting m i j → j ≡ 6 → 2 ≡ height
text_height m i j o l e = ap (λ (x : Instr). x.height) (the_text m i o.instr o.found (before m i j 5 l e)) ∙ o.is_height

no_dest : (m i t j : ℕ) → Contains (dest parting m i t) (Inside j) → ⊥
no_dest zero i t j c = outside c
no_dest (suc m) i t j c = outside c

-- no class has a class initialiser
no_inits : (c : ℕ) → inits_of_class (slice_get parting.classes c) ≡ []
no_inits zero = refl
no_inits (suc c) = refl

-- ---- the second field has texts alone

-- the value that instruction 6 writes
abbrev IsValue : ℕ → Slot → Type 0
IsValue i z = (i ≡ 6) × (z ≡ OnStack 2)

abbrev HasTexts : ClassFact → Type 0
HasTexts (InSlot m i z t) = IsValue i z → t ≡ 1
HasTexts (InField f t) = f ≡ 1 → t ≡ 1
HasTexts (CallsMethod m i n) = ⊥
HasTexts (Spans t u) = t ≡ 1 → u ≡ 1
HasTexts _ = Unit {0}

no_text : (m i j under : ℕ) {call : CallOp} {t : ℕ} → CallAt parting m i call under → Leads parting m i j → j ≡ 6 → t ≡ 1
no_text m i j under at l e = absurd (cc (text_op m i j at.at l e))

no_callee : (m i n : ℕ) {ps : List ClassFact} → ClassRule parting ps (CallsMethod m i n) → ⊥
no_callee m i n (found_method {call = call} method at (by_static k e) found can) = absurd (let same : Some Library ≡ Some (Program (record { 0 = n })) = sym (of_main m at.at).1 ∙ e in cc same)
no_callee m i n (found_method {call = call} method at (by_special k e) found can) = absurd (let same : Some Library ≡ Some (Program (record { 0 = n })) = sym (of_main m at.at).1 ∙ e in cc same)
no_callee m i n (selects_method at dispatched d) = absurd (cc ((of_main m at.at).0, dispatched))

in_slot : {ps : List ClassFact} (m i : ℕ) (z : Slot) (t : ℕ) → ClassRule parting ps (InSlot m i z t) → Each HasTexts ps → IsValue i z → t ≡ 1
in_slot m i z t (begins_slot method found) each is = absurd (omega (arith, is.0))
in_slot m j y t (moved {i = i} o l copies passes) each is = absurd (no_copy 0 (inl (text_op m i j o l is.0)) (is.1 ∙ ap OnStack (text_height m i j o l is.0)) copies)
in_slot m j y t (text_made o l) each is = refl
in_slot m j y t (object_made {i = i} o l can) each is = absurd (cc (text_op m i j o l is.0))
in_slot m j y t (array_made {i = i} o l e outer) each is = absurd (of_main m o)
in_slot m j y t (got {i = i} o l) each is = absurd (cc (text_op m i j o l is.0))
in_slot m j y t (got_static {i = i} o l) each is = absurd (of_main m o)
in_slot m j y t (element_got {i = i} o l) each is = absurd (of_main m o)
in_slot m j y t (handled {i = i} goes) each is = absurd (no_dest m i t j goes)
in_slot m j y t (handler_keeps {i = i} {t = thrown} goes) each is = absurd (no_dest m i thrown j goes)
in_slot m j y t (call_answered at l) each is = absurd each.1.0
in_slot m j y t (library_fresh {i = i} {under = under} at l has new fits) each is = no_text m i j under at l is.0
in_slot m j y t (library_argument {i = i} {under = under} at l has self some fits) each is = no_text m i j under at l is.0
in_slot m j y t (library_member {i = i} {under = under} k at l has from fits) each is = no_text m i j under at l is.0

no_constant : (f : ℕ) (field : Field) → slice_get two_fields f ≡ Some field → field.text ≡ true → ⊥
no_constant zero field found text = let flag : Some false ≡ Some field.text = ap flag_of found in absurd (cc (flag, text))
no_constant (suc zero) field found text = let flag : Some false ≡ Some field.text = ap flag_of found in absurd (cc (flag, text))
no_constant (suc (suc f)) field found text = absurd (cc found)

in_field : {ps : List ClassFact} (f t : ℕ) → ClassRule parting ps (InField f t) → Each HasTexts ps → f ≡ 1 → t ≡ 1
in_field f t (put {m = m} {i = i} {k = k} o) each e =
    let here : (i ≡ 6) × (suc (suc k) ≡ 3) = of_main m o e in
    let one : suc k ≡ 2 = (let both : suc (suc k) ≡ 3 = here.1 in omega (arith, both)) in
    each.1.0 (here.0, ap OnStack one)
in_field f t (put_static {m = m} o) each e = absurd (of_main m o)
in_field f t (text_field field found text) each e = absurd (no_constant f field found text)

-- a text has no fields, and takes nothing
no_field : (u f : ℕ) → u ≡ 1 → HasField parting u f → ⊥
no_field u f e has = let found : slice_get parting.classes 1 ≡ Some has.class.0 = subst (λ (t : ℕ). slice_get parting.classes t ≡ Some has.class.0) e has.class.1 in cc found

no_bag : (u : ℕ) → u ≡ 1 → absorbs parting u ≡ true → ⊥
no_bag u e has = let is : absorbs parting 1 ≡ true = subst (λ (t : ℕ). absorbs parting t ≡ true) e has in cc is

spans : {ps : List ClassFact} (t u : ℕ) → ClassRule parting ps (Spans t u) → Each HasTexts ps → t ≡ 1 → u ≡ 1
spans t u spans_itself each e = e
spans t u (spans_field {u = v} f has) each e = absurd (no_field v f (each.0 e) has)
spans t u (spans_bag {u = v} takes) each e = absurd (no_bag v (each.0 e) takes)

texts_solve : (ps : List ClassFact) (f : ClassFact) → ClassRule parting ps f → Each HasTexts ps → HasTexts f
texts_solve ps (Reached m i) rule each = tt
texts_solve ps (InEnv t) rule each = tt
texts_solve ps (InSlot m i z t) rule each = in_slot m i z t rule each
texts_solve ps (InThrown m i t) rule each = tt
texts_solve ps (InParam m k t) rule each = tt
texts_solve ps (InResult m t) rule each = tt
texts_solve ps (InOut m t) rule each = tt
texts_solve ps (InField f t) rule each = in_field f t rule each
texts_solve ps (InBag b t) rule each = tt
texts_solve ps (CallsMethod m i n) rule each = no_callee m i n rule
texts_solve ps (CallsAbstract m i n) rule each = tt
texts_solve ps (CallsLibrary m i) rule each = tt
texts_solve ps (Spans t u) rule each = spans t u rule each
texts_solve ps (Takes m i b) rule each = tt

has_texts : (f : ClassFact) → Classes parting f → HasTexts f
has_texts f x = Least-below (ClassRule parting) HasTexts texts_solve f x

-- ---- so it holds nothing

abbrev HoldsNothing : HeldFact → Type 0
HoldsNothing (TokenHolds t c) = t ≡ 1 → ⊥
HoldsNothing (FieldHolds f c) = f ≡ 1 → ⊥

held_solve : (ps : List HeldFact) (f : HeldFact) → HeldRule parting (Classes parting) ps f → Each HoldsNothing ps → HoldsNothing f
held_solve _ _ (holds_field {t = t} {u = u} {f = f} leads has) each = λ e. no_field u f (has_texts (Spans t u) leads e) has
held_solve _ _ (holds_bag {t = t} {u = u} leads takes) each = λ e. no_bag u (has_texts (Spans t u) leads e) takes
held_solve _ _ (of_field {f = f} {t = t} member) each = λ e. each.0 (has_texts (InField f t) member e)

pub holds_nothing : (c : Cell) → Helds parting (FieldHolds 1 c) → ⊥
holds_nothing c x = Least-below (HeldRule parting (Classes parting)) HoldsNothing held_solve (FieldHolds 1 c) x refl

-- ---- and what is read of it is clean

abbrev IsClean : Fact → Type 0
IsClean (Context m a) = Unit {0}
IsClean (At m i a b) = (i ≡ 6 → b.slot (OnStack 2) ≡ false) × (i ≡ 8 → b.slot (OnStack 0) ≡ false)
IsClean (Normal m a s) = Unit {0}
IsClean (Threw m a s) = Unit {0}
IsClean (Stored c) = c ≡ OfField 1 → ⊥

after_text : (m i j : ℕ) (b after : Assignment) → Leads parting m i j → IsNormalEnd parting (analyses_of parting) m i b after → j ≡ 6 → after.slot (OnStack 2) ≡ false
after_text m i j b after l ends e =
    let same : at 5 Text (6 ∷ []) 2 ≡ ends.instr = the_text m i ends.instr ends.found (before m i j 5 l e) in
    text_turns (analyses_of parting) m i b (ap (λ (x : Instr). x.op) same) (ap (λ (x : Instr). OnStack x.height) same) (ends.slots (OnStack 2))

-- instruction 7 reads the second field into the lowest place of the stack
reads_second : (m i j : ℕ) {op : Op} {height : ℕ} → OpAt parting m i op height → Leads parting m i j → j ≡ 8 → Reads op height 1 (OnStack 0)
reads_second m i j {op = op} {height = height} o l e =
    let same : at 7 (GetField (record { 0 = 1 })) (8 ∷ []) 1 ≡ o.instr = the_read m i o.instr o.found (before m i j 7 l e) in
    let is : GetField (record { 0 = 1 }) ≡ op = ap (λ (x : Instr). x.op) same ∙ o.is_op in
    let at : 1 ≡ height = ap (λ (x : Instr). x.height) same ∙ o.is_height in
    subst (λ (h : ℕ). Reads op h 1 (OnStack 0)) at (subst (λ (z : Op). Reads z 1 1 (OnStack 0)) is (reads_field {k = 0} refl))

-- it reads no other field
one_read : {op : Op} {height f g : ℕ} {r x : Slot} → Reads op height f r → Reads op height g x → f ≡ g
one_read (reads_field h) second = of_field_read second
  where
    of_field_read : {f height g : ℕ} {x : Slot} → Reads (GetField (record { 0 = f })) height g x → f ≡ g
    of_field_read (reads_field h) = refl
one_read reads_static second = of_static_read second
  where
    of_static_read : {f height g : ℕ} {x : Slot} → Reads (GetStatic (record { 0 = f })) height g x → f ≡ g
    of_static_read reads_static = refl

same_cell : (f : ℕ) → OfField f ≡ OfField 1 → f ≡ 1
same_cell f e = cc e

clean_solve : (ps : List Fact) (f : Fact) → Rule parting (analyses_of parting) ps f → Each IsClean ps → IsClean f
clean_solve _ _ (initializer_called x is) each = tt
clean_solve _ _ (constructor_called entry objects cons is) each = tt
clean_solve _ _ (entry_called entry cells x) each = tt
clean_solve _ _ (called x) each = tt
clean_solve _ _ (initialized x is) each = tt
clean_solve _ _ begins each = (λ e. absurd (omega (arith, e)), λ e. absurd (omega (arith, e)))
clean_solve _ _ (steps {m = m} {i = i} {j = j} {b = b} {after = after} o l ends reads) each =
    (after_text m i j b after l ends, λ e. reads 1 (OnStack 0) (reads_second m i j o l e))
clean_solve _ _ (reads_stored_field {m = m} {i = i} {j = j} {b = b} {after = after} o l ends reads true_one answers) each =
    (after_text m i j b after l ends, λ e. absurd (no_answer (one_read reads (reads_second m i j o l e)) answers each.1.0))
  where
    no_answer : {f : ℕ} {cell : Cell} → f ≡ 1 → Answers (analyses_of parting) f cell → IsClean (Stored cell) → ⊥
    no_answer e itself clean = clean (ap OfField e)
    no_answer {cell = cell} e (held h) clean = holds_nothing cell (subst (λ (g : ℕ). Helds parting (FieldHolds g cell)) e h)
clean_solve _ _ (call_resumes {m = m} {i = i} {n = n} calls l h) each = absurd (has_texts (CallsMethod m i n) calls.goes)
clean_solve _ _ (initializer_resumes o x is h) each = absurd (no_init parting no_inits x)
clean_solve _ _ (caught {m = m} {i = i} {j = j} {t = t} x goes ends h) each = absurd (no_dest m i t j goes)
clean_solve _ _ (callee_caught {m = m} {i = i} {n = n} calls x goes ends h) each = absurd (has_texts (CallsMethod m i n) calls.goes)
clean_solve _ _ (leaves x goes ends) each = tt
clean_solve _ _ (callee_leaves calls x goes ends) each = tt
clean_solve _ _ (method_returns o) each = tt
clean_solve _ _ (method_ends o) each = tt
clean_solve _ _ (stored {m = m} {i = i} {b = b} o (stores_field {f = f} {height = height} {k = k} h) is) each =
    λ e.
    let here : (i ≡ 6) × (height ≡ 3) = of_main m o (same_cell f e) in
    let place : suc k ≡ 2 = (let both : height ≡ 3 = here.1 in omega (arith, both, h)) in
    let clean : b.slot (OnStack (suc k)) ≡ false = ap (λ (n : ℕ). b.slot (OnStack n)) place ∙ each.0.0 here.0 in
    cc (clean, is)
clean_solve _ _ (stored {m = m} o (stores_static h) is) each = absurd (of_main m o)
clean_solve _ _ (stored o (stores_reference h) is) each = λ e. cc e
clean_solve _ _ (stored o (stores_word h) is) each = λ e. cc e
clean_solve _ _ (stored o (stores_pair h) is) each = λ e. cc e
clean_solve _ _ (taken at takes is) each = λ e. cc e

is_clean : (f : Fact) → Known parting f → IsClean f
is_clean f x = Least-below (Rule parting (analyses_of parting)) IsClean clean_solve f x

pub not_stored : Known parting (Stored (OfField 1)) → ⊥
not_stored x = is_clean (Stored (OfField 1)) x refl

pub not_warned : IsWarned parting (Known parting) parted_site → ⊥
not_warned w =
    let clean : w.b.slot (OnStack 0) ≡ false = (is_clean (At 0 8 w.a w.b) w.fact).1 refl in
    let is : w.b.slot (OnStack 0) ≡ true = subst (λ (z : Slot). w.b.slot z ≡ true) (lowest_argument parting 0 8 (at 8 (Call sink) (9 ∷ []) 1) w.call w.under w.k refl refl refl w.at w.listed) w.true_argument in
    absurd (cc (clean, is))

pub verdicts : AreVerdicts parting (Taints parting) (false ∷ [])
verdicts = ((λ t. absurd (cc t), λ w. absurd (not_warned w)), tt)
