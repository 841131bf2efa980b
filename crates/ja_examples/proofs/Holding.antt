-- What the field of the program with the builder may hold: the bags of library objects, and nothing else. The values that come into the
-- field and into those bags are texts and library objects.
use Rattle.std.proofs.Common.{◌≡◌, ◌⊎◌, inl, inr, ℕ, zero, suc, ◌+◌, ◌<◌, Bool, true, false, ◌||◌, List, [], ◌∷◌, Some, None, refl, sym, ap, subst, ◌∙◌, arith}
use Rattle.std.specs.Prelude.{Contains, slice_get}
use Rattle.ja_ir.specs.declared.class.Field.{Field}
use Rattle.ja_base.specs.declared.java_type.JavaType.{JavaType}
use Rattle.ja_ir.specs.declared.row.RowResult.TheVariants.{Fresh, Argument}
use Rattle.ja_ir.specs.declared.class.MethodAt.{MethodAt}
use Rattle.ja_ir.specs.declared.class.MethodAt.TheVariants.{Program, Library}
use Rattle.ja_ir.specs.declared.method.Method.{Method}
use Rattle.ja_ir.specs.declared.method.Instr.{Instr}
use Rattle.ja_ir.specs.declared.entry.Entry.{Entry}
use Rattle.ja_ir.specs.declared.op.CallOp.{CallOp}
use Rattle.ja_ir.specs.declared.op.Op.{Op}
use Rattle.ja_ir.specs.declared.op.Op.TheVariants.{New, Load, Store, GetStatic, PutStatic, GetField, PutField, Shuffle, Cast, Text, Call, NewArray, ArrLoad, ArrStore}
use Rattle.ja_ir.specs.Lookup.{OpAt, Leads, is_member, select}
use Rattle.ja_ir.specs.Operations.{arguments, pops}
use Rattle.ja_ir.specs.Tokens.{absorbs, fresh_tokens}
use Rattle.ja_ir.specs.Handlers.{Inside, dest}
use Rattle.ja_facts.specs.Least.{Each}
use Rattle.ja_facts.specs.Slots.{Slot, Local, OnStack, Copies, kept_local, kept_stack, loaded, stored, shuffled, checked}
use Rattle.ja_facts.specs.Actions.{HasObjects, IsEntry}
use Rattle.ja_facts.specs.ClassSets.{Fact as ClassFact, Reached, InEnv, InSlot, InThrown, InParam, InResult, InOut, InField, InBag, CallsMethod, CallsAbstract, CallsLibrary, Spans, Takes, HasField, HasReference, LeadsFrom, Dispatches, IsSource, Rule as ClassRule, spans_itself, spans_field, spans_bag}
use Rattle.ja_facts.specs.ClassSets.{env_object, env_fresh, env_bag, begins, moved, text_made, made, array_made, array_filled, got, got_static, put, put_static, text_field, element_got, element_put, handled, handler_keeps, found_method, selects_method, selected, elsewhere, by_static, by_special, answered, taker, taken, library_fresh, library_filled, library_argument, library_member}
use Rattle.ja_facts.specs.Held.{Fact as HeldFact, TokenHolds, FieldHolds, Cell, OfBag, holds_field, holds_bag, of_field, Rule as HeldRule}
use Rattle.ja_facts.proofs.LeastLaws.{Least-below}
use Rattle.ja_facts.specs.Analyses.{Classes, Helds}
use Rattle.ja_examples.specs.Truth.{is_number}
use Rattle.ja_examples.specs.Library.{string, source, append, to_text, sink}
use Rattle.ja_examples.specs.Building.{building, building_main, building_entry}
use Rattle.ja_examples.proofs.Clean.{outside}
use Rattle.ja_examples.proofs.Listed.{AllFrom, all_at, only_item, no_item, next_of, flag_of}
use Rattle.ja_ir.specs.Params.{param_local, HasParam}

-- a text or a library object
abbrev IsPlain : ℕ → Type 0
IsPlain t = (t ≡ 1) ⊎ (t ≡ 2)

-- the slots in which only these are: all but those that may have the object with the field
abbrev IsOther : ℕ → Slot → Type 0
IsOther i (Local l) = l ≡ 1
IsOther i (OnStack zero) = (i ≡ 3) ⊎ ((i ≡ 8) ⊎ (i ≡ 9))
IsOther i (OnStack (suc zero)) = Unit {0}
IsOther i (OnStack (suc (suc k))) = ⊥

-- what an operation pushes or keeps of the lowest place is other where it then is
abbrev IsOf : ℕ → Op → ℕ → Type 0
IsOf i (Load kind l) height = IsOther (suc i) (OnStack height) → l ≡ 1
IsOf i (Store kind l) height = (k : ℕ) → height ≡ suc k → l ≡ 1 → IsOther i (OnStack k)
IsOf i (New token) height = IsOther (suc i) (OnStack height) → token.0 ≡ 2
IsOf i (Shuffle n pushed) height = pushed ≡ []
IsOf i (PutField f) height = (i ≡ 6) × (height ≡ 2)
IsOf i (GetField f) height = (i ≡ 12) × (height ≡ 1)
IsOf i (Call call) height =
    ((i ≡ 8) × (call ≡ source) × (height ≡ 1)) ⊎ (((i ≡ 9) × (call ≡ append) × (height ≡ 2)) ⊎ (((i ≡ 13) × (call ≡ to_text) × (height ≡ 1)) ⊎ ((i ≡ 14) × (call ≡ sink) × (height ≡ 1))))
IsOf i Text height = ⊥
IsOf i (Cast name) height = ⊥
IsOf i (GetStatic f) height = ⊥
IsOf i (PutStatic f) height = ⊥
IsOf i (NewArray last dimensions) height = ⊥
IsOf i (ArrLoad kind) height = ⊥
IsOf i (ArrStore kind) height = ⊥
IsOf i _ height = Unit {0}

abbrev KeepsLow : ℕ → Op → ℕ → Type 0
KeepsLow i op height = pops op < height → IsOther (suc i) (OnStack 0) → i ≡ 8

abbrev GoesOn : ℕ → List ℕ → Type 0
GoesOn i next = (j : ℕ) → Contains next j → j ≡ suc i

record IsInstr (i : ℕ) (x : Instr) : Type 0 where
  of : IsOf i x.op x.height
  low : KeepsLow i x.op x.height
  on : GoesOn i x.next

-- the lowest place is other after instructions 2, 7 and 8 alone
abbrev makes_other : ℕ → Bool
makes_other i = is_number 2 i || (is_number 7 i || is_number 8 i)

far : (i : ℕ) → makes_other i ≡ false → IsOther (suc i) (OnStack 0) → ⊥
far i none (inl e) = let same : i ≡ 2 = omega (arith, e) in cc (subst (λ (n : ℕ). makes_other n ≡ false) same none)
far i none (inr (inl e)) = let same : i ≡ 7 = omega (arith, e) in cc (subst (λ (n : ℕ). makes_other n ≡ false) same none)
far i none (inr (inr e)) = let same : i ≡ 8 = omega (arith, e) in cc (subst (λ (n : ℕ). makes_other n ≡ false) same none)

all_main : AllFrom IsInstr 0 building_main.code
all_main = (
  record { of = λ o. absurd (far 0 refl o); low = λ h o. absurd (far 0 refl o); on = next_of 0 (1 ∷ []) refl },
  (
    record { of = λ k h e. absurd (cc e); low = λ h o. absurd (far 1 refl o); on = next_of 1 (2 ∷ []) refl },
    (
      record { of = λ o. refl; low = λ h o. absurd (omega (arith, h)); on = next_of 2 (3 ∷ []) refl },
      (
        record { of = λ k h e. store_low k h; low = λ h o. absurd (far 3 refl o); on = next_of 3 (4 ∷ []) refl },
        (
          record { of = λ o. absurd (far 4 refl o); low = λ h o. absurd (far 4 refl o); on = next_of 4 (5 ∷ []) refl },
          (
            record { of = λ o. refl; low = λ h o. absurd (far 5 refl o); on = next_of 5 (6 ∷ []) refl },
            (
              record { of = (refl, refl); low = λ h o. absurd (far 6 refl o); on = next_of 6 (7 ∷ []) refl },
              (
                record { of = λ o. refl; low = λ h o. absurd (omega (arith, h)); on = next_of 7 (8 ∷ []) refl },
                (
                  record { of = inl (refl, refl, refl); low = λ h o. refl; on = next_of 8 (9 ∷ []) refl },
                  (
                    record { of = inr (inl (refl, refl, refl)); low = λ h o. absurd (far 9 refl o); on = next_of 9 (10 ∷ []) refl },
                    (
                      record { of = refl; low = λ h o. absurd (far 10 refl o); on = next_of 10 (11 ∷ []) refl },
                      (
                        record { of = λ o. absurd (far 11 refl o); low = λ h o. absurd (far 11 refl o); on = next_of 11 (12 ∷ []) refl },
                        (
                          record { of = (refl, refl); low = λ h o. absurd (far 12 refl o); on = next_of 12 (13 ∷ []) refl },
                          (
                            record { of = inr (inr (inl (refl, refl, refl))); low = λ h o. absurd (far 13 refl o); on = next_of 13 (14 ∷ []) refl },
                            (
                              record { of = inr (inr (inr (refl, refl, refl))); low = λ h o. absurd (far 14 refl o); on = next_of 14 (15 ∷ []) refl },
                              (record { of = tt; low = λ h o. absurd (far 15 refl o); on = λ j c. absurd (no_item j c) }, tt),
                            ),
                          ),
                        ),
                      ),
                    ),
                  ),
                ),
              ),
            ),
          ),
        ),
      ),
    ),
  ),
)
  where
    store_low : (k : ℕ) → 1 ≡ suc k → IsOther 3 (OnStack k)
    store_low zero h = inl refl
    store_low (suc k) h = absurd (omega (arith, h))

instr_of : (m : ℕ) {i height : ℕ} {op : Op} → OpAt building m i op height → IsOf i op height × KeepsLow i op height
instr_of zero {i = i} {height = height} {op = op} o =
    let it : IsInstr i o.instr = all_at IsInstr building_main.code all_main i o.instr o.found in
    subst (λ (h : ℕ). IsOf i op h × KeepsLow i op h) o.is_height (subst (λ (z : Op). IsOf i z o.instr.height × KeepsLow i z o.instr.height) o.is_op (it.of, it.low))
instr_of (suc m) o = absurd (cc o.found)

leads_next : (m i j : ℕ) → Leads building m i j → j ≡ suc i
leads_next zero i j l = (all_at IsInstr building_main.code all_main i l.instr l.found).on j l.listed
leads_next (suc m) i j l = absurd (cc l.found)

no_dest : (m i t j : ℕ) → Contains (dest building m i t) (Inside j) → ⊥
no_dest zero i t j c = outside c
no_dest (suc m) i t j c = outside c

-- ---- what is where

abbrev HasPlain : ClassFact → Type 0
HasPlain (InEnv t) = ⊥
HasPlain (InSlot m i z t) = IsOther i z → IsPlain t
HasPlain (InField f t) = IsPlain t
HasPlain (InBag b t) = b ≡ 2 → IsPlain t
HasPlain (CallsMethod m i n) = ⊥
HasPlain (Spans t u) = IsPlain t → IsPlain u
HasPlain (Takes m i b) = i ≡ 9
HasPlain _ = Unit {0}

-- where a value is copied to another slot, the first is other where the second is
other_before : (m i j : ℕ) {op : Op} {height : ℕ} {z y : Slot} → OpAt building m i op height → Leads building m i j → Copies op height z y → IsOther j y → IsOther i z
other_before m i j {y = y} o l copies is = back i (subst (λ (n : ℕ). IsOther n y) (leads_next m i j l) is) (instr_of m o) copies
  where
    back : (i : ℕ) {op : Op} {height : ℕ} {z y : Slot} → IsOther (suc i) y → IsOf i op height × KeepsLow i op height → Copies op height z y → IsOther i z
    back i is has (kept_local k) = is
    back i is has (kept_stack {k = zero} h) = inr (inl (has.1 (omega (arith, h)) is))
    back i is has (kept_stack {k = suc zero} h) = tt
    back i is has (kept_stack {k = suc (suc k)} h) = is
    back i is has loaded = has.0 is
    back i is has (stored {k = k} h) = has.0 k h is
    back i is has (shuffled {pushed = pushed} under j k h g) = absurd (let none : slice_get {X = ℕ} [] j ≡ Some k = subst (λ (ks : List ℕ). slice_get ks j ≡ Some k) has.0 g in cc none)
    back i is has (checked h) = absurd has.0

-- no call goes to a method
no_method : (i height n : ℕ) (call : CallOp) → IsOf i (Call call) height → call.found ≡ Some (Program (record { 0 = n })) → ⊥
no_method i height n call (inl x) e = let same : source.found ≡ Some (Program (record { 0 = n })) = sym (ap (λ (c : CallOp). c.found) x.1) ∙ e in cc same
no_method i height n call (inr (inl x)) e = let same : append.found ≡ Some (Program (record { 0 = n })) = sym (ap (λ (c : CallOp). c.found) x.1) ∙ e in cc same
no_method i height n call (inr (inr (inl x))) e = let same : to_text.found ≡ Some (Program (record { 0 = n })) = sym (ap (λ (c : CallOp). c.found) x.1) ∙ e in cc same
no_method i height n call (inr (inr (inr x))) e = let same : sink.found ≡ Some (Program (record { 0 = n })) = sym (ap (λ (c : CallOp). c.found) x.1) ∙ e in cc same

chosen : (call : CallOp) (t : ℕ) {target : MethodAt} → Dispatches building call t target → (target ≡ select building t call.name call.desc) ⊎ (target ≡ Library)
chosen call t (selected class fit) = inl refl
chosen call t (elsewhere other named) = inr refl

selects_none : (t : ℕ) (name desc : List ℕ) → select building t name desc ≡ Library
selects_none zero name desc = refl
selects_none (suc t) name desc = refl

no_selection : (call : CallOp) (t n : ℕ) → Dispatches building call t (Program (record { 0 = n })) → ⊥
no_selection call t n d =
    elim (chosen call t d) [
      | inl here ↦ absurd (let same : Program (record { 0 = n }) ≡ Library = here ∙ selects_none t call.name call.desc in cc same)
      | inr there ↦ absurd (cc there)
    ]

no_callee : (m i n : ℕ) {ps : List ClassFact} → ClassRule building ps (CallsMethod m i n) → ⊥
no_callee m i n (found_method {call = call} method at (by_static k e) found can) = no_method i _ n call (instr_of m at.at).0 e
no_callee m i n (found_method {call = call} method at (by_special k e) found can) = no_method i _ n call (instr_of m at.at).0 e
no_callee m i n (selects_method {t = t} {call = call} at dispatched d) = no_selection call t n d

-- only the source's answer is other, and the sink has none
answers_other : (i j under height : ℕ) (call : CallOp) → IsOf i (Call call) height → height ≡ under + arguments call → j ≡ suc i → IsOther j (OnStack under) → (call ≡ source) ⊎ (call ≡ sink)
answers_other i j under height call (inl x) e next is = inl x.1
answers_other i j under height call (inr (inl x)) e next is =
    absurd (
    let two : arguments call ≡ 2 = ap (λ (c : CallOp). arguments c) x.1 in
    let low : under ≡ 0 = (let h : height ≡ 2 = x.2 in omega (arith, e, two, h)) in
    far 9 refl (subst (λ (n : ℕ). IsOther n (OnStack 0)) (next ∙ ap suc x.0) (subst (λ (n : ℕ). IsOther j (OnStack n)) low is))
    )
answers_other i j under height call (inr (inr (inl x))) e next is =
    absurd (
    let one : arguments call ≡ 1 = ap (λ (c : CallOp). arguments c) x.1 in
    let low : under ≡ 0 = (let h : height ≡ 1 = x.2 in omega (arith, e, one, h)) in
    far 13 refl (subst (λ (n : ℕ). IsOther n (OnStack 0)) (next ∙ ap suc x.0) (subst (λ (n : ℕ). IsOther j (OnStack n)) low is))
    )
answers_other i j under height call (inr (inr (inr x))) e next is = inr x.1

-- the arguments of the builder's call are other
appends_other : (i under k height : ℕ) (call : CallOp) → IsOf i (Call call) height → i ≡ 9 → height ≡ under + arguments call → k < arguments call → IsOther i (OnStack (under + k))
appends_other i under k height call (inl x) at e below = absurd (let eight : i ≡ 8 = x.0 in omega (arith, eight, at))
appends_other i under k height call (inr (inl x)) at e below =
    let two : arguments call ≡ 2 = ap (λ (c : CallOp). arguments c) x.1 in
    let low : k ≡ under + k = (let h : height ≡ 2 = x.2 in omega (arith, e, two, h)) in
    subst (λ (n : ℕ). IsOther i (OnStack n)) low (subst (λ (n : ℕ). IsOther n (OnStack k)) (sym at) (each k (let less : k < 2 = (omega (arith, below, two)) in less)))
  where
    each : (k : ℕ) → k < 2 → IsOther 9 (OnStack k)
    each zero less = inr (inr refl)
    each (suc zero) less = tt
    each (suc (suc k)) less = omega (arith, less)
appends_other i under k height call (inr (inr (inl x))) at e below = absurd (let other : i ≡ 13 = x.0 in omega (arith, other, at))
appends_other i under k height call (inr (inr (inr x))) at e below = absurd (let other : i ≡ 14 = x.0 in omega (arith, other, at))

-- the builder's call alone has an effect
takes_at : (i k height : ℕ) (call : CallOp) → IsOf i (Call call) height → IsSource call k call.row.effect → i ≡ 9
takes_at i k height call (inl x) is = absurd (subst (λ (c : CallOp). IsSource c k c.row.effect) x.1 is)
takes_at i k height call (inr (inl x)) is = x.0
takes_at i k height call (inr (inr (inl x))) is = absurd (subst (λ (c : CallOp). IsSource c k c.row.effect) x.1 is)
takes_at i k height call (inr (inr (inr x))) is = absurd (subst (λ (c : CallOp). IsSource c k c.row.effect) x.1 is)

-- main has no parameters
the_entry : (entry : Entry) → Contains building.entries entry → building_entry ≡ entry
the_entry entry (zero, below, e) = e
the_entry entry (suc k, below, e) = absurd (omega (arith, below))

entry_method : (entry : Entry) (method : Method) → IsEntry building entry method → building_main ≡ method
entry_method entry method is =
    let found : Some building_main ≡ Some method = ap (λ (e : Entry). slice_get building.methods e.method.0) (the_entry entry is.listed) ∙ is.found in cc found

no_objects : (entry : Entry) → HasObjects building entry → ⊥
no_objects entry objects = let member : is_member building_main.flags ≡ true = subst (λ (method : Method). is_member method.flags ≡ true) (sym (entry_method entry objects.method objects.is_entry)) objects.member in cc member

no_param : (entry : Entry) (method : Method) (k : ℕ) (type : JavaType) → IsEntry building entry method → HasParam method k type → ⊥
no_param entry method k type is has =
    let none : HasParam building_main k type = subst (λ (it : Method). HasParam it k type) (sym (entry_method entry method is)) has in cc none

first_local : (m k : ℕ) (method : Method) → slice_get building.methods m ≡ Some method → param_local method k ≡ 0
first_local zero k method found = let same : building_main ≡ method = cc found in subst (λ (it : Method). param_local it k ≡ 0) same (none k)
  where
    none : (k : ℕ) → param_local building_main k ≡ 0
    none zero = refl
    none (suc k) = refl
first_local (suc m) k method found = absurd (cc found)

no_constant : (f : ℕ) (field : Field) → slice_get building.fields f ≡ Some field → field.text ≡ true → ⊥
no_constant zero field found text = let flag : Some false ≡ Some field.text = ap flag_of found in absurd (cc (flag, text))
no_constant (suc f) field found text = absurd (cc found)

-- the rules that put something into a slot
source_answers : (t : ℕ) (type : JavaType) (call : CallOp) → HasReference call type → Contains (fresh_tokens building type) t → (call ≡ source) ⊎ (call ≡ sink) → IsPlain t
source_answers t type call has member (inl e) =
    let result : Some string ≡ Some type = sym (ap (λ (c : CallOp). c.result) e) ∙ has.has in
    let same : string ≡ type = cc result in
    inl (only_item 1 t (subst (λ (it : JavaType). Contains (fresh_tokens building it) t) (sym same) member))
source_answers t type call has member (inr e) = absurd (let result : None ≡ Some type = sym (ap (λ (c : CallOp). c.result) e) ∙ has.has in cc result)

no_self : (call : CallOp) (type : JavaType) → HasReference call type → call.row.result ≡ Argument → (call ≡ source) ⊎ (call ≡ sink) → ⊥
no_self call type has self (inl e) = let result : Fresh ≡ Argument = sym (ap (λ (c : CallOp). c.row.result) e) ∙ self in cc result
no_self call type has self (inr e) = let result : Fresh ≡ Argument = sym (ap (λ (c : CallOp). c.row.result) e) ∙ self in cc result

no_lead : (call : CallOp) (k : ℕ) → LeadsFrom call k call.row.result → (call ≡ source) ⊎ (call ≡ sink) → ⊥
no_lead call k from (inl e) = subst (λ (c : CallOp). LeadsFrom c k c.row.result) e from
no_lead call k from (inr e) = subst (λ (c : CallOp). LeadsFrom c k c.row.result) e from

in_slot : {ps : List ClassFact} (m i : ℕ) (z : Slot) (t : ℕ) → ClassRule building ps (InSlot m i z t) → Each HasPlain ps → IsOther i z → IsPlain t
in_slot m i z t (begins {k = k} method found) each is = absurd (let first : param_local method k ≡ 0 = first_local m k method found in omega (arith, is, first))
in_slot m j y t (moved {i = i} o l copies passes) each is = each.1.0 (other_before m i j o l copies is)
in_slot m j y t (text_made o l) each is = absurd (instr_of m o).0
in_slot m j y t (made {i = i} {height = height} o l can) each is = inr ((instr_of m o).0 (subst (λ (n : ℕ). IsOther n (OnStack height)) (leads_next m i j l) is))
in_slot m j y t (array_made o l e outer) each is = absurd (instr_of m o).0
in_slot m j y t (got {i = i} {k = k} o l) each is = absurd (no_got (instr_of m o).0 (leads_next m i j l) is)
  where
    no_got : (i ≡ 12) × (suc k ≡ 1) → j ≡ suc i → IsOther j (OnStack k) → ⊥
    no_got at next other =
        let one : suc k ≡ 1 = at.1 in
        let low : k ≡ 0 = omega (arith, one) in
        far 12 refl (subst (λ (n : ℕ). IsOther n (OnStack 0)) (next ∙ ap suc at.0) (subst (λ (n : ℕ). IsOther j (OnStack n)) low other))
in_slot m j y t (got_static o l) each is = absurd (instr_of m o).0
in_slot m j y t (element_got o l) each is = absurd (instr_of m o).0
in_slot m j y t (handled {i = i} goes) each is = absurd (no_dest m i t j goes)
in_slot m j y t (handler_keeps {i = i} {t = thrown} goes) each is = absurd (no_dest m i thrown j goes)
in_slot m j y t (answered at l) each is = absurd each.1.0
in_slot m j y t (library_fresh {i = i} {under = under} {call = call} {type = type} at l has member fit) each is =
    source_answers t type call has member (answers_other i j under at.height call (instr_of m at.at).0 at.under_is (leads_next m i j l) is)
in_slot m j y t (library_argument {i = i} {under = under} {call = call} {type = type} at l has self some fit) each is =
    absurd (no_self call type has self (answers_other i j under at.height call (instr_of m at.at).0 at.under_is (leads_next m i j l) is))
in_slot m j y t (library_member {i = i} {under = under} {call = call} k at l has from fit) each is =
    absurd (no_lead call k from (answers_other i j under at.height call (instr_of m at.at).0 at.under_is (leads_next m i j l) is))

in_field : {ps : List ClassFact} (f t : ℕ) → ClassRule building ps (InField f t) → Each HasPlain ps → IsPlain t
in_field f t (put {m = m} {i = i} {k = k} o) each = each.1.0 (value k (instr_of m o).0)
  where
    value : (k : ℕ) → (i ≡ 6) × (suc (suc k) ≡ 2) → IsOther i (OnStack (suc k))
    value zero at = tt
    value (suc k) at = absurd (let two : suc (suc (suc k)) ≡ 2 = at.1 in omega (arith, two))
in_field f t (put_static {m = m} o) each = absurd (instr_of m o).0
in_field f t (text_field field found text) each = absurd (no_constant f field found text)

in_bag : {ps : List ClassFact} (b t : ℕ) → ClassRule building ps (InBag b t) → Each HasPlain ps → b ≡ 2 → IsPlain t
in_bag b t (env_bag is) each e = absurd each.0
in_bag b t (array_filled {m = m} o inner) each e = absurd (instr_of m o).0
in_bag b t (element_put {m = m} o) each e = absurd (instr_of m o).0
in_bag b t (taken {m = m} {i = i} {under = under} {k = k} {call = call} at below) each e =
    each.1.1.0 (appends_other i under k at.height call (instr_of m at.at).0 each.1.0 at.under_is below)
in_bag b t (library_filled at has makes member) each e = absurd (omega (arith, e))

-- a text and a library object have no fields, and of them a library object alone takes something
no_field : (u f : ℕ) → IsPlain u → HasField building u f → ⊥
no_field u f (inl e) has = let found : slice_get building.classes 1 ≡ Some has.class.0 = subst (λ (t : ℕ). slice_get building.classes t ≡ Some has.class.0) e has.class.1 in cc found
no_field u f (inr e) has = let found : slice_get building.classes 2 ≡ Some has.class.0 = subst (λ (t : ℕ). slice_get building.classes t ≡ Some has.class.0) e has.class.1 in cc found

takes_only : (u : ℕ) → IsPlain u → absorbs building u ≡ true → u ≡ 2
takes_only u (inl e) takes = absurd (let is : absorbs building 1 ≡ true = subst (λ (t : ℕ). absorbs building t ≡ true) e takes in cc is)
takes_only u (inr e) takes = e

spans : {ps : List ClassFact} (t u : ℕ) → ClassRule building ps (Spans t u) → Each HasPlain ps → IsPlain t → IsPlain u
spans t u spans_itself each is = is
spans t u (spans_field {u = v} f has) each is = absurd (no_field v f (each.0 is) has)
spans t u (spans_bag {u = v} takes) each is = each.1.0 (takes_only v (each.0 is) takes)

plain_solve : (ps : List ClassFact) (f : ClassFact) → ClassRule building ps f → Each HasPlain ps → HasPlain f
plain_solve ps (Reached m i) rule each = tt
plain_solve ps (InEnv t) rule each = in_env rule
  where
    in_env : {ps : List ClassFact} {t : ℕ} → ClassRule building ps (InEnv t) → ⊥
    in_env (env_object entry objects) = no_objects entry objects
    in_env (env_fresh entry method k t type is has member) = no_param entry method k type is has
plain_solve ps (InSlot m i z t) rule each = in_slot m i z t rule each
plain_solve ps (InThrown m i t) rule each = tt
plain_solve ps (InParam m k t) rule each = tt
plain_solve ps (InResult m t) rule each = tt
plain_solve ps (InOut m t) rule each = tt
plain_solve ps (InField f t) rule each = in_field f t rule each
plain_solve ps (InBag b t) rule each = in_bag b t rule each
plain_solve ps (CallsMethod m i n) rule each = no_callee m i n rule
plain_solve ps (CallsAbstract m i n) rule each = tt
plain_solve ps (CallsLibrary m i) rule each = tt
plain_solve ps (Spans t u) rule each = spans t u rule each
plain_solve ps (Takes m i b) rule each = takes rule
  where
    takes : {ps : List ClassFact} → ClassRule building ps (Takes m i b) → i ≡ 9
    takes (taker {call = call} k at is absorbing) = takes_at i k at.height call (instr_of m at.at).0 is

has_plain : (f : ClassFact) → Classes building f → HasPlain f
has_plain f x = Least-below (ClassRule building) HasPlain plain_solve f x

-- ---- what is held

abbrev HoldsBags : HeldFact → Type 0
HoldsBags (TokenHolds t c) = IsPlain t → c ≡ OfBag 2
HoldsBags (FieldHolds f c) = c ≡ OfBag 2

held_solve : (ps : List HeldFact) (f : HeldFact) → HeldRule building (Classes building) ps f → Each HoldsBags ps → HoldsBags f
held_solve _ _ (holds_field {t = t} {u = u} {f = f} leads has) each = λ is. absurd (no_field u f (has_plain (Spans t u) leads is) has)
held_solve _ _ (holds_bag {t = t} {u = u} leads takes) each = λ is. ap OfBag (takes_only u (has_plain (Spans t u) leads is) takes)
held_solve _ _ (of_field {f = f} {t = t} member) each = each.0 (has_plain (InField f t) member)

pub only_bags : (c : Cell) → Helds building (FieldHolds 0 c) → c ≡ OfBag 2
only_bags c x = Least-below (HeldRule building (Classes building)) HoldsBags held_solve (FieldHolds 0 c) x
