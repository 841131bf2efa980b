-- What comes of a token of a cell for which something is done is meant.
use Rattle.std.proofs.Common.{◌≡◌, inl, inr, ℕ, suc, ◌+◌, ◌-◌, ◌<◌, ◌==◌, ◌&&◌, ◌||◌, not, Bool, true, false, List, [], ◌∷◌, Option, Some, None, refl, sym, ap, subst, ◌∙◌, arith, true≢false}
use Rattle.std.specs.Prelude.{Contains, slice_get, if◌then◌else◌}
use Rattle.std.proofs.lemmas.Bool.{and_parts, eqb-true, or_cases}
use Rattle.ja_base.specs.declared.java_type.JavaType.{JavaType}
use Rattle.ja_ir.specs.declared.program.Parts.{Parts}
use Rattle.ja_ir.specs.declared.class.ClassInfo.{ClassInfo}
use Rattle.ja_ir.specs.declared.class.Field.{Field as FieldInfo}
use Rattle.ja_ir.specs.declared.class.MethodAt.{MethodAt}
use Rattle.ja_ir.specs.declared.class.MethodAt.TheVariants.{Program, Abstract, Library}
use Rattle.ja_ir.specs.declared.method.Method.{Method}
use Rattle.ja_ir.specs.declared.method.Instr.{Instr}
use Rattle.ja_ir.specs.declared.op.CallOp.{CallOp}
use Rattle.ja_ir.specs.declared.op.Op.{Op}
use Rattle.ja_ir.specs.declared.op.Op.TheVariants.{Call, Cast}
use Rattle.ja_ir.specs.Lookup.{OpAt, is_member, is_instance_field, has_above, select, selection_among, selections_of}
use Rattle.ja_ir.specs.Operations.{pops, arguments, is_dispatched}
use Rattle.ja_ir.specs.Params.{type_among, param_types}
use Rattle.ja_ir.specs.Tokens.{fits, fits_shape, shape_of, is_in_program, names_program, absorbs, rarr_token, lib_token, parr_token}
use Rattle.ja_ir.specs.Handlers.{Place, Inside, Outside, dest, dest_among, handlers_of}
use Rattle.ja_ir.specs.Whole.{IsWhole}
use Rattle.ja_facts.specs.Least.{Each}
use Rattle.ja_facts.proofs.LeastLaws.{Least-is_solution}
use Rattle.ja_facts.specs.Analyses.{Classes}
use Rattle.ja_facts.specs.Slots.{Slot, Local, OnStack, CallAt, argument}
use Rattle.ja_facts.specs.ClassSets as class_sets
use Rattle.ja_facts.specs.ClassSets.{Fact as ClassFact, Rule as ClassRule, InSlot, InThrown, InParam, InOut, InField, InBag, CallsMethod, Spans, Takes, HasReference, HasField, IsClass, IsLibraryBag, Dispatches}
use Rattle.ja_network.specs.declared.cell.Cell.TheVariants.{Environment, Field, Bag, Span, Param, Takers, Pushed, Before}
use Rattle.ja_network.specs.declared.cell.Action.{Action}
use Rattle.ja_network.specs.declared.cell.Action.TheVariants.{Copy, Check, Enter, Return, Dispatch, Throw, Source, Take, Fill, Lead, Expand, Stock}
use Rattle.ja_cells.specs.Names.{Names, AreNames, row_at}
use Rattle.ja_cells.specs.Rows.{cell_in}
use Rattle.ja_constraints.specs.Links.{copy, gets}
use Rattle.ja_constraints.specs.Places.{argument_cell}
use Rattle.ja_constraints.specs.LibraryCalls.{has_reference}
use Rattle.ja_firing.specs.Tokens.{passes_to, passes_cast, fits_param, enters_param, fits_result, answers, dispatched_by, dispatched, goes_to, dispatches, keeps, goes_out, goes_each, thrown, fills_bag, field_leads, fields_lead, bag_leads, expands, is_library_bag, fires}
use Rattle.ja_class_laws.proofs.Lists.{each-append, each-if, each-over, each-code, first-in, later-in}
use Rattle.ja_class_laws.proofs.Meaning.{MeansToken, MeansDone, Good, good-link, slot_of}
use Rattle.ja_class_laws.proofs.Frames.{instr-found, same-op}
use Rattle.ja_class_laws.proofs.InSlots.{stack-is, local-is, call-there, in-local, good-argument}
use Rattle.ja_class_laws.proofs.SoundCalls.{still-reached}
use Rattle.ja_class_laws.proofs.SoundLibrary.{is-reference}

-- a token that has something at or above it is a program class
pub class-of : (p : Parts) (t c : ℕ) → has_above (slice_get p.classes t) c ≡ true → IsClass p t
class-of p t c e = by (slice_get p.classes t) refl e
  where
    by : (o : Option ClassInfo) → slice_get p.classes t ≡ o → has_above o c ≡ true → IsClass p t
    by None is f = absurd (true≢false (sym f))
    by (Some class) is f = (class, is)

pub has-field : (p : Parts) (t f : ℕ) (field : FieldInfo) → slice_get p.fields f ≡ Some field → is_instance_field p t field ≡ true → HasField p t f
has-field p t f field found e = record { field = field; found = found; class = class-of p t field.class.0 (and_parts (is_member field.flags) (has_above (slice_get p.classes t) field.class.0) e).1; instance = e }

pub library-bag : (p : Parts) (t : ℕ) → is_library_bag p t ≡ true → IsLibraryBag p t
library-bag p t e = elim (or_cases (t == lib_token p) ((t == rarr_token p) || (t == parr_token p)) e) [
  | inl a ↦ inl (eqb-true t (lib_token p) a)
  | inr b ↦ inr (elim (or_cases (t == rarr_token p) (t == parr_token p) b) [ inl c ↦ inl (eqb-true t (rarr_token p) c) | inr d ↦ inr (eqb-true t (parr_token p) d) ])
]

-- where a receiver leads a call
pub dispatched-says : (p : Parts) (call : CallOp) (t : ℕ) (target : MethodAt) → dispatched p call t ≡ Some target → Dispatches p call t target
dispatched-says p call t target e = by (slice_get p.classes t) refl e
  where
    fitting : (named fit : Bool) → (if named && not fit then None else Some target) ≡ Some target → named ≡ true → fit ≡ true
    fitting true true q n = refl
    fitting true false q n = absurd (let x : None ≡ Some target = q in cc)
    fitting false fit q n = absurd (true≢false (sym n))

    chosen : (class : ClassInfo) → slice_get p.classes t ≡ Some class → (named fit : Bool) → names_program p call.class ≡ named → fits p t call.class ≡ fit
        → dispatched_by call named fit (Some class) ≡ Some target → Dispatches p call t target
    chosen class is true false n f q = absurd (let x : None ≡ Some target = q in cc)
    chosen class is true true n f q =
        let same : selection_among call.name call.desc class.selections ≡ target = (let x : Some (selection_among call.name call.desc class.selections) ≡ Some target = q in cc) in
        let selects : select p t call.name call.desc ≡ target = ap (λ (o : Option ClassInfo). selection_among call.name call.desc (selections_of o)) is ∙ same in
        subst (Dispatches p call t) selects (class_sets.selected (class, is) (λ named. f))
    chosen class is false fit n f q =
        let same : selection_among call.name call.desc class.selections ≡ target = (let x : Some (selection_among call.name call.desc class.selections) ≡ Some target = q in cc) in
        let selects : select p t call.name call.desc ≡ target = ap (λ (o : Option ClassInfo). selection_among call.name call.desc (selections_of o)) is ∙ same in
        subst (Dispatches p call t) selects (class_sets.selected (class, is) (λ named. absurd (true≢false (sym named ∙ n))))

    other : slice_get p.classes t ≡ None → (named : Bool) → names_program p call.class ≡ named → (if named then None else Some Library) ≡ Some target → Dispatches p call t target
    other is true n q = absurd (let x : None ≡ Some target = q in cc)
    other is false n q =
        let same : Library ≡ target = (let x : Some Library ≡ Some target = q in cc) in
        subst (Dispatches p call t) same (class_sets.elsewhere (λ c. let x : None ≡ Some c.0 = sym is ∙ c.1 in cc) n)

    by : (o : Option ClassInfo) → slice_get p.classes t ≡ o → dispatched_by call (is_in_program (shape_of p call.class)) (fits_shape p t (shape_of p call.class)) o ≡ Some target → Dispatches p call t target
    by None is q = other is (names_program p call.class) refl q
    by (Some class) is q = chosen class is (names_program p call.class) (fits p t call.class) refl refl q

module _ (p : Parts) (names : Names) (whole : IsWhole p) (right : AreNames p names) (t : ℕ) where
  close : (ps : List ClassFact) (f : ClassFact) → ClassRule p ps f → Each (Classes p) ps → Classes p f
  close = Least-is_solution (ClassRule p)

  -- ---- a cast, a parameter, a result

  good-cast : (m i : ℕ) → MeansDone p (Check m i) t → (method : Method) (instr : Instr) → slice_get p.methods m ≡ Some method → slice_get method.code i ≡ Some instr → (op : Op) → instr.op ≡ op → Each (Good p) (passes_cast p m i t op)
  good-cast m i done method instr found at (Cast name) is =
      let here : OpAt p m i (Cast name) instr.height = record { instr = instr; found = instr-found p m i method instr found at; is_op = is; is_height = refl } in
      each-if (Good p) (fits_shape p t (shape_of p name)) (gets (Pushed m i) t) (λ fit. (done name instr.height here fit, tt))
  good-cast m i done method instr found at op is = tt

  good-param : (m k : ℕ) → MeansDone p (Enter m k) t → (o : Option Method) → slice_get p.methods m ≡ o → Each (Good p) (enters_param p m k t o)
  good-param m k done None found = tt
  good-param m k done (Some method) found = by (type_among (is_member method.flags) (param_types method) k) refl
    where
      by : (o : Option JavaType) → type_among (is_member method.flags) (param_types method) k ≡ o → Each (Good p) (fits_param p m k t o)
      by None is = tt
      by (Some type) is = each-if (Good p) (fits_shape p t (shape_of p type.name)) (gets (Param m k) t) (λ fit. (done method type found is fit, tt))

  good-answer : (m i : ℕ) → MeansDone p (Return m i) t → (method : Method) (instr : Instr) → slice_get p.methods m ≡ Some method → slice_get method.code i ≡ Some instr → (op : Op) → instr.op ≡ op → Each (Good p) (answers p m i t op)
  good-answer m i done method instr found at (Call call) is = by call.result refl
    where
      here : OpAt p m i (Call call) instr.height
      here = record { instr = instr; found = instr-found p m i method instr found at; is_op = is; is_height = refl }

      pushed : (type : JavaType) → HasReference call type → fits p t type.name ≡ true → MeansToken p (Pushed m i) t
      pushed type has fit j height under op other lies leads =
          let same = same-op p m i op (Call call) height instr.height other here in
          let call_lies : height ≡ under + arguments call = lies ∙ ap (λ o. under + pops o) same.0 in
          let there : CallAt p m i call under = record { height = height; at = subst (λ o. OpAt p m i o height) same.0 other; under_is = call_lies } in
          done under call type there has fit j height under op other lies leads

      by : (o : Option JavaType) → call.result ≡ o → Each (Good p) (fits_result p m i t o)
      by None e = tt
      by (Some type) e = each-if (Good p) (has_reference (Some type)) (passes_to p (Pushed m i) t type.name) (λ ref.
          each-if (Good p) (fits_shape p t (shape_of p type.name)) (gets (Pushed m i) t) (λ fit. (pushed type (record { has = e; reference = is-reference type.kind ref }) fit, tt)))
  good-answer m i done method instr found at op is = tt

  -- ---- a receiver

  good-goes : (m i under : ℕ) (call : CallOp) → Classes p (class_sets.Reached m i) → CallAt p m i call under → is_dispatched call.kind ≡ true → Classes p (InSlot m i (argument under 0) t) → (o : Option MethodAt) → dispatched p call t ≡ o
      → Each (Good p) (goes_to m i t o)
  good-goes m i under call reached at dispatched h None e = tt
  good-goes m i under call reached at dispatched h (Some (Program n)) e =
      let d : Dispatches p call t (Program n) = dispatched-says p call t (Program n) e in
      let goes : Classes p (CallsMethod m i n.0) = close (class_sets.Reached m i ∷ InSlot m i (argument under 0) t ∷ []) (CallsMethod m i n.0) (class_sets.selects_method at dispatched d) (reached, (h, tt)) in
      let takes : Classes p (InParam n.0 0 t) = close (class_sets.Reached m i ∷ InSlot m i (argument under 0) t ∷ []) (InParam n.0 0 t) (class_sets.receives at dispatched d) (reached, (h, tt)) in
      ((reached, goes), (takes, tt))
  good-goes m i under call reached at dispatched h (Some (Abstract n)) e =
      let d : Dispatches p call t (Abstract n) = dispatched-says p call t (Abstract n) e in
      ((reached, close (class_sets.Reached m i ∷ InSlot m i (argument under 0) t ∷ []) (class_sets.CallsAbstract m i n.0) (class_sets.selects_abstract at dispatched d) (reached, (h, tt))), tt)
  good-goes m i under call reached at dispatched h (Some Library) e =
      let d : Dispatches p call t Library = dispatched-says p call t Library e in
      ((reached, close (class_sets.Reached m i ∷ InSlot m i (argument under 0) t ∷ []) (class_sets.CallsLibrary m i) (class_sets.selects_library at dispatched d) (reached, (h, tt))), tt)

  good-receiver : (m i : ℕ) → MeansDone p (Dispatch m i) t → (method : Method) (instr : Instr) → slice_get p.methods m ≡ Some method → slice_get method.code i ≡ Some instr → (op : Op) → instr.op ≡ op → Each (Good p) (dispatches p m i t op)
  good-receiver m i done method instr found at (Call call) is =
      let there : CallAt p m i call (instr.height - arguments call) = call-there p m i method instr call whole found at (still-reached p m i method instr whole found at done.0) is in
      let d = done.1 (instr.height - arguments call) call there in
      good-goes m i (instr.height - arguments call) call done.0 there d.0 d.1 (dispatched p call t) refl
  good-receiver m i done method instr found at op is = tt

  -- ---- an exception

  good-keeps : (m i j : ℕ) (method : Method) → slice_get p.methods m ≡ Some method → Classes p (class_sets.Reached m i) → Classes p (InThrown m i t) → Contains (dest p m i t) (Inside j) → Each (Good p) (keeps m j (row_at names m i) method.locals)
  good-keeps m i j method found reached h inside = each-over (Good p) (λ l. copy (cell_in (row_at names m i) l) (Before m j l)) 0 method.locals (λ l le lt.
      good-link p (cell_in (row_at names m i) l) (Copy (Before m j l)) (λ u held.
      let below : l < method.locals = omega arith in
      subst (λ (z : Slot). Classes p (InSlot m j z u)) (sym (local-is p m l method found below))
      (close (class_sets.Reached m i ∷ InThrown m i t ∷ InSlot m i (Local l) u ∷ []) (InSlot m j (Local l) u) (class_sets.handler_keeps inside) (reached, (h, (in-local p names whole right m i method found reached l u below held, tt))))))

  good-out : (m i : ℕ) (method : Method) → slice_get p.methods m ≡ Some method → Classes p (class_sets.Reached m i) → Classes p (InThrown m i t) → (place : Place) → Contains (dest p m i t) place
      → Each (Good p) (goes_out m t (row_at names m i) method.locals place)
  good-out m i method found reached h Outside c = (close (class_sets.Reached m i ∷ InThrown m i t ∷ []) (InOut m t) (class_sets.thrown_out c) (reached, (h, tt)), tt)
  good-out m i method found reached h (Inside j) c =
      let there : Classes p (class_sets.Reached m j) = close (class_sets.Reached m i ∷ InThrown m i t ∷ []) (class_sets.Reached m j) (class_sets.handler_reached c) (reached, (h, tt)) in
      let caught : Classes p (InSlot m j (OnStack 0) t) = close (class_sets.Reached m i ∷ InThrown m i t ∷ []) (InSlot m j (OnStack 0) t) (class_sets.handled c) (reached, (h, tt)) in
      let none : method.locals + 0 ≡ method.locals = omega arith in
      let is : slot_of p m method.locals ≡ OnStack 0 = ap (slot_of p m) (sym none) ∙ stack-is p m 0 method found in
      (there, (subst (λ (z : Slot). Classes p (InSlot m j z t)) (sym is) caught, good-keeps m i j method found reached h c))

  good-each : (m i : ℕ) (method : Method) → slice_get p.methods m ≡ Some method → Classes p (class_sets.Reached m i) → Classes p (InThrown m i t) → (places : List Place) → ((place : Place) → Contains places place → Contains (dest p m i t) place)
      → Each (Good p) (goes_each m t (row_at names m i) method.locals places)
  good-each m i method found reached h [] c = tt
  good-each m i method found reached h (place ∷ places) c =
      each-append (Good p) (goes_out m t (row_at names m i) method.locals place) (goes_each m t (row_at names m i) method.locals places)
      (good-out m i method found reached h place (c place (first-in place places))) (good-each m i method found reached h places (λ x d. c x (later-in place places x d)))

  good-thrown : (m i : ℕ) → MeansDone p (Throw m i) t → (o : Option Method) → slice_get p.methods m ≡ o → Each (Good p) (thrown p m i t (row_at names m i) o)
  good-thrown m i done None found = tt
  good-thrown m i done (Some method) found = good-each m i method found done.0 done.1 (dest_among p i t method.handlers)
      (λ place c. subst (λ (o : Option Method). Contains (dest_among p i t (handlers_of o)) place) (sym found) c)

  -- ---- what takes the arguments of a library call

  good-fills : (m i : ℕ) → MeansDone p (Fill m i) t → (method : Method) (instr : Instr) → slice_get p.methods m ≡ Some method → slice_get method.code i ≡ Some instr → (op : Op) → instr.op ≡ op
      → Each (Good p) (fills_bag (row_at names m i) method.locals instr.height t op)
  good-fills m i done method instr found at (Call call) is =
      let there : CallAt p m i call (instr.height - arguments call) = call-there p m i method instr call whole found at (still-reached p m i method instr whole found at done.0) is in
      each-over (Good p) (λ k. copy (argument_cell (row_at names m i) method.locals instr.height call k) (Bag t)) 0 (arguments call) (λ k le lt.
      good-argument p names whole right m i method found done.0 instr.height k call (Copy (Bag t)) (λ u h.
      close (class_sets.Reached m i ∷ Takes m i t ∷ InSlot m i (argument (instr.height - arguments call) k) u ∷ []) (InBag t u) (class_sets.taken there (omega arith)) (done.0, (done.1, (h, tt)))))
  good-fills m i done method instr found at op is = tt

  -- ---- what an object leads to

  good-fields : (start f : ℕ) → Classes p (Spans start t) → (fields : List FieldInfo) → ((x : ℕ) (field : FieldInfo) → slice_get fields x ≡ Some field → slice_get p.fields (f + x) ≡ Some field) → Each (Good p) (fields_lead p start t f fields)
  good-fields start f spans [] h = tt
  good-fields start f spans (field ∷ fields) h =
      let found : slice_get p.fields f ≡ Some field = let e : f + 0 ≡ f = omega arith in subst (λ n. slice_get p.fields n ≡ Some field) e (h 0 field refl) in
      each-append (Good p) (field_leads p start t f field) (fields_lead p start t (suc f) fields)
      (each-if (Good p) (is_instance_field p t field) (copy (Field f) (Span start))
      (λ e. ((λ u held. close (Spans start t ∷ InField f u ∷ []) (Spans start u) (class_sets.spans_field f (has-field p t f field found e)) (spans, (held, tt))), tt)))
      (good-fields start (suc f) spans fields (λ x other e. let n : f + suc x ≡ suc f + x = omega arith in subst (λ n. slice_get p.fields n ≡ Some other) n (h (suc x) other e)))

  good-expands : (start : ℕ) → Classes p (Spans start t) → Each (Good p) (expands p start t)
  good-expands start spans =
      each-append (Good p) (fields_lead p start t 0 p.fields) (bag_leads p start t)
      (good-fields start 0 spans p.fields (λ x field e. let n : 0 + x ≡ x = omega arith in subst (λ k. slice_get p.fields k ≡ Some field) (sym n) e))
      (each-if (Good p) (absorbs p t) (copy (Bag t) (Span start)) (λ absorbing. ((λ u held. close (Spans start t ∷ InBag t u ∷ []) (Spans start u) (class_sets.spans_bag absorbing) (spans, (held, tt))), tt)))

  pub fires-sound : (a : Action) → MeansDone p a t → Each (Good p) (fires p names t a)
  fires-sound (Copy to) done = (done, tt)
  fires-sound (Check m i) done = each-code (Good p) p m i (λ method instr. passes_cast p m i t instr.op) (λ method instr found at. good-cast m i done method instr found at instr.op refl)
  fires-sound (Enter m k) done = good-param m k done (slice_get p.methods m) refl
  fires-sound (Return m i) done = each-code (Good p) p m i (λ method instr. answers p m i t instr.op) (λ method instr found at. good-answer m i done method instr found at instr.op refl)
  fires-sound (Dispatch m i) done = each-code (Good p) p m i (λ method instr. dispatches p m i t instr.op) (λ method instr found at. good-receiver m i done method instr found at instr.op refl)
  fires-sound (Throw m i) done = good-thrown m i done (slice_get p.methods m) refl
  fires-sound (Source m i) done = (tt, ((λ b spans absorbing. done b spans absorbing), tt))
  fires-sound (Take m i) done = each-if (Good p) (absorbs p t) (gets (Takers m i) t) (λ absorbing. (done absorbing, tt))
  fires-sound (Fill m i) done = each-code (Good p) p m i (λ method instr. fills_bag (row_at names m i) method.locals instr.height t instr.op) (λ method instr found at. good-fills m i done method instr found at instr.op refl)
  fires-sound (Lead m i) done = (tt, ((λ u spans under call type at has fit. done u under call type spans at has fit), tt))
  fires-sound (Expand start) done = good-expands start done
  fires-sound Stock done = each-if (Good p) (is_library_bag p t) (copy Environment (Bag t)) (λ e. ((λ u h. close (class_sets.InEnv t ∷ class_sets.InEnv u ∷ []) (InBag t u) (class_sets.env_bag (library-bag p t e)) (done, (h, tt))), tt))
