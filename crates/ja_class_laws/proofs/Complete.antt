-- Each fact that follows by the rules of class sets is shown by the network's.
use Rattle.std.proofs.Common.{◌≡◌, ℕ, ◌+◌, ◌≤◌, List, [], ◌∷◌, Some, ap, subst, ◌∙◌, arith}
use Rattle.std.specs.Prelude.{◌↔◌, slice_get}
use Rattle.ja_ir.specs.declared.program.Parts.{Parts}
use Rattle.ja_ir.specs.declared.class.MethodAt.TheVariants.{Program, Abstract, Library}
use Rattle.ja_ir.specs.declared.method.Method.{Method}
use Rattle.ja_ir.specs.Params.{param_local}
use Rattle.ja_ir.specs.Whole.{IsWhole}
use Rattle.ja_facts.specs.Least.{Each, IsSolution}
use Rattle.ja_facts.proofs.LeastLaws.{Each-weaker, Least-is_solution, Least-below}
use Rattle.ja_facts.specs.Analyses.{Classes}
use Rattle.ja_facts.specs.Slots.{Slot, Local, OnStack}
use Rattle.ja_facts.specs.Told.{SlotIs, IsNumbered, numbered_local, numbered_stack}
use Rattle.ja_facts.specs.ClassSets as class_sets
use Rattle.ja_facts.specs.ClassSets.{Fact as ClassFact, Rule as ClassRule, InEnv, InSlot, InThrown, InParam, InResult, InOut, InField, InBag, CallsMethod, Spans, Takes}
use Rattle.ja_network.specs.declared.cell.Cell.TheVariants.{Environment, Field, Bag, Param, Answer, Out, Thrown, Takers}
use Rattle.ja_network.specs.declared.cell.Event.TheVariants.{Reached, Calls, CallsAbstract, CallsLibrary}
use Rattle.ja_network.specs.Facts.{Fact, HasToken, Happens}
use Rattle.ja_cells.specs.Names.{Names, AreNames, row_at, slot_number, locals_of}
use Rattle.ja_cells.specs.Rows.{cell_in}
use Rattle.ja_class_laws.specs.Shown.{Shows, LeadsBy, leads_itself, leads_by_field, leads_by_bag}
use Rattle.ja_class_laws.proofs.Frames.{IsSlot, MayThrow, IsWithin, says, runs}
use Rattle.ja_class_laws.proofs.Meaning.{slot_of}
use Rattle.ja_class_laws.proofs.Named.{named}
use Rattle.ja_class_laws.proofs.InSlots.{stack-is, local-is}
use Rattle.ja_class_laws.proofs.Sound.{sound}
use Rattle.ja_class_laws.proofs.Telling.{Net}
use Rattle.ja_class_laws.proofs.Arriving.{Held, next-told}
use Rattle.ja_class_laws.proofs.ShownStarts.{env-object, env-fresh, initializer-runs, constructor-runs, entry-runs, constructor-receives, entry-receives, entry-takes, env-bag, text-field}
use Rattle.ja_class_laws.proofs.ShownFlows.{init-told, begins-told, moved-told}
use Rattle.ja_class_laws.proofs.ShownOperations.{text-made, new-made, array-made, array-filled, field-got, static-got, element-got, field-put, static-put, element-put, returned-told, throw-told, library-thrown, handler-told, handled-told, kept-told, out-told}
use Rattle.ja_class_laws.proofs.ShownCalls.{null-told, found-method, found-abstract, found-library, selected-told, callee-reached, callee-throws, hands-told, answered-told, abstract-throws}
use Rattle.ja_class_laws.proofs.ShownLibrary.{library-throws, taker-told, taken-told, fresh-told, filled-told, argument-answered, member-answered}
use Rattle.ja_class_laws.proofs.Telling.{below}

-- what stands for a fact of class sets among the network's
abbrev pub Stands : Parts → Names → ClassFact → Type 0
Stands p names (class_sets.Reached m i) = Net p names (Happens (Reached m i))
Stands p names (InEnv t) = Net p names (HasToken Environment t)
Stands p names (InSlot m i z t) = Held p names m i z t
Stands p names (InThrown m i t) = Net p names (HasToken (Thrown m i) t)
Stands p names (InParam m k t) = Net p names (HasToken (Param m k) t)
Stands p names (InResult m t) = Net p names (HasToken (Answer m) t)
Stands p names (InOut m t) = Net p names (HasToken (Out m) t)
Stands p names (InField f t) = Net p names (HasToken (Field f) t)
Stands p names (InBag b t) = Net p names (HasToken (Bag b) t)
Stands p names (CallsMethod m i n) = Net p names (Happens (Calls m i n))
Stands p names (class_sets.CallsAbstract m i n) = Net p names (Happens (CallsAbstract m i n))
Stands p names (class_sets.CallsLibrary m i) = Net p names (Happens (CallsLibrary m i))
Stands p names (Spans t u) = LeadsBy p (Net p names) t u
Stands p names (Takes m i b) = Net p names (HasToken (Takers m i) b) × Net p names (Happens (CallsLibrary m i))

abbrev pub Both : Parts → Names → ClassFact → Type 0
Both p names f = Classes p f × Stands p names f

module _ (p : Parts) (names : Names) (whole : IsWhole p) (right : AreNames p names) where
  slot : (m i : ℕ) (z : Slot) (t : ℕ) → Classes p (InSlot m i z t) → IsSlot p m i z
  slot m i z t c = says p whole (InSlot m i z t) c

  may : (m i t : ℕ) → Classes p (InThrown m i t) → MayThrow p m i
  may m i t c = says p whole (InThrown m i t) c

  stands : (ps : List ClassFact) (f : ClassFact) → ClassRule p ps f → Classes p f → Each (Both p names) ps → Stands p names f
  stands _ _ (class_sets.env_object entry objects) c each = env-object p names whole right entry objects
  stands _ _ (class_sets.env_fresh entry method k t type is has fresh) c each = env-fresh p names whole right entry method k t type is has fresh
  stands _ _ (class_sets.initializer_runs {m} r) c each = initializer-runs p names whole right m r
  stands _ _ (class_sets.constructor_runs {m} entry objects is) c each = constructor-runs p names whole right entry objects m is
  stands _ _ (class_sets.entry_runs entry listed) c each = entry-runs p names whole right entry listed
  stands _ _ (class_sets.constructor_receives {m} entry objects is) c each = constructor-receives p names whole right entry objects m is
  stands _ _ (class_sets.entry_receives entry objects) c each = entry-receives p names whole right entry objects
  stands _ _ (class_sets.entry_takes {t} entry method k type is has reference fit) c each = entry-takes p names whole right entry method k t type is has reference fit each.0.1
  stands _ _ (class_sets.env_bag {b} {t} is) c each = env-bag p names whole right b t is each.0.1 each.1.0.1
  stands _ _ (class_sets.next_reached {m} {i} {j} leads) c each = next-told p names whole right m i j each.0.1 leads
  stands _ _ (class_sets.initializes {m} {i} {n} init) c each = init-told p names whole right m i n each.0.1 init
  stands _ _ (class_sets.begins {m} {k} {t} method found) c each =
      begins-told p names whole right m k t method found each.0.1 (says p whole (InParam m k t) each.1.0.0) (slot m 0 (Local (param_local method k)) t c) each.1.0.1
  stands _ _ (class_sets.moved {m} {i} {j} {t} {height} {op} {z} {y} at leads copies passes) c each =
      moved-told p names whole right m i j height t op z y each.0.1 at leads copies passes (slot m i z t each.1.0.0) (slot m j y t c) each.1.0.1.0
  stands _ _ (class_sets.text_made {m} {i} {j} {height} at leads) c each = text-made p names whole right m i j height each.0.1 at leads (slot m j (OnStack height) _ c)
  stands _ _ (class_sets.made {m} {i} {j} {height} {t} at leads can) c each = new-made p names whole right m i j height t each.0.1 at leads can (slot m j (OnStack height) t c)
  stands _ _ (class_sets.array_made {m} {i} {j} {height} {under} {dimensions} {last} {t} at leads lies outer) c each =
      array-made p names whole right m i j height under dimensions last t each.0.1 at leads lies outer (slot m j (OnStack under) t c)
  stands _ _ (class_sets.array_filled {m} {i} {height} {dimensions} {last} {t} at inner) c each = array-filled p names whole right m i height dimensions last t each.0.1 at inner
  stands _ _ (class_sets.got {m} {i} {j} {f} {t} {k} at leads) c each = field-got p names whole right m i j f t k each.0.1 at leads (slot m j (OnStack k) t c) each.1.0.1
  stands _ _ (class_sets.got_static {m} {i} {j} {f} {t} {height} at leads) c each = static-got p names whole right m i j f t height each.0.1 at leads (slot m j (OnStack height) t c) each.1.0.1
  stands _ _ (class_sets.put {m} {i} {f} {t} {k} at) c each = field-put p names whole right m i f t k each.0.1 at each.1.0.1.0
  stands _ _ (class_sets.put_static {m} {i} {f} {t} {k} at) c each = static-put p names whole right m i f t k each.0.1 at each.1.0.1.0
  stands _ _ (class_sets.text_field {f} field found text) c each = text-field p names whole right f field found text
  stands _ _ (class_sets.element_got {m} {i} {j} {t} {k} at leads) c each = element-got p names whole right m i j t k each.0.1 at leads (slot m j (OnStack k) t c) each.1.0.1
  stands _ _ (class_sets.element_put {m} {i} {t} {k} at) c each = element-put p names whole right m i t k each.0.1 at each.1.0.1.0
  stands _ _ (class_sets.throws_library {m} {i} {height} {op} at throws) c each = library-thrown p names whole right m i height op each.0.1 at throws
  stands _ _ (class_sets.throws {m} {i} {t} {k} at) c each = throw-told p names whole right m i k t each.0.1 at each.1.0.1.0
  stands _ _ (class_sets.handler_reached {m} {i} {j} {t} inside) c each = handler-told p names whole right m i j t each.0.1 (may m i t each.1.0.0) each.1.0.1 inside
  stands _ _ (class_sets.handled {m} {i} {j} {t} inside) c each = handled-told p names whole right m i j t each.0.1 (may m i t each.1.0.0) each.1.0.1 inside (slot m j (OnStack 0) t c)
  stands _ _ (class_sets.handler_keeps {m} {i} {j} {t} {l} {u} inside) c each =
      kept-told p names whole right m i j t l u each.0.1 (may m i t each.1.0.0) each.1.0.1 inside (slot m i (Local l) u each.1.1.0.0) (slot m j (Local l) u c) each.1.1.0.1.0
  stands _ _ (class_sets.thrown_out {m} {i} {t} outside) c each = out-told p names whole right m i t each.0.1 (may m i t each.1.0.0) each.1.0.1 outside
  stands _ _ (class_sets.found_method {m} {i} {n} {under} {call} method at finds found can) c each = found-method p names whole right m i n under call method each.0.1 at finds found can
  stands _ _ (class_sets.found_abstract {m} {i} {n} {under} {call} method at finds found can) c each = found-abstract p names whole right m i n under call method each.0.1 at finds found can
  stands _ _ (class_sets.found_library {m} {i} {under} {call} at finds) c each = found-library p names whole right m i under call each.0.1 at finds
  stands _ _ (class_sets.selects_method {m} {i} {n} {under} {t} {call} at dispatched goes) c each = (selected-told p names whole right m i under t call (Program (record { 0 = n })) each.0.1 at dispatched goes each.1.0.1.0).0
  stands _ _ (class_sets.selects_abstract {m} {i} {n} {under} {t} {call} at dispatched goes) c each = (selected-told p names whole right m i under t call (Abstract (record { 0 = n })) each.0.1 at dispatched goes each.1.0.1.0).0
  stands _ _ (class_sets.selects_library {m} {i} {under} {t} {call} at dispatched goes) c each = (selected-told p names whole right m i under t call Library each.0.1 at dispatched goes each.1.0.1.0).0
  stands _ _ (class_sets.callee_reached {m} {i} {n}) c each = callee-reached p names whole right m i n each.1.0.1
  stands _ _ (class_sets.receives {m} {i} {n} {under} {t} {call} at dispatched goes) c each =
      (selected-told p names whole right m i under t call (Program (record { 0 = n })) each.0.1 at dispatched goes each.1.0.1.0).1.0 (below p names (cell_in (row_at names m i) (slot_number p m (OnStack (under + 0)))) t each.1.0.1.0)
  stands _ _ (class_sets.hands {m} {i} {n} {under} {k} {t} {call} at lt other) c each = hands-told p names whole right m i n under k t call each.0.1 each.1.0.1 at lt other each.1.1.0.1.0
  stands _ _ (class_sets.returned {m} {i} {k} {t} {kind} at) c each = returned-told p names whole right m i k t kind each.0.1 at each.1.0.1.0
  stands _ _ (class_sets.answered {m} {i} {j} {n} {under} {t} {call} at leads) c each =
      answered-told p names whole right m i j n under t call each.0.1 each.1.0.1 (says p whole (CallsMethod m i n) each.1.0.0) (says p whole (InResult n t) each.1.1.0.0) at leads (slot m j (OnStack under) t c) each.1.1.0.1
  stands _ _ (class_sets.callee_throws {m} {i} {n} {t}) c each = callee-throws p names whole right m i n t each.1.0.1 each.1.1.0.1
  stands _ _ (class_sets.null_receiver {m} {i} {under} {call} at receiver) c each = null-told p names whole right m i under call each.0.1 at receiver
  stands _ _ (class_sets.abstract_throws {m} {i} {n}) c each = abstract-throws p names whole right m i n each.1.0.1
  stands _ _ (class_sets.library_throws {m} {i}) c each = library-throws p names whole right m i each.1.0.1
  stands _ _ class_sets.spans_itself c each = leads_itself
  stands _ _ (class_sets.spans_field f has) c each = leads_by_field f has each.1.0.1 each.0.1
  stands _ _ (class_sets.spans_bag absorbing) c each = leads_by_bag absorbing each.1.0.1 each.0.1
  stands _ _ (class_sets.taker {m} {i} {under} {t} {b} {call} k at source absorbing) c each =
      (taker-told p names whole right m i under call each.0.1 each.1.0.1 at k t b source absorbing each.1.1.0.1.0 each.1.1.1.0.1, each.1.0.1)
  stands _ _ (class_sets.taken {m} {i} {under} {k} {b} {t} {call} at lt) c each = taken-told p names whole right m i under call each.0.1 each.1.0.1.1 at k b t lt each.1.0.1.0 each.1.1.0.1.0
  stands _ _ (class_sets.library_fresh {m} {i} {j} {under} {t} {call} {type} at leads has fresh fit) c each =
      fresh-told p names whole right m i under call each.0.1 each.1.0.1 at type has j t leads (slot m j (OnStack under) t c) fresh fit
  stands _ _ (class_sets.library_filled {m} {i} {under} {t} {call} {type} at has makes bagged) c each = filled-told p names whole right m i under call each.0.1 each.1.0.1 at type has t makes bagged
  stands _ _ (class_sets.library_argument {m} {i} {j} {under} {t} {call} {type} at leads has is some fit) c each =
      argument-answered p names whole right m i under call each.0.1 each.1.0.1 at type has j t leads (slot m j (OnStack under) t c) is some fit each.1.1.0.1.0
  stands _ _ (class_sets.library_member {m} {i} {j} {under} {t} {u} {call} {type} k at leads has from fit) c each =
      member-answered p names whole right m i under call each.0.1 each.1.0.1 at type has j k t u leads (slot m j (OnStack under) u c) from fit each.1.1.0.1.0 each.1.1.1.0.1

  solution : IsSolution (ClassRule p) (Both p names)
  solution ps f rule each =
      let c : Classes p f = Least-is_solution (ClassRule p) ps f rule (Each-weaker (Both p names) (Classes p) (λ g b. b.0) ps each) in
      (c, stands ps f rule c each)

  both : (f : ClassFact) → Classes p f → Both p names f
  both = Least-below (ClassRule p) (Both p names) solution

  -- ---- what is said is shown

  numbered : (m i : ℕ) (z : Slot) → IsSlot p m i z → SlotIs p m z (slot_number p m z)
  numbered m i z s = record { method = s.at.method; found = s.at.found; numbered = by z s.within }
    where
      by : (z : Slot) → IsWithin s.at.method.locals s.at.instr.height z → IsNumbered s.at.method z (slot_number p m z)
      by (Local l) lt = numbered_local lt
      by (OnStack k) lt =
          let few : s.at.instr.height ≤ s.at.method.stack = (runs p whole m i s.at).height in
          let same : locals_of (slice_get p.methods m) ≡ s.at.method.locals = ap locals_of s.at.found in
          numbered_stack k (omega arith) (omega arith)

  shows : (f : ClassFact) → Both p names f → Shows p names (Net p names) f
  shows (class_sets.Reached m i) b = b.1
  shows (InEnv t) b = b.1
  shows (InSlot m i z t) b = record { n = slot_number p m z; is = numbered m i z (slot m i z t b.0); reached = b.1.1; member = b.1.0 }
  shows (InThrown m i t) b = b.1
  shows (InParam m k t) b = b.1
  shows (InResult m t) b = b.1
  shows (InOut m t) b = b.1
  shows (InField f t) b = b.1
  shows (InBag c t) b = b.1
  shows (CallsMethod m i n) b = b.1
  shows (class_sets.CallsAbstract m i n) b = b.1
  shows (class_sets.CallsLibrary m i) b = b.1
  shows (Spans t u) b = b.1
  shows (Takes m i c) b = b.1.0

  -- ---- what is shown is said

  numbered-is : (m n : ℕ) (z : Slot) (method : Method) → slice_get p.methods m ≡ Some method → IsNumbered method z n → slot_of p m n ≡ z
  numbered-is m _ _ method found (numbered_local {l} lt) = local-is p m l method found lt
  numbered-is m _ _ method found (numbered_stack {n} k lt e) = ap (slot_of p m) e ∙ stack-is p m k method found

  slot-is : (m n : ℕ) (z : Slot) → SlotIs p m z n → slot_of p m n ≡ z
  slot-is m n z is = numbered-is m n z is.method is.found is.numbered

  spans-said : (t u : ℕ) → LeadsBy p (Net p names) t u → Classes p (Spans t u)
  spans-said t _ leads_itself = Least-is_solution (ClassRule p) [] (Spans t t) class_sets.spans_itself tt
  spans-said t _ (leads_by_field {u} {v} f has h leads) =
      Least-is_solution (ClassRule p) (Spans t u ∷ InField f v ∷ []) (Spans t v) (class_sets.spans_field f has) (spans-said t u leads, (sound p names whole right (HasToken (Field f) v) h, tt))
  spans-said t _ (leads_by_bag {u} {v} absorbing h leads) =
      Least-is_solution (ClassRule p) (Spans t u ∷ InBag u v ∷ []) (Spans t v) (class_sets.spans_bag absorbing) (spans-said t u leads, (sound p names whole right (HasToken (Bag u) v) h, tt))

  said : (f : ClassFact) → Shows p names (Net p names) f → Classes p f
  said (class_sets.Reached m i) h = sound p names whole right (Happens (Reached m i)) h
  said (InEnv t) h = sound p names whole right (HasToken Environment t) h
  said (InSlot m i z t) h =
      let there : Classes p (InSlot m i (slot_of p m h.n) t) = named p names whole right m i (sound p names whole right (Happens (Reached m i)) h.reached) h.n t (sound p names whole right (HasToken (cell_in (row_at names m i) h.n) t) h.member) in
      subst (λ (s : Slot). Classes p (InSlot m i s t)) (slot-is m h.n z h.is) there
  said (InThrown m i t) h = sound p names whole right (HasToken (Thrown m i) t) h
  said (InParam m k t) h = sound p names whole right (HasToken (Param m k) t) h
  said (InResult m t) h = sound p names whole right (HasToken (Answer m) t) h
  said (InOut m t) h = sound p names whole right (HasToken (Out m) t) h
  said (InField f t) h = sound p names whole right (HasToken (Field f) t) h
  said (InBag b t) h = sound p names whole right (HasToken (Bag b) t) h
  said (CallsMethod m i n) h = (sound p names whole right (Happens (Calls m i n)) h).1
  said (class_sets.CallsAbstract m i n) h = (sound p names whole right (Happens (CallsAbstract m i n)) h).1
  said (class_sets.CallsLibrary m i) h = (sound p names whole right (Happens (CallsLibrary m i)) h).1
  said (Spans t u) h = spans-said t u h
  said (Takes m i b) h = sound p names whole right (HasToken (Takers m i) b) h

  pub least-shows : (f : ClassFact) → Classes p f ↔ Shows p names (Net p names) f
  least-shows f = (λ c. shows f (both f c), said f)

-- what more facts show
module _ (p : Parts) (names : Names) (S T : Fact → Type 0) (more : (f : Fact) → S f → T f) where
  leads-more : (t u : ℕ) → LeadsBy p S t u → LeadsBy p T t u
  leads-more t _ leads_itself = leads_itself
  leads-more t _ (leads_by_field {u} {v} f has h leads) = leads_by_field f has (more (HasToken (Field f) v) h) (leads-more t u leads)
  leads-more t _ (leads_by_bag {u} {v} absorbing h leads) = leads_by_bag absorbing (more (HasToken (Bag u) v) h) (leads-more t u leads)

  pub shows-more : (f : ClassFact) → Shows p names S f → Shows p names T f
  shows-more (class_sets.Reached m i) h = more (Happens (Reached m i)) h
  shows-more (InEnv t) h = more (HasToken Environment t) h
  shows-more (InSlot m i z t) h = record { n = h.n; is = h.is; reached = more (Happens (Reached m i)) h.reached; member = more (HasToken (cell_in (row_at names m i) h.n) t) h.member }
  shows-more (InThrown m i t) h = more (HasToken (Thrown m i) t) h
  shows-more (InParam m k t) h = more (HasToken (Param m k) t) h
  shows-more (InResult m t) h = more (HasToken (Answer m) t) h
  shows-more (InOut m t) h = more (HasToken (Out m) t) h
  shows-more (InField f t) h = more (HasToken (Field f) t) h
  shows-more (InBag b t) h = more (HasToken (Bag b) t) h
  shows-more (CallsMethod m i n) h = more (Happens (Calls m i n)) h
  shows-more (class_sets.CallsAbstract m i n) h = more (Happens (CallsAbstract m i n)) h
  shows-more (class_sets.CallsLibrary m i) h = more (Happens (CallsLibrary m i)) h
  shows-more (Spans t u) h = leads-more t u h
  shows-more (Takes m i b) h = more (HasToken (Takers m i) b) h
