-- Where whatever follows is listed, the lists cover the least solution, and tell which sites are warned.
use Rattle.std.proofs.Common.{◌≡◌, ◌⊎◌, ◌↔◌, inl, inr, ℕ, zero, suc, ◌+◌, ◌-◌, ◌^◌, ◌<◌, ◌≤◌, Bool, true, false, List, [], ◌∷◌, ◌++◌, Some, None, refl, sym, ap, subst, ◌∙◌, arith, length, map, pow_pos}
use Rattle.std.specs.Prelude.{◌&&◌, ◌||◌, ◌==◌, nat_eq, Contains, Option, IsTrue, slice_get, slice_index_or, if◌then◌else◌}
use Rattle.std.specs.List.{list_any}
use Rattle.std.proofs.lemmas.Bool.{and_parts, and_from, or_cases, or_left, or_right, false≢true, eqb-true, eq-eqb, cases_Bool, cases_lt}
use Rattle.std.proofs.lemmas.Option.{same_Some}
use Rattle.std.proofs.lemmas.List.Elements.{Contains-append_left, Contains-append_right}
use Rattle.ja_base.specs.declared.java_type.Kind.TheVariants.{R}
use Rattle.ja_base.specs.declared.id.MethodId.{MethodId}
use Rattle.ja_ir.specs.declared.program.Parts.{Parts}
use Rattle.ja_ir.specs.declared.method.Method.{Method}
use Rattle.ja_ir.specs.declared.method.Instr.{Instr}
use Rattle.ja_ir.specs.declared.entry.Entry.{Entry}
use Rattle.ja_ir.specs.declared.entry.Site.{Site}
use Rattle.ja_ir.specs.declared.op.CallOp.{CallOp}
use Rattle.ja_ir.specs.declared.op.Op.{Op}
use Rattle.ja_ir.specs.declared.op.Op.TheVariants.{Call}
use Rattle.ja_ir.specs.Lookup.{HasCode, OpAt, Leads, instr_at, code_of, is_member}
use Rattle.ja_ir.specs.Operations.{arguments, pops}
use Rattle.ja_ir.specs.Params.{param_local, param_count, param_types, kind_among}
use Rattle.ja_ir.specs.Entries.{constructor_of, IsConstructorOf}
use Rattle.ja_ir.specs.Initializing.{inits_of_class}
use Rattle.ja_ir.specs.Handlers.{Place}
use Rattle.ja_ir.specs.Whole.{IsWhole}
use Rattle.ja_facts.specs.declared.facts.Facts.{Facts}
use Rattle.ja_facts.specs.Least.{Each, IsSolution}
use Rattle.ja_facts.specs.ClassTables.{token_count, param_set}
use Rattle.ja_facts.specs.FactTables.{slot_count, cell_count}
use Rattle.ja_facts.specs.ClassSets.{CallsMethod, InParam}
use Rattle.ja_facts.specs.Slots.{Slot, Local, OnStack, CallAt, argument}
use Rattle.ja_facts.specs.Held.{Cell}
use Rattle.ja_facts.specs.Told.{cell_number, GoesTo}
use Rattle.ja_facts.specs.Actions.{IsInitializer, HasObjects, IsConstructor}
use Rattle.ja_facts.specs.Crossings.{has_result}
use Rattle.ja_facts.specs.Formulas.{Assignment, Summary, any_below, put_in, IsNormalEnd, IsExceptionalEnd, IsReturn, IsCallThrown}
use Rattle.ja_facts.specs.Equations as equations
use Rattle.ja_facts.specs.Equations.{Fact, Rule, IsNothing, thrown_summary, return_summary, MayBegin, MayBeTrue, HoldsStored, HandsOver, Calls, IsWarned, stored_facts, initializer_called, constructor_called, entry_called, called, initialized, begins, steps, reads_stored_field, call_resumes, initializer_resumes, caught, callee_caught, leaves, callee_leaves, method_returns, method_ends, stored, taken}
use Rattle.ja_facts.specs.Verdict.{AreVerdictsOf}
use Rattle.ja_facts.proofs.LeastLaws.{Least-below}
use Rattle.ja_work.specs.declared.clause.Spot.{Spot}
use Rattle.ja_work.specs.declared.clause.Spot.TheVariants.{Local as InLocal, OnStack as InStack, Dirt, Exc}
use Rattle.ja_work.specs.Clauses.{never, anything, constant, fits, AllFit}
use Rattle.ja_work.specs.Told.{told}
use Rattle.ja_work.proofs.Fitting.{constant_fits, some_any}
use Rattle.ja_work.proofs.NormalEnds as ends
use Rattle.ja_explicit.specs.Given.{AreGiven, Taints}
use Rattle.ja_explicit.specs.declared.item.Item.{Item}
use Rattle.ja_explicit.specs.declared.item.Item.TheVariants.{Context, At, Normal, Threw, Stored}
use Rattle.ja_explicit.specs.InnerWords.{says, next_words, opened_clauses, handed_clauses}
use Rattle.ja_explicit.specs.InnerSteps.{stores, places_of, lands_at}
use Rattle.ja_explicit.specs.InnerStarts as starts
use Rattle.ja_explicit.specs.InnerRounds as rounds
use Rattle.ja_explicit.specs.InnerRounds.{says_in, says_of, meant, IsSound, IsClosed}
use Rattle.ja_explicit.proofs.Worded.{word_fits, some_word}
use Rattle.ja_explicit.proofs.Quiet.{is_false}
use Rattle.ja_explicit.proofs.Lists.{here, there, cons_cases, nothing_in, in_if, in_contexts}
use Rattle.ja_explicit.proofs.Looping.{past_end}
use Rattle.ja_explicit.proofs.Same.{item_has}
use Rattle.ja_explicit.proofs.Wholeness.{starts_there, runs_there}
use Rattle.ja_explicit.proofs.Handed.{says_nothing, same_nothing, cell_low}
use Rattle.ja_explicit.proofs.Starting.{listed_marked, opened_quiet, entry_code}
use Rattle.ja_explicit.proofs.Complete.{CoversContext, CoversAt, CoversNormal, CoversThrew, Covers, class_initializer, steps_covers, reads_covers, thrown_word, lands_inside, lands_outside, initialized_covers, initializer_covers, call_covers, given_word, return_covers, callee_word, returns_covers, ends_covers, stored_covers, taken_covers, op_same}
use Rattle.ja_ir.proofs.Entered.{constructor-says}

module _ (p : Parts) (f : Facts) (whole : IsWhole p) (given : AreGiven p f) (items : List Item) (closed : IsClosed p f items) where
  -- ---- what the environment may call

  in_enters_each : (entries : List Entry) (entry : Entry) (x : Item) → Contains entries entry → Contains (starts.enters p f items entry) x → Contains (starts.enters_each p f items entries) x
  in_enters_each [] entry x h k = nothing_in entry h
  in_enters_each (q ∷ entries) entry x h k = elim (cons_cases q entries entry h) [
    | inl is ↦ Contains-append_left (starts.enters p f items q) (starts.enters_each p f items entries) x (subst (λ e. Contains (starts.enters p f items e) x) (sym is) k)
    | inr rest ↦ Contains-append_right (starts.enters p f items q) (starts.enters_each p f items entries) x (in_enters_each entries entry x rest k)
  ]

  in_enters : (entry : Entry) (x : Item) → Contains p.entries entry → Contains (starts.enters p f items entry) x → Contains items x
  in_enters entry x h k = closed.starts x (in_enters_each p.entries entry x h k)

  in_initializers : (inits : List MethodId) (n : MethodId) → Contains inits n → Contains (starts.initializers inits) (Context n.0 0)
  in_initializers [] n h = nothing_in n h
  in_initializers (q ∷ inits) n h = elim (cons_cases q inits n h) [
    | inl is ↦ subst (λ (y : MethodId). Contains (starts.initializers (q ∷ inits)) (Context y.0 0)) is (here (Context q.0 0) (starts.initializers inits))
    | inr rest ↦ there (Context q.0 0) (starts.initializers inits) (Context n.0 0) (in_initializers inits n rest)
  ]

  in_opens : (entry : Entry) (method : Method) (x : Item) → Contains p.entries entry → slice_get p.methods entry.method.0 ≡ Some method → Contains (starts.opens p f items entry (Some method)) x → Contains items x
  in_opens entry method x listed found h = in_enters entry x listed
      (Contains-append_right (starts.initializers (inits_of_class (slice_get p.classes entry.class.0))) (starts.opens p f items entry (slice_get p.methods entry.method.0)) x
      (subst (λ o. Contains (starts.opens p f items entry o) x) (sym found) h))

  nothing_context : (n : ℕ) (method : Method) (a : Assignment) → slice_get p.methods n ≡ Some method → HasCode method → IsNothing a → Contains items (Context n 0) → CoversContext p f items n a
  nothing_context n method a found has_code nothing inside = record {
    method = method;
    found = found;
    has_code = has_code;
    w = 0;
    small = pow_pos (slot_count method);
    same = same_nothing (says method 0) a (subst (λ o. IsNothing (says_in o 0)) found (says_nothing p n)) nothing;
    listed = inside;
  }

  initializer_context : (m : ℕ) (a : Assignment) → IsInitializer p m → IsNothing a → CoversContext p f items m a
  initializer_context m a init nothing =
      let it = class_initializer p whole init.entry.class.0 (record { 0 = m }) init.initializes in
      nothing_context m it.method a it.named.found it.code nothing
      (in_enters init.entry (Context m 0) init.listed
      (Contains-append_left (starts.initializers (inits_of_class (slice_get p.classes init.entry.class.0))) (starts.opens p f items init.entry (slice_get p.methods init.entry.method.0)) (Context m 0)
      (in_initializers (inits_of_class (slice_get p.classes init.entry.class.0)) (record { 0 = m }) init.initializes)))

  constructor_context : (entry : Entry) (m : ℕ) (a : Assignment) → HasObjects p entry → IsConstructor p entry.class.0 m → IsNothing a → CoversContext p f items m a
  constructor_context entry m a objects is nothing =
      let it : IsConstructorOf p entry.class.0 m = (constructor-says p entry.class.0 m).0 is in
      nothing_context m it.method a it.found it.constructs.plain.code nothing
      (in_opens entry objects.method (Context m 0) objects.is_entry.listed objects.is_entry.found
      (Contains-append_left (if is_member objects.method.flags then starts.constructs (constructor_of p entry.class.0) else []) (starts.contexts entry.method.0 (next_words objects.method (opened_clauses objects.method (starts.may_be_true p f items entry objects.method)) (says objects.method 0))) (Context m 0)
      (in_if (is_member objects.method.flags) (starts.constructs (constructor_of p entry.class.0)) (Context m 0) objects.member
      (subst (λ o. Contains (starts.constructs o) (Context m 0)) (sym is) (here (Context m 0) [])))))

  stored_each : (cells : List Cell) → Each (Covers p f items) (stored_facts cells) → (c : Cell) → Contains cells c → Contains items (Stored (cell_number p c))
  stored_each [] each c h = nothing_in c h
  stored_each (d ∷ cells) each c h = elim (cons_cases d cells c h) [ inl is ↦ subst (λ x. Contains items (Stored (cell_number p x))) is each.0 | inr rest ↦ stored_each cells each.1 c rest ]

  module _ (entry : Entry) (a : Assignment) (cells : List Cell) (begin : MayBegin p (told p f) entry a cells) (each : Each (Covers p f items) (stored_facts cells)) where
    abbrev method : Method
    method = begin.method

    abbrev test : ℕ → Bool
    test = starts.may_be_true p f items entry method

    holds_true : (k : ℕ) → HoldsStored (told p f) entry.method.0 method k cells → test k ≡ true
    holds_true k h = or_right (starts.is_marked entry k) (starts.is_reference (kind_among (is_member method.flags) (param_types method) k) && starts.param_stores p f items entry.method.0 k)
        (and_from (starts.is_reference (kind_among (is_member method.flags) (param_types method) k)) (starts.param_stores p f items entry.method.0 k) (ap starts.is_reference h.reaches.reference) (by_set h.reaches.inside))
      where
        by_set : (told p f).classes (InParam entry.method.0 k h.reaches.token) → starts.param_stores p f items entry.method.0 k ≡ true
        by_set (inr none) = absurd none
        by_set (inl has) =
            some_any (λ t. slice_index_or (param_set f.sets entry.method.0 k) t false && starts.token_stores p f items t) (token_count p) h.reaches.token low
            (and_from (slice_index_or (param_set f.sets entry.method.0 k) h.reaches.token false) (starts.token_stores p f items h.reaches.token) has
            (some_any (λ c. slice_index_or (slice_index_or f.holds.tokens h.reaches.token []) c false && stores items c) (cell_count p) (cell_number p h.cell) (cell_low p h.cell h.reaches.holds.0)
            (and_from (slice_index_or (slice_index_or f.holds.tokens h.reaches.token []) (cell_number p h.cell) false) (stores items (cell_number p h.cell)) h.reaches.holds.1
            (item_has items (Stored (cell_number p h.cell)) (stored_each cells each h.cell h.listed)))))
          where
            low : h.reaches.token < token_count p
            low = elim (cases_lt h.reaches.token (token_count p)) [
              | inl lt ↦ lt
              | inr ge ↦ absurd (false≢true (sym (ap (λ row. slice_index_or row (cell_number p h.cell) false) (past_end f.holds.tokens h.reaches.token [] (let e = given.tokens in omega (arith, ge, e)))) ∙ h.reaches.holds.1))
            ]

    may_true : (l : ℕ) → MayBeTrue (told p f) entry method cells (Local l) → any_below (λ k. nat_eq (param_local method k) l && test k) (param_count method) ≡ true
    may_true l m = some_any (λ k. nat_eq (param_local method k) l && test k) (param_count method) m.k m.below
        (and_from (nat_eq (param_local method m.k) l) (test m.k) (eq-eqb (param_local method m.k) l (same_local m.k l m.is_slot)) (by_why m.why))
      where
        same_local : (k l : ℕ) → Local l ≡ Local (param_local method k) → param_local method k ≡ l
        same_local k l z = sym (cc z)

        by_why : Contains entry.marked m.k ⊎ HoldsStored (told p f) entry.method.0 method m.k cells → test m.k ≡ true
        by_why (inl marked) = or_left (starts.is_marked entry m.k) (starts.is_reference (kind_among (is_member method.flags) (param_types method) m.k) && starts.param_stores p f items entry.method.0 m.k) (listed_marked entry.marked m.k marked)
        by_why (inr h) = holds_true m.k h

    either : (c : Bool) (b : Assignment) → fits (if c then anything else never) b false ≡ true
    either true b = refl
    either false b = constant_fits false b false refl

    all : AllFit (opened_clauses method test) (says method 0) a
    all (InLocal l) = by_truth (a.slot (Local l)) refl
      where
        by_truth : (t : Bool) → a.slot (Local l) ≡ t → fits (if any_below (λ k. nat_eq (param_local method k) l && test k) (param_count method) then anything else never) (says method 0) (a.slot (Local l)) ≡ true
        by_truth true e = subst (λ c. fits (if c then anything else never) (says method 0) (a.slot (Local l)) ≡ true) (sym (may_true l (begin.parameters (Local l) e))) (subst (λ t. fits anything (says method 0) t ≡ true) (sym e) refl)
        by_truth false e = subst (λ t. fits (if any_below (λ k. nat_eq (param_local method k) l && test k) (param_count method) then anything else never) (says method 0) t ≡ true) (sym e) (either (any_below (λ k. nat_eq (param_local method k) l && test k) (param_count method)) (says method 0))
    all (InStack k) = constant_fits false (says method 0) (a.slot (OnStack k)) (is_false (a.slot (OnStack k)) (λ t. absurd (cc ((begin.parameters (OnStack k) t).is_slot))))
    all Dirt = constant_fits false (says method 0) a.dirt begin.dirt
    all Exc = constant_fits false (says method 0) a.exc begin.exc

    entry_context : CoversContext p f items entry.method.0 a
    entry_context =
        let r = some_word method (opened_clauses method test) (says method 0) (opened_quiet p f whole given items entry method begin.is_entry.listed begin.is_entry.found test (says method 0)) a all in
        record {
          method = method;
          found = begin.is_entry.found;
          has_code = entry_code p whole entry method begin.is_entry.listed begin.is_entry.found;
          w = r.0;
          small = (word_fits method (opened_clauses method test) (says method 0) r.0 r.1).0;
          same = r.2;
          listed = in_opens entry method (Context entry.method.0 r.0) begin.is_entry.listed begin.is_entry.found
              (Contains-append_right (if is_member method.flags then starts.constructs (constructor_of p entry.class.0) else []) (starts.contexts entry.method.0 (next_words method (opened_clauses method test) (says method 0))) (Context entry.method.0 r.0)
              (in_contexts entry.method.0 (next_words method (opened_clauses method test) (says method 0)) r.0 r.1));
        }

  -- ---- calls

  module _ (m i n under : ℕ) (call : CallOp) (a b c : Assignment) (at : CoversAt p f items m i a b) (calls : Calls p (told p f) m i n call under b c) where
    same_op : (at.instr.op ≡ Call call) × (at.instr.height ≡ calls.at.height)
    same_op = op_same p f whole given items closed m i at.method at.found at.instr at.at at.reached at.entry at.word at.small at.listed calls.at.at

    abbrev base : ℕ
    base = at.instr.height - arguments call

    same_base : base ≡ under
    same_base = let h = same_op.1 in let u = calls.at.under_is in omega (arith, h, u)

    goes_to : GoesTo p f.graph m i n
    goes_to = go calls.goes
      where
        go : (told p f).classes (CallsMethod m i n) → GoesTo p f.graph m i n
        go (inl none) = absurd none
        go (inr it) = it

    has_code : HasCode calls.method
    has_code = subst HasCode (same_Some goes_to.method calls.method (sym goes_to.found ∙ calls.found)) goes_to.code

    hands : HandsOver calls.method call base (says at.method at.word) c
    hands = subst (λ u. HandsOver calls.method call u (says at.method at.word) c) (sym same_base) (subst (λ x. HandsOver calls.method call under x c) (sym at.same) calls.hands)

    callee_context : CoversContext p f items n c
    callee_context = call_covers p f whole given items closed m i at.method at.found at.instr at.at at.reached at.entry at.word at.small at.listed call same_op.0 n goes_to.listed calls.method calls.found has_code c hands

    word_in : (method : Method) (w : ℕ) → slice_get p.methods n ≡ Some method → w < 2 ^ slot_count method → says method w ≡ c
        → Contains (next_words calls.method (handed_clauses calls.method (arguments call) base (says at.method at.word)) (says at.method at.word)) w
    word_in method w found small same =
        let e : method ≡ calls.method = same_Some method calls.method (sym found ∙ calls.found) in
        given_word p f whole given items closed m i at.method at.found at.instr at.at at.reached at.entry at.word at.small at.listed call same_op.0 n goes_to.listed calls.method calls.found has_code w
        (subst (λ (x : Method). w < 2 ^ slot_count x) e small)
        (subst (λ x. HandsOver calls.method call base (says at.method at.word) x) (sym (subst (λ (x : Method). says x w ≡ c) e same)) hands)

    resumed : (j : ℕ) (after : Assignment) (sum : Summary) → CoversNormal p f items n c sum → Leads p m i j → IsReturn (told p f) m i n (arguments call) under (has_result call.result) b sum after → CoversAt p f items m j a after
    resumed j after sum normal leads end =
        subst (λ x. CoversAt p f items m j x after) at.same_entry
        (return_covers p f whole given items closed m i at.method at.found at.instr at.at at.reached at.entry at.word at.small at.listed call same_op.0 n goes_to.listed calls.method calls.found has_code j normal.w after normal.result normal.dirt leads
        (word_in normal.method normal.w normal.found normal.small normal.same) normal.listed
        (subst (λ u. IsReturn (told p f) m i n (arguments call) u (has_result call.result) (says at.method at.word) (record { result = normal.result; dirt = normal.dirt; exc = false }) after) (sym same_base)
        (subst (λ q. IsReturn (told p f) m i n (arguments call) under (has_result call.result) (says at.method at.word) q after) (sym normal.same_summary)
        (subst (λ x. IsReturn (told p f) m i n (arguments call) under (has_result call.result) x sum after) (sym at.same) end))))

    thrown_by : (thrown : Assignment) (sum : Summary) → CoversThrew p f items n c sum → IsCallThrown (told p f) m i n (arguments call) under b sum thrown
        → (v : ℕ) × ((place : Place) (x : Item) → Contains (places_of p f m i at.method) place → Contains (lands_at (record { method = at.method; m = m; a = at.entry; b = at.word }) v place) x → Contains items x) × (says at.method v ≡ thrown)
    thrown_by thrown sum threw end =
        callee_word p f whole given items closed m i at.method at.found at.instr at.at at.reached at.entry at.word at.small at.listed call same_op.0 n goes_to.listed calls.method calls.found has_code threw.w thrown threw.dirt threw.exc
        (word_in threw.method threw.w threw.found threw.small threw.same) threw.listed
        (subst (λ u. IsCallThrown (told p f) m i n (arguments call) u (says at.method at.word) (record { result = false; dirt = threw.dirt; exc = threw.exc }) thrown) (sym same_base)
        (subst (λ q. IsCallThrown (told p f) m i n (arguments call) under (says at.method at.word) q thrown) (sym threw.same_summary)
        (subst (λ x. IsCallThrown (told p f) m i n (arguments call) under x sum thrown) (sym at.same) end)))

  -- ---- each rule

  closing : IsSolution (Rule p (told p f)) (Covers p f items)
  closing ps fact (initializer_called {m = m} {a = a} init nothing) each = initializer_context m a init nothing
  closing ps fact (constructor_called {m = m} {a = a} entry objects is nothing) each = constructor_context entry m a objects is nothing
  closing ps fact (entry_called {a = a} entry cells begin) each = entry_context entry a cells begin each
  closing ps fact (called {m = m} {i = i} {n = n} {under = under} {call = call} {c = c} {b = b} {a = a} calls) each = callee_context m i n under call c b a each.0 calls
  closing ps fact (initialized {m = m} {i = i} {n = n} {c = c} {b = b} {a = a} init nothing) each =
      let at : CoversAt p f items m i c b = each.0 in
      initialized_covers p f whole given items closed m i at.method at.found at.instr at.at at.reached at.entry at.word at.small at.listed n a init nothing
  closing ps fact (begins {m = m} {a = a}) each = first m a each.0
    where
      first : (m : ℕ) (a : Assignment) → CoversContext p f items m a → CoversAt p f items m 0 a a
      first m a it =
          let start = (starts_there p whole m it.method it.found it.has_code).first in
          record {
            method = it.method;
            found = it.found;
            instr = start.instr;
            at = start.found;
            reached = start.reached;
            entry = it.w;
            small = it.small;
            same_entry = it.same;
            word = it.w;
            same = it.same;
            listed = closed.each (Context m it.w) it.listed (At m 0 it.w it.w) (here (At m 0 it.w it.w) []);
          }
  closing ps fact (steps {m = m} {i = i} {j = j} {a = a} {b = b} {after = after} o leads end none) each =
      let at : CoversAt p f items m i a b = each.0 in
      subst (λ x. CoversAt p f items m j x after) at.same_entry
      (steps_covers p f whole given items closed m i at.method at.found at.instr at.at at.reached at.entry at.word at.small at.listed after o leads (subst (λ x. IsNormalEnd p (told p f) m i x after) (sym at.same) end) none)
  closing ps fact (reads_stored_field {m = m} {i = i} {j = j} {a = a} {b = b} {after = after} {cell = cell} o leads end reads yea answers) each =
      let at : CoversAt p f items m i a b = each.0 in
      subst (λ x. CoversAt p f items m j x after) at.same_entry
      (reads_covers p f whole given items closed m i at.method at.found at.instr at.at at.reached at.entry at.word at.small at.listed cell after o leads (subst (λ x. IsNormalEnd p (told p f) m i x after) (sym at.same) end) reads answers each.1.0)
  closing ps fact (call_resumes {m = m} {i = i} {j = j} {n = n} {under = under} {call = call} {a = a} {b = b} {c = c} {after = after} {s = s} calls leads end) each =
      resumed m i n under call a b c each.0 calls j after s each.1.0 leads end
  closing ps fact (initializer_resumes {m = m} {i = i} {n = n} {height = height} {a = a} {b = b} {c = c} {after = after} {s = s} o init nothing end) each =
      let at : CoversAt p f items m i a b = each.0 in
      subst (λ x. CoversAt p f items m i x after) at.same_entry
      (initializer_covers p f whole given items closed m i at.method at.found at.instr at.at at.reached at.entry at.word at.small at.listed n c after s o init nothing each.1.0 (subst (λ x. IsReturn (told p f) m i n 0 height false x s after) (sym at.same) end))
  closing ps fact (caught {m = m} {i = i} {j = j} {t = t} {a = a} {b = b} {thrown = thrown} {after = after} it d end is) each =
      let at : CoversAt p f items m i a b = each.0 in
      let w = thrown_word p f whole given items closed m i at.method at.found at.instr at.at at.reached at.entry at.word at.small at.listed thrown (subst (λ x. IsExceptionalEnd p (told p f) m i x thrown) (sym at.same) end) in
      subst (λ x. CoversAt p f items m j x after) at.same_entry
      (lands_inside p f whole given items closed m i at.method at.found at.instr at.at at.reached at.entry at.word at.small at.listed w.0 t j thrown after w.1 w.2 it d is)
  closing ps fact (callee_caught {m = m} {i = i} {j = j} {n = n} {t = t} {under = under} {call = call} {a = a} {b = b} {c = c} {thrown = thrown} {after = after} {s = s} calls it d end is) each =
      let at : CoversAt p f items m i a b = each.0 in
      let w = thrown_by m i n under call a b c at calls thrown s each.1.0 end in
      subst (λ x. CoversAt p f items m j x after) at.same_entry
      (lands_inside p f whole given items closed m i at.method at.found at.instr at.at at.reached at.entry at.word at.small at.listed w.0 t j thrown after w.1 w.2 it d is)
  closing ps fact (leaves {m = m} {i = i} {t = t} {a = a} {b = b} {thrown = thrown} it d end) each =
      let at : CoversAt p f items m i a b = each.0 in
      let w = thrown_word p f whole given items closed m i at.method at.found at.instr at.at at.reached at.entry at.word at.small at.listed thrown (subst (λ x. IsExceptionalEnd p (told p f) m i x thrown) (sym at.same) end) in
      subst (λ x. CoversThrew p f items m x (thrown_summary thrown)) at.same_entry
      (lands_outside p f whole given items closed m i at.method at.found at.instr at.at at.reached at.entry at.word at.small at.listed w.0 t thrown w.1 w.2 it d)
  closing ps fact (callee_leaves {m = m} {i = i} {n = n} {t = t} {under = under} {call = call} {a = a} {b = b} {c = c} {thrown = thrown} {s = s} calls it d end) each =
      let at : CoversAt p f items m i a b = each.0 in
      let w = thrown_by m i n under call a b c at calls thrown s each.1.0 end in
      subst (λ x. CoversThrew p f items m x (thrown_summary thrown)) at.same_entry
      (lands_outside p f whole given items closed m i at.method at.found at.instr at.at at.reached at.entry at.word at.small at.listed w.0 t thrown w.1 w.2 it d)
  closing ps fact (method_returns {m = m} {i = i} {k = k} {a = a} {b = b} o) each =
      let at : CoversAt p f items m i a b = each.0 in
      subst (λ x. CoversNormal p f items m x (return_summary (b.slot (OnStack k)) b)) at.same_entry
      (subst (λ (y : Assignment). CoversNormal p f items m (says at.method at.entry) (return_summary (y.slot (OnStack k)) y)) at.same
      (returns_covers p f whole given items closed m i at.method at.found at.instr at.at at.reached at.entry at.word at.small at.listed o))
  closing ps fact (method_ends {m = m} {i = i} {a = a} {b = b} o) each =
      let at : CoversAt p f items m i a b = each.0 in
      subst (λ x. CoversNormal p f items m x (return_summary false b)) at.same_entry
      (subst (λ (y : Assignment). CoversNormal p f items m (says at.method at.entry) (return_summary false y)) at.same
      (ends_covers p f whole given items closed m i at.method at.found at.instr at.at at.reached at.entry at.word at.small at.listed o))
  closing ps fact (stored {m = m} {i = i} {v = v} {a = a} {b = b} o w t) each =
      let at : CoversAt p f items m i a b = each.0 in
      stored_covers p f whole given items closed m i at.method at.found at.instr at.at at.reached at.entry at.word at.small at.listed o w (subst (λ (y : Assignment). y.slot v ≡ true) (sym at.same) t)
  closing ps fact (taken {m = m} {i = i} {t = t} {under = under} {call = call} {a = a} {b = b} at' takes put) each =
      let at : CoversAt p f items m i a b = each.0 in
      taken_covers p f whole given items closed m i at.method at.found at.instr at.at at.reached at.entry at.word at.small at.listed t at' takes (subst (λ (y : Assignment). put_in y call under ≡ true) (sym at.same) put)

  pub covers_all : (fact : Fact) → Taints p f fact → Covers p f items fact
  covers_all fact h = Least-below (Rule p (told p f)) (Covers p f items) closing fact h
