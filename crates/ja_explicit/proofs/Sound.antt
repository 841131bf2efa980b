-- Whatever follows of facts of the least solution is one of them.
use Rattle.std.proofs.Common.{◌≡◌, ◌⊎◌, inl, inr, ℕ, zero, suc, ◌+◌, ◌-◌, ◌<◌, ◌≤◌, Bool, true, false, List, [], ◌∷◌, ◌++◌, Some, None, refl, sym, ap, subst, ◌∙◌, arith, length}
use Rattle.std.specs.Prelude.{◌&&◌, ◌||◌, ◌==◌, not, nat_eq, Contains, Option, slice_get, slice_index_or, if◌then◌else◌}
use Rattle.std.proofs.lemmas.Bool.{and_parts, or_cases, false≢true, eqb-true, cases_Bool, not-true, ltb-false}
use Rattle.std.proofs.lemmas.Option.{same_Some}
use Rattle.ja_base.specs.declared.java_type.Kind.{Kind}
use Rattle.ja_base.specs.declared.java_type.Kind.TheVariants.{P1, P2, R, T}
use Rattle.ja_base.specs.declared.id.MethodId.{MethodId}
use Rattle.ja_ir.specs.declared.program.Parts.{Parts}
use Rattle.ja_ir.specs.declared.method.Method.{Method}
use Rattle.ja_ir.specs.declared.method.Instr.{Instr}
use Rattle.ja_ir.specs.declared.op.CallOp.{CallOp}
use Rattle.ja_ir.specs.declared.op.Op.{Op}
use Rattle.ja_ir.specs.declared.op.Op.TheVariants.{ArrStore, Return, GetStatic, PutStatic, GetField, PutField, Call}
use Rattle.ja_ir.specs.Lookup.{OpAt, Leads, instr_at, code_of, HasCode, is_member}
use Rattle.ja_ir.specs.Operations.{arguments, pops, result_count, height_after, FindsOperands}
use Rattle.ja_ir.specs.Whole.{IsWhole, NamesOperands}
use Rattle.ja_ir.specs.Handlers.{Place, Inside, Outside, dest, dest_among, handlers_of}
use Rattle.ja_ir.specs.Tokens.{rarr_token, parr_token}
use Rattle.ja_ir.specs.Initializing.{inits_of, InitAt}
use Rattle.ja_facts.specs.declared.facts.Facts.{Facts}
use Rattle.ja_facts.specs.Least.{Least, IsSolution, Each}
use Rattle.ja_facts.specs.ClassTables.{token_count, thrown_set}
use Rattle.ja_facts.specs.FactTables.{targets_at, takers_at, cell_count}
use Rattle.ja_facts.specs.ClassSets.{InThrown, CallsMethod, Takes}
use Rattle.ja_facts.specs.Crossings.{has_result}
use Rattle.ja_facts.specs.Slots.{Slot, Local, OnStack, CallAt, argument}
use Rattle.ja_facts.specs.Held.{Cell, OfField, OfBag, FieldHolds}
use Rattle.ja_facts.specs.Formulas.{Assignment, Summary, IsReturn, IsCallThrown, IsNormalEnd, IsExceptionalEnd, put_in, any_below}
use Rattle.ja_facts.specs.Equations as equations
use Rattle.ja_facts.specs.Equations.{Fact, Rule, stores_field, stores_static, stores_reference, stores_word, stores_pair, HandsOver, itself, held, Calls, Answers, Reads, reads_field, reads_static, IsCaught, thrown_summary, return_summary, Stores, steps, reads_stored_field, call_resumes, initializer_resumes, caught, callee_caught, leaves, callee_leaves, method_returns, method_ends, stored, taken, called, initialized, begins}
use Rattle.ja_facts.proofs.LeastLaws.{Least-is_solution}
use Rattle.ja_work.specs.declared.way.Way.{Way}
use Rattle.ja_work.specs.declared.way.Way.TheVariants.{Clean, Thrown, InLibrary}
use Rattle.ja_work.specs.declared.clause.Spot.{Spot}
use Rattle.ja_work.specs.declared.clause.Spot.TheVariants.{Local as InLocal, OnStack as InStack, Dirt, Exc}
use Rattle.ja_work.specs.Clauses.{never, constant}
use Rattle.ja_order.proofs.Locals.{local-below}
use Rattle.ja_ir.specs.Params.{param_local, param_count, param_types}
use Rattle.ja_base.specs.declared.java_type.JavaType.{JavaType}
use Rattle.ja_work.specs.Ends.{Tests, may_go_on, may_end, normal_clauses, exceptional_clauses, return_clauses, throw_clauses, caught_clauses}
use Rattle.ja_work.specs.Told.{told, tests_of, affected_of, is_empty}
use Rattle.ja_work.proofs.Telling.{tests_told, affected_told}
use Rattle.ja_work.proofs.WholeEnds.{fit_normal, fit_exceptional}
use Rattle.ja_work.proofs.OtherEnds.{fit_return, fit_throw, fit_caught}
use Rattle.ja_work.proofs.NormalEnds as ends
use Rattle.ja_work.proofs.Fitting.{any_some}
use Rattle.ja_explicit.specs.Given.{AreGiven, Taints}
use Rattle.ja_explicit.specs.declared.item.Item.{Item}
use Rattle.ja_explicit.specs.declared.item.Item.TheVariants.{Context, At, Normal, Threw, Stored}
use Rattle.ja_explicit.specs.InnerWords.{says, next_words, handed_clauses}
use Rattle.ja_explicit.specs.InnerSteps as code
use Rattle.ja_explicit.specs.InnerSteps.{Standing, Passage, has, stores, read_field, read_slot, is_readable, init_passage, call_passage}
use Rattle.ja_explicit.specs.InnerRounds.{IsTold, says_in, says_of, cell_of, meant, IsSound}
use Rattle.ja_explicit.proofs.Worded.{the_one, from_over, word_all, IsQuiet, is_inside}
use Rattle.ja_explicit.proofs.Quiet.{is_false, idle_quiet, never_quiet, normal_idle, exceptional_idle, return_idle, throw_idle, caught_idle}
use Rattle.ja_explicit.proofs.Lists.{AllOf, all_none, all_cons, all_one, all_both, all_if, all_over, all_at_all, all_lands_all, all_ends, from_if, from_passing, nothing_in, cons_cases, here, there as there_in}
use Rattle.ja_explicit.proofs.Same.{has_item}
use Rattle.ja_explicit.proofs.Wholeness.{starts_there, runs_there, names_there, next_there, handler_there}
use Rattle.ja_explicit.proofs.Handing.{hands_quiet}
use Rattle.ja_explicit.proofs.Handed.{says_nothing, fit_hands, dest_handler, field_cell, bag_cell, cell_known}

-- what an operation reads of a field, and where that is then
pub reads_known : {op : Op} {height g : ℕ} {r : Slot} → Reads op height g r → (read_field op ≡ Some g) × (r ≡ read_slot op height)
reads_known (reads_field {k = k} e) = (refl, ap OnStack (omega (arith, e)))
reads_known reads_static = (refl, refl)

pub known_reads : (op : Op) (height g : ℕ) → pops op ≤ height → read_field op ≡ Some g → Reads op height g (read_slot op height)
known_reads (GetField x) height g le e = subst (λ n. Reads (GetField x) height n (OnStack (height - 1))) (same_Some x.0 g e) (reads_field (omega (arith, le)))
known_reads (GetStatic x) height g le e = subst (λ n. Reads (GetStatic x) height n (OnStack height)) (same_Some x.0 g e) reads_static
known_reads _ height g le e = absurd (cc e)

module _ (p : Parts) (f : Facts) (whole : IsWhole p) (given : AreGiven p f) where
  abbrev Told : Item → Type 0
  Told x = IsTold p f x

  solves : IsSolution (Rule p (told p f)) (Taints p f)
  solves = Least-is_solution (Rule p (told p f))

  -- a word of a method that was found
  pub says_found : (m : ℕ) (method : Method) → slice_get p.methods m ≡ Some method → (w : ℕ) → says_of p m w ≡ says method w
  says_found m method found w = ap (λ o. says_in o w) found

  module _ (items : List Item) (sound : IsSound p f items) where
    -- what a field answers was stored
    pub answer_told : (g : ℕ) → g < length p.fields → code.answers p f items g ≡ true → (c : Cell) × Answers (told p f) g c × Taints p f (equations.Stored c)
    answer_told g low e = elim (or_cases (stores items g) (any_below test (cell_count p)) e) [
      | inl is ↦ (OfField g, itself, subst (λ c. Taints p f (equations.Stored c)) (field_cell p g low) (sound (Stored g) (has_item items (Stored g) is)))
      | inr some ↦ by_cell (any_some test (cell_count p) some)
    ]
      where
        test : ℕ → Bool
        test c = slice_index_or (slice_index_or f.holds.fields g []) c false && stores items c

        by_cell : (c : ℕ) × (c < cell_count p) × (test c ≡ true) → (c : Cell) × Answers (told p f) g c × Taints p f (equations.Stored c)
        by_cell r =
            let parts = and_parts (slice_index_or (slice_index_or f.holds.fields g []) r.0 false) (stores items r.0) r.2 in
            let known = cell_known p r.0 r.1 in
            (cell_of p r.0, held (known.0, subst (λ n. slice_index_or (slice_index_or f.holds.fields g []) n false ≡ true) (sym known.1) parts.0), sound (Stored r.0) (has_item items (Stored r.0) parts.1))

    -- where an instruction is come to
    module _ (m i a b : ℕ) (method : Method) (found : slice_get p.methods m ≡ Some method) (instr : Instr) (at : slice_get method.code i ≡ Some instr) (reached : instr.reached ≡ true)
        (fact : Taints p f (equations.At m i (says_of p m a) (says_of p m b))) where
      abbrev s : Standing
      s = record { method = method; m = m; a = a; b = b }

      abbrev before : Assignment
      before = says method b

      abbrev entry : Assignment
      entry = says_of p m a

      abbrev tests : Tests
      tests = tests_of p f m i

      at_m : instr_at p m i ≡ Some instr
      at_m = ap (λ o. slice_get (code_of o) i) found ∙ at

      op_at : OpAt p m i instr.op instr.height
      op_at = record { instr = instr; found = at_m; is_op = refl; is_height = refl }

      now : Taints p f (equations.At m i entry before)
      now = subst (λ x. Taints p f (equations.At m i entry x)) (says_found m method found b) fact

      to_told : (j w : ℕ) → Taints p f (equations.At m j entry (says method w)) → Told (At m j a w)
      to_told j w h = subst (λ x. Taints p f (equations.At m j entry x)) (sym (says_found m method found w)) h

      finds : FindsOperands instr.op instr.height
      finds = (runs_there p whole m method found i instr at reached).operands

      takes_le : pops instr.op ≤ instr.height
      takes_le = ends.takes instr.op instr.height finds

      leads : (j : ℕ) → Contains instr.next j → Leads p m i j
      leads j h = record { instr = instr; found = at_m; listed = h }

      after_room : (j : ℕ) → Contains instr.next j → height_after instr.op instr.height ≤ method.stack
      after_room j h =
          let it = next_there p whole m method found i instr at reached j h in
          let r = runs_there p whole m method found j it.instr it.found it.reached in
          omega (arith, r.height, it.is_height)

      -- ---- the normal end

      names_field : (op : Op) (g : ℕ) → read_field op ≡ Some g → NamesOperands p op → g < length p.fields
      names_field (GetField x) g e lt = subst (λ n. n < length p.fields) (same_Some x.0 g e) lt
      names_field (GetStatic x) g e lt = subst (λ n. n < length p.fields) (same_Some x.0 g e) lt
      names_field _ g e lt = absurd (cc e)

      goes_told : AllOf Told (code.goes_on p f items s tests instr.op instr.height instr.next)
      goes_told = all_at_all m a Told instr.next (code.passing (is_readable (read_field instr.op) p f items method (read_slot instr.op instr.height)) (code.normal_words s tests instr.op instr.height)) step
        where
          step : (j w : ℕ) → Contains instr.next j → Contains (code.passing (is_readable (read_field instr.op) p f items method (read_slot instr.op instr.height)) (code.normal_words s tests instr.op instr.height)) w → Told (At m j a w)
          step j w jn wn = to_told j w (by_read (read_field instr.op) refl read.1)
            where
              read : Contains (code.normal_words s tests instr.op instr.height) w × (is_readable (read_field instr.op) p f items method (read_slot instr.op instr.height) w ≡ true)
              read = from_passing (is_readable (read_field instr.op) p f items method (read_slot instr.op instr.height)) (code.normal_words s tests instr.op instr.height) w wn

              inside : (may_go_on tests instr.op ≡ true) × Contains (next_words method (normal_clauses tests instr.op instr.height) before) w
              inside = from_if (may_go_on tests instr.op) (next_words method (normal_clauses tests instr.op instr.height) before) w read.0

              quiet : IsQuiet method (normal_clauses tests instr.op instr.height) before
              quiet =
                  let r = runs_there p whole m method found i instr at reached in
                  idle_quiet method (normal_clauses tests instr.op instr.height) b (normal_idle p f m i method found instr.op instr.height r.locals r.height (after_room j jn))

              end : IsNormalEnd p (told p f) m i before (says method w)
              end = fit_normal p (told p f) m i instr tests before (says method w) at_m finds (tests_told p f m i) (reached, inside.0, word_all method (normal_clauses tests instr.op instr.height) before quiet w inside.1)

              clean : ((g : ℕ) (r : Slot) → Reads instr.op instr.height g r → (says method w).slot r ≡ false) → Taints p f (equations.At m j entry (says method w))
              clean none = solves (equations.At m i entry before ∷ []) (equations.At m j entry (says method w)) (steps op_at (leads j jn) end none) (now, tt)

              by_read : (o : Option ℕ) → read_field instr.op ≡ o → is_readable o p f items method (read_slot instr.op instr.height) w ≡ true → Taints p f (equations.At m j entry (says method w))
              by_read None e h = clean (λ g r reads. absurd (cc (e, (reads_known reads).0)))
              by_read (Some g) e h = elim (cases_Bool ((says method w).slot (read_slot instr.op instr.height))) [
                | inr nay ↦ clean (λ g' r reads. ap (says method w).slot (reads_known reads).1 ∙ nay)
                | inl yea ↦ (elim (or_cases (not ((says method w).slot (read_slot instr.op instr.height))) (code.answers p f items g) h) [
                  | inl n ↦ absurd (false≢true (sym (not-true ((says method w).slot (read_slot instr.op instr.height)) n) ∙ yea))
                  | inr is ↦ by_answer yea (answer_told g (names_field instr.op g e (names_there p whole m method found i instr at).operands) is)
                ])
              ]
                where
                  by_answer : (says method w).slot (read_slot instr.op instr.height) ≡ true → (c : Cell) × Answers (told p f) g c × Taints p f (equations.Stored c) → Taints p f (equations.At m j entry (says method w))
                  by_answer yea r =
                      solves (equations.At m i entry before ∷ equations.Stored r.0 ∷ []) (equations.At m j entry (says method w))
                      (reads_stored_field op_at (leads j jn) end (known_reads instr.op instr.height g takes_le e) yea r.1) (now, (r.2, tt))

      -- ---- exceptions

      handler_room : (t j : ℕ) → Contains (dest_among p i t method.handlers) (Inside j) → 0 < method.stack
      handler_room t j d =
          let h = dest_handler p i t method.handlers j d in
          let it = handler_there p whole m method found i instr at reached h.0 h.1 h.2 in
          let r = runs_there p whole m method found h.0.target it.instr it.found it.reached in
          omega (arith, r.height, it.is_height)

      in_dest : (t : ℕ) (place : Place) → Contains (dest_among p i t method.handlers) place → Contains (dest p m i t) place
      in_dest t place h = subst (λ o. Contains (dest_among p i t (handlers_of o)) place) (sym found) h

      abbrev Lands : ℕ → Type 0
      Lands w = (t j : ℕ) (after : Assignment) → (told p f).classes (InThrown m i t) → Contains (dest p m i t) (Inside j) → IsCaught (says method w) after → Taints p f (equations.At m j entry after)

      abbrev Leaves : ℕ → Type 0
      Leaves w = (t : ℕ) → (told p f).classes (InThrown m i t) → Contains (dest p m i t) Outside → Taints p f (equations.Threw m entry (thrown_summary (says method w)))

      lands_told : (w : ℕ) → Lands w → Leaves w → (place : Place) → Contains (code.places_of p f m i method) place → AllOf Told (code.lands_at s w place)
      lands_told w lands leaves' place pn = by_token (from_over (code.places_of_token p (thrown_set f.sets m i) method i) 0 (token_count p) place pn)
        where
          by_token : (t : ℕ) × (0 ≤ t) × (t < 0 + token_count p) × Contains (code.places_of_token p (thrown_set f.sets m i) method i t) place → AllOf Told (code.lands_at s w place)
          by_token r = by_place place (from_if (slice_index_or (thrown_set f.sets m i) r.0 false) (dest_among p i r.0 method.handlers) place r.3)
            where
              by_place : (q : Place) → (slice_index_or (thrown_set f.sets m i) r.0 false ≡ true) × Contains (dest_among p i r.0 method.handlers) q → AllOf Told (code.lands_at s w q)
              by_place (Inside j) g = all_at_all m a Told (j ∷ []) (next_words method caught_clauses (says method w)) (λ k v kn vn.
                  subst (λ n. Told (At m n a v)) (the_one j k kn)
                  (to_told j v (lands r.0 j (says method v) (inl g.0) (in_dest r.0 (Inside j) g.1)
                  (fit_caught (says method w) (says method v) (word_all method caught_clauses (says method w) (idle_quiet method caught_clauses w (caught_idle method (handler_room r.0 j g.1))) v vn)))))
              by_place Outside g = all_one Told (Threw m a (says method w).dirt (says method w).exc) (leaves' r.0 (inl g.0) (in_dest r.0 Outside g.1))

      throws_told : AllOf Told (code.throws s (code.places_of p f m i method) tests instr.op instr.height)
      throws_told =
          all_both Told (code.lands_all s (code.places_of p f m i method) (code.words_by Clean s tests instr.op instr.height))
          (code.lands_all s (code.places_of p f m i method) (code.words_by Thrown s tests instr.op instr.height) ++ code.lands_all s (code.places_of p f m i method) (code.words_by InLibrary s tests instr.op instr.height))
          (by_way Clean)
          (all_both Told (code.lands_all s (code.places_of p f m i method) (code.words_by Thrown s tests instr.op instr.height)) (code.lands_all s (code.places_of p f m i method) (code.words_by InLibrary s tests instr.op instr.height))
          (by_way Thrown) (by_way InLibrary))
        where
          by_way : (way : Way) → AllOf Told (code.lands_all s (code.places_of p f m i method) (code.words_by way s tests instr.op instr.height))
          by_way way = all_lands_all s Told (code.places_of p f m i method) (code.words_by way s tests instr.op instr.height) (λ place w pn wn.
              let inside = from_if (may_end tests instr.op way) (next_words method (exceptional_clauses way tests instr.op instr.height) before) w wn in
              let all = word_all method (exceptional_clauses way tests instr.op instr.height) before (idle_quiet method (exceptional_clauses way tests instr.op instr.height) b (exceptional_idle p f m i method found way instr.op instr.height)) w inside.1 in
              let end : IsExceptionalEnd p (told p f) m i before (says method w) = fit_exceptional p (told p f) m i instr tests before (says method w) at_m finds (tests_told p f m i) (reached, (way, inside.0, all)) in
              lands_told w
              (λ t j after thrown d is. solves (equations.At m i entry before ∷ []) (equations.At m j entry after) (caught thrown d end is) (now, tt))
              (λ t thrown d. solves (equations.At m i entry before ∷ []) (equations.Threw m entry (thrown_summary (says method w))) (leaves thrown d end) (now, tt))
              place pn)

      -- ---- ways through methods

      through_told : (way : Passage) → Told (Context way.n way.c)
          → ((r d : Bool) → Contains items (Normal way.n way.c r d) → AllOf Told (code.returns_with s way (record { result = r; dirt = d; exc = false })))
          → ((d e : Bool) → Contains items (Threw way.n way.c d e) → AllOf Told (code.throws_with s way (record { result = false; dirt = d; exc = e })))
          → AllOf Told (code.goes_through items s way)
      through_told way context returns' throws' = all_cons Told (Context way.n way.c) (code.ends_with_each s way items) context (all_ends s way Told items by_item)
        where
          by_item : (y : Item) → Contains items y → AllOf Told (code.ends_with s way y)
          by_item (Normal n c r d) yn = all_if Told ((n == way.n) && (c == way.c)) (code.returns_with s way (record { result = r; dirt = d; exc = false })) (λ e.
              let parts = and_parts (n == way.n) (c == way.c) e in
              returns' r d (subst (λ k. Contains items (Normal k way.c r d)) (eqb-true n way.n parts.0) (subst (λ k. Contains items (Normal n k r d)) (eqb-true c way.c parts.1) yn)))
          by_item (Threw n c d x) yn = all_if Told ((n == way.n) && (c == way.c)) (code.throws_with s way (record { result = false; dirt = d; exc = x })) (λ e.
              let parts = and_parts (n == way.n) (c == way.c) e in
              throws' d x (subst (λ k. Contains items (Threw k way.c d x)) (eqb-true n way.n parts.0) (subst (λ k. Contains items (Threw n k d x)) (eqb-true c way.c parts.1) yn)))
          by_item (Context n c) yn = all_none Told
          by_item (At n j c d) yn = all_none Told
          by_item (Stored c) yn = all_none Told

      init_told : (n : ℕ) → InitAt p m i n → AllOf Told (code.goes_through items s (init_passage p f m i instr.height n))
      init_told n init = through_told (init_passage p f m i instr.height n)
          (solves (equations.At m i entry before ∷ []) (equations.Context n (says_of p n 0)) (initialized init (says_nothing p n)) (now, tt))
          (λ r d yn. all_at_all m a Told (i ∷ []) (next_words method (return_clauses (affected_of p f m i n 0 instr.height) instr.height false (record { result = r; dirt = d; exc = false })) before) (λ k v kn vn.
          let summary : Summary = record { result = r; dirt = d; exc = false } in
          let all = word_all method (return_clauses (affected_of p f m i n 0 instr.height) instr.height false summary) before
          (idle_quiet method (return_clauses (affected_of p f m i n 0 instr.height) instr.height false summary) b (return_idle p f m i method found n 0 instr.height false summary (λ e. absurd (false≢true e)))) v vn in
          subst (λ j. Told (At m j a v)) (the_one i k kn)
          (to_told i v (solves (equations.At m i entry before ∷ equations.Normal n (says_of p n 0) summary ∷ []) (equations.At m i entry (says method v))
          (initializer_resumes op_at init (says_nothing p n) (fit_return (told p f) m i n 0 instr.height (affected_of p f m i n 0 instr.height) (affected_told p f m i n 0 instr.height) before false summary (says method v) all))
          (now, (sound (Normal n 0 r d) yn, tt))))))
          (λ d e yn. all_lands_all s Told [] (next_words method (throw_clauses (affected_of p f m i n 0 instr.height) (record { result = false; dirt = d; exc = e })) before) (λ place w pn wn. nothing_in place pn))

      inits_told : (inits : List MethodId) → ((n : MethodId) → Contains inits n → InitAt p m i n.0) → AllOf Told (code.initializes p f items s i instr.height inits)
      inits_told [] h = all_none Told
      inits_told (n ∷ inits) h =
          all_both Told (code.goes_through items s (init_passage p f m i instr.height n.0)) (code.initializes p f items s i instr.height inits)
          (init_told n.0 (h n (here n inits))) (inits_told inits (λ k inside. h k (there_in n inits k inside)))

      -- ---- calls

      module _ (call : CallOp) (is : instr.op ≡ Call call) (n : ℕ) (listed : Contains (targets_at f.graph m i).methods n) (callee : Method) (there : slice_get p.methods n ≡ Some callee) (has_code : HasCode callee) where
        abbrev under : ℕ
        under = instr.height - arguments call

        called_at : OpAt p m i (Call call) instr.height
        called_at = record { instr = instr; found = at_m; is_op = is; is_height = refl }

        enough : arguments call ≤ instr.height
        enough = subst (λ (o : Op). pops o ≤ instr.height) is takes_le

        call_at : CallAt p m i call under
        call_at = record { height = instr.height; at = called_at; under_is = let e = enough in omega (arith, e) }

        counted : param_count callee ≡ arguments call
        counted =
            let target = given.graph.each m i n instr.height call called_at listed in
            ap param_count (same_Some callee target.method (sym there ∙ target.found)) ∙ target.is_count

        calls_of : (c : ℕ) → Contains (next_words callee (handed_clauses callee (arguments call) under before) before) c → Calls p (told p f) m i n call under before (says_of p n c)
        calls_of c cn = record {
          at = call_at;
          goes = inr (record { listed = listed; method = callee; found = there; code = has_code });
          method = callee;
          found = there;
          hands = subst (λ x. HandsOver callee call under before x) (sym (says_found n callee there c))
              (fit_hands callee call under before (says callee c) counted (word_all callee (handed_clauses callee (arguments call) under before) before (hands_quiet p whole n callee there has_code call counted under before) c cn));
        }

        answer_room : (j : ℕ) → Contains instr.next j → has_result call.result ≡ true → under < method.stack
        answer_room j h e = by_result call.result refl e (subst (λ (o : Op). height_after o instr.height ≤ method.stack) is (after_room j h))
          where
            by_result : (o : Option JavaType) → call.result ≡ o → has_result call.result ≡ true → height_after (Call call) instr.height ≤ method.stack → under < method.stack
            by_result None none e le = absurd (false≢true (sym (ap has_result none) ∙ e))
            by_result (Some type) some e le = let one : result_count call.result ≡ 1 = ap result_count some in omega (arith, one, le)

        call_told : (c : ℕ) → Contains (next_words callee (handed_clauses callee (arguments call) under before) before) c → AllOf Told (code.goes_through items s (call_passage p f m i instr.next (code.places_of p f m i method) call under n c))
        call_told c cn = through_told (call_passage p f m i instr.next (code.places_of p f m i method) call under n c)
            (solves (equations.At m i entry before ∷ []) (equations.Context n (says_of p n c)) (called (calls_of c cn)) (now, tt))
            (λ r d yn. all_at_all m a Told instr.next (next_words method (return_clauses (affected_of p f m i n (arguments call) under) under (has_result call.result) (record { result = r; dirt = d; exc = false })) before) (λ j v jn vn.
            let summary : Summary = record { result = r; dirt = d; exc = false } in
            let clauses = return_clauses (affected_of p f m i n (arguments call) under) under (has_result call.result) summary in
            let all = word_all method clauses before (idle_quiet method clauses b (return_idle p f m i method found n (arguments call) under (has_result call.result) summary (answer_room j jn))) v vn in
            to_told j v (solves (equations.At m i entry before ∷ equations.Normal n (says_of p n c) summary ∷ []) (equations.At m j entry (says method v))
            (call_resumes (calls_of c cn) (leads j jn) (fit_return (told p f) m i n (arguments call) under (affected_of p f m i n (arguments call) under) (affected_told p f m i n (arguments call) under) before (has_result call.result) summary (says method v) all))
            (now, (sound (Normal n c r d) yn, tt)))))
            (λ d x yn. all_lands_all s Told (code.places_of p f m i method) (next_words method (throw_clauses (affected_of p f m i n (arguments call) under) (record { result = false; dirt = d; exc = x })) before) (λ place w pn wn.
            let summary : Summary = record { result = false; dirt = d; exc = x } in
            let clauses = throw_clauses (affected_of p f m i n (arguments call) under) summary in
            let all = word_all method clauses before (idle_quiet method clauses b (throw_idle p f m i method found n (arguments call) under summary)) w wn in
            let end = fit_throw (told p f) m i n (arguments call) under (affected_of p f m i n (arguments call) under) (affected_told p f m i n (arguments call) under) before summary (says method w) all in
            lands_told w
            (λ t j after thrown to is'. solves (equations.At m i entry before ∷ equations.Threw n (says_of p n c) summary ∷ []) (equations.At m j entry after) (callee_caught (calls_of c cn) thrown to end is') (now, (sound (Threw n c d x) yn, tt)))
            (λ t thrown to. solves (equations.At m i entry before ∷ equations.Threw n (says_of p n c) summary ∷ []) (equations.Threw m entry (thrown_summary (says method w))) (callee_leaves (calls_of c cn) thrown to end) (now, (sound (Threw n c d x) yn, tt)))
            place pn))

        call_each : (cs : List ℕ) → ((c : ℕ) → Contains cs c → Contains (next_words callee (handed_clauses callee (arguments call) under before) before) c)
            → AllOf Told (code.calls_with p f items s i instr.next (code.places_of p f m i method) call under n cs)
        call_each [] h = all_none Told
        call_each (c ∷ cs) h =
            all_both Told (code.goes_through items s (call_passage p f m i instr.next (code.places_of p f m i method) call under n c)) (code.calls_with p f items s i instr.next (code.places_of p f m i method) call under n cs)
            (call_told c (h c (here c cs))) (call_each cs (λ x inside. h x (there_in c cs x inside)))

      module _ (call : CallOp) (is : instr.op ≡ Call call) where
        target_told : (n : ℕ) → Contains (targets_at f.graph m i).methods n → (o : Option Method) → slice_get p.methods n ≡ o
            → AllOf Told (code.calls_method p f items s i instr.next (code.places_of p f m i method) call (instr.height - arguments call) n o)
        target_told n listed None e = all_none Told
        target_told n listed (Some callee) e = by_code (is_empty callee.code) refl
          where
            has_code : (xs : List Instr) → is_empty xs ≡ false → 0 < length xs
            has_code [] h = absurd (false≢true (sym h))
            has_code (x ∷ xs) h = omega arith

            by_code : (none : Bool) → is_empty callee.code ≡ none
                → AllOf Told (if none then [] else code.calls_with p f items s i instr.next (code.places_of p f m i method) call (instr.height - arguments call) n (next_words callee (handed_clauses callee (arguments call) (instr.height - arguments call) before) before))
            by_code true h = all_none Told
            by_code false h = call_each call is n listed callee e (has_code callee.code h) (next_words callee (handed_clauses callee (arguments call) (instr.height - arguments call) before) before) (λ c inside. inside)

        targets_told : (ns : List ℕ) → ((n : ℕ) → Contains ns n → Contains (targets_at f.graph m i).methods n)
            → AllOf Told (code.calls_each p f items s i instr.next (code.places_of p f m i method) call (instr.height - arguments call) ns)
        targets_told [] h = all_none Told
        targets_told (n ∷ ns) h =
            all_both Told (code.calls_method p f items s i instr.next (code.places_of p f m i method) call (instr.height - arguments call) n (slice_get p.methods n)) (code.calls_each p f items s i instr.next (code.places_of p f m i method) call (instr.height - arguments call) ns)
            (target_told n (h n (here n ns)) (slice_get p.methods n) refl) (targets_told ns (λ x inside. h x (there_in n ns x inside)))

      calls_told : AllOf Told (code.calls p f items s i instr.next (code.places_of p f m i method) instr.op instr.height)
      calls_told = go instr.op refl
        where
          go : (op : Op) → instr.op ≡ op → AllOf Told (code.calls p f items s i instr.next (code.places_of p f m i method) op instr.height)
          go (Call call) is = targets_told call is (targets_at f.graph m i).methods (λ n inside. inside)
          go _ is = all_none Told

      -- ---- returns, writes and library calls

      op_is : (op : Op) → instr.op ≡ op → OpAt p m i op instr.height
      op_is op is = record { instr = instr; found = at_m; is_op = is; is_height = refl }

      returns_told : AllOf Told (code.returns s instr.op instr.height)
      returns_told = go instr.op refl takes_le
        where
          go : (op : Op) → instr.op ≡ op → pops op ≤ instr.height → AllOf Told (code.returns s op instr.height)
          go (Return (Some kind)) is le =
              let e : suc (instr.height - 1) ≡ instr.height = omega (arith, le) in
              all_one Told (Normal m a (before.slot (OnStack (instr.height - 1))) before.dirt)
              (solves (equations.At m i entry before ∷ []) (equations.Normal m entry (return_summary (before.slot (OnStack (instr.height - 1))) before))
              (method_returns (subst (λ h. OpAt p m i (Return (Some kind)) h) (sym e) (op_is (Return (Some kind)) is))) (now, tt))
          go (Return None) is le =
              all_one Told (Normal m a false before.dirt)
              (solves (equations.At m i entry before ∷ []) (equations.Normal m entry (return_summary false before)) (method_ends (op_is (Return None) is)) (now, tt))
          go _ is le = all_none Told

      cell_stored : (op : Op) (n : ℕ) → instr.op ≡ op → pops op ≤ instr.height → NamesOperands p op → code.stored_cell p op ≡ Some n → before.slot (OnStack (instr.height - 1)) ≡ true → Told (Stored n)
      cell_stored op n is le names e t = by_op op is le names e
        where
          put : (o : Op) (c : Cell) → instr.op ≡ o → Stores p o instr.height c (OnStack (instr.height - 1)) → Taints p f (equations.Stored c)
          put o c same w = solves (equations.At m i entry before ∷ []) (equations.Stored c) (stored (op_is o same) w t) (now, tt)

          to_field : (g : ℕ) → g < length p.fields → Some g ≡ Some n → Taints p f (equations.Stored (OfField g)) → Told (Stored n)
          to_field g lt same h = subst (λ k. Taints p f (equations.Stored (cell_of p k))) (same_Some g n same) (subst (λ c. Taints p f (equations.Stored c)) (sym (field_cell p g lt)) h)

          to_bag : (u : ℕ) → Some (length p.fields + u) ≡ Some n → Taints p f (equations.Stored (OfBag u)) → Told (Stored n)
          to_bag u same h = subst (λ k. Taints p f (equations.Stored (cell_of p k))) (same_Some (length p.fields + u) n same) (subst (λ c. Taints p f (equations.Stored c)) (sym (bag_cell p u)) h)

          by_op : (o : Op) → instr.op ≡ o → pops o ≤ instr.height → NamesOperands p o → code.stored_cell p o ≡ Some n → Told (Stored n)
          by_op (PutField g) same low there' here' =
              let k : ℕ = instr.height - 2 in
              let two : instr.height ≡ suc (suc k) = omega (arith, low) in
              let top : suc k ≡ instr.height - 1 = omega (arith, low) in
              to_field g.0 there' here' (put (PutField g) (OfField g.0) same (subst (λ z. Stores p (PutField g) instr.height (OfField g.0) (OnStack z)) top (stores_field two)))
          by_op (PutStatic g) same low there' here' =
              let one : instr.height ≡ suc (instr.height - 1) = omega (arith, low) in
              to_field g.0 there' here' (put (PutStatic g) (OfField g.0) same (stores_static one))
          by_op (ArrStore R) same low there' here' =
              let k : ℕ = instr.height - 3 in
              let three : instr.height ≡ suc (suc (suc k)) = omega (arith, low) in
              let top : suc (suc k) ≡ instr.height - 1 = omega (arith, low) in
              to_bag (rarr_token p) here' (put (ArrStore R) (OfBag (rarr_token p)) same (subst (λ z. Stores p (ArrStore R) instr.height (OfBag (rarr_token p)) (OnStack z)) top (stores_reference three)))
          by_op (ArrStore P1) same low there' here' =
              let k : ℕ = instr.height - 3 in
              let three : instr.height ≡ suc (suc (suc k)) = omega (arith, low) in
              let top : suc (suc k) ≡ instr.height - 1 = omega (arith, low) in
              to_bag (parr_token p) here' (put (ArrStore P1) (OfBag (parr_token p)) same (subst (λ z. Stores p (ArrStore P1) instr.height (OfBag (parr_token p)) (OnStack z)) top (stores_word three)))
          by_op (ArrStore P2) same low there' here' =
              let k : ℕ = instr.height - 3 in
              let three : instr.height ≡ suc (suc (suc k)) = omega (arith, low) in
              let top : suc (suc k) ≡ instr.height - 1 = omega (arith, low) in
              to_bag (parr_token p) here' (put (ArrStore P2) (OfBag (parr_token p)) same (subst (λ z. Stores p (ArrStore P2) instr.height (OfBag (parr_token p)) (OnStack z)) top (stores_pair three)))
          by_op (ArrStore T) same low there' here' = absurd (cc here')
          by_op _ same low there' here' = absurd (cc here')

      writes_told : AllOf Told (code.writes p s instr.op instr.height)
      writes_told = by_cell (code.stored_cell p instr.op) refl
        where
          by_cell : (o : Option ℕ) → code.stored_cell p instr.op ≡ o → AllOf Told (code.stored_if o (before.slot (OnStack (instr.height - 1))))
          by_cell None e = all_none Told
          by_cell (Some n) e = all_if Told (before.slot (OnStack (instr.height - 1))) (Stored n ∷ []) (λ t.
              all_one Told (Stored n) (cell_stored instr.op n refl takes_le (names_there p whole m method found i instr at).operands e t))

      takes_told : AllOf Told (code.takes p f s i instr.op instr.height)
      takes_told = go instr.op refl takes_le
        where
          go : (op : Op) → instr.op ≡ op → pops op ≤ instr.height → AllOf Told (code.takes p f s i op instr.height)
          go (Call call) is le = all_if Told (put_in before call (instr.height - arguments call)) (code.takes_all p (takers_at f.graph m i)) (λ t.
              all_over Told (code.takes_by p (takers_at f.graph m i)) 0 (token_count p) (λ k lt.
              all_if Told (slice_index_or (takers_at f.graph m i) k false) (Stored (code.bag p k) ∷ []) (λ taker.
              all_one Told (Stored (code.bag p k)) (subst (λ c. Taints p f (equations.Stored c)) (sym (bag_cell p k))
              (solves (equations.At m i entry before ∷ []) (equations.Stored (OfBag k))
              (taken (record { height = instr.height; at = op_is (Call call) is; under_is = omega (arith, le) }) (inr taker) t) (now, tt))))))
          go _ is le = all_none Told

      runs_told : AllOf Told (code.runs p f items s i instr)
      runs_told =
          all_both Told _ _ goes_told
          (all_both Told _ _ throws_told
          (all_both Told _ _ (inits_told (inits_of p instr.op) (λ n inside. record { instr = instr; found = at_m; listed = inside }))
          (all_both Told _ _ calls_told
          (all_both Told _ _ returns_told (all_both Told _ _ writes_told takes_told)))))

    pub follows_told : (x : Item) → Contains items x → AllOf Told (code.follows p f items x)
    follows_told (Context m a) h = all_one Told (At m 0 a a) (solves (equations.Context m (says_of p m a) ∷ []) (equations.At m 0 (says_of p m a) (says_of p m a)) begins (sound (Context m a) h, tt))
    follows_told (At m i a b) h = by_method (slice_get p.methods m) refl
      where
        by_method : (o : Option Method) → slice_get p.methods m ≡ o → AllOf Told (code.runs_in p f items m i a b o)
        by_method None e = all_none Told
        by_method (Some method) e = by_instr (slice_get method.code i) refl
          where
            by_instr : (o : Option Instr) → slice_get method.code i ≡ o → AllOf Told (code.runs_reached p f items (record { method = method; m = m; a = a; b = b }) i o)
            by_instr None d = all_none Told
            by_instr (Some instr) d = all_if Told instr.reached (code.runs p f items (record { method = method; m = m; a = a; b = b }) i instr) (λ reached. runs_told m i a b method e instr d reached (sound (At m i a b) h))
    follows_told (Normal m a r d) h = all_none Told
    follows_told (Threw m a d e) h = all_none Told
    follows_told (Stored c) h = all_none Told
