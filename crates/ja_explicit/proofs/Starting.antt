-- Whatever the environment may call by facts of the least solution is one of them.
use Rattle.std.proofs.Common.{◌≡◌, ◌⊎◌, inl, inr, ℕ, zero, suc, ◌+◌, ◌<◌, ◌≤◌, Bool, true, false, List, [], ◌∷◌, ◌++◌, Some, None, refl, sym, ap, subst, ◌∙◌, arith, length}
use Rattle.std.specs.Prelude.{◌&&◌, ◌||◌, ◌==◌, nat_lt, nat_eq, Contains, Option, slice_get, slice_index_or, if◌then◌else◌}
use Rattle.std.specs.List.{list_any}
use Rattle.std.proofs.lemmas.Bool.{and_parts, or_cases, or_left, or_right, false≢true, eqb-true, eq-eqb, cases_Bool, ltb-false}
use Rattle.std.proofs.lemmas.Option.{same_Some}
use Rattle.std.proofs.lemmas.List.Elements.{All-contains}
use Rattle.ja_base.specs.declared.java_type.Kind.{Kind}
use Rattle.ja_base.specs.declared.java_type.Kind.TheVariants.{P1, P2, R, T}
use Rattle.ja_base.specs.declared.id.MethodId.{MethodId}
use Rattle.ja_ir.specs.declared.program.Parts.{Parts}
use Rattle.ja_ir.specs.declared.method.Method.{Method}
use Rattle.ja_ir.specs.declared.entry.Entry.{Entry}
use Rattle.ja_ir.specs.Lookup.{HasCode, is_member}
use Rattle.ja_ir.specs.Params.{param_local, param_count, param_types, kind_among, IsReferenceParam}
use Rattle.ja_ir.specs.Entries.{constructor_of}
use Rattle.ja_ir.specs.Initializing.{inits_of_class}
use Rattle.ja_ir.specs.Whole.{IsWhole, IsWholeEntry}
use Rattle.ja_facts.specs.declared.facts.Facts.{Facts}
use Rattle.ja_facts.specs.Least.{Each, IsSolution}
use Rattle.ja_facts.specs.ClassTables.{token_count, param_set}
use Rattle.ja_facts.specs.FactTables.{cell_count}
use Rattle.ja_facts.specs.Slots.{Slot, Local, OnStack}
use Rattle.ja_facts.specs.Held.{Cell}
use Rattle.ja_facts.specs.Actions.{IsInitializer, IsConstructor, IsEntry, HasObjects}
use Rattle.ja_facts.specs.Formulas.{Assignment, any_below}
use Rattle.ja_facts.specs.Equations as equations
use Rattle.ja_facts.specs.Equations.{Fact, Rule, MayBeTrue, MayBegin, HoldsStored, stored_facts, initializer_called, constructor_called, entry_called}
use Rattle.ja_facts.proofs.LeastLaws.{Least-is_solution}
use Rattle.ja_facts.proofs.Reasons.{Chosen, choose, all-chosen, each-inside}
use Rattle.ja_work.specs.declared.clause.Spot.{Spot}
use Rattle.ja_work.specs.declared.clause.Spot.TheVariants.{Local as InLocal, OnStack as InStack, Dirt, Exc}
use Rattle.ja_work.specs.Clauses.{never, anything, constant, fits, AllFit}
use Rattle.ja_work.specs.Told.{told}
use Rattle.ja_work.proofs.Fitting.{fits_constant, any_some}
use Rattle.ja_order.proofs.Locals.{local-below}
use Rattle.ja_explicit.specs.Given.{AreGiven, Taints}
use Rattle.ja_explicit.specs.declared.item.Item.{Item}
use Rattle.ja_explicit.specs.declared.item.Item.TheVariants.{Context, At, Normal, Threw, Stored}
use Rattle.ja_explicit.specs.InnerWords.{says, next_words, opened_clauses}
use Rattle.ja_explicit.specs.InnerSteps.{stores}
use Rattle.ja_explicit.specs.InnerStarts as starts
use Rattle.ja_explicit.specs.InnerRounds.{IsTold, says_of, cell_of, meant, IsSound}
use Rattle.ja_explicit.proofs.Worded.{word_all, IsQuiet, is_inside}
use Rattle.ja_explicit.proofs.Quiet.{is_false, never_quiet}
use Rattle.ja_explicit.proofs.Lists.{AllOf, all_none, all_cons, all_one, all_both, all_if, all_contexts, cons_cases, here, there, nothing_in}
use Rattle.ja_explicit.proofs.Same.{has_item}
use Rattle.ja_explicit.proofs.Wholeness.{starts_there}
use Rattle.ja_explicit.proofs.Handed.{says_nothing, cell_known}
use Rattle.ja_explicit.proofs.Sound.{says_found}

pub marked_listed : (js : List ℕ) (k : ℕ) → list_any (λ j. j == k) js ≡ true → Contains js k
marked_listed [] k e = absurd (false≢true e)
marked_listed (j ∷ js) k e = elim (or_cases (j == k) (list_any (λ x. x == k) js) e) [
  | inl is ↦ subst (λ x. Contains (j ∷ js) x) (eqb-true j k is) (here j js)
  | inr rest ↦ there j js k (marked_listed js k rest)
]

pub listed_marked : (js : List ℕ) (k : ℕ) → Contains js k → list_any (λ j. j == k) js ≡ true
listed_marked [] k h = nothing_in k h
listed_marked (j ∷ js) k h = elim (cons_cases j js k h) [
  | inl is ↦ or_left (j == k) (list_any (λ x. x == k) js) (eq-eqb j k is)
  | inr rest ↦ or_right (j == k) (list_any (λ x. x == k) js) (listed_marked js k rest)
]

is_a_reference : (k : Kind) → starts.is_reference k ≡ true → k ≡ R
is_a_reference P1 e = absurd (false≢true e)
is_a_reference P2 e = absurd (false≢true e)
is_a_reference R e = refl
is_a_reference T e = absurd (false≢true e)

-- the cells into which facts say that something was stored
abbrev stored_cells : Parts → List Item → List Cell
stored_cells p [] = []
stored_cells p (Stored c ∷ items) = cell_of p c ∷ stored_cells p items
stored_cells p (Context m a ∷ items) = stored_cells p items
stored_cells p (At m i a b ∷ items) = stored_cells p items
stored_cells p (Normal m a r d ∷ items) = stored_cells p items
stored_cells p (Threw m a d e ∷ items) = stored_cells p items

more_cells : (p : Parts) (x : Item) (items : List Item) (c : Cell) → Contains (stored_cells p items) c → Contains (stored_cells p (x ∷ items)) c
more_cells p (Stored d) items c h = there (cell_of p d) (stored_cells p items) c h
more_cells p (Context m a) items c h = h
more_cells p (At m i a b) items c h = h
more_cells p (Normal m a r d) items c h = h
more_cells p (Threw m a d e) items c h = h

cell_listed : (p : Parts) (items : List Item) (c : ℕ) → Contains items (Stored c) → Contains (stored_cells p items) (cell_of p c)
cell_listed p [] c h = nothing_in (Stored c) h
cell_listed p (x ∷ items) c h = elim (cons_cases x items (Stored c) h) [
  | inl is ↦ subst (λ y. Contains (stored_cells p (y ∷ items)) (cell_of p c)) (sym is) (here (cell_of p c) (stored_cells p items))
  | inr rest ↦ more_cells p x items (cell_of p c) (cell_listed p items c rest)
]

cells_each : (p : Parts) (S : Fact → Type 0) (items : List Item) → ((c : ℕ) → Contains items (Stored c) → S (equations.Stored (cell_of p c))) → Each S (stored_facts (stored_cells p items))
cells_each p S [] h = tt
cells_each p S (Stored c ∷ items) h = (h c (here (Stored c) items), cells_each p S items (λ d inside. h d (there (Stored c) items (Stored d) inside)))
cells_each p S (Context m a ∷ items) h = cells_each p S items (λ d inside. h d (there (Context m a) items (Stored d) inside))
cells_each p S (At m i a b ∷ items) h = cells_each p S items (λ d inside. h d (there (At m i a b) items (Stored d) inside))
cells_each p S (Normal m a r q ∷ items) h = cells_each p S items (λ d inside. h d (there (Normal m a r q) items (Stored d) inside))
cells_each p S (Threw m a q e ∷ items) h = cells_each p S items (λ d inside. h d (there (Threw m a q e) items (Stored d) inside))

-- the method of an entry has code
pub entry_code : (p : Parts) → IsWhole p → (entry : Entry) (method : Method) → Contains p.entries entry → slice_get p.methods entry.method.0 ≡ Some method → HasCode method
entry_code p whole entry method listed found =
    let it : IsWholeEntry p entry = All-contains (IsWholeEntry p) p.entries entry whole.entries listed in
    subst HasCode (same_Some it.method method (sym it.found ∙ found)) it.code

module _ (p : Parts) (f : Facts) (whole : IsWhole p) (given : AreGiven p f) (items : List Item) where
  -- where a parameter is opened outside the frame
  pub opened_quiet : (entry : Entry) (method : Method) → Contains p.entries entry → slice_get p.methods entry.method.0 ≡ Some method → (test : ℕ → Bool) (b : Assignment) → IsQuiet method (opened_clauses method test) b
  opened_quiet entry method listed found test b = never_quiet method (opened_clauses method test) b outside
    where
      outside : (x : Spot) → is_inside method x ≡ false → opened_clauses method test x ≡ never
      outside (InLocal l) e = ap (λ c. if c then anything else never) (is_false (any_below (λ k. nat_eq (param_local method k) l && test k) (param_count method)) (λ t.
          let r = any_some (λ k. nat_eq (param_local method k) l && test k) (param_count method) t in
          let parts = and_parts (nat_eq (param_local method r.0) l) (test r.0) r.2 in
          let low = local-below (is_member method.flags) (param_types method) r.0 r.1 in
          let room = (starts_there p whole entry.method.0 method found (entry_code p whole entry method listed found)).room in
          let high = ltb-false l method.locals e in
          let same = eqb-true (param_local method r.0) l parts.0 in
          absurd (omega (arith, low, room, high, same))))
      outside (InStack k) e = refl
      outside Dirt e = refl
      outside Exc e = refl

  module _ (sound : IsSound p f items) where
    solves : IsSolution (Rule p (told p f)) (Taints p f)
    solves = Least-is_solution (Rule p (told p f))

    module _ (entry : Entry) (listed : Contains p.entries entry) where
      initializers_told : (inits : List MethodId) → ((n : MethodId) → Contains inits n → Contains (inits_of_class (slice_get p.classes entry.class.0)) n) → AllOf (IsTold p f) (starts.initializers inits)
      initializers_told [] h = all_none (IsTold p f)
      initializers_told (n ∷ inits) h =
          all_cons (IsTold p f) (Context n.0 0) (starts.initializers inits)
          (solves [] (equations.Context n.0 (says_of p n.0 0)) (initializer_called (record { entry = entry; listed = listed; initializes = h n (here n inits) }) (says_nothing p n.0)) tt)
          (initializers_told inits (λ k inside. h k (there n inits k inside)))

      module _ (method : Method) (found : slice_get p.methods entry.method.0 ≡ Some method) where
        constructs_told : is_member method.flags ≡ true → (o : Option ℕ) → constructor_of p entry.class.0 ≡ o → AllOf (IsTold p f) (starts.constructs o)
        constructs_told member None e = all_none (IsTold p f)
        constructs_told member (Some m) e =
            all_one (IsTold p f) (Context m 0)
            (solves [] (equations.Context m (says_of p m 0)) (constructor_called entry (record { method = method; is_entry = record { listed = listed; found = found }; member = member }) e (says_nothing p m)) tt)

        abbrev test : ℕ → Bool
        test = starts.may_be_true p f items entry method

        abbrev cells : List Cell
        cells = stored_cells p items

        why_true : (k : ℕ) → test k ≡ true → Contains entry.marked k ⊎ HoldsStored (told p f) entry.method.0 method k cells
        why_true k t = elim (or_cases (starts.is_marked entry k) (starts.is_reference (kind_among (is_member method.flags) (param_types method) k) && starts.param_stores p f items entry.method.0 k) t) [
          | inl m ↦ inl (marked_listed entry.marked k m)
          | inr h ↦ inr (by_parts (and_parts (starts.is_reference (kind_among (is_member method.flags) (param_types method) k)) (starts.param_stores p f items entry.method.0 k) h))
        ]
          where
            by_parts : (starts.is_reference (kind_among (is_member method.flags) (param_types method) k) ≡ true) × (starts.param_stores p f items entry.method.0 k ≡ true) → HoldsStored (told p f) entry.method.0 method k cells
            by_parts h =
                let t = any_some (λ t. slice_index_or (param_set f.sets entry.method.0 k) t false && starts.token_stores p f items t) (token_count p) h.1 in
                let ts = and_parts (slice_index_or (param_set f.sets entry.method.0 k) t.0 false) (starts.token_stores p f items t.0) t.2 in
                let c = any_some (λ c. slice_index_or (slice_index_or f.holds.tokens t.0 []) c false && stores items c) (cell_count p) ts.1 in
                let cs = and_parts (slice_index_or (slice_index_or f.holds.tokens t.0 []) c.0 false) (stores items c.0) c.2 in
                let known = cell_known p c.0 c.1 in
                record {
                  cell = cell_of p c.0;
                  listed = cell_listed p items c.0 (has_item items (Stored c.0) cs.1);
                  reaches = record {
                    reference = is_a_reference (kind_among (is_member method.flags) (param_types method) k) h.0;
                    token = t.0;
                    inside = inl ts.0;
                    holds = (known.0, subst (λ n. slice_index_or (slice_index_or f.holds.tokens t.0 []) n false ≡ true) (sym known.1) cs.0);
                  };
                }

        opened_told : (w : ℕ) → Contains (next_words method (opened_clauses method test) (says method 0)) w → IsTold p f (Context entry.method.0 w)
        opened_told w wn =
            subst (λ x. Taints p f (equations.Context entry.method.0 x)) (sym (says_found p f whole given entry.method.0 method found w))
            (solves (stored_facts it.chosen) (equations.Context entry.method.0 (says method w)) (entry_called entry it.chosen begin)
            (each-inside (Taints p f) cells it.chosen it.inside (cells_each p (Taints p f) items (λ c inside. sound (Stored c) inside))))
          where
            all : AllFit (opened_clauses method test) (says method 0) (says method w)
            all = word_all method (opened_clauses method test) (says method 0) (opened_quiet entry method listed found test (says method 0)) w wn

            may : (z : Slot) → (says method w).slot z ≡ true → MayBeTrue (told p f) entry method cells z
            may (OnStack k) t = absurd (false≢true (sym (fits_constant false (says method 0) ((says method w).slot (OnStack k)) (all (InStack k))) ∙ t))
            may (Local l) t = by_test (any_below (λ k. nat_eq (param_local method k) l && test k) (param_count method)) refl (all (InLocal l))
              where
                by_test : (c : Bool) → any_below (λ k. nat_eq (param_local method k) l && test k) (param_count method) ≡ c → fits (if c then anything else never) (says method 0) ((says method w).slot (Local l)) ≡ true → MayBeTrue (told p f) entry method cells (Local l)
                by_test false e h = absurd (false≢true (sym (fits_constant false (says method 0) ((says method w).slot (Local l)) h) ∙ t))
                by_test true e h =
                    let r = any_some (λ k. nat_eq (param_local method k) l && test k) (param_count method) e in
                    let parts = and_parts (nat_eq (param_local method r.0) l) (test r.0) r.2 in
                    record { k = r.0; below = r.1; is_slot = ap Local (sym (eqb-true (param_local method r.0) l parts.0)); why = why_true r.0 parts.1 }

            it : Chosen (told p f) entry method (says method w) cells (param_count method)
            it = choose (told p f) entry method (says method w) cells may (param_count method)

            begin : MayBegin p (told p f) entry (says method w) it.chosen
            begin = record {
              method = method;
              is_entry = record { listed = listed; found = found };
              parameters = all-chosen (told p f) entry method (says method w) cells may it;
              reasons = it.reasons;
              once = it.once;
              dirt = fits_constant false (says method 0) (says method w).dirt (all Dirt);
              exc = fits_constant false (says method 0) (says method w).exc (all Exc);
            }

      entry_told : AllOf (IsTold p f) (starts.enters p f items entry)
      entry_told =
          all_both (IsTold p f) (starts.initializers (inits_of_class (slice_get p.classes entry.class.0))) (starts.opens p f items entry (slice_get p.methods entry.method.0))
          (initializers_told (inits_of_class (slice_get p.classes entry.class.0)) (λ n inside. inside)) (by_method (slice_get p.methods entry.method.0) refl)
        where
          by_method : (o : Option Method) → slice_get p.methods entry.method.0 ≡ o → AllOf (IsTold p f) (starts.opens p f items entry o)
          by_method None e = all_none (IsTold p f)
          by_method (Some method) e =
              all_both (IsTold p f) (if is_member method.flags then starts.constructs (constructor_of p entry.class.0) else []) (starts.contexts entry.method.0 (next_words method (opened_clauses method (test method e)) (says method 0)))
              (all_if (IsTold p f) (is_member method.flags) (starts.constructs (constructor_of p entry.class.0)) (λ member. constructs_told method e member (constructor_of p entry.class.0) refl))
              (all_contexts (IsTold p f) entry.method.0 (next_words method (opened_clauses method (test method e)) (says method 0)) (opened_told method e))

    entries_told : (entries : List Entry) → ((e : Entry) → Contains entries e → Contains p.entries e) → AllOf (IsTold p f) (starts.enters_each p f items entries)
    entries_told [] h = all_none (IsTold p f)
    entries_told (e ∷ entries) h =
        all_both (IsTold p f) (starts.enters p f items e) (starts.enters_each p f items entries) (entry_told e (h e (here e entries))) (entries_told entries (λ x inside. h x (there e entries x inside)))

    pub starts_told : AllOf (IsTold p f) (starts.enters_each p f items p.entries)
    starts_told = entries_told p.entries (λ e inside. inside)
