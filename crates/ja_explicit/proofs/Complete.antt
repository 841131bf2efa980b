-- Where whatever follows is listed, each fact of the least solution is.
use Rattle.std.proofs.Common.{◌≡◌, ◌⊎◌, inl, inr, ℕ, zero, suc, ◌+◌, ◌-◌, ◌*◌, ◌/◌, ◌%◌, ◌^◌, ◌<◌, ◌≤◌, Bool, true, false, List, [], ◌∷◌, ◌++◌, Some, None, refl, sym, ap, subst, ◌∙◌, arith, length, pow_pos}
use Rattle.std.specs.Prelude.{All, ◌&&◌, ◌||◌, ◌==◌, not, nat_eq, Contains, Option, slice_get, slice_index_or, if◌then◌else◌}
use Rattle.std.specs.Int.{bit_at}
use Rattle.std.proofs.lemmas.Nat.Bits.{bit_at_lowest, bit_at-suc}
use Rattle.std.proofs.lemmas.Bool.{and_parts, and_from, or_cases, or_left, or_right, false≢true, eqb-true, eq-eqb, cases_Bool, ltb-false}
use Rattle.std.proofs.lemmas.Option.{same_Some, slice_get_within}
use Rattle.std.proofs.lemmas.List.Elements.{Contains-append_left, Contains-append_right, All-contains}
use Rattle.ja_base.specs.declared.java_type.Kind.{Kind}
use Rattle.ja_base.specs.declared.java_type.Kind.TheVariants.{P1, P2, R, T}
use Rattle.ja_base.specs.declared.java_type.JavaType.{JavaType}
use Rattle.ja_base.specs.declared.id.MethodId.{MethodId}
use Rattle.ja_ir.specs.declared.program.Parts.{Parts}
use Rattle.ja_ir.specs.declared.class.ClassInfo.{ClassInfo}
use Rattle.ja_ir.specs.declared.class.Field.{Field}
use Rattle.ja_ir.specs.declared.class.MethodAt.{MethodAt}
use Rattle.ja_ir.specs.declared.class.MethodAt.TheVariants.{Program}
use Rattle.ja_ir.specs.declared.method.Method.{Method}
use Rattle.ja_ir.specs.declared.method.Instr.{Instr}
use Rattle.ja_ir.specs.declared.op.CallOp.{CallOp}
use Rattle.ja_ir.specs.declared.op.CallKind.{CallKind}
use Rattle.ja_ir.specs.declared.op.CallKind.TheVariants.{Static}
use Rattle.ja_ir.specs.declared.op.Op.{Op}
use Rattle.ja_ir.specs.declared.op.Op.TheVariants.{New, ArrStore, Return, GetStatic, PutStatic, GetField, PutField, Call}
use Rattle.ja_ir.specs.Lookup.{OpAt, Leads, instr_at, code_of, HasCode, is_member}
use Rattle.ja_ir.specs.Operations.{arguments, pops, result_count, height_after, FindsOperands}
use Rattle.ja_ir.specs.Params.{param_local, param_count, param_types}
use Rattle.ja_ir.specs.Whole.{IsWhole, IsReachedAt, NamesInitializer}
use Rattle.ja_ir.specs.Tokens.{lib_token, rarr_token, parr_token, absorbs, absorbs_as}
use Rattle.ja_ir.specs.Handlers.{Place, Inside, Outside, dest, dest_among, handlers_of}
use Rattle.ja_ir.specs.Initializing.{inits_of, inits_of_class, inits_of_field, inits_of_method, inits_of_call, InitAt}
use Rattle.ja_facts.specs.declared.facts.Facts.{Facts}
use Rattle.ja_facts.specs.ClassTables.{token_count, thrown_set}
use Rattle.ja_facts.specs.FactTables.{slot_count, targets_at, takers_at, cell_count}
use Rattle.ja_facts.specs.ClassSets.{InThrown, CallsMethod, Takes}
use Rattle.ja_facts.specs.Crossings.{has_result}
use Rattle.ja_facts.specs.Slots.{Slot, Local, OnStack, CallAt, argument}
use Rattle.ja_facts.specs.Held.{Cell, OfField, OfBag}
use Rattle.ja_facts.specs.Told.{cell_number}
use Rattle.ja_facts.specs.Formulas.{Assignment, Summary, IsNormalEnd, IsReturn, IsCallThrown, IsExceptionalEnd, put_in, any_below}
use Rattle.ja_facts.specs.Equations as equations
use Rattle.ja_facts.specs.Equations.{Fact, Calls, Answers, itself, held, Reads, HandsOver, IsNothing, IsCaught, thrown_summary, return_summary, Stores, stores_field, stores_static, stores_reference, stores_word, stores_pair}
use Rattle.ja_work.specs.declared.way.Way.{Way}
use Rattle.ja_work.specs.declared.way.Way.TheVariants.{Clean, Thrown, InLibrary}
use Rattle.ja_work.specs.declared.clause.Spot.{Spot}
use Rattle.ja_work.specs.declared.clause.Spot.TheVariants.{Local as InLocal, OnStack as InStack, Dirt, Exc}
use Rattle.ja_work.specs.declared.clause.Clause.{Clause}
use Rattle.ja_work.specs.Clauses.{AllFit, value}
use Rattle.ja_work.specs.Ends.{Tests, may_go_on, may_end, normal_clauses, exceptional_clauses, return_clauses, throw_clauses, caught_clauses}
use Rattle.ja_work.specs.Told.{told, tests_of, affected_of, is_empty}
use Rattle.ja_work.proofs.Telling.{tests_told, affected_told}
use Rattle.ja_work.proofs.WholeEnds.{normal_fit, exceptional_fit}
use Rattle.ja_work.proofs.OtherEnds.{return_fit, throw_fit, caught_fit}
use Rattle.ja_work.proofs.NormalEnds as ends
use Rattle.ja_work.proofs.Fitting.{any_some, some_any}
use Rattle.ja_explicit.specs.Given.{AreGiven}
use Rattle.ja_explicit.specs.declared.item.Item.{Item}
use Rattle.ja_explicit.specs.declared.item.Item.TheVariants.{Context, At, Normal, Threw, Stored}
use Rattle.ja_explicit.specs.InnerWords.{bit, says, spot_at, next_words, handed_clauses}
use Rattle.ja_explicit.specs.InnerSteps as code
use Rattle.ja_explicit.specs.InnerSteps.{Standing, Passage, stores, read_field, read_slot, is_readable, init_passage, call_passage}
use Rattle.ja_explicit.specs.InnerRounds.{says_in, IsClosed}
use Rattle.ja_explicit.proofs.Worded.{in_over, word_fits, all_word, some_word, IsQuiet, value_numbered}
use Rattle.ja_explicit.proofs.Quiet.{idle_quiet, normal_idle, exceptional_idle, return_idle, throw_idle, caught_idle}
use Rattle.ja_explicit.proofs.Lists.{here, there, cons_cases, nothing_in, in_if, in_passing, in_at_all, in_lands_all, in_ends}
use Rattle.ja_explicit.proofs.Same.{item_has}
use Rattle.ja_explicit.proofs.Wholeness.{runs_there, names_there, next_there, handler_there, starts_there, all_at}
use Rattle.ja_explicit.proofs.Handed.{says_nothing, same_nothing, hands_fit, dest_handler, cell_low}
use Rattle.ja_explicit.proofs.Sound.{reads_known, known_reads}
use Rattle.ja_explicit.proofs.Handing.{hands_quiet}

-- ---- the word without bits

zero_bit : (w : ℕ) → bit w 0 ≡ false → w % 2 ≡ 0
zero_bit w e = go (w % 2) (omega arith) (sym (ap (λ d. d == 1) (bit_at_lowest w)) ∙ e)
  where
    go : (d : ℕ) → d < 2 → (d == 1) ≡ false → d ≡ 0
    go zero lt h = refl
    go (suc zero) lt h = absurd (false≢true (sym h))
    go (suc (suc d)) lt h = absurd (omega (arith, lt))

pub zero_word : (n w : ℕ) → w < 2 ^ n → ((k : ℕ) → k < n → bit w k ≡ false) → w ≡ 0
zero_word zero w lt h = omega (arith, lt)
zero_word (suc n) w lt h =
    let even = zero_bit w (h 0 (omega arith)) in
    let less : w / 2 < 2 ^ n = omega (arith, lt) in
    let half = zero_word n (w / 2) less (λ k klt. ap (λ d. d == 1) (sym (bit_at-suc w k)) ∙ h (suc k) (omega (arith, klt))) in
    omega (arith, even, half)

pub zero_says : (method : Method) (w : ℕ) → w < 2 ^ slot_count method → IsNothing (says method w) → w ≡ 0
zero_says method w lt h = zero_word (slot_count method) w lt (λ k klt. sym (value_numbered method w k klt) ∙ nothing (spot_at method k))
  where
    nothing : (x : Spot) → value (says method w) x ≡ false
    nothing (InLocal l) = h.slots (Local l)
    nothing (InStack l) = h.slots (OnStack l)
    nothing Dirt = h.dirt
    nothing Exc = h.exc

-- ---- initialisers have code

module _ (p : Parts) (whole : IsWhole p) where
  class_init : (o : Option ClassInfo) (k : ℕ) → slice_get p.classes k ≡ o → (n : MethodId) → Contains (inits_of_class o) n → NamesInitializer p n.0
  class_init None k e n h = nothing_in n h
  class_init (Some class) k e n h = All-contains (λ x. NamesInitializer p x.0) class.inits n (all_at (λ (c : ClassInfo). All (λ x. NamesInitializer p x.0) c.inits) p.classes k class whole.inits e) h

  pub class_initializer : (k : ℕ) (n : MethodId) → Contains (inits_of_class (slice_get p.classes k)) n → NamesInitializer p n.0
  class_initializer k n h = class_init (slice_get p.classes k) k refl n h

  field_init : (o : Option Field) (n : MethodId) → Contains (inits_of_field p o) n → NamesInitializer p n.0
  field_init None n h = nothing_in n h
  field_init (Some field) n h = class_initializer field.class.0 n h

  method_init : (o : Option Method) (n : MethodId) → Contains (inits_of_method p o) n → NamesInitializer p n.0
  method_init None n h = nothing_in n h
  method_init (Some method) n h = class_initializer method.class.0 n h

  call_init : (k : CallKind) (o : Option MethodAt) (n : MethodId) → Contains (inits_of_call p k o) n → NamesInitializer p n.0
  call_init Static (Some (Program m)) n h = method_init (slice_get p.methods m.0) n h
  call_init _ _ n h = nothing_in n h

  pub op_initializer : (op : Op) (n : MethodId) → Contains (inits_of p op) n → NamesInitializer p n.0
  op_initializer (New token) n h = class_initializer token.0 n h
  op_initializer (GetStatic field) n h = field_init (slice_get p.fields field.0) n h
  op_initializer (PutStatic field) n h = field_init (slice_get p.fields field.0) n h
  op_initializer (Call call) n h = call_init call.kind call.found n h
  op_initializer _ n h = nothing_in n h

-- an absorbing token is one
pub absorbs_low : (p : Parts) (t : ℕ) → absorbs p t ≡ true → t < token_count p
absorbs_low p t e = go (slice_get p.classes t) refl e
  where
    go : (o : Option ClassInfo) → slice_get p.classes t ≡ o → absorbs_as p t o ≡ true → t < token_count p
    go (Some class) found h = let lt = slice_get_within p.classes t class found in omega (arith, lt)
    go None found h = elim (or_cases (t == lib_token p) ((t == rarr_token p) || (t == parr_token p)) h) [
      | inl is ↦ (let same = eqb-true t (lib_token p) is in omega (arith, same))
      | inr other ↦ (elim (or_cases (t == rarr_token p) (t == parr_token p) other) [
        | inl is ↦ (let same = eqb-true t (rarr_token p) is in omega (arith, same))
        | inr is ↦ (let same = eqb-true t (parr_token p) is in omega (arith, same))
      ])
    ]

-- ---- what lists of facts cover

module _ (p : Parts) (f : Facts) (items : List Item) where
  pub record CoversContext (m : ℕ) (a : Assignment) : Type 0 where
    pub method : Method
    pub found : slice_get p.methods m ≡ Some method
    pub has_code : HasCode method
    pub w : ℕ
    pub small : w < 2 ^ slot_count method
    pub same : says method w ≡ a
    pub listed : Contains items (Context m w)

  pub record CoversAt (m i : ℕ) (a b : Assignment) : Type 0 where
    pub method : Method
    pub found : slice_get p.methods m ≡ Some method
    pub instr : Instr
    pub at : slice_get method.code i ≡ Some instr
    pub reached : instr.reached ≡ true
    pub entry : ℕ
    pub small : entry < 2 ^ slot_count method
    pub same_entry : says method entry ≡ a
    pub word : ℕ
    pub same : says method word ≡ b
    pub listed : Contains items (At m i entry word)

  pub record CoversNormal (m : ℕ) (a : Assignment) (s : Summary) : Type 0 where
    pub method : Method
    pub found : slice_get p.methods m ≡ Some method
    pub w : ℕ
    pub small : w < 2 ^ slot_count method
    pub same : says method w ≡ a
    pub result : Bool
    pub dirt : Bool
    pub same_summary : record { result = result; dirt = dirt; exc = false } ≡ s
    pub listed : Contains items (Normal m w result dirt)

  pub record CoversThrew (m : ℕ) (a : Assignment) (s : Summary) : Type 0 where
    pub method : Method
    pub found : slice_get p.methods m ≡ Some method
    pub w : ℕ
    pub small : w < 2 ^ slot_count method
    pub same : says method w ≡ a
    pub dirt : Bool
    pub exc : Bool
    pub same_summary : record { result = false; dirt = dirt; exc = exc } ≡ s
    pub listed : Contains items (Threw m w dirt exc)

  abbrev pub Covers : Fact → Type 0
  Covers (equations.Context m a) = CoversContext m a
  Covers (equations.At m i a b) = CoversAt m i a b
  Covers (equations.Normal m a s) = CoversNormal m a s
  Covers (equations.Threw m a s) = CoversThrew m a s
  Covers (equations.Stored c) = Contains items (Stored (cell_number p c))

module _ (p : Parts) (f : Facts) (whole : IsWhole p) (given : AreGiven p f) (items : List Item) (closed : IsClosed p f items) where
  -- where an instruction is come to
  module _ (m i : ℕ) (method : Method) (found : slice_get p.methods m ≡ Some method) (instr : Instr) (at : slice_get method.code i ≡ Some instr) (reached : instr.reached ≡ true)
      (a b : ℕ) (small : a < 2 ^ slot_count method) (listed : Contains items (At m i a b)) where
    abbrev s : Standing
    s = record { method = method; m = m; a = a; b = b }

    abbrev before : Assignment
    before = says method b

    abbrev entry : Assignment
    entry = says method a

    abbrev tests : Tests
    tests = tests_of p f m i

    abbrev places : List Place
    places = code.places_of p f m i method

    at_m : instr_at p m i ≡ Some instr
    at_m = ap (λ o. slice_get (code_of o) i) found ∙ at

    finds : FindsOperands instr.op instr.height
    finds = (runs_there p whole m method found i instr at reached).operands

    takes_le : pops instr.op ≤ instr.height
    takes_le = ends.takes instr.op instr.height finds

    same_instr : (x : Instr) → instr_at p m i ≡ Some x → x ≡ instr
    same_instr x e = same_Some x instr (sym e ∙ at_m)

    pub op_same : {op : Op} {height : ℕ} → OpAt p m i op height → (instr.op ≡ op) × (instr.height ≡ height)
    op_same o = let e = same_instr o.instr o.found in (ap (λ (x : Instr). x.op) (sym e) ∙ o.is_op, ap (λ (x : Instr). x.height) (sym e) ∙ o.is_height)

    leads_in : (j : ℕ) → Leads p m i j → Contains instr.next j
    leads_in j l = subst (λ (x : Instr). Contains x.next j) (same_instr l.instr l.found) l.listed

    after_room : (j : ℕ) → Contains instr.next j → height_after instr.op instr.height ≤ method.stack
    after_room j h =
        let it = next_there p whole m method found i instr at reached j h in
        let r = runs_there p whole m method found j it.instr it.found it.reached in
        omega (arith, r.height, it.is_height)

    -- what follows of the instruction is listed
    in_runs : (x : Item) → Contains (code.runs p f items s i instr) x → Contains items x
    in_runs x h = closed.each (At m i a b) listed x
        (subst (λ o. Contains (code.runs_in p f items m i a b o) x) (sym found)
        (subst (λ o. Contains (code.runs_reached p f items s i o) x) (sym at) (in_if instr.reached (code.runs p f items s i instr) x reached h)))

    abbrev l1 : List Item
    l1 = code.goes_on p f items s tests instr.op instr.height instr.next

    abbrev l2 : List Item
    l2 = code.throws s places tests instr.op instr.height

    abbrev l3 : List Item
    l3 = code.initializes p f items s i instr.height (inits_of p instr.op)

    abbrev l4 : List Item
    l4 = code.calls p f items s i instr.next places instr.op instr.height

    abbrev l5 : List Item
    l5 = code.returns s instr.op instr.height

    abbrev l6 : List Item
    l6 = code.writes p s instr.op instr.height

    abbrev l7 : List Item
    l7 = code.takes p f s i instr.op instr.height

    in_1 : (x : Item) → Contains l1 x → Contains items x
    in_1 x h = in_runs x (Contains-append_left l1 (l2 ++ (l3 ++ (l4 ++ (l5 ++ (l6 ++ l7))))) x h)

    in_2 : (x : Item) → Contains l2 x → Contains items x
    in_2 x h = in_runs x (Contains-append_right l1 (l2 ++ (l3 ++ (l4 ++ (l5 ++ (l6 ++ l7))))) x (Contains-append_left l2 (l3 ++ (l4 ++ (l5 ++ (l6 ++ l7)))) x h))

    past_2 : (x : Item) → Contains (l3 ++ (l4 ++ (l5 ++ (l6 ++ l7)))) x → Contains items x
    past_2 x h = in_runs x (Contains-append_right l1 (l2 ++ (l3 ++ (l4 ++ (l5 ++ (l6 ++ l7))))) x (Contains-append_right l2 (l3 ++ (l4 ++ (l5 ++ (l6 ++ l7)))) x h))

    in_3 : (x : Item) → Contains l3 x → Contains items x
    in_3 x h = past_2 x (Contains-append_left l3 (l4 ++ (l5 ++ (l6 ++ l7))) x h)

    past_3 : (x : Item) → Contains (l4 ++ (l5 ++ (l6 ++ l7))) x → Contains items x
    past_3 x h = past_2 x (Contains-append_right l3 (l4 ++ (l5 ++ (l6 ++ l7))) x h)

    in_4 : (x : Item) → Contains l4 x → Contains items x
    in_4 x h = past_3 x (Contains-append_left l4 (l5 ++ (l6 ++ l7)) x h)

    past_4 : (x : Item) → Contains (l5 ++ (l6 ++ l7)) x → Contains items x
    past_4 x h = past_3 x (Contains-append_right l4 (l5 ++ (l6 ++ l7)) x h)

    in_5 : (x : Item) → Contains l5 x → Contains items x
    in_5 x h = past_4 x (Contains-append_left l5 (l6 ++ l7) x h)

    in_6 : (x : Item) → Contains l6 x → Contains items x
    in_6 x h = past_4 x (Contains-append_right l5 (l6 ++ l7) x (Contains-append_left l6 l7 x h))

    in_7 : (x : Item) → Contains l7 x → Contains items x
    in_7 x h = past_4 x (Contains-append_right l5 (l6 ++ l7) x (Contains-append_right l6 l7 x h))

    -- an instruction is come to with a word
    covers_at : (j h w : ℕ) (after : Assignment) → IsReachedAt method j h → says method w ≡ after → Contains items (At m j a w) → CoversAt p f items m j entry after
    covers_at j h w after it same inside = record {
      method = method;
      found = found;
      instr = it.instr;
      at = it.found;
      reached = it.reached;
      entry = a;
      small = small;
      same_entry = refl;
      word = w;
      same = same;
      listed = inside;
    }

    -- ---- the normal end

    normal_covers : (j : ℕ) (after : Assignment) → Leads p m i j → IsNormalEnd p (told p f) m i before after
        → ((g : ℕ) → read_field instr.op ≡ Some g → after.slot (read_slot instr.op instr.height) ≡ true → code.answers p f items g ≡ true) → CoversAt p f items m j entry after
    normal_covers j after leads end answered = covers_at j (height_after instr.op instr.height) r.0 after (next_there p whole m method found i instr at reached j jn) r.2
        (in_1 (At m j a r.0) (in_at_all m a instr.next (code.passing (is_readable (read_field instr.op) p f items method (read_slot instr.op instr.height)) (code.normal_words s tests instr.op instr.height)) j r.0 jn
        (in_passing (is_readable (read_field instr.op) p f items method (read_slot instr.op instr.height)) (code.normal_words s tests instr.op instr.height) r.0
        (in_if (may_go_on tests instr.op) (next_words method (normal_clauses tests instr.op instr.height) before) r.0 fit.1 r.1) (readable (read_field instr.op) refl))))
      where
        jn : Contains instr.next j
        jn = leads_in j leads

        fit : (instr.reached ≡ true) × (may_go_on tests instr.op ≡ true) × AllFit (normal_clauses tests instr.op instr.height) before after
        fit = normal_fit p (told p f) m i instr tests before after at_m finds (tests_told p f m i) end

        quiet : IsQuiet method (normal_clauses tests instr.op instr.height) before
        quiet =
            let r = runs_there p whole m method found i instr at reached in
            idle_quiet method (normal_clauses tests instr.op instr.height) b (normal_idle p f m i method found instr.op instr.height r.locals r.height (after_room j jn))

        r : (w : ℕ) × Contains (next_words method (normal_clauses tests instr.op instr.height) before) w × (says method w ≡ after)
        r = some_word method (normal_clauses tests instr.op instr.height) before quiet after fit.2

        readable : (o : Option ℕ) → read_field instr.op ≡ o → is_readable o p f items method (read_slot instr.op instr.height) r.0 ≡ true
        readable None e = refl
        readable (Some g) e = elim (cases_Bool ((says method r.0).slot (read_slot instr.op instr.height))) [
          | inr nay ↦ or_left (not ((says method r.0).slot (read_slot instr.op instr.height))) (code.answers p f items g) (ap not nay)
          | inl yea ↦ or_right (not ((says method r.0).slot (read_slot instr.op instr.height))) (code.answers p f items g) (answered g e (subst (λ (x : Assignment). x.slot (read_slot instr.op instr.height) ≡ true) r.2 yea))
        ]

    pub steps_covers : {j height : ℕ} {op : Op} (after : Assignment) → OpAt p m i op height → Leads p m i j → IsNormalEnd p (told p f) m i before after
        → ((g : ℕ) (r : Slot) → Reads op height g r → after.slot r ≡ false) → CoversAt p f items m j entry after
    steps_covers {j} {height} {op} after o leads end none = normal_covers j after leads end (λ g e t. absurd (false≢true (sym (clean g e) ∙ t)))
      where
        clean : (g : ℕ) → read_field instr.op ≡ Some g → after.slot (read_slot instr.op instr.height) ≡ false
        clean g e = none g (read_slot instr.op instr.height) (subst (λ h. Reads op h g (read_slot instr.op instr.height)) (op_same o).1 (subst (λ x. Reads x instr.height g (read_slot instr.op instr.height)) (op_same o).0 (known_reads instr.op instr.height g takes_le e)))

    answers_cell : (g : ℕ) (c : Cell) → Answers (told p f) g c → Contains items (Stored (cell_number p c)) → code.answers p f items g ≡ true
    answers_cell g c itself h = or_left (stores items g) (any_below (λ c. slice_index_or (slice_index_or f.holds.fields g []) c false && stores items c) (cell_count p)) (item_has items (Stored g) h)
    answers_cell g c (held it) h =
        or_right (stores items g) (any_below (λ c. slice_index_or (slice_index_or f.holds.fields g []) c false && stores items c) (cell_count p))
        (some_any (λ c. slice_index_or (slice_index_or f.holds.fields g []) c false && stores items c) (cell_count p) (cell_number p c) (cell_low p c it.0)
        (and_from (slice_index_or (slice_index_or f.holds.fields g []) (cell_number p c) false) (stores items (cell_number p c)) it.1 (item_has items (Stored (cell_number p c)) h)))

    pub reads_covers : {j g height : ℕ} {op : Op} {r : Slot} (c : Cell) (after : Assignment) → OpAt p m i op height → Leads p m i j → IsNormalEnd p (told p f) m i before after
        → Reads op height g r → Answers (told p f) g c → Contains items (Stored (cell_number p c)) → CoversAt p f items m j entry after
    reads_covers {j} {g} {height} {op} c after o leads end reads answers h = normal_covers j after leads end (λ k e t. subst (λ n. code.answers p f items n ≡ true) (same k e) (answers_cell g c answers h))
      where
        same : (k : ℕ) → read_field instr.op ≡ Some k → g ≡ k
        same k e = same_Some g k (sym ((reads_known reads).0) ∙ ap read_field (sym ((op_same o).0)) ∙ e)

    -- ---- exceptions

    in_places : (t : ℕ) (place : Place) → (told p f).classes (InThrown m i t) → Contains (dest p m i t) place → Contains places place
    in_places t place (inr none) d = absurd none
    in_places t place (inl has) d =
        in_over (code.places_of_token p (thrown_set f.sets m i) method i) 0 (token_count p) t place (omega arith) (let lt = given.thrown m i t has in omega (arith, lt))
        (in_if (slice_index_or (thrown_set f.sets m i) t false) (dest_among p i t method.handlers) place has (subst (λ o. Contains (dest_among p i t (handlers_of o)) place) found d))

    handler_reached : (t j : ℕ) → Contains (dest p m i t) (Inside j) → IsReachedAt method j 1
    handler_reached t j d =
        let h = dest_handler p i t method.handlers j (subst (λ o. Contains (dest_among p i t (handlers_of o)) (Inside j)) found d) in
        subst (λ k. IsReachedAt method k 1) h.3 (handler_there p whole m method found i instr at reached h.0 h.1 h.2)

    -- what an exception that left a word comes to is listed
    abbrev pub AllLand : ℕ → Type 0
    AllLand w = (place : Place) (x : Item) → Contains places place → Contains (code.lands_at s w place) x → Contains items x

    pub lands_inside : (w t j : ℕ) (thrown after : Assignment) → AllLand w → says method w ≡ thrown → (told p f).classes (InThrown m i t) → Contains (dest p m i t) (Inside j) → IsCaught thrown after → CoversAt p f items m j entry after
    lands_inside w t j thrown after land same it d caught = covers_at j 1 r.0 after reached' r.2
        (land (Inside j) (At m j a r.0) (in_places t (Inside j) it d) (in_at_all m a (j ∷ []) (next_words method caught_clauses (says method w)) j r.0 (here j []) r.1))
      where
        reached' : IsReachedAt method j 1
        reached' = handler_reached t j d

        room : 0 < method.stack
        room = let r = runs_there p whole m method found j reached'.instr reached'.found reached'.reached in omega (arith, r.height, reached'.is_height)

        r : (v : ℕ) × Contains (next_words method caught_clauses (says method w)) v × (says method v ≡ after)
        r = some_word method caught_clauses (says method w) (idle_quiet method caught_clauses w (caught_idle method room)) after
            (caught_fit (says method w) after (subst (λ x. IsCaught x after) (sym same) caught))

    pub lands_outside : (w t : ℕ) (thrown : Assignment) → AllLand w → says method w ≡ thrown → (told p f).classes (InThrown m i t) → Contains (dest p m i t) Outside → CoversThrew p f items m entry (thrown_summary thrown)
    lands_outside w t thrown land same it d = record {
      method = method;
      found = found;
      w = a;
      small = small;
      same = refl;
      dirt = (says method w).dirt;
      exc = (says method w).exc;
      same_summary = ap thrown_summary same;
      listed = land Outside (Threw m a (says method w).dirt (says method w).exc) (in_places t Outside it d) (here (Threw m a (says method w).dirt (says method w).exc) []);
    }

    -- an exceptional end leaves a word
    pub thrown_word : (thrown : Assignment) → IsExceptionalEnd p (told p f) m i before thrown → (w : ℕ) × AllLand w × (says method w ≡ thrown)
    thrown_word thrown end = by_way (exceptional_fit p (told p f) m i instr tests before thrown at_m finds (tests_told p f m i) end).1
      where
        by_way : ((way : Way) × (may_end tests instr.op way ≡ true) × AllFit (exceptional_clauses way tests instr.op instr.height) before thrown) → (w : ℕ) × AllLand w × (says method w ≡ thrown)
        by_way it =
            let clauses = exceptional_clauses it.0 tests instr.op instr.height in
            let r = some_word method clauses before (idle_quiet method clauses b (exceptional_idle p f m i method found it.0 instr.op instr.height)) thrown it.2 in (
              r.0,
              (λ place x pn xn. in_2 x (in_way it.0 x (in_lands_all s places (code.words_by it.0 s tests instr.op instr.height) place r.0 x pn
                  (in_if (may_end tests instr.op it.0) (next_words method clauses before) r.0 it.1 r.1) xn))),
              r.2,
            )
          where
            in_way : (way : Way) (x : Item) → Contains (code.lands_all s places (code.words_by way s tests instr.op instr.height)) x → Contains l2 x
            in_way Clean x h = Contains-append_left (code.lands_all s places (code.words_by Clean s tests instr.op instr.height)) (code.lands_all s places (code.words_by Thrown s tests instr.op instr.height) ++ code.lands_all s places (code.words_by InLibrary s tests instr.op instr.height)) x h
            in_way Thrown x h = Contains-append_right (code.lands_all s places (code.words_by Clean s tests instr.op instr.height)) (code.lands_all s places (code.words_by Thrown s tests instr.op instr.height) ++ code.lands_all s places (code.words_by InLibrary s tests instr.op instr.height)) x
                (Contains-append_left (code.lands_all s places (code.words_by Thrown s tests instr.op instr.height)) (code.lands_all s places (code.words_by InLibrary s tests instr.op instr.height)) x h)
            in_way InLibrary x h = Contains-append_right (code.lands_all s places (code.words_by Clean s tests instr.op instr.height)) (code.lands_all s places (code.words_by Thrown s tests instr.op instr.height) ++ code.lands_all s places (code.words_by InLibrary s tests instr.op instr.height)) x
                (Contains-append_right (code.lands_all s places (code.words_by Thrown s tests instr.op instr.height)) (code.lands_all s places (code.words_by InLibrary s tests instr.op instr.height)) x h)

    -- ---- class initialisers

    init_method : (n : ℕ) → InitAt p m i n → NamesInitializer p n
    init_method n init = op_initializer p whole init.instr.op (record { 0 = n }) init.listed

    in_inits : (inits : List MethodId) (n : MethodId) (x : Item) → Contains inits n → Contains (code.goes_through items s (init_passage p f m i instr.height n.0)) x → Contains (code.initializes p f items s i instr.height inits) x
    in_inits [] n x h k = nothing_in n h
    in_inits (q ∷ inits) n x h k = elim (cons_cases q inits n h) [
      | inl is ↦ Contains-append_left (code.goes_through items s (init_passage p f m i instr.height q.0)) (code.initializes p f items s i instr.height inits) x (subst (λ (y : MethodId). Contains (code.goes_through items s (init_passage p f m i instr.height y.0)) x) (sym is) k)
      | inr rest ↦ Contains-append_right (code.goes_through items s (init_passage p f m i instr.height q.0)) (code.initializes p f items s i instr.height inits) x (in_inits inits n x rest k)
    ]

    in_init : (n : ℕ) (x : Item) → InitAt p m i n → Contains (code.goes_through items s (init_passage p f m i instr.height n)) x → Contains items x
    in_init n x init h = in_3 x (in_inits (inits_of p instr.op) (record { 0 = n }) x (subst (λ (y : Instr). Contains (inits_of p y.op) (record { 0 = n })) (same_instr init.instr init.found) init.listed) h)

    nothing_covers : (n : ℕ) (c : Assignment) → NamesInitializer p n → IsNothing c → Contains items (Context n 0) → CoversContext p f items n c
    nothing_covers n c it nothing inside = record {
      method = it.method;
      found = it.named.found;
      has_code = it.code;
      w = 0;
      small = pow_pos (slot_count it.method);
      same = same_nothing (says it.method 0) c (subst (λ o. IsNothing (says_in o 0)) it.named.found (says_nothing p n)) nothing;
      listed = inside;
    }

    pub initialized_covers : (n : ℕ) (c : Assignment) → InitAt p m i n → IsNothing c → CoversContext p f items n c
    initialized_covers n c init nothing = nothing_covers n c (init_method n init) nothing
        (in_init n (Context n 0) init (here (Context n 0) (code.ends_with_each s (init_passage p f m i instr.height n) items)))

    own_reached : IsReachedAt method i instr.height
    own_reached = record { instr = instr; found = at; reached = reached; is_height = refl }

    module _ (n : ℕ) where
      abbrev init_way : Passage
      init_way = init_passage p f m i instr.height n

      abbrev init_clauses : Summary → Spot → Clause
      init_clauses sum = return_clauses (affected_of p f m i n 0 instr.height) instr.height false sum

      initializer_at : (after : Assignment) (result dirt : Bool) → InitAt p m i n → Contains items (Normal n 0 result dirt)
          → IsReturn (told p f) m i n 0 instr.height false before (record { result = result; dirt = dirt; exc = false }) after → CoversAt p f items m i entry after
      initializer_at after result dirt init inside end = covers_at i instr.height r.0 after own_reached r.2
          (in_init n (At m i a r.0) init (there (Context n 0) (code.ends_with_each s init_way items) (At m i a r.0) (in_ends s init_way items (Normal n 0 result dirt) (At m i a r.0) inside
          (in_if ((n == n) && (0 == 0)) (code.returns_with s init_way (record { result = result; dirt = dirt; exc = false })) (At m i a r.0) (and_from (n == n) (0 == 0) (eq-eqb n n refl) refl)
          (in_at_all m a (i ∷ []) (next_words method (init_clauses (record { result = result; dirt = dirt; exc = false })) before) i r.0 (here i []) r.1)))))
        where
          r : (w : ℕ) × Contains (next_words method (init_clauses (record { result = result; dirt = dirt; exc = false })) before) w × (says method w ≡ after)
          r = some_word method (init_clauses (record { result = result; dirt = dirt; exc = false })) before
              (idle_quiet method (init_clauses (record { result = result; dirt = dirt; exc = false })) b (return_idle p f m i method found n 0 instr.height false (record { result = result; dirt = dirt; exc = false }) (λ e. absurd (false≢true e)))) after
              (return_fit (told p f) m i n 0 instr.height (affected_of p f m i n 0 instr.height) (affected_told p f m i n 0 instr.height) before false (record { result = result; dirt = dirt; exc = false }) after end)

      pub initializer_covers : {height : ℕ} {op : Op} (c after : Assignment) (sum : Summary) → OpAt p m i op height → InitAt p m i n → IsNothing c → CoversNormal p f items n c sum
          → IsReturn (told p f) m i n 0 height false before sum after → CoversAt p f items m i entry after
      initializer_covers {height} c after sum o init nothing normal end =
          initializer_at after normal.result normal.dirt init
          (subst (λ k. Contains items (Normal n k normal.result normal.dirt)) (zero_says normal.method normal.w normal.small (subst IsNothing (sym normal.same) nothing)) normal.listed)
          (subst (λ q. IsReturn (told p f) m i n 0 instr.height false before q after) (sym normal.same_summary) (subst (λ h. IsReturn (told p f) m i n 0 h false before sum after) (sym ((op_same o).1)) end))

    -- ---- calls

    in_calls_with : (call : CallOp) (under n : ℕ) (cs : List ℕ) (c : ℕ) (x : Item) → Contains cs c → Contains (code.goes_through items s (call_passage p f m i instr.next places call under n c)) x
        → Contains (code.calls_with p f items s i instr.next places call under n cs) x
    in_calls_with call under n [] c x h k = nothing_in c h
    in_calls_with call under n (q ∷ cs) c x h k = elim (cons_cases q cs c h) [
      | inl is ↦ Contains-append_left (code.goes_through items s (call_passage p f m i instr.next places call under n q)) (code.calls_with p f items s i instr.next places call under n cs) x (subst (λ y. Contains (code.goes_through items s (call_passage p f m i instr.next places call under n y)) x) (sym is) k)
      | inr rest ↦ Contains-append_right (code.goes_through items s (call_passage p f m i instr.next places call under n q)) (code.calls_with p f items s i instr.next places call under n cs) x (in_calls_with call under n cs c x rest k)
    ]

    in_calls_each : (call : CallOp) (under : ℕ) (ns : List ℕ) (n : ℕ) (x : Item) → Contains ns n → Contains (code.calls_method p f items s i instr.next places call under n (slice_get p.methods n)) x
        → Contains (code.calls_each p f items s i instr.next places call under ns) x
    in_calls_each call under [] n x h k = nothing_in n h
    in_calls_each call under (q ∷ ns) n x h k = elim (cons_cases q ns n h) [
      | inl is ↦ Contains-append_left (code.calls_method p f items s i instr.next places call under q (slice_get p.methods q)) (code.calls_each p f items s i instr.next places call under ns) x
          (subst (λ y. Contains (code.calls_method p f items s i instr.next places call under y (slice_get p.methods y)) x) (sym is) k)
      | inr rest ↦ Contains-append_right (code.calls_method p f items s i instr.next places call under q (slice_get p.methods q)) (code.calls_each p f items s i instr.next places call under ns) x (in_calls_each call under ns n x rest k)
    ]

    module _ (call : CallOp) (is : instr.op ≡ Call call) (n : ℕ) (target : Contains (targets_at f.graph m i).methods n) (callee : Method) (callee_found : slice_get p.methods n ≡ Some callee) (has_code : HasCode callee) where
      abbrev under : ℕ
      under = instr.height - arguments call

      abbrev pub given_words : List ℕ
      given_words = next_words callee (handed_clauses callee (arguments call) under before) before

      enough : arguments call ≤ instr.height
      enough = subst (λ (o : Op). pops o ≤ instr.height) is takes_le

      counted : param_count callee ≡ arguments call
      counted =
          let it = given.graph.each m i n instr.height call (record { instr = instr; found = at_m; is_op = is; is_height = refl }) target in
          ap param_count (same_Some callee it.method (sym callee_found ∙ it.found)) ∙ it.is_count

      quiet_hands : IsQuiet callee (handed_clauses callee (arguments call) under before) before
      quiet_hands = hands_quiet p whole n callee callee_found has_code call counted under before

      abbrev way : ℕ → Passage
      way c = call_passage p f m i instr.next places call under n c

      in_call : (c : ℕ) (x : Item) → Contains given_words c → Contains (code.goes_through items s (way c)) x → Contains items x
      in_call c x cn h = in_4 x (subst (λ (o : Op). Contains (code.calls p f items s i instr.next places o instr.height) x) (sym is)
          (in_calls_each call under (targets_at f.graph m i).methods n x target
          (subst (λ (o : Option Method). Contains (code.calls_method p f items s i instr.next places call under n o) x) (sym callee_found)
          (subst (λ (e : Bool). Contains (if e then [] else code.calls_with p f items s i instr.next places call under n given_words) x) (sym (not_empty callee.code has_code))
          (in_calls_with call under n given_words c x cn h)))))
        where
          not_empty : (xs : List Instr) → 0 < length xs → is_empty xs ≡ false
          not_empty [] lt = absurd (omega (arith, lt))
          not_empty (y ∷ xs) lt = refl

      pub call_covers : (c : Assignment) → HandsOver callee call under before c → CoversContext p f items n c
      call_covers c hands =
          let r = some_word callee (handed_clauses callee (arguments call) under before) before quiet_hands c (hands_fit callee call under before c counted hands) in
          record {
            method = callee;
            found = callee_found;
            has_code = has_code;
            w = r.0;
            small = (word_fits callee (handed_clauses callee (arguments call) under before) before r.0 r.1).0;
            same = r.2;
            listed = in_call r.0 (Context n r.0) r.1 (here (Context n r.0) (code.ends_with_each s (way r.0) items));
          }

      pub given_word : (w : ℕ) → w < 2 ^ slot_count callee → HandsOver callee call under before (says callee w) → Contains given_words w
      given_word w lt hands = all_word callee (handed_clauses callee (arguments call) under before) before w lt (hands_fit callee call under before (says callee w) counted hands)

      answer_room : (j : ℕ) → Contains instr.next j → has_result call.result ≡ true → under < method.stack
      answer_room j h e = by_result call.result refl (subst (λ (o : Op). height_after o instr.height ≤ method.stack) is (after_room j h))
        where
          by_result : (o : Option JavaType) → call.result ≡ o → height_after (Call call) instr.height ≤ method.stack → under < method.stack
          by_result None none le = absurd (false≢true (sym (ap has_result none) ∙ e))
          by_result (Some type) some le = let one : result_count call.result ≡ 1 = ap result_count some in omega (arith, one, le)

      abbrev back_clauses : Summary → Spot → Clause
      back_clauses sum = return_clauses (affected_of p f m i n (arguments call) under) under (has_result call.result) sum

      abbrev out_clauses : Summary → Spot → Clause
      out_clauses sum = throw_clauses (affected_of p f m i n (arguments call) under) sum

      pub return_covers : (j w : ℕ) (after : Assignment) (result dirt : Bool) → Leads p m i j → Contains given_words w → Contains items (Normal n w result dirt)
          → IsReturn (told p f) m i n (arguments call) under (has_result call.result) before (record { result = result; dirt = dirt; exc = false }) after → CoversAt p f items m j entry after
      return_covers j w after result dirt leads wn inside end = covers_at j (height_after instr.op instr.height) r.0 after (next_there p whole m method found i instr at reached j jn) r.2
          (in_call w (At m j a r.0) wn (there (Context n w) (code.ends_with_each s (way w) items) (At m j a r.0) (in_ends s (way w) items (Normal n w result dirt) (At m j a r.0) inside
          (in_if ((n == n) && (w == w)) (code.returns_with s (way w) (record { result = result; dirt = dirt; exc = false })) (At m j a r.0) (and_from (n == n) (w == w) (eq-eqb n n refl) (eq-eqb w w refl))
          (in_at_all m a instr.next (next_words method (back_clauses (record { result = result; dirt = dirt; exc = false })) before) j r.0 jn r.1)))))
        where
          jn : Contains instr.next j
          jn = leads_in j leads

          r : (v : ℕ) × Contains (next_words method (back_clauses (record { result = result; dirt = dirt; exc = false })) before) v × (says method v ≡ after)
          r = some_word method (back_clauses (record { result = result; dirt = dirt; exc = false })) before
              (idle_quiet method (back_clauses (record { result = result; dirt = dirt; exc = false })) b (return_idle p f m i method found n (arguments call) under (has_result call.result) (record { result = result; dirt = dirt; exc = false }) (answer_room j jn))) after
              (return_fit (told p f) m i n (arguments call) under (affected_of p f m i n (arguments call) under) (affected_told p f m i n (arguments call) under) before (has_result call.result) (record { result = result; dirt = dirt; exc = false }) after end)

      -- an end by an exception of the method leaves a word
      pub callee_word : (w : ℕ) (thrown : Assignment) (dirt exc : Bool) → Contains given_words w → Contains items (Threw n w dirt exc)
          → IsCallThrown (told p f) m i n (arguments call) under before (record { result = false; dirt = dirt; exc = exc }) thrown → (v : ℕ) × AllLand v × (says method v ≡ thrown)
      callee_word w thrown dirt exc wn inside end = (
        r.0,
        (λ place x pn xn. in_call w x wn (there (Context n w) (code.ends_with_each s (way w) items) x (in_ends s (way w) items (Threw n w dirt exc) x inside
            (in_if ((n == n) && (w == w)) (code.throws_with s (way w) (record { result = false; dirt = dirt; exc = exc })) x (and_from (n == n) (w == w) (eq-eqb n n refl) (eq-eqb w w refl))
            (in_lands_all s places (next_words method (out_clauses (record { result = false; dirt = dirt; exc = exc })) before) place r.0 x pn r.1 xn))))),
        r.2,
      )
        where
          r : (v : ℕ) × Contains (next_words method (out_clauses (record { result = false; dirt = dirt; exc = exc })) before) v × (says method v ≡ thrown)
          r = some_word method (out_clauses (record { result = false; dirt = dirt; exc = exc })) before
              (idle_quiet method (out_clauses (record { result = false; dirt = dirt; exc = exc })) b (throw_idle p f m i method found n (arguments call) under (record { result = false; dirt = dirt; exc = exc }))) thrown
              (throw_fit (told p f) m i n (arguments call) under (affected_of p f m i n (arguments call) under) (affected_told p f m i n (arguments call) under) before (record { result = false; dirt = dirt; exc = exc }) thrown end)

    -- ---- returns, writes and library calls

    in_returns : (op : Op) (x : Item) → instr.op ≡ op → Contains (code.returns s op instr.height) x → Contains items x
    in_returns op x is h = in_5 x (subst (λ (o : Op). Contains (code.returns s o instr.height) x) (sym is) h)

    normal_of : (result : Bool) → Contains items (Normal m a result before.dirt) → CoversNormal p f items m entry (return_summary result before)
    normal_of result h = record { method = method; found = found; w = a; small = small; same = refl; result = result; dirt = before.dirt; same_summary = refl; listed = h }

    pub returns_covers : {k : ℕ} {kind : Kind} → OpAt p m i (Return (Some kind)) (suc k) → CoversNormal p f items m entry (return_summary (before.slot (OnStack k)) before)
    returns_covers {k} {kind} o =
        let e : instr.height - 1 ≡ k = let h = (op_same o).1 in omega (arith, h) in
        subst (λ z. CoversNormal p f items m entry (return_summary (before.slot (OnStack z)) before)) e
        (normal_of (before.slot (OnStack (instr.height - 1)))
        (in_returns (Return (Some kind)) (Normal m a (before.slot (OnStack (instr.height - 1))) before.dirt) ((op_same o).0) (here (Normal m a (before.slot (OnStack (instr.height - 1))) before.dirt) [])))

    pub ends_covers : {height : ℕ} → OpAt p m i (Return None) height → CoversNormal p f items m entry (return_summary false before)
    ends_covers o = normal_of false (in_returns (Return None) (Normal m a false before.dirt) ((op_same o).0) (here (Normal m a false before.dirt) []))

    written : (op : Op) (cell : ℕ) (v : ℕ) → instr.op ≡ op → code.stored_cell p op ≡ Some cell → instr.height - 1 ≡ v → before.slot (OnStack v) ≡ true → Contains items (Stored cell)
    written op cell v is e top t = in_6 (Stored cell)
        (subst (λ (o : Op). Contains (code.writes p s o instr.height) (Stored cell)) (sym is)
        (subst (λ (o : Option ℕ). Contains (code.stored_if o (before.slot (OnStack (instr.height - 1)))) (Stored cell)) (sym e)
        (in_if (before.slot (OnStack (instr.height - 1))) (Stored cell ∷ []) (Stored cell) (ap (λ z. before.slot (OnStack z)) top ∙ t) (here (Stored cell) []))))

    pub stored_covers : {height : ℕ} {op : Op} {cell : Cell} {v : Slot} → OpAt p m i op height → Stores p op height cell v → before.slot v ≡ true → Contains items (Stored (cell_number p cell))
    stored_covers o (stores_field {f = g} {k = k} e) t = written (PutField (record { 0 = g })) g (suc k) ((op_same o).0) refl (let h = (op_same o).1 in omega (arith, h, e)) t
    stored_covers o (stores_static {f = g} {k = k} e) t = written (PutStatic (record { 0 = g })) g k ((op_same o).0) refl (let h = (op_same o).1 in omega (arith, h, e)) t
    stored_covers o (stores_reference {k = k} e) t = written (ArrStore R) (code.bag p (rarr_token p)) (suc (suc k)) ((op_same o).0) refl (let h = (op_same o).1 in omega (arith, h, e)) t
    stored_covers o (stores_word {k = k} e) t = written (ArrStore P1) (code.bag p (parr_token p)) (suc (suc k)) ((op_same o).0) refl (let h = (op_same o).1 in omega (arith, h, e)) t
    stored_covers o (stores_pair {k = k} e) t = written (ArrStore P2) (code.bag p (parr_token p)) (suc (suc k)) ((op_same o).0) refl (let h = (op_same o).1 in omega (arith, h, e)) t

    pub taken_covers : {under : ℕ} {call : CallOp} (t : ℕ) → CallAt p m i call under → (told p f).classes (Takes m i t) → put_in before call under ≡ true → Contains items (Stored (code.bag p t))
    taken_covers t at' (inl none) put = absurd none
    taken_covers {under} {call} t at' (inr has) put = in_7 (Stored (code.bag p t))
        (subst (λ (o : Op). Contains (code.takes p f s i o instr.height) (Stored (code.bag p t))) (sym ((op_same at'.at).0))
        (in_if (put_in before call (instr.height - arguments call)) (code.takes_all p (takers_at f.graph m i)) (Stored (code.bag p t)) (ap (put_in before call) same_under ∙ put)
        (in_over (code.takes_by p (takers_at f.graph m i)) 0 (token_count p) t (Stored (code.bag p t)) (omega arith) low
        (in_if (slice_index_or (takers_at f.graph m i) t false) (Stored (code.bag p t) ∷ []) (Stored (code.bag p t)) has (here (Stored (code.bag p t)) [])))))
      where
        same_under : instr.height - arguments call ≡ under
        same_under = let h = (op_same at'.at).1 in let u = at'.under_is in omega (arith, h, u)

        low : t < 0 + token_count p
        low = let lt = absorbs_low p t ((given.graph.takers m i t has).1) in omega (arith, lt)
