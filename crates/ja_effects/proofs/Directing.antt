-- What instructions change themselves.
use Rattle.std.proofs.Common.{◌≡◌, ◌⊎◌, ◌↔◌, inl, inr, ℕ, zero, suc, ◌+◌, ◌-◌, ◌^◌, ◌<◌, ◌≤◌, Bool, true, false, List, [], ◌∷◌, Option, Some, None, length, get_or, refl, sym, ap, subst, ◌∙◌, true≢false, arith}
use Rattle.std.specs.Prelude.{slice_get}
use Rattle.std.proofs.lemmas.Bool.{cases_lt}
use Rattle.std.proofs.lemmas.Option.{same_Some, slice_get_within, get_or_from_slice_get}
use Rattle.ja_base.specs.declared.java_type.Kind.{Kind}
use Rattle.ja_base.specs.declared.id.FieldId.{FieldId}
use Rattle.ja_ir.specs.declared.program.Parts.{Parts}
use Rattle.ja_ir.specs.declared.method.Method.{Method}
use Rattle.ja_ir.specs.declared.method.Instr.{Instr}
use Rattle.ja_ir.specs.declared.op.CallOp.{CallOp}
use Rattle.ja_ir.specs.declared.op.Op.{Op}
use Rattle.ja_ir.specs.declared.op.Op.TheVariants.{ArrStore, PutField, PutStatic, Call}
use Rattle.ja_ir.specs.Lookup.{OpAt, instr_at, code_of}
use Rattle.ja_ir.specs.Operations.{arguments, FindsOperands}
use Rattle.ja_ir.specs.Whole.{IsWhole, Runs}
use Rattle.std.proofs.lemmas.List.Sums.{get_or-le-sum_by}
use Rattle.ja_names.specs.declared.frame.Frame.{Frame}
use Rattle.ja_names.specs.Frames.{IsFrameOf}
use Rattle.ja_names.proofs.Frames.{at-get}
use Rattle.ja_facts.specs.Slots.{Slot, OnStack, argument, CallAt}
use Rattle.ja_facts.specs.ClassSets.{Fact as ClassFact, Reached, CallsLibrary, IsSource}
use Rattle.ja_facts.specs.Sharing.{Root, StaticFields, Name, OfSlot, Old, Writes, writes_field, writes_element, WritesStatic, writes_static, LibraryCall}
use Rattle.ja_facts.specs.Told.{PairHas, EffectHas, IsNamed, named_slot, numbered_stack}
use Rattle.ja_effects.specs.Inner.{Pairs, Direct, writes, writes_statics, by_library, IsSourced, Gains, ReachesSource, DirectBelow, HasDirect}
use Rattle.ja_effects.proofs.Marking.{gains-none, gains-same, gains-both}

-- an instruction of the code of a method
pub instr-in : (p : Parts) (m i : ℕ) (method : Method) (instr : Instr) → slice_get p.methods m ≡ Some method → slice_get method.code i ≡ Some instr → instr_at p m i ≡ Some instr
instr-in p m i method instr found at = ap (λ (o : Option Method). slice_get (code_of o) i) found ∙ at

-- there is one operation at a place
pub one-op : (p : Parts) (m i height : ℕ) (op : Op) (instr : Instr) → instr_at p m i ≡ Some instr → OpAt p m i op height → (op ≡ instr.op) × (height ≡ instr.height)
one-op p m i height op instr found at =
    let same : at.instr ≡ instr = same_Some at.instr instr (sym at.found ∙ found) in
    (sym at.is_op ∙ ap (λ (x : Instr). x.op) same, sym at.is_height ∙ ap (λ (x : Instr). x.height) same)

pub op-at : (p : Parts) (m i : ℕ) (instr : Instr) → instr_at p m i ≡ Some instr → OpAt p m i instr.op instr.height
op-at p m i instr found = record { instr = instr; found = found; is_op = refl; is_height = refl }

-- what each kind of operation writes into
into-field : (op : Op) (height : ℕ) (x v : Slot) (f : FieldId) (k : ℕ) → Writes op height x v → op ≡ PutField f → height ≡ suc (suc k) → x ≡ OnStack k
into-field op height x v f k (writes_field {k = j} e) is h = let same : j ≡ k = omega arith in ap OnStack same
into-field op height x v f k (writes_element e) is h = absurd (cc is)

into-element : (op : Op) (height : ℕ) (x v : Slot) (kind : Kind) (k : ℕ) → Writes op height x v → op ≡ ArrStore kind → height ≡ suc (suc (suc k)) → x ≡ OnStack k
into-element op height x v kind k (writes_field e) is h = absurd (cc is)
into-element op height x v kind k (writes_element {k = j} e) is h = let same : j ≡ k = omega arith in ap OnStack same

no-write : (op : Op) (height : ℕ) (x v : Slot) → Writes op height x v → ((f : FieldId) → op ≡ PutField f → ⊥) → ((kind : Kind) → op ≡ ArrStore kind → ⊥) → ⊥
no-write op height x v (writes_field {f = f} e) field element = field (record { 0 = f }) refl
no-write op height x v (writes_element {kind = kind} e) field element = element kind refl

no-static : (op : Op) (height : ℕ) (v : Slot) → WritesStatic op height v → ((f : FieldId) → op ≡ PutStatic f → ⊥) → ⊥
no-static op height v (writes_static {f = f} e) none = none (record { 0 = f }) refl

module _ (p : Parts) (C : ClassFact → Type 0) (pairs : Pairs) (m i : ℕ) (instr : Instr) (found : instr_at p m i ≡ Some instr) where
  call-is : (under : ℕ) (call : CallOp) → LibraryCall p C m i call under → instr.op ≡ Call call
  call-is under call library = sym (one-op p m i library.at.height (Call call) instr found library.at.at).0

  -- from what is changed back to how
  field-back : (f : FieldId) (k : ℕ) (r : Root) → instr.op ≡ PutField f → instr.height ≡ suc (suc k) → Direct p C pairs m i r → PairHas p pairs m i (OfSlot (OnStack k)) (Old r)
  field-back f k r is h (writes {height = height} {op = op} {x = x} {v = v} at c w pair) =
      let one : (op ≡ instr.op) × (height ≡ instr.height) = one-op p m i height op instr found at in
      subst (λ z. PairHas p pairs m i (OfSlot z) (Old r)) (into-field op height x v f k w (one.0 ∙ is) (one.1 ∙ h)) pair
  field-back f k r is h (writes_statics {height = height} {op = op} {v = v} at c w e) =
      let one : op ≡ instr.op = (one-op p m i height op instr found at).0 in
      absurd (no-static op height v w (λ g e2. cc (is, one, e2)))
  field-back f k r is h (by_library {under = under} {call = call} x library source pair) = let c : instr.op ≡ Call call = call-is under call library in absurd (cc (is, c))

  element-back : (kind : Kind) (k : ℕ) (r : Root) → instr.op ≡ ArrStore kind → instr.height ≡ suc (suc (suc k)) → Direct p C pairs m i r → PairHas p pairs m i (OfSlot (OnStack k)) (Old r)
  element-back kind k r is h (writes {height = height} {op = op} {x = x} {v = v} at c w pair) =
      let one : (op ≡ instr.op) × (height ≡ instr.height) = one-op p m i height op instr found at in
      subst (λ z. PairHas p pairs m i (OfSlot z) (Old r)) (into-element op height x v kind k w (one.0 ∙ is) (one.1 ∙ h)) pair
  element-back kind k r is h (writes_statics {height = height} {op = op} {v = v} at c w e) =
      let one : op ≡ instr.op = (one-op p m i height op instr found at).0 in
      absurd (no-static op height v w (λ g e2. cc (is, one, e2)))
  element-back kind k r is h (by_library {under = under} {call = call} x library source pair) = let c : instr.op ≡ Call call = call-is under call library in absurd (cc (is, c))

  static-back : (f : FieldId) (r : Root) → instr.op ≡ PutStatic f → Direct p C pairs m i r → r ≡ StaticFields
  static-back f r is (writes {height = height} {op = op} {x = x} {v = v} at c w pair) =
      let one : op ≡ instr.op = (one-op p m i height op instr found at).0 in
      absurd (no-write op height x v w (λ g e2. cc (is, one, e2)) (λ kind e2. cc (is, one, e2)))
  static-back f r is (writes_statics at c w e) = e
  static-back f r is (by_library {under = under} {call = call} x library source pair) = let c : instr.op ≡ Call call = call-is under call library in absurd (cc (is, c))

  call-back : (call : CallOp) (under : ℕ) (r : Root) → instr.op ≡ Call call → instr.height ≡ under + arguments call → Direct p C pairs m i r → C (CallsLibrary m i) × IsSourced p pairs m i under call r
  call-back call under r is h (writes {height = height} {op = op} {x = x} {v = v} at c w pair) =
      let one : op ≡ instr.op = (one-op p m i height op instr found at).0 in
      absurd (no-write op height x v w (λ g e2. cc (is, one, e2)) (λ kind e2. cc (is, one, e2)))
  call-back call under r is h (writes_statics {height = height} {op = op} {v = v} at c w e) =
      let one : op ≡ instr.op = (one-op p m i height op instr found at).0 in
      absurd (no-static op height v w (λ g e2. cc (is, one, e2)))
  call-back call under r is h (by_library {under = u} {call = other} x library source pair) =
      let c : instr.op ≡ Call other = call-is u other library in
      let same : other ≡ call = cc (is, c) in
      let height : library.at.height ≡ instr.height = (one-op p m i library.at.height (Call other) instr found library.at.at).1 in
      let args : arguments other ≡ arguments call = ap arguments same in
      let e : u ≡ under = let a = library.at.under_is in omega arith in (
        library.goes,
        record {
          x = x;
          source = subst (λ (z : CallOp). IsSource z x z.row.effect) same source;
          pair = subst (λ z. PairHas p pairs m i (OfSlot (argument z x)) (Old r)) e pair;
        },
      )

  other-back : (r : Root) → ((f : FieldId) → instr.op ≡ PutField f → ⊥) → ((kind : Kind) → instr.op ≡ ArrStore kind → ⊥) → ((f : FieldId) → instr.op ≡ PutStatic f → ⊥) → ((call : CallOp) → instr.op ≡ Call call → ⊥) → Direct p C pairs m i r → ⊥
  other-back r field element static call (writes {height = height} {op = op} {x = x} {v = v} at c w pair) =
      let one : op ≡ instr.op = (one-op p m i height op instr found at).0 in
      no-write op height x v w (λ g e2. field g (sym one ∙ e2)) (λ kind e2. element kind (sym one ∙ e2))
  other-back r field element static call (writes_statics {height = height} {op = op} {v = v} at c w e) =
      let one : op ≡ instr.op = (one-op p m i height op instr found at).0 in
      no-static op height v w (λ g e2. static g (sym one ∙ e2))
  other-back r field element static call (by_library {under = under} {call = other} x library source pair) = call other (call-is under other library)

  -- each kind of operation, both ways
  pub direct-field : (f : FieldId) (k : ℕ) (r : Root) → instr.op ≡ PutField f → instr.height ≡ suc (suc k) → C (Reached m i) → Direct p C pairs m i r ↔ PairHas p pairs m i (OfSlot (OnStack k)) (Old r)
  direct-field f k r is h reached =
      let at : OpAt p m i (PutField f) (suc (suc k)) = record { instr = instr; found = found; is_op = is; is_height = h } in
      (field-back f k r is h, λ pair. writes at reached (writes_field refl) pair)

  pub direct-element : (kind : Kind) (k : ℕ) (r : Root) → instr.op ≡ ArrStore kind → instr.height ≡ suc (suc (suc k)) → C (Reached m i) → Direct p C pairs m i r ↔ PairHas p pairs m i (OfSlot (OnStack k)) (Old r)
  direct-element kind k r is h reached =
      let at : OpAt p m i (ArrStore kind) (suc (suc (suc k))) = record { instr = instr; found = found; is_op = is; is_height = h } in
      (element-back kind k r is h, λ pair. writes at reached (writes_element refl) pair)

  pub direct-static : (f : FieldId) (k : ℕ) (r : Root) → instr.op ≡ PutStatic f → instr.height ≡ suc k → C (Reached m i) → Direct p C pairs m i r ↔ (r ≡ StaticFields)
  direct-static f k r is h reached =
      let at : OpAt p m i (PutStatic f) (suc k) = record { instr = instr; found = found; is_op = is; is_height = h } in
      (static-back f r is, λ e. writes_statics at reached (writes_static refl) e)

  pub direct-call : (call : CallOp) (under : ℕ) (r : Root) → instr.op ≡ Call call → instr.height ≡ under + arguments call → C (Reached m i) → Direct p C pairs m i r ↔ (C (CallsLibrary m i) × IsSourced p pairs m i under call r)
  direct-call call under r is h reached =
      let at : CallAt p m i call under = record { height = instr.height; at = record { instr = instr; found = found; is_op = is; is_height = refl }; under_is = h } in
      (call-back call under r is h, λ both. let s = both.1 in by_library s.x (record { at = at; reached = reached; goes = both.0 }) s.source s.pair)

  pub direct-other : (r : Root) → ((f : FieldId) → instr.op ≡ PutField f → ⊥) → ((kind : Kind) → instr.op ≡ ArrStore kind → ⊥) → ((f : FieldId) → instr.op ≡ PutStatic f → ⊥) → ((call : CallOp) → instr.op ≡ Call call → ⊥) → Direct p C pairs m i r → ⊥
  direct-other = other-back

-- an instruction that is not reached changes nothing
pub direct-reached : (p : Parts) (C : ClassFact → Type 0) (pairs : Pairs) (m i : ℕ) (r : Root) → Direct p C pairs m i r → C (Reached m i)
direct-reached p C pairs m i r (writes at c w pair) = c
direct-reached p C pairs m i r (writes_statics at c w e) = c
direct-reached p C pairs m i r (by_library x library source pair) = library.reached

-- ---- frames and operands

pub runs-at : (p : Parts) (m i : ℕ) (method : Method) (instr : Instr) → IsWhole p → slice_get p.methods m ≡ Some method → slice_get method.code i ≡ Some instr → instr.reached ≡ true → Runs method i instr
runs-at p m i method instr whole found at reached =
    at-get (λ (x : Method). (j : ℕ) (y : Instr) → slice_get x.code j ≡ Some y → y.reached ≡ true → Runs x j y) p.methods m method whole.runs found i instr at reached

module _ (p : Parts) (m i : ℕ) (method : Method) (frame : Frame) (instr : Instr) (whole : IsWhole p) (found : slice_get p.methods m ≡ Some method) (at : slice_get method.code i ≡ Some instr) (reached : instr.reached ≡ true) (is : IsFrameOf method frame) where
  pub height-room : instr.height ≤ frame.stack
  height-room = let h = (runs-at p m i method instr whole found at reached).height in let s = is.stack in omega arith

  pub field-operands : (f : FieldId) → instr.op ≡ PutField f → 2 ≤ instr.height
  field-operands f e = subst (λ (op : Op). FindsOperands op instr.height) e (runs-at p m i method instr whole found at reached).operands

  pub element-operands : (kind : Kind) → instr.op ≡ ArrStore kind → 3 ≤ instr.height
  element-operands kind e = subst (λ (op : Op). FindsOperands op instr.height) e (runs-at p m i method instr whole found at reached).operands

  pub static-operands : (f : FieldId) → instr.op ≡ PutStatic f → 1 ≤ instr.height
  static-operands f e = subst (λ (op : Op). FindsOperands op instr.height) e (runs-at p m i method instr whole found at reached).operands

  pub call-operands : (call : CallOp) → instr.op ≡ Call call → arguments call ≤ instr.height
  call-operands call e = subst (λ (op : Op). FindsOperands op instr.height) e (runs-at p m i method instr whole found at reached).operands

pub stack-named : (method : Method) (frame : Frame) (k n : ℕ) → IsFrameOf method frame → k < frame.stack → n ≡ frame.locals + k → IsNamed method (OfSlot (OnStack k)) n
stack-named method frame k n is lt e = named_slot (numbered_stack k (let s = is.stack in omega arith) (let l = is.locals in omega arith))

pub code-small : (p : Parts) (m : ℕ) (method : Method) → IsWhole p → slice_get p.methods m ≡ Some method → length method.code ≤ 2 ^ 26
code-small p m method whole found =
    let there : m < length p.methods = slice_get_within p.methods m method found in
    let one = get_or-le-sum_by (λ (x : Method). length x.code) p.methods m method there in
    let same : get_or p.methods m method ≡ method = get_or_from_slice_get p.methods m method method found in
    let count : length (get_or p.methods m method).code ≡ length method.code = ap (λ (x : Method). length x.code) same in
    let few = whole.small.instructions in
    omega arith

-- ---- gains of one instruction after another

module _ (p : Parts) (pairs : Pairs) (m i under : ℕ) where
  pub sources-none : (table : List (List Bool)) → Gains p table table (λ n r. (n ≡ m) × ReachesSource p pairs m i under 0 r)
  sources-none table = gains-none p table (λ n r. (n ≡ m) × ReachesSource p pairs m i under 0 r) (λ n s q. absurd (let b = q.1.below in omega arith))

  pub sources-more : (old mid new : List (List Bool)) (x : ℕ) → Gains p old mid (λ n r. (n ≡ m) × ReachesSource p pairs m i under x r) → Gains p mid new (λ n r. (n ≡ m) × PairHas p pairs m i (OfSlot (argument under x)) (Old r))
      → Gains p old new (λ n r. (n ≡ m) × ReachesSource p pairs m i under (x + 1) r)
  sources-more old mid new x first second =
      gains-both p old mid new (λ n r. (n ≡ m) × ReachesSource p pairs m i under x r) (λ n r. (n ≡ m) × PairHas p pairs m i (OfSlot (argument under x)) (Old r)) (λ n r. (n ≡ m) × ReachesSource p pairs m i under (x + 1) r) first second
      (λ n s. (
        λ q. elim (cases_lt q.1.x x) [
          | inl lt ↦ inl (q.0, record { x = q.1.x; below = lt; pair = q.1.pair })
          | inr past ↦ let e : q.1.x ≡ x = let b = q.1.below in omega arith in inr (q.0, subst (λ y. PairHas p pairs m i (OfSlot (argument under y)) (Old s)) e q.1.pair)
        ],
        λ h. elim h [
          | inl q ↦ (q.0, record { x = q.1.x; below = let b = q.1.below in omega arith; pair = q.1.pair })
          | inr q ↦ (q.0, record { x = x; below = omega arith; pair = q.1 })
        ],
      ))

module _ (p : Parts) (C : ClassFact → Type 0) (pairs : Pairs) (m : ℕ) where
  pub below-none : (table : List (List Bool)) → Gains p table table (λ n r. (n ≡ m) × DirectBelow p C pairs m 0 r)
  below-none table = gains-none p table (λ n r. (n ≡ m) × DirectBelow p C pairs m 0 r) (λ n s q. absurd (let b = q.1.below in omega arith))

  pub below-more : (old mid new : List (List Bool)) (i : ℕ) → Gains p old mid (λ n r. (n ≡ m) × DirectBelow p C pairs m i r) → Gains p mid new (λ n r. (n ≡ m) × Direct p C pairs m i r)
      → Gains p old new (λ n r. (n ≡ m) × DirectBelow p C pairs m (i + 1) r)
  below-more old mid new i first second =
      gains-both p old mid new (λ n r. (n ≡ m) × DirectBelow p C pairs m i r) (λ n r. (n ≡ m) × Direct p C pairs m i r) (λ n r. (n ≡ m) × DirectBelow p C pairs m (i + 1) r) first second
      (λ n s. (
        λ q. elim (cases_lt q.1.i i) [
          | inl lt ↦ inl (q.0, record { i = q.1.i; below = lt; direct = q.1.direct })
          | inr past ↦ let e : q.1.i ≡ i = let b = q.1.below in omega arith in inr (q.0, subst (λ j. Direct p C pairs m j s) e q.1.direct)
        ],
        λ h. elim h [
          | inl q ↦ (q.0, record { i = q.1.i; below = let b = q.1.below in omega arith; direct = q.1.direct })
          | inr q ↦ (q.0, record { i = i; below = omega arith; direct = q.1 })
        ],
      ))

  pub direct-op : (i : ℕ) (r : Root) → Direct p C pairs m i r → (instr : Instr) × (instr_at p m i ≡ Some instr)
  direct-op i r (writes at c w pair) = (at.instr, at.found)
  direct-op i r (writes_statics at c w e) = (at.instr, at.found)
  direct-op i r (by_library x library source pair) = (library.at.at.instr, library.at.at.found)

  pub below-all : (old new : List (List Bool)) (method : Method) (size : ℕ) → slice_get p.methods m ≡ Some method → length method.code ≤ size → Gains p old new (λ n r. (n ≡ m) × DirectBelow p C pairs m size r)
      → Gains p old new (λ n r. (n ≡ m) × HasDirect p C pairs m r)
  below-all old new method size found le gains =
      gains-same p old new (λ n r. (n ≡ m) × DirectBelow p C pairs m size r) (λ n r. (n ≡ m) × HasDirect p C pairs m r) gains
      (λ n s. (
        λ q. (q.0, record { i = q.1.i; direct = q.1.direct }),
        λ q.
            let at = direct-op q.1.i s q.1.direct in
            let in_code : slice_get method.code q.1.i ≡ Some at.0 = sym (ap (λ (o : Option Method). slice_get (code_of o) q.1.i) found) ∙ at.1 in
            (q.0, record { i = q.1.i; below = let lt = slice_get_within method.code q.1.i at.0 in_code in omega arith; direct = q.1.direct }),
      ))

-- a method with an instruction is one of the program
code-within : (p : Parts) (n i : ℕ) (instr : Instr) (method : Option Method) → slice_get p.methods n ≡ method → slice_get (code_of method) i ≡ Some instr → n < length p.methods
code-within p n i instr (Some method) e at = slice_get_within p.methods n method e
code-within p n i instr None e at = absurd (cc at)

pub op-within : (p : Parts) (n i : ℕ) (instr : Instr) → instr_at p n i ≡ Some instr → n < length p.methods
op-within p n i instr at = code-within p n i instr (slice_get p.methods n) refl at

module _ (p : Parts) (C : ClassFact → Type 0) (pairs : Pairs) where
  pub methods-none : (table : List (List Bool)) → Gains p table table (λ n r. (n < 0) × HasDirect p C pairs n r)
  methods-none table = gains-none p table (λ n r. (n < 0) × HasDirect p C pairs n r) (λ n s q. absurd (let b = q.0 in omega arith))

  pub methods-more : (old mid new : List (List Bool)) (m : ℕ) → Gains p old mid (λ n r. (n < m) × HasDirect p C pairs n r) → Gains p mid new (λ n r. (n ≡ m) × HasDirect p C pairs m r)
      → Gains p old new (λ n r. (n < m + 1) × HasDirect p C pairs n r)
  methods-more old mid new m first second =
      gains-both p old mid new (λ n r. (n < m) × HasDirect p C pairs n r) (λ n r. (n ≡ m) × HasDirect p C pairs m r) (λ n r. (n < m + 1) × HasDirect p C pairs n r) first second
      (λ n s. (
        λ q. elim (cases_lt n m) [
          | inl lt ↦ inl (lt, q.1)
          | inr past ↦ let e : n ≡ m = let b = q.0 in omega arith in inr (e, subst (λ k. HasDirect p C pairs k s) e q.1)
        ],
        λ h. elim h [
          | inl q ↦ (let b = q.0 in omega arith, q.1)
          | inr q ↦ (let b = q.0 in omega arith, subst (λ k. HasDirect p C pairs k s) (sym q.0) q.1)
        ],
      ))

  pub methods-all : (old new : List (List Bool)) (size : ℕ) → length p.methods ≤ size → Gains p old new (λ n r. (n < size) × HasDirect p C pairs n r) → Gains p old new (λ n r. HasDirect p C pairs n r)
  methods-all old new size le gains =
      gains-same p old new (λ n r. (n < size) × HasDirect p C pairs n r) (λ n r. HasDirect p C pairs n r) gains
      (λ n s. (λ q. q.1, λ q. (let lt = op-within p n q.i (direct-op p C pairs n q.i s q.direct).0 (direct-op p C pairs n q.i s q.direct).1 in omega arith, q)))
