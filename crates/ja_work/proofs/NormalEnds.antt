-- The clauses of a normal end hold exactly where its definition does, at each slot.
use Rattle.std.proofs.Common.{◌≡◌, ℕ, suc, ◌+◌, ◌-◌, ◌<◌, ◌≤◌, Bool, true, false, refl, sym, ap, ◌∙◌, subst, arith, List, length}
use Rattle.std.specs.Prelude.{◌||◌, nat_lt, nat_eq, if◌then◌else◌, Option, Some, None, slice_get, slice_index}
use Rattle.std.proofs.lemmas.Bool.{eqb-true, eqb-false, eq-eqb, ne_eqb, ltb-true, ltb-false, lt-ltb, le-ltb}
use Rattle.std.proofs.lemmas.Option.{slice_get_within, slice_get-get_or, get_or_from_slice_get}
use Rattle.ja_base.specs.declared.java_type.Kind.{Kind}
use Rattle.ja_base.specs.declared.java_type.JavaType.{JavaType}
use Rattle.ja_ir.specs.declared.op.CallOp.{CallOp}
use Rattle.ja_ir.specs.declared.op.Op.{Op}
use Rattle.ja_ir.specs.declared.op.Op.TheVariants.{Const, Text, New, Load, Store, ArrLoad, ArrStore, Shuffle, Mix, GetStatic, GetField, PutField, Call, NewArray, ArrLen, Cast, InstanceOf}
use Rattle.ja_ir.specs.Operations.{arguments, pops, pushes, height_after, FindsOperands, result_count}
use Rattle.ja_facts.specs.Slots.{Slot, Local as InLocal, OnStack as InStack, Copies, KeepsLocal, kept_local, kept_stack, loaded, stored, shuffled, checked}
use Rattle.ja_facts.specs.Sharing.{OfSlot, Writes, writes_field, writes_element, Makes, makes_text, makes_object, makes_array}
use Rattle.ja_facts.specs.Analyses.{Analyses}
use Rattle.ja_facts.specs.Reaching.{ReachAt}
use Rattle.ja_facts.specs.Formulas as formula
use Rattle.ja_facts.specs.Formulas.{Assignment, Implies, any_stacked, put_in, MeetsSource, Loads, loads_field, loads_element, Turns, copied, above, constant, made, measured, tested, mixed, loaded as read_loaded, static_loaded, written, absorbed, answered}
use Rattle.ja_work.specs.declared.clause.Spot.TheVariants.{Local, OnStack}
use Rattle.ja_work.specs.Clauses.{spot_of, fits, never, moved}
use Rattle.ja_work.specs.Ends.{Tests, AreTests, local_after, changed, pushed, stacked_after, normal_clauses, answer, answer_of}
use Rattle.ja_work.proofs.Fitting.{exact_fits, fits_exact, moved_fits, fits_moved, constant_fits, fits_constant, at_most_fits, fits_at_most, value_spot}
use Rattle.ja_work.proofs.Kept.{keeps_fit, written_fits, absorbed_fits, fit_turns}
use Rattle.ja_work.proofs.LibraryAnswers.{answer_fits_as, fits_answer}

-- what an operation takes is there
pub takes : (op : Op) (height : ℕ) → FindsOperands op height → pops op ≤ height
takes (Shuffle n values) height finds = finds.0
takes op height finds = finds

-- the operation may change slots that it leaves where they are
abbrev IsChanging : Op → Type 0
IsChanging (PutField f) = Unit {0}
IsChanging (ArrStore kind) = Unit {0}
IsChanging (Call call) = Unit {0}
IsChanging _ = ⊥

-- such an operation leaves on the stack where it is what lies under its operands
stays : (op : Op) (height k : ℕ) (z y : Slot) → IsChanging op → y ≡ InStack k → Copies op height z y → k < height - pops op
stays op height k z y changing e (kept_local keeps) = absurd (cc e)
stays op height k z y changing e (kept_stack {k = j} lt) = let same : j ≡ k = cc e in omega arith
stays op height k z y changing e loaded = absurd changing
stays op height k z y changing e (stored h) = absurd (cc e)
stays op height k z y changing e (shuffled under j l h got) = absurd changing
stays op height k z y changing e (checked h) = absurd changing

module _ (A : Analyses) (m i : ℕ) (tests : Tests) (told : AreTests A m i tests) (b : Assignment) where
  left_fits : (op : Op) (height k : ℕ) (t : Bool) → k < height - pops op → fits (changed tests op height (InStack k)) b t ≡ true → fits (normal_clauses tests op height (spot_of (InStack k))) b t ≡ true
  left_fits op height k t lt f = subst (λ c. fits (stacked_after c (nat_lt k (height_after op height)) tests op height k) b t ≡ true) (sym (lt-ltb k (height - pops op) lt)) f

  pushed_fits : (op : Op) (height k : ℕ) (t : Bool) → height - pops op ≤ k → k < height_after op height → fits (pushed op height (k - (height - pops op))) b t ≡ true → fits (normal_clauses tests op height (spot_of (InStack k))) b t ≡ true
  pushed_fits op height k t le lt f =
      subst (λ c. fits (stacked_after c (nat_lt k (height_after op height)) tests op height k) b t ≡ true) (sym (le-ltb k (height - pops op) le))
      (subst (λ c. fits (stacked_after false c tests op height k) b t ≡ true) (sym (lt-ltb k (height_after op height) lt)) f)

  above_fits : (op : Op) (height k : ℕ) → height_after op height ≤ k → fits (normal_clauses tests op height (spot_of (InStack k))) b false ≡ true
  above_fits op height k le =
      let low : height - pops op ≤ k = omega arith in
      subst (λ c. fits (stacked_after c (nat_lt k (height_after op height)) tests op height k) b false ≡ true) (sym (le-ltb k (height - pops op) low))
      (subst (λ c. fits (stacked_after false c tests op height k) b false ≡ true) (sym (le-ltb k (height_after op height) le)) (constant_fits false b false refl))

  -- a local that is not stored to
  local_fits : (op : Op) (height l : ℕ) → KeepsLocal op l → fits (local_after tests op height l) b (b.slot (InLocal l)) ≡ true
  local_fits (Store kind x) height l apart =
      subst (λ c. fits (if c then moved (OnStack (height - 1)) else moved (Local l)) b (b.slot (InLocal l)) ≡ true) (sym (ne_eqb l x apart)) (moved_fits b (Local l) (b.slot (InLocal l)) refl)
  local_fits op height l keeps = keeps_fit A m i tests told b op height (InLocal l)

  copies_fit : (op : Op) (height : ℕ) (z y : Slot) → FindsOperands op height → Copies op height z y → fits (normal_clauses tests op height (spot_of y)) b (b.slot z) ≡ true
  copies_fit op height z y finds (kept_local {l = l} keeps) = local_fits op height l keeps
  copies_fit op height z y finds (kept_stack {k = k} lt) = left_fits op height k (b.slot (InStack k)) (omega arith) (keeps_fit A m i tests told b op height (InStack k))
  copies_fit op height z y finds (loaded {kind = kind} {l = l}) =
      pushed_fits (Load kind l) height height (b.slot (InLocal l)) (omega arith) (omega arith) (moved_fits b (Local l) (b.slot (InLocal l)) refl)
  copies_fit op height z y finds (stored {kind = kind} {l = l} {k = k} h) =
      subst (λ c. fits (if c then moved (OnStack (height - 1)) else moved (Local l)) b (b.slot (InStack k)) ≡ true) (sym (eq-eqb l l refl))
      (moved_fits b (OnStack (height - 1)) (b.slot (InStack k)) (ap (λ n. b.slot (InStack n)) (omega arith)))
  copies_fit op height z y finds (shuffled {n = n} {pushed = values} under j k h got) =
      let within : j < length values = slice_get_within values j k got in
      pushed_fits (Shuffle n values) height (under + j) (b.slot (InStack (under + k))) (omega arith) (omega arith)
      (moved_fits b (OnStack (height - n + slice_index values ((under + j) - (height - n)))) (b.slot (InStack (under + k)))
      (ap (λ x. b.slot (InStack x)) (let at : (under + j) - (height - n) ≡ j = omega arith in let is : slice_index values j ≡ k = get_or_from_slice_get values j k 0 got in let here : slice_index values ((under + j) - (height - n)) ≡ k = ap (λ x. slice_index values x) at ∙ is in omega arith)))
  copies_fit op height z y finds (checked {name = name} {k = k} h) =
      pushed_fits (Cast name) height k (b.slot (InStack k)) (omega arith) (omega arith) (moved_fits b (OnStack (height - 1)) (b.slot (InStack k)) (ap (λ x. b.slot (InStack x)) (omega arith)))

  -- where a slot stays where it is, its clause is the one of a slot that is left
  left_is : (op : Op) (height : ℕ) (y : Slot) (t : Bool) → IsChanging op → Copies op height y y → fits (changed tests op height y) b t ≡ true → fits (normal_clauses tests op height (spot_of y)) b t ≡ true
  left_is op height (InLocal l) t changing c f = subst (λ x. fits x b t ≡ true) (sym (local_is op height l changing)) f
    where
      local_is : (o : Op) (h x : ℕ) → IsChanging o → local_after tests o h x ≡ changed tests o h (InLocal x)
      local_is (PutField f) h x is = refl
      local_is (ArrStore kind) h x is = refl
      local_is (Call call) h x is = refl
      local_is _ h x none = absurd none
  left_is op height (InStack k) t changing c f = left_fits op height k t (stays op height k (InStack k) (InStack k) changing refl c) f

  write_fits : (op : Op) (height : ℕ) (x v y : Slot) (t : Bool) → Writes op height x v → Copies op height y y → A.reach (ReachAt m i (OfSlot y) x) → Implies t (b.slot y || b.slot v)
      → fits (normal_clauses tests op height (spot_of y)) b t ≡ true
  write_fits op height x v y t (writes_field {f = f} {k = k} h) c reach implied =
      left_is (PutField (record { 0 = f })) height y t tt c (written_fits A m i tests told b height y t (height - 2) (suc k) (omega arith) ((told.reaches y (InStack (height - 2))).1 (subst (λ n. A.reach (ReachAt m i (OfSlot y) (InStack n))) (omega arith) reach)) implied)
  write_fits op height x v y t (writes_element {kind = kind} {k = k} h) c reach implied =
      left_is (ArrStore kind) height y t tt c (written_fits A m i tests told b height y t (height - 3) (suc (suc k)) (omega arith) ((told.reaches y (InStack (height - 3))).1 (subst (λ n. A.reach (ReachAt m i (OfSlot y) (InStack n))) (omega arith) reach)) implied)

  make_fits : (op : Op) (height : ℕ) (r : Slot) → FindsOperands op height → Makes op height r → fits (normal_clauses tests op height (spot_of r)) b false ≡ true
  make_fits op height r finds makes_text = pushed_fits Text height height false (omega arith) (omega arith) (constant_fits false b false refl)
  make_fits op height r finds (makes_object {t = t}) = pushed_fits (New (record { 0 = t })) height height false (omega arith) (omega arith) (constant_fits false b false refl)
  make_fits op height r finds (makes_array {last = last} {dimensions = dimensions} {under = under} h) =
      pushed_fits (NewArray (record { 0 = last }) dimensions) height under false (omega arith) (omega arith) (constant_fits false b false refl)

  read_fits : (op : Op) (height : ℕ) (x r : Slot) (t : Bool) → FindsOperands op height → Loads op height x r → Implies t (b.slot x) → fits (normal_clauses tests op height (spot_of r)) b t ≡ true
  read_fits op height x r t finds (loads_field {f = f} {k = k} h) implied =
      pushed_fits (GetField (record { 0 = f })) height k t (omega arith) (omega arith) (at_most_fits b (OnStack (height - 1)) t (λ e. ap (λ n. b.slot (InStack n)) (omega arith) ∙ implied e))
  read_fits op height x r t finds (loads_element {kind = kind} {k = k} h) implied =
      pushed_fits (ArrLoad kind) height k t (omega arith) (omega arith) (at_most_fits b (OnStack (height - 2)) t (λ e. ap (λ n. b.slot (InStack n)) (omega arith) ∙ implied e))

  absorb_fits : (call : CallOp) (height under : ℕ) (y : Slot) (t : Bool) → height ≡ under + arguments call → Copies (Call call) height y y → MeetsSource A m i call under y → Implies t (b.slot y || put_in b call under)
      → fits (normal_clauses tests (Call call) height (spot_of y)) b t ≡ true
  absorb_fits call height under y t h c meets implied =
      let at : under ≡ height - arguments call = omega arith in
      left_is (Call call) height y t tt c (absorbed_fits A m i tests told b call height y t (subst (λ u. MeetsSource A m i call u y) at meets) (subst (λ u. Implies t (b.slot y || put_in b call u)) at implied))

  answer_fits : (call : CallOp) (height under : ℕ) (type : JavaType) (t : Bool) → height ≡ under + arguments call → call.result ≡ Some type → Implies t (formula.answer_of type.kind b call under)
      → fits (normal_clauses tests (Call call) height (spot_of (InStack under))) b t ≡ true
  answer_fits call height under type t h has implied =
      let at : under ≡ height - arguments call = omega arith in
      let one : result_count call.result ≡ 1 = ap (λ (o : Option JavaType). result_count o) has in
      pushed_fits (Call call) height under t (omega arith) (omega arith)
      (subst (λ o. fits (answer o call (height - arguments call)) b t ≡ true) (sym has)
      (typed type.kind (height - arguments call) (subst (λ u. Implies t (formula.answer_of type.kind b call u)) at implied)))
    where
      typed : (kind : Kind) (u : ℕ) → Implies t (formula.answer_of kind b call u) → fits (answer_of kind call u) b t ≡ true
      typed kind u j = answer_fits_as b u kind call t j

  -- what the definition lets a slot be, its clause does
  pub turns_fit : (op : Op) (height : ℕ) (y : Slot) (t : Bool) → FindsOperands op height → Turns A m i b op height y t → fits (normal_clauses tests op height (spot_of y)) b t ≡ true
  turns_fit op height y t finds (copied {z = z} c) = copies_fit op height z y finds c
  turns_fit op height y t finds (above {k = k} le) = above_fits op height k le
  turns_fit op height y t finds (constant {kind = kind}) = pushed_fits (Const kind) height height false (omega arith) (omega arith) (constant_fits false b false refl)
  turns_fit op height y t finds (made makes) = make_fits op height y finds makes
  turns_fit op height y t finds (measured {k = k} h) = pushed_fits ArrLen height k false (omega arith) (omega arith) (constant_fits false b false refl)
  turns_fit op height y t finds (tested {k = k} h) = pushed_fits InstanceOf height k false (omega arith) (omega arith) (constant_fits false b false refl)
  turns_fit op height y t finds (mixed {n = n} {under = under} {kind = kind} {throws = throws} h) =
      pushed_fits (Mix n kind throws) height under (any_stacked b under n) (omega arith) (omega arith)
      (exact_fits (any_stacked b (height - n) n) (any_stacked b under n) (ap (λ u. any_stacked b u n) (omega arith)))
  turns_fit op height y t finds (read_loaded {x = x} loads implied) = read_fits op height x y t finds loads implied
  turns_fit op height y t finds (static_loaded {f = f}) = pushed_fits (GetStatic (record { 0 = f })) height height t (omega arith) (omega arith) refl
  turns_fit op height y t finds (written {x = x} {v = v} w c reach implied) = write_fits op height x v y t w c reach implied
  turns_fit op height y t finds (absorbed {call = call} under h c meets implied) = absorb_fits call height under y t h c meets implied
  turns_fit op height y t finds (answered {call = call} {type = type} under h has implied) = answer_fits call height under type t h has implied

  local_turns : (op : Op) (height l : ℕ) (t : Bool) → FindsOperands op height → fits (local_after tests op height l) b t ≡ true → Turns A m i b op height (InLocal l) t
  local_turns (Store kind x) height l t finds f = by_local (nat_eq l x) refl f
    where
      by_local : (c : Bool) → nat_eq l x ≡ c → fits (if c then moved (OnStack (height - 1)) else moved (Local l)) b t ≡ true → Turns A m i b (Store kind x) height (InLocal l) t
      by_local true e g =
          let here : x ≡ l = sym (eqb-true l x e) in
          let copy : Turns A m i b (Store kind x) height (InLocal x) (b.slot (InStack (height - 1))) = copied (stored (omega arith)) in
          subst (λ n. Turns A m i b (Store kind x) height (InLocal n) t) here (subst (Turns A m i b (Store kind x) height (InLocal x)) (sym (fits_moved b (OnStack (height - 1)) t g)) copy)
      by_local false e g = subst (Turns A m i b (Store kind x) height (InLocal l)) (sym (fits_moved b (Local l) t g)) (copied (kept_local (eqb-false l x e)))
  local_turns (Shuffle n values) height l t finds f = fit_turns A m i tests told b (Shuffle n values) height (InLocal l) t finds.0 (kept_local tt) f
  local_turns op height l t finds f = fit_turns A m i tests told b op height (InLocal l) t finds (kept_local tt) f

  -- at the slot over what is left
  at_top : (op : Op) (height k : ℕ) (t : Bool) → k ≡ height - pops op → Turns A m i b op height (InStack (height - pops op)) t → Turns A m i b op height (InStack k) t
  at_top op height k t e turns = subst (λ n. Turns A m i b op height (InStack n) t) (sym e) turns

  at_height : (op : Op) (height : ℕ) {t : Bool} → height ≡ height - pops op → Turns A m i b op height (InStack height) t → Turns A m i b op height (InStack (height - pops op)) t
  at_height op height {t = t} e turns = subst (λ n. Turns A m i b op height (InStack n) t) e turns

  never_at : (op : Op) (height k : ℕ) (t : Bool) → k ≡ height - pops op → fits never b t ≡ true → Turns A m i b op height (InStack (height - pops op)) false → Turns A m i b op height (InStack k) t
  never_at op height k t e f turns = at_top op height k t e (subst (Turns A m i b op height (InStack (height - pops op))) (sym (fits_constant false b t f)) turns)

  moved_at : (op : Op) (height k x : ℕ) (s : Slot) (t : Bool) → k ≡ height - pops op → fits (moved (spot_of s)) b t ≡ true → Turns A m i b op height (InStack (height - pops op)) (b.slot s) → Turns A m i b op height (InStack k) t
  moved_at op height k x s t e f turns = at_top op height k t e (subst (Turns A m i b op height (InStack (height - pops op))) (sym (fits_moved b (spot_of s) t f ∙ value_spot b s)) turns)

  shuffle_turns : (n : ℕ) (values : List ℕ) (height k : ℕ) (t : Bool) → n ≤ height → height - n ≤ k → k < (height - n) + length values
      → fits (moved (OnStack (height - n + slice_index values (k - (height - n))))) b t ≡ true → Turns A m i b (Shuffle n values) height (InStack k) t
  shuffle_turns n values height k t le low high f =
      let j : ℕ = k - (height - n) in
      let x : ℕ = slice_index values j in
      let got : slice_get values j ≡ Some x = slice_get-get_or values j 0 (omega arith) in
      let copy : Turns A m i b (Shuffle n values) height (InStack ((height - n) + j)) (b.slot (InStack ((height - n) + x))) = copied (shuffled (height - n) j x (omega arith) got) in
      subst (λ y. Turns A m i b (Shuffle n values) height (InStack y) t) (omega arith)
      (subst (Turns A m i b (Shuffle n values) height (InStack ((height - n) + j))) (sym (fits_moved b (OnStack ((height - n) + x)) t f)) copy)

  answer_turns : (call : CallOp) (height k : ℕ) (t : Bool) → arguments call ≤ height → height - arguments call ≤ k → k < (height - arguments call) + result_count call.result
      → fits (answer call.result call (height - arguments call)) b t ≡ true → Turns A m i b (Call call) height (InStack k) t
  answer_turns call height k t le low high f = by_result call.result refl high f
    where
      by_result : (o : Option JavaType) → call.result ≡ o → k < (height - arguments call) + result_count o → fits (answer o call (height - arguments call)) b t ≡ true → Turns A m i b (Call call) height (InStack k) t
      by_result None e lt g = absurd (omega arith)
      by_result (Some type) e lt g = at_top (Call call) height k t (omega arith) (answered (height - arguments call) (omega arith) e (fits_answer b (height - arguments call) type.kind call t g))

  nothing_pushed : (height k : ℕ) (op : Op) (t : Bool) → pushes op ≡ 0 → height - pops op ≤ k → k < height_after op height → Turns A m i b op height (InStack k) t
  nothing_pushed height k op t none low high = absurd (omega arith)

  pushed_turns : (op : Op) (height k : ℕ) (t : Bool) → FindsOperands op height → height - pops op ≤ k → k < height_after op height → fits (pushed op height (k - (height - pops op))) b t ≡ true
      → Turns A m i b op height (InStack k) t
  pushed_turns (Const kind) height k t finds low high f = never_at (Const kind) height k t (omega arith) f (at_height (Const kind) height (omega arith) constant)
  pushed_turns Text height k t finds low high f = never_at Text height k t (omega arith) f (at_height Text height (omega arith) (made makes_text))
  pushed_turns (New token) height k t finds low high f = never_at (New token) height k t (omega arith) f (at_height (New token) height (omega arith) (made makes_object))
  pushed_turns (NewArray last n) height k t finds low high f = never_at (NewArray last n) height k t (omega arith) f (made (makes_array (omega arith)))
  pushed_turns ArrLen height k t finds low high f = never_at ArrLen height k t (omega arith) f (measured (omega arith))
  pushed_turns InstanceOf height k t finds low high f = never_at InstanceOf height k t (omega arith) f (tested (omega arith))
  pushed_turns (Load kind l) height k t finds low high f = moved_at (Load kind l) height k 0 (InLocal l) t (omega arith) f (at_height (Load kind l) height (omega arith) (copied loaded))
  pushed_turns (Cast name) height k t finds low high f = moved_at (Cast name) height k 0 (InStack (height - 1)) t (omega arith) f (copied (checked (omega arith)))
  pushed_turns (Shuffle n values) height k t finds low high f = shuffle_turns n values height k t finds.0 low high f
  pushed_turns (Mix n kind throws) height k t finds low high f =
      at_top (Mix n kind throws) height k t (omega arith)
      (subst (Turns A m i b (Mix n kind throws) height (InStack (height - n))) (sym (fits_exact (any_stacked b (height - n) n) t f)) (mixed (omega arith)))
  pushed_turns (GetField field) height k t finds low high f =
      at_top (GetField field) height k t (omega arith) (read_loaded (loads_field (omega arith)) (fits_at_most b (OnStack (height - 1)) t f))
  pushed_turns (ArrLoad kind) height k t finds low high f =
      at_top (ArrLoad kind) height k t (omega arith) (read_loaded (loads_element (omega arith)) (fits_at_most b (OnStack (height - 2)) t f))
  pushed_turns (GetStatic field) height k t finds low high f = at_top (GetStatic field) height k t (omega arith) (at_height (GetStatic field) height (omega arith) static_loaded)
  pushed_turns (Call call) height k t finds low high f = answer_turns call height k t finds low high f
  pushed_turns op height k t finds low high f = nothing_pushed height k op t refl low high

  -- what the clause lets a slot be, the definition does
  pub normal_turns : (op : Op) (height : ℕ) (y : Slot) (t : Bool) → FindsOperands op height → fits (normal_clauses tests op height (spot_of y)) b t ≡ true → Turns A m i b op height y t
  normal_turns op height (InLocal l) t finds f = local_turns op height l t finds f
  normal_turns op height (InStack k) t finds f = by_place (nat_lt k (height - pops op)) (nat_lt k (height_after op height)) refl refl f
    where
      by_place : (left top : Bool) → nat_lt k (height - pops op) ≡ left → nat_lt k (height_after op height) ≡ top → fits (stacked_after left top tests op height k) b t ≡ true → Turns A m i b op height (InStack k) t
      by_place true top e d g =
          let lt : k < height - pops op = ltb-true k (height - pops op) e in
          fit_turns A m i tests told b op height (InStack k) t (takes op height finds) (kept_stack (omega arith)) g
      by_place false true e d g = pushed_turns op height k t finds (ltb-false k (height - pops op) e) (ltb-true k (height_after op height) d) g
      by_place false false e d g = subst (Turns A m i b op height (InStack k)) (sym (fits_constant false b t g)) (above (ltb-false k (height_after op height) d))
