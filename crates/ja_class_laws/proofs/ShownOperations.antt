-- What class sets say of what operations make, take and throw is told by the network.
use Rattle.std.proofs.Common.{◌≡◌, ℕ, zero, suc, ◌+◌, ◌<◌, Bool, true, false, List, [], ◌∷◌, Option, Some, None, length, refl, sym, ap, subst, ◌∙◌, arith}
use Rattle.std.specs.Prelude.{Contains, All, slice_get, if◌then◌else◌}
use Rattle.ja_base.specs.declared.java_type.Kind.{Kind}
use Rattle.ja_base.specs.declared.java_type.Kind.TheVariants.{R}
use Rattle.ja_ir.specs.declared.program.Parts.{Parts}
use Rattle.ja_ir.specs.declared.class.ClassInfo.{ClassInfo}
use Rattle.ja_ir.specs.declared.method.Method.{Method}
use Rattle.ja_ir.specs.declared.op.Op.{Op}
use Rattle.ja_ir.specs.declared.op.Op.TheVariants.{Text, New, NewArray, ArrLoad, ArrStore, Return, GetStatic, PutStatic, GetField, PutField, Throw}
use Rattle.ja_ir.specs.Lookup.{OpAt, Leads, is_abstract, is_interface}
use Rattle.ja_ir.specs.Tokens.{lib_token, text_token, rarr_token}
use Rattle.ja_ir.specs.Handlers.{Place, Inside, Outside, dest, dest_among, handlers_of}
use Rattle.ja_ir.specs.Whole.{IsWhole, NamesAll, NamesOperands}
use Rattle.ja_facts.specs.Least.{Each}
use Rattle.ja_facts.specs.ClassTables.{token_count, throws_some}
use Rattle.ja_facts.specs.Slots.{Local, OnStack}
use Rattle.ja_facts.specs.ClassSets as class_sets
use Rattle.ja_facts.specs.ClassSets.{CanBeMade, IsOuter, IsInner, ThrowsLibrary}
use Rattle.ja_network.specs.declared.cell.Cell.{Cell}
use Rattle.ja_network.specs.declared.cell.Cell.TheVariants.{Nothing, Single, Field, Bag, Answer, Out, Thrown, Before}
use Rattle.ja_network.specs.declared.cell.Action.TheVariants.{Throw as Throws}
use Rattle.ja_network.specs.declared.cell.Event.TheVariants.{Reached}
use Rattle.ja_network.specs.Facts.{HasToken, Happens as ItHappens}
use Rattle.ja_cells.specs.Names.{Names, AreNames, row_at, locals_of, slot_number}
use Rattle.ja_cells.specs.Rows.{is_made, made_cell, outer_token, cell_in}
use Rattle.ja_constraints.specs.Links.{link, copy, throws_library}
use Rattle.ja_constraints.specs.Operations.{makes, fills_array, may_throw_library, raises_library}
use Rattle.ja_firing.specs.Tokens.{keeps, goes_out, goes_each, thrown}
use Rattle.ja_class_laws.proofs.Lists.{each-left, each-right, each-when, over-at, all-at}
use Rattle.ja_class_laws.proofs.Frames.{IsAt, IsSlot, MayThrow, instr-method, is-op}
use Rattle.ja_class_laws.proofs.Telling.{Net, Told, below, fired, copied}
use Rattle.ja_class_laws.proofs.Arriving.{Held, at-of, tells-raises, tells-does, number-below, handler-cell, pushes-to}

is-made-told : (o : Option ClassInfo) → ((class : ClassInfo) → o ≡ Some class → (is_abstract class.flags ≡ false) × (is_interface class.flags ≡ false)) → is_made o ≡ true
is-made-told None h = refl
is-made-told (Some class) h =
    let both = h class refl in
    ap (λ (b : Bool). if b then false else (if is_interface class.flags then false else true)) both.0 ∙ ap (λ (b : Bool). if b then false else true) both.1

outer-is : (p : Parts) (last dimensions t : ℕ) → IsOuter p last dimensions t → t ≡ outer_token p last dimensions
outer-is p last zero _ (class_sets.single le) = refl
outer-is p last (suc zero) _ (class_sets.single le) = refl
outer-is p last (suc (suc n)) _ (class_sets.single le) = absurd (omega arith)
outer-is p last zero _ (class_sets.nested le) = absurd (omega arith)
outer-is p last (suc zero) _ (class_sets.nested le) = absurd (omega arith)
outer-is p last (suc (suc n)) _ (class_sets.nested le) = refl

throws-library-told : (op : Op) → ThrowsLibrary op → may_throw_library op ≡ true
throws-library-told Throw h = refl
throws-library-told op h = h

module _ (p : Parts) (names : Names) (whole : IsWhole p) (right : AreNames p names) where
  operands : (m i height : ℕ) (op : Op) → OpAt p m i op height → NamesOperands p op
  operands m i height op at =
      let found = instr-method p m i at.instr at.found in
      subst (NamesOperands p) at.is_op (all-at (NamesAll p (length found.0.code)) found.0.code i at.instr (all-at (λ (x : Method). All (NamesAll p (length x.code)) x.code) p.methods m found.0 whole.instructions found.1) found.2).operands

  -- ---- what is made

  pub text-made : (m i j height : ℕ) → Net p names (ItHappens (Reached m i)) → OpAt p m i Text height → Leads p m i j → IsSlot p m j (OnStack height) → Held p names m j (OnStack height) (text_token p)
  text-made m i j height r at leads s =
      let there : Net p names (HasToken (Single (text_token p)) (text_token p)) = (tells-does p names whole right m i height Text r at).0 (omega arith) in
      pushes-to p names whole right m i j height height Text r at leads refl (omega arith) (omega arith) s (text_token p) there

  pub new-made : (m i j height t : ℕ) → Net p names (ItHappens (Reached m i)) → OpAt p m i (New (record { 0 = t })) height → Leads p m i j → CanBeMade p t → IsSlot p m j (OnStack height) → Held p names m j (OnStack height) t
  new-made m i j height t r at leads can s =
      let is : is_made (slice_get p.classes t) ≡ true = is-made-told (slice_get p.classes t) can in
      let named : t < length p.classes + 4 = operands m i height (New (record { 0 = t })) at in
      let there : Net p names (HasToken (Single t) t) = (each-when (Told p names) (is_made (slice_get p.classes t)) (makes t) is (tells-does p names whole right m i height (New (record { 0 = t })) r at)).0 named in
      let cell : made_cell p t ≡ Single t = ap (λ (b : Bool). if b then Single t else Nothing) is in
      pushes-to p names whole right m i j height height (New (record { 0 = t })) r at leads refl (omega arith) (omega arith) s t (subst (λ (c : Cell). Net p names (HasToken c t)) (sym cell) there)

  outer-below : (last dimensions : ℕ) → last < token_count p → outer_token p last dimensions < token_count p
  outer-below last zero lt = lt
  outer-below last (suc zero) lt = lt
  outer-below last (suc (suc n)) lt = omega arith

  pub array-made : (m i j height under dimensions last t : ℕ) → Net p names (ItHappens (Reached m i)) → OpAt p m i (NewArray (record { 0 = last }) dimensions) height → Leads p m i j → height ≡ under + dimensions
      → IsOuter p last dimensions t → IsSlot p m j (OnStack under) → Held p names m j (OnStack under) t
  array-made m i j height under dimensions last t r at leads lies outer s =
      let named : last < length p.classes + 4 = operands m i height (NewArray (record { 0 = last }) dimensions) at in
      let there : Net p names (HasToken (Single (outer_token p last dimensions)) (outer_token p last dimensions)) =
      (tells-does p names whole right m i height (NewArray (record { 0 = last }) dimensions) r at).0 (outer-below last dimensions named) in
      let same : t ≡ outer_token p last dimensions = outer-is p last dimensions t outer in
      pushes-to p names whole right m i j height under (NewArray (record { 0 = last }) dimensions) r at leads refl (omega arith) (omega arith) s t
      (subst (λ n. Net p names (HasToken (Single (outer_token p last dimensions)) n)) (sym same) there)

  fills-told : (last dimensions t : ℕ) → last < token_count p → IsInner p last dimensions t → Each (Told p names) (fills_array p last dimensions) → Net p names (HasToken (Bag (rarr_token p)) t)
  fills-told last zero _ lt (class_sets.innermost le) h = absurd (omega arith)
  fills-told last (suc zero) _ lt (class_sets.innermost le) h = absurd (omega arith)
  fills-told last (suc (suc zero)) _ lt (class_sets.innermost le) h = h.0 lt
  fills-told last (suc (suc (suc n))) _ lt (class_sets.innermost le) h = h.0 lt
  fills-told last zero _ lt (class_sets.between le) h = absurd (omega arith)
  fills-told last (suc zero) _ lt (class_sets.between le) h = absurd (omega arith)
  fills-told last (suc (suc zero)) _ lt (class_sets.between le) h = absurd (omega arith)
  fills-told last (suc (suc (suc n))) _ lt (class_sets.between le) h = h.1.0 (omega arith)

  pub array-filled : (m i height dimensions last t : ℕ) → Net p names (ItHappens (Reached m i)) → OpAt p m i (NewArray (record { 0 = last }) dimensions) height → IsInner p last dimensions t → Net p names (HasToken (Bag (rarr_token p)) t)
  array-filled m i height dimensions last t r at inner = fills-told last dimensions t (operands m i height (NewArray (record { 0 = last }) dimensions) at) inner (tells-does p names whole right m i height (NewArray (record { 0 = last }) dimensions) r at).1

  -- ---- fields and arrays

  pub field-got : (m i j f t k : ℕ) → Net p names (ItHappens (Reached m i)) → OpAt p m i (GetField (record { 0 = f })) (suc k) → Leads p m i j → IsSlot p m j (OnStack k) → Net p names (HasToken (Field f) t) → Held p names m j (OnStack k) t
  field-got m i j f t k r at leads s h = pushes-to p names whole right m i j (suc k) k (GetField (record { 0 = f })) r at leads refl (omega arith) (omega arith) s t h

  pub static-got : (m i j f t height : ℕ) → Net p names (ItHappens (Reached m i)) → OpAt p m i (GetStatic (record { 0 = f })) height → Leads p m i j → IsSlot p m j (OnStack height) → Net p names (HasToken (Field f) t)
      → Held p names m j (OnStack height) t
  static-got m i j f t height r at leads s h = pushes-to p names whole right m i j height height (GetStatic (record { 0 = f })) r at leads refl (omega arith) (omega arith) s t h

  pub element-got : (m i j t k : ℕ) → Net p names (ItHappens (Reached m i)) → OpAt p m i (ArrLoad R) (suc (suc k)) → Leads p m i j → IsSlot p m j (OnStack k) → Net p names (HasToken (Bag (rarr_token p)) t) → Held p names m j (OnStack k) t
  element-got m i j t k r at leads s h = pushes-to p names whole right m i j (suc (suc k)) k (ArrLoad R) r at leads refl (omega arith) (omega arith) s t h

  pub field-put : (m i f t k : ℕ) → Net p names (ItHappens (Reached m i)) → OpAt p m i (PutField (record { 0 = f })) (suc (suc k)) → Net p names (HasToken (cell_in (row_at names m i) (slot_number p m (OnStack (suc k)))) t)
      → Net p names (HasToken (Field f) t)
  field-put m i f t k r at h = copied p names whole right (cell_in (row_at names m i) (slot_number p m (OnStack (suc k)))) (Field f) t h (tells-does p names whole right m i (suc (suc k)) (PutField (record { 0 = f })) r at)

  pub static-put : (m i f t k : ℕ) → Net p names (ItHappens (Reached m i)) → OpAt p m i (PutStatic (record { 0 = f })) (suc k) → Net p names (HasToken (cell_in (row_at names m i) (slot_number p m (OnStack k))) t)
      → Net p names (HasToken (Field f) t)
  static-put m i f t k r at h = copied p names whole right (cell_in (row_at names m i) (slot_number p m (OnStack k))) (Field f) t h (tells-does p names whole right m i (suc k) (PutStatic (record { 0 = f })) r at)

  pub element-put : (m i t k : ℕ) → Net p names (ItHappens (Reached m i)) → OpAt p m i (ArrStore R) (suc (suc (suc k))) → Net p names (HasToken (cell_in (row_at names m i) (slot_number p m (OnStack (suc (suc k))))) t)
      → Net p names (HasToken (Bag (rarr_token p)) t)
  element-put m i t k r at h = copied p names whole right (cell_in (row_at names m i) (slot_number p m (OnStack (suc (suc k))))) (Bag (rarr_token p)) t h (tells-does p names whole right m i (suc (suc (suc k))) (ArrStore R) r at)

  pub returned-told : (m i k t : ℕ) (kind : Kind) → Net p names (ItHappens (Reached m i)) → OpAt p m i (Return (Some kind)) (suc k) → Net p names (HasToken (cell_in (row_at names m i) (slot_number p m (OnStack k))) t)
      → Net p names (HasToken (Answer m) t)
  returned-told m i k t kind r at h = copied p names whole right (cell_in (row_at names m i) (slot_number p m (OnStack k))) (Answer m) t h (tells-does p names whole right m i (suc k) (Return (Some kind)) r at)

  -- ---- exceptions

  pub throw-told : (m i k t : ℕ) → Net p names (ItHappens (Reached m i)) → OpAt p m i Throw (suc k) → Net p names (HasToken (cell_in (row_at names m i) (slot_number p m (OnStack k))) t) → Net p names (HasToken (Thrown m i) t)
  throw-told m i k t r at h = copied p names whole right (cell_in (row_at names m i) (slot_number p m (OnStack k))) (Thrown m i) t h (tells-does p names whole right m i (suc k) Throw r at)

  pub library-thrown : (m i height : ℕ) (op : Op) → Net p names (ItHappens (Reached m i)) → OpAt p m i op height → ThrowsLibrary op → Net p names (HasToken (Thrown m i) (lib_token p))
  library-thrown m i height op r at throws =
      let a : IsAt p m i = at-of p names whole right m i r in
      let is : may_throw_library a.instr.op ≡ true = ap may_throw_library (is-op p whole m i height op a at).0 ∙ throws-library-told op throws in
      (each-when (Told p names) (may_throw_library a.instr.op) (throws_library p m i) is
      (each-left (Told p names) (raises_library p m i (may_throw_library a.instr.op)) (if throws_some a.instr.op then link (Thrown m i) (Throws m i) else []) (tells-raises p names whole right m i r a))).0 (omega arith)

  place-told : (m t : ℕ) (row : List Cell) (locals : ℕ) (places : List Place) (place : Place) → Contains places place → Each (Told p names) (goes_each m t row locals places) → Each (Told p names) (goes_out m t row locals place)
  place-told m t row locals [] place (k, below, e) h = absurd (omega (arith, below))
  place-told m t row locals (x ∷ places) place (zero, below, e) h = subst (λ (y : Place). Each (Told p names) (goes_out m t row locals y)) e (each-left (Told p names) (goes_out m t row locals x) (goes_each m t row locals places) h)
  place-told m t row locals (x ∷ places) place (suc k, below, e) h = place-told m t row locals places place (k, omega (arith, below), e) (each-right (Told p names) (goes_out m t row locals x) (goes_each m t row locals places) h)

  -- where an exception goes
  goes-told : (m i t : ℕ) → Net p names (ItHappens (Reached m i)) → (a : IsAt p m i) → MayThrow p m i → Net p names (HasToken (Thrown m i) t) → (place : Place) → Contains (dest p m i t) place
      → Each (Told p names) (goes_out m t (row_at names m i) a.method.locals place)
  goes-told m i t r a may h place listed =
      let is : throws_some a.instr.op ≡ true = ap throws_some (is-op p whole m i may.height may.op a may.at).0 ∙ may.throws in
      let told : Each (Told p names) (link (Thrown m i) (Throws m i)) = each-when (Told p names) (throws_some a.instr.op) (link (Thrown m i) (Throws m i)) is
      (each-right (Told p names) (raises_library p m i (may_throw_library a.instr.op)) (if throws_some a.instr.op then link (Thrown m i) (Throws m i) else []) (tells-raises p names whole right m i r a)) in
      let there : Each (Told p names) (thrown p m i t (row_at names m i) (slice_get p.methods m)) = fired p names whole right (Thrown m i) (Throws m i) t h told in
      place-told m t (row_at names m i) a.method.locals (dest_among p i t a.method.handlers) place (subst (λ (o : Option Method). Contains (dest_among p i t (handlers_of o)) place) a.found listed)
      (subst (λ (o : Option Method). Each (Told p names) (thrown p m i t (row_at names m i) o)) a.found there)

  pub handler-told : (m i j t : ℕ) → Net p names (ItHappens (Reached m i)) → MayThrow p m i → Net p names (HasToken (Thrown m i) t) → Contains (dest p m i t) (Inside j) → Net p names (ItHappens (Reached m j))
  handler-told m i j t r may h inside = (goes-told m i t r (at-of p names whole right m i r) may h (Inside j) inside).0

  pub handled-told : (m i j t : ℕ) → Net p names (ItHappens (Reached m i)) → MayThrow p m i → Net p names (HasToken (Thrown m i) t) → Contains (dest p m i t) (Inside j) → IsSlot p m j (OnStack 0) → Held p names m j (OnStack 0) t
  handled-told m i j t r may h inside s =
      let a : IsAt p m i = at-of p names whole right m i r in
      let there : Net p names (HasToken (Before m j a.method.locals) t) = (goes-told m i t r a may h (Inside j) inside).1.0 (below p names (Thrown m i) t h) in
      let lies : a.method.locals ≡ locals_of (slice_get p.methods m) + 0 = let e : locals_of (slice_get p.methods m) ≡ a.method.locals = ap locals_of a.found in omega arith in
      let cell : cell_in (row_at names m j) (slot_number p m (OnStack 0)) ≡ Before m j (slot_number p m (OnStack 0)) =
      handler-cell p names whole right m i j t (slot_number p m (OnStack 0)) s.at inside (number-below p names whole right m j (OnStack 0) s) in
      (subst (λ (c : Cell). Net p names (HasToken c t)) (sym cell) (subst (λ n. Net p names (HasToken (Before m j n) t)) lies there), handler-told m i j t r may h inside)

  pub kept-told : (m i j t l u : ℕ) → Net p names (ItHappens (Reached m i)) → MayThrow p m i → Net p names (HasToken (Thrown m i) t) → Contains (dest p m i t) (Inside j) → IsSlot p m i (Local l) → IsSlot p m j (Local l)
      → Net p names (HasToken (cell_in (row_at names m i) l) u) → Held p names m j (Local l) u
  kept-told m i j t l u r may h inside from s held =
      let a : IsAt p m i = from.at in
      let lt : l < a.method.locals = from.within in
      let all : Each (Told p names) (keeps m j (row_at names m i) a.method.locals) = (goes-told m i t r a may h (Inside j) inside).1.1 in
      let told : Each (Told p names) (copy (cell_in (row_at names m i) l) (Before m j l)) = over-at (Told p names) (λ x. copy (cell_in (row_at names m i) x) (Before m j x)) 0 a.method.locals l (omega arith) (omega arith) all in
      let cell : cell_in (row_at names m j) l ≡ Before m j l = handler-cell p names whole right m i j t l s.at inside (number-below p names whole right m j (Local l) s) in
      (subst (λ (c : Cell). Net p names (HasToken c u)) (sym cell) (copied p names whole right (cell_in (row_at names m i) l) (Before m j l) u held told), handler-told m i j t r may h inside)

  pub out-told : (m i t : ℕ) → Net p names (ItHappens (Reached m i)) → MayThrow p m i → Net p names (HasToken (Thrown m i) t) → Contains (dest p m i t) Outside → Net p names (HasToken (Out m) t)
  out-told m i t r may h outside = (goes-told m i t r (at-of p names whole right m i r) may h Outside outside).0 (below p names (Thrown m i) t h)
