-- What class sets say of how control goes on and values move is told by the network.
use Rattle.std.proofs.Common.{◌≡◌, ℕ, zero, suc, ◌+◌, ◌-◌, ◌<◌, ◌≤◌, ◌==◌, Bool, true, false, List, [], ◌∷◌, Some, length, refl, sym, ap, subst, ◌∙◌, arith}
use Rattle.std.specs.Prelude.{Contains, slice_get}
use Rattle.std.proofs.lemmas.Bool.{eq-eqb}
use Rattle.std.proofs.lemmas.Option.{same_Some}
use Rattle.ja_base.specs.declared.id.MethodId.{MethodId}
use Rattle.ja_base.specs.declared.java_type.Kind.{Kind}
use Rattle.ja_base.specs.declared.java_type.JavaType.{JavaType}
use Rattle.ja_base.specs.Kind.{words_of}
use Rattle.ja_ir.specs.declared.program.Parts.{Parts}
use Rattle.ja_ir.specs.declared.method.Method.{Method}
use Rattle.ja_ir.specs.declared.method.Instr.{Instr}
use Rattle.ja_ir.specs.declared.op.Op.{Op}
use Rattle.ja_ir.specs.declared.op.Op.TheVariants.{Load, Store, Shuffle, Cast}
use Rattle.ja_ir.specs.Lookup.{OpAt, Leads, is_member}
use Rattle.ja_ir.specs.Operations.{pops, FindsOperands, UsesLocals}
use Rattle.ja_ir.specs.Params.{param_types, param_local, param_count, params_among, local_among, words_before}
use Rattle.ja_ir.specs.Initializing.{InitAt, inits_of}
use Rattle.ja_ir.specs.Tokens.{fits, fits_shape, shape_of}
use Rattle.ja_ir.specs.Whole.{IsWhole}
use Rattle.ja_facts.specs.Least.{Each}
use Rattle.ja_facts.specs.Slots.{Slot, Local, OnStack, Copies, KeepsLocal}
use Rattle.ja_facts.specs.Slots as slots
use Rattle.ja_facts.specs.ClassSets.{Passes}
use Rattle.ja_network.specs.declared.cell.Cell.{Cell}
use Rattle.ja_network.specs.declared.cell.Cell.TheVariants.{Param, Before, Pushed}
use Rattle.ja_network.specs.declared.cell.Action.TheVariants.{Check}
use Rattle.ja_network.specs.declared.cell.Event.TheVariants.{Reached}
use Rattle.ja_network.specs.Facts.{HasToken, Happens as ItHappens}
use Rattle.ja_cells.specs.Names.{Names, AreNames, row_at, locals_of, slot_number}
use Rattle.ja_cells.specs.Rows.{cell_in, next_row}
use Rattle.ja_constraints.specs.declared.constraint.Constraint.TheVariants.{Happens}
use Rattle.ja_constraints.specs.Links.{gets}
use Rattle.ja_constraints.specs.Flows.{enter, enter_types, enter_among, enters}
use Rattle.ja_firing.specs.Tokens.{passes_cast}
use Rattle.ja_class_laws.proofs.Lists.{each-left, each-right, each-when, each-unmap, code-told}
use Rattle.ja_class_laws.proofs.Params.{params-count}
use Rattle.ja_class_laws.proofs.Frames.{IsAt, IsSlot, IsParam, IsWithin, instr-found, is-op}
use Rattle.ja_class_laws.proofs.NextCells.{kept-cell, loaded-cell, stored-cell, shuffled-cell, pushed-cell}
use Rattle.ja_class_laws.proofs.Telling.{Net, Told, below, fired, copied}
use Rattle.ja_class_laws.proofs.Arriving.{Held, at-of, tells-inits, tells-enters, tells-does, number-below, begin-cell, comes, finds, uses, size-is}

-- what an operation pops is there
pub pops-enough : (op : Op) (height : ℕ) → FindsOperands op height → pops op ≤ height
pops-enough (Shuffle n pushed) height h = h.0
pops-enough op height h = h

module _ (p : Parts) (names : Names) (whole : IsWhole p) (right : AreNames p names) where
  pub init-told : (m i n : ℕ) → Net p names (ItHappens (Reached m i)) → InitAt p m i n → Net p names (ItHappens (Reached n 0))
  init-told m i n r init =
      let a : IsAt p m i = at-of p names whole right m i r in
      let same : init.instr ≡ a.instr = same_Some init.instr a.instr (sym init.found ∙ instr-found p m i a.method a.instr a.found a.at) in
      each-unmap (Told p names) (λ (x : MethodId). Happens (Reached x.0 0)) (inits_of p a.instr.op) (record { 0 = n }) (tells-inits p names whole right m i r a) (subst (λ (x : Instr). Contains (inits_of p x.op) (record { 0 = n })) same init.listed)

  -- ---- the beginning of a method

  types-at : (m k local : ℕ) (types : List JavaType) (x : ℕ) → x < length types → Each (Told p names) (enter_types m k local types) → Each (Told p names) (enter m (k + x) (local + words_before types x))
  types-at m k local [] x lt h = absurd (omega arith)
  types-at m k local (type ∷ types) zero lt h =
      let one : k ≡ k + 0 = omega arith in
      let two : local ≡ local + 0 = omega arith in
      subst (λ n. Each (Told p names) (enter m n (local + 0))) one (subst (λ n. Each (Told p names) (enter m k n)) two (each-left (Told p names) (enter m k local) (enter_types m (suc k) (local + words_of type.kind) types) h))
  types-at m k local (type ∷ types) (suc x) lt h =
      let one : suc k + x ≡ k + suc x = omega arith in
      let two : local + words_of type.kind + words_before types x ≡ local + (words_of type.kind + words_before types x) = omega arith in
      subst (λ n. Each (Told p names) (enter m n (local + (words_of type.kind + words_before types x)))) one
      (subst (λ n. Each (Told p names) (enter m (suc k + x) n)) two (types-at m (suc k) (local + words_of type.kind) types x (omega arith) (each-right (Told p names) (enter m k local) (enter_types m (suc k) (local + words_of type.kind) types) h)))

  among-at : (m : ℕ) (receiver : Bool) (types : List JavaType) (k : ℕ) → k < params_among receiver types → Each (Told p names) (enter_among m receiver types) → Each (Told p names) (enter m k (local_among receiver types k))
  among-at m true types zero lt h = each-left (Told p names) (enter m 0 0) (enter_types m 1 1 types) h
  among-at m true types (suc k) lt h =
      let one : 1 + k ≡ suc k = omega arith in
      let count : params_among true types ≡ 1 + length types = params-count true types in
      subst (λ n. Each (Told p names) (enter m n (1 + words_before types k))) one (types-at m 1 1 types k (omega arith) (each-right (Told p names) (enter m 0 0) (enter_types m 1 1 types) h))
  among-at m false types k lt h =
      let one : 0 + k ≡ k = omega arith in
      let two : 0 + words_before types k ≡ words_before types k = omega arith in
      let count : params_among false types ≡ 0 + length types = params-count false types in
      subst (λ n. Each (Told p names) (enter m n (words_before types k))) one (subst (λ n. Each (Told p names) (enter m (0 + k) n)) two (types-at m 0 0 types k (omega arith) h))

  pub begins-told : (m k t : ℕ) (method : Method) → slice_get p.methods m ≡ Some method → Net p names (ItHappens (Reached m 0)) → IsParam p m k → IsSlot p m 0 (Local (param_local method k))
      → Net p names (HasToken (Param m k) t) → Held p names m 0 (Local (param_local method k)) t
  begins-told m k t method found r b s h =
      let a : IsAt p m 0 = at-of p names whole right m 0 r in
      let one : a.method ≡ method = same_Some a.method method (sym a.found ∙ found) in
      let two : b.method ≡ method = same_Some b.method method (sym b.found ∙ found) in
      let lt : k < param_count method = subst (λ (x : Method). k < param_count x) two b.below in
      let all : Each (Told p names) (enters m a.method) = each-when (Told p names) (0 == 0) (enters m a.method) (eq-eqb 0 0 refl) (tells-enters p names whole right m 0 r a) in
      let here : Each (Told p names) (enter m k (param_local method k)) = among-at m (is_member method.flags) (param_types method) k lt (subst (λ (x : Method). Each (Told p names) (enters m x)) one all) in
      let cell : cell_in (row_at names m 0) (param_local method k) ≡ Before m 0 (param_local method k) = begin-cell p names whole right m (param_local method k) a (number-below p names whole right m 0 (Local (param_local method k)) s) in
      (subst (λ (c : Cell). Net p names (HasToken c t)) (sym cell) (copied p names whole right (Param m k) (Before m 0 (param_local method k)) t h here), r)

  -- ---- what an operation moves

  cast-told : (m i height k t : ℕ) (name : List ℕ) → Net p names (ItHappens (Reached m i)) → OpAt p m i (Cast name) height → height ≡ suc k → fits p t name ≡ true
      → Net p names (HasToken (cell_in (row_at names m i) (locals_of (slice_get p.methods m) + k)) t) → Net p names (HasToken (Pushed m i) t)
  cast-told m i height k t name r at high fit h =
      let a : IsAt p m i = at-of p names whole right m i r in
      let at_k : OpAt p m i (Cast name) (suc k) = subst (OpAt p m i (Cast name)) high at in
      let ops = is-op p whole m i (suc k) (Cast name) a at_k in
      let code = fired p names whole right (cell_in (row_at names m i) (locals_of (slice_get p.methods m) + k)) (Check m i) t h (tells-does p names whole right m i (suc k) (Cast name) r at_k) in
      let there : Each (Told p names) (passes_cast p m i t a.instr.op) = code-told (Told p names) p m i (λ method instr. passes_cast p m i t instr.op) a.method a.instr a.found a.at code in
      (each-when (Told p names) (fits_shape p t (shape_of p name)) (gets (Pushed m i) t) fit (subst (λ o. Each (Told p names) (passes_cast p m i t o)) ops.0 there)).0
      (below p names (cell_in (row_at names m i) (locals_of (slice_get p.methods m) + k)) t h)

  moved-cell : (m i height t : ℕ) (op : Op) (z y : Slot) → Net p names (ItHappens (Reached m i)) → OpAt p m i op height → IsWithin (locals_of (slice_get p.methods m)) height z → Copies op height z y → Passes p op height z t
      → Net p names (HasToken (cell_in (row_at names m i) (slot_number p m z)) t) → Net p names (HasToken (cell_in (next_row p m i op (row_at names m i)) (slot_number p m y)) t)
  moved-cell m i height t op _ _ r at within (slots.kept_local {l = l} keeps) passes h =
      let size : length (row_at names m i) ≡ locals_of (slice_get p.methods m) + height = size-is p names whole right m i height op r at in
      let enough : pops op ≤ height = pops-enough op height (finds p names whole right m i height op r at) in
      let cell : cell_in (next_row p m i op (row_at names m i)) l ≡ cell_in (row_at names m i) l =
      kept-cell p m i op (row_at names m i) l (omega arith) (omega arith) (λ kind x e. subst (λ o. KeepsLocal o l) e keeps) in
      subst (λ (c : Cell). Net p names (HasToken c t)) (sym cell) h
  moved-cell m i height t op _ _ r at within (slots.kept_stack {k = k} room) passes h =
      let size : length (row_at names m i) ≡ locals_of (slice_get p.methods m) + height = size-is p names whole right m i height op r at in
      let cell : cell_in (next_row p m i op (row_at names m i)) (locals_of (slice_get p.methods m) + k) ≡ cell_in (row_at names m i) (locals_of (slice_get p.methods m) + k) =
      kept-cell p m i op (row_at names m i) (locals_of (slice_get p.methods m) + k) (omega arith) (omega arith) (λ kind l e same. past kind l e same) in
      subst (λ (c : Cell). Net p names (HasToken c t)) (sym cell) h
    where
      past : (kind : Kind) (l : ℕ) → op ≡ Store kind l → locals_of (slice_get p.methods m) + k ≡ l → ⊥
      past kind l e same =
          let used : l < locals_of (slice_get p.methods m) = subst (λ o. UsesLocals o (locals_of (slice_get p.methods m))) e (uses p names whole right m i height op r at) in
          omega arith
  moved-cell m i height t _ _ _ r at within (slots.loaded {kind} {l}) passes h =
      let size : length (row_at names m i) ≡ locals_of (slice_get p.methods m) + height = size-is p names whole right m i height (Load kind l) r at in
      subst (λ (c : Cell). Net p names (HasToken c t)) (sym (loaded-cell (row_at names m i) l (locals_of (slice_get p.methods m) + height) (omega arith))) h
  moved-cell m i height t _ _ _ r at within (slots.stored {kind} {l} {k = k} e) passes h =
      let size : length (row_at names m i) ≡ locals_of (slice_get p.methods m) + height = size-is p names whole right m i height (Store kind l) r at in
      let used : l < locals_of (slice_get p.methods m) = uses p names whole right m i height (Store kind l) r at in
      subst (λ (c : Cell). Net p names (HasToken c t)) (sym (stored-cell (row_at names m i) l (locals_of (slice_get p.methods m) + k) (omega arith) (omega arith))) h
  moved-cell m i height t _ _ _ r at within (slots.shuffled {n} {pushed = pushed} under j k e found) passes h =
      let size : length (row_at names m i) ≡ locals_of (slice_get p.methods m) + height = size-is p names whole right m i height (Shuffle n pushed) r at in
      let one : length (row_at names m i) - n + j ≡ locals_of (slice_get p.methods m) + (under + j) = omega arith in
      let two : length (row_at names m i) - n + k ≡ locals_of (slice_get p.methods m) + (under + k) = omega arith in
      let cell = shuffled-cell (row_at names m i) n pushed j k (omega arith) found in
      let same : cell_in (next_row p m i (Shuffle n pushed) (row_at names m i)) (locals_of (slice_get p.methods m) + (under + j)) ≡ cell_in (row_at names m i) (locals_of (slice_get p.methods m) + (under + k)) =
      ap (cell_in (next_row p m i (Shuffle n pushed) (row_at names m i))) (sym one) ∙ cell ∙ ap (cell_in (row_at names m i)) two in
      subst (λ (c : Cell). Net p names (HasToken c t)) (sym same) h
  moved-cell m i height t _ _ _ r at within (slots.checked {name} {k = k} e) passes h =
      let size : length (row_at names m i) ≡ locals_of (slice_get p.methods m) + height = size-is p names whole right m i height (Cast name) r at in
      let there : Net p names (HasToken (Pushed m i) t) = cast-told m i height k t name r at e (passes e) h in
      let cell : cell_in (next_row p m i (Cast name) (row_at names m i)) (locals_of (slice_get p.methods m) + k) ≡ Pushed m i =
      pushed-cell p m i (Cast name) (row_at names m i) (locals_of (slice_get p.methods m) + k) (omega arith) (omega arith) in
      subst (λ (c : Cell). Net p names (HasToken c t)) (sym cell) there

  pub moved-told : (m i j height t : ℕ) (op : Op) (z y : Slot) → Net p names (ItHappens (Reached m i)) → OpAt p m i op height → Leads p m i j → Copies op height z y → Passes p op height z t → IsSlot p m i z → IsSlot p m j y
      → Net p names (HasToken (cell_in (row_at names m i) (slot_number p m z)) t) → Held p names m j y t
  moved-told m i j height t op z y r at leads copies passes s to h =
      let same : s.at.method.locals ≡ locals_of (slice_get p.methods m) = sym (ap locals_of s.at.found) in
      let high : s.at.instr.height ≡ height = (is-op p whole m i height op s.at at).1 in
      let within : IsWithin (locals_of (slice_get p.methods m)) height z = subst (λ l. IsWithin l height z) same (subst (λ x. IsWithin s.at.method.locals x z) high s.within) in
      comes p names whole right m i j height op r at leads y to t (moved-cell m i height t op z y r at within copies passes h)
