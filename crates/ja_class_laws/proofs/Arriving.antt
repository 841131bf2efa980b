-- What is in the cells behind an instruction comes to the cells of the next one.
use Rattle.std.proofs.Common.{◌≡◌, ℕ, zero, suc, ◌+◌, ◌-◌, ◌<◌, ◌≤◌, ◌==◌, ◌&&◌, Bool, true, List, [], ◌∷◌, ◌++◌, Option, Some, length, get_or, refl, sym, ap, subst, ◌∙◌, arith}
use Rattle.std.specs.Prelude.{Contains, slice_get}
use Rattle.std.proofs.lemmas.Bool.{eq-eqb}
use Rattle.std.proofs.lemmas.Option.{same_Some}
use Rattle.ja_ir.specs.declared.program.Parts.{Parts}
use Rattle.ja_ir.specs.declared.method.Method.{Method}
use Rattle.ja_ir.specs.declared.method.Instr.{Instr}
use Rattle.ja_ir.specs.declared.op.Op.{Op}
use Rattle.ja_ir.specs.Lookup.{OpAt, Leads}
use Rattle.ja_ir.specs.Operations.{pops, FindsOperands, UsesLocals}
use Rattle.ja_ir.specs.Handlers.{Inside, dest, dest_among, handlers_of}
use Rattle.ja_ir.specs.Initializing.{inits_of}
use Rattle.ja_ir.specs.Whole.{IsWhole}
use Rattle.ja_facts.specs.Least.{Each}
use Rattle.ja_facts.specs.Slots.{Slot, Local, OnStack}
use Rattle.ja_network.specs.declared.cell.Cell.{Cell}
use Rattle.ja_network.specs.declared.cell.Cell.TheVariants.{Before}
use Rattle.ja_network.specs.declared.cell.Event.TheVariants.{Reached}
use Rattle.ja_network.specs.Facts.{HasToken, Happens as ItHappens}
use Rattle.ja_cells.specs.Names.{Names, AreNames, IsRow, own, shared, row_at, locals_of, slot_number}
use Rattle.ja_cells.specs.Rows.{cell_in, next_row, own_row, plain, pushed_cells}
use Rattle.ja_constraints.specs.Links.{copy}
use Rattle.ja_constraints.specs.Places.{top_cell}
use Rattle.ja_constraints.specs.Flows.{flow, flows, way, goes_on, begin_each}
use Rattle.ja_constraints.specs.Operations.{raises, does}
use Rattle.ja_constraints.specs.Calls.{targets}
use Rattle.ja_constraints.specs.Events.{runs as runs_told, leads_on, acts, enters_at}
use Rattle.ja_class_laws.proofs.Lists.{each-left, each-right, each-when, code-told}
use Rattle.ja_class_laws.proofs.Frames.{IsAt, IsSlot, IsWithin, Handles, dest-handler, instr-found, is-op, runs, reached-at}
use Rattle.ja_class_laws.proofs.Named.{row-right, row-size}
use Rattle.ja_class_laws.proofs.NextCells.{own-cell, pushed-cell}
use Rattle.ja_class_laws.proofs.Sound.{sound}
use Rattle.ja_class_laws.proofs.Telling.{Net, Told, follows-told, copied}

-- a slot of an instruction that may run has the token
abbrev pub Held : Parts → Names → (m i : ℕ) → Slot → (t : ℕ) → Type 0
Held p names m i z t = Net p names (HasToken (cell_in (row_at names m i) (slot_number p m z)) t) × Net p names (ItHappens (Reached m i))

-- the flow to a place
flow-at : (p : Parts) (names : Names) (m j : ℕ) (next there : List Cell) (y : ℕ) → y < length there → Each (Told p names) (flows m j next there) → Each (Told p names) (flow m j next (cell_in there y))
flow-at p names m j next [] y lt h = absurd (omega arith)
flow-at p names m j next (cell ∷ there) zero lt h = each-left (Told p names) (flow m j next cell) (flows m j next there) h
flow-at p names m j next (cell ∷ there) (suc y) lt h = flow-at p names m j next there y (omega arith) (each-right (Told p names) (flow m j next cell) (flows m j next there) h)

-- the way to a next instruction
way-to : (p : Parts) (names : Names) (m j : ℕ) (next : List Cell) (js : List ℕ) → Contains js j → Each (Told p names) (goes_on names m next js) → Each (Told p names) (way names m next j)
way-to p names m j next [] (k, below, e) h = absurd (omega (arith, below))
way-to p names m j next (x ∷ js) (zero, below, e) h = subst (λ n. Each (Told p names) (way names m next n)) e (each-left (Told p names) (way names m next x) (goes_on names m next js) h)
way-to p names m j next (x ∷ js) (suc k, below, e) h = way-to p names m j next js (k, omega (arith, below), e) (each-right (Told p names) (way names m next x) (goes_on names m next js) h)

both-true : (m j : ℕ) → ((m == m) && (j == j)) ≡ true
both-true m j = let e : (m == m) ≡ true = eq-eqb m m refl in let f : (j == j) ≡ true = eq-eqb j j refl in ap (λ (b : Bool). b && (j == j)) e ∙ f

module _ (p : Parts) (names : Names) (whole : IsWhole p) (right : AreNames p names) where
  pub at-of : (m i : ℕ) → Net p names (ItHappens (Reached m i)) → IsAt p m i
  at-of m i r = reached-at p whole m i (sound p names whole right (ItHappens (Reached m i)) r)

  -- what is told where an instruction may run
  pub tells-all : (m i : ℕ) → Net p names (ItHappens (Reached m i)) → (a : IsAt p m i) → Each (Told p names) (runs_told p names m i a.method a.instr)
  tells-all m i r a = code-told (Told p names) p m i (runs_told p names m i) a.method a.instr a.found a.at (follows-told p names (Reached m i) r)

  pub tells-leads : (m i : ℕ) → Net p names (ItHappens (Reached m i)) → (a : IsAt p m i) → Each (Told p names) (leads_on p names m i a.method a.instr)
  tells-leads m i r a = each-left (Told p names) (leads_on p names m i a.method a.instr) (acts p names m i a.method a.instr) (tells-all m i r a)

  tells-acts : (m i : ℕ) → Net p names (ItHappens (Reached m i)) → (a : IsAt p m i) → Each (Told p names) (acts p names m i a.method a.instr)
  tells-acts m i r a = each-right (Told p names) (leads_on p names m i a.method a.instr) (acts p names m i a.method a.instr) (tells-all m i r a)

  pub tells-ways : (m i : ℕ) → Net p names (ItHappens (Reached m i)) → (a : IsAt p m i) → Each (Told p names) (goes_on names m (next_row p m i a.instr.op (row_at names m i)) a.instr.next)
  tells-ways m i r a =
      each-left (Told p names) (goes_on names m (next_row p m i a.instr.op (row_at names m i)) a.instr.next) (begin_each (inits_of p a.instr.op))
      (each-left (Told p names) (goes_on names m (next_row p m i a.instr.op (row_at names m i)) a.instr.next ++ begin_each (inits_of p a.instr.op)) (enters_at m i a.method) (tells-leads m i r a))

  pub tells-inits : (m i : ℕ) → Net p names (ItHappens (Reached m i)) → (a : IsAt p m i) → Each (Told p names) (begin_each (inits_of p a.instr.op))
  tells-inits m i r a =
      each-right (Told p names) (goes_on names m (next_row p m i a.instr.op (row_at names m i)) a.instr.next) (begin_each (inits_of p a.instr.op))
      (each-left (Told p names) (goes_on names m (next_row p m i a.instr.op (row_at names m i)) a.instr.next ++ begin_each (inits_of p a.instr.op)) (enters_at m i a.method) (tells-leads m i r a))

  pub tells-enters : (m i : ℕ) → Net p names (ItHappens (Reached m i)) → (a : IsAt p m i) → Each (Told p names) (enters_at m i a.method)
  tells-enters m i r a = each-right (Told p names) (goes_on names m (next_row p m i a.instr.op (row_at names m i)) a.instr.next ++ begin_each (inits_of p a.instr.op)) (enters_at m i a.method) (tells-leads m i r a)

  pub tells-raises : (m i : ℕ) → Net p names (ItHappens (Reached m i)) → (a : IsAt p m i) → Each (Told p names) (raises p m i a.instr.op)
  tells-raises m i r a =
      each-left (Told p names) (raises p m i a.instr.op) (does p m i (top_cell (row_at names m i) a.method.locals a.instr.height) a.instr.op)
      (each-left (Told p names) (raises p m i a.instr.op ++ does p m i (top_cell (row_at names m i) a.method.locals a.instr.height) a.instr.op) (targets p m i (row_at names m i) a.method.locals a.instr.height a.instr.op) (tells-acts m i r a))

  pub tells-does : (m i height : ℕ) (op : Op) → Net p names (ItHappens (Reached m i)) → OpAt p m i op height → Each (Told p names) (does p m i (top_cell (row_at names m i) (locals_of (slice_get p.methods m)) height) op)
  tells-does m i height op r at =
      let a : IsAt p m i = at-of m i r in
      let ops = is-op p whole m i height op a at in
      let here : Each (Told p names) (does p m i (top_cell (row_at names m i) a.method.locals a.instr.height) a.instr.op) =
      each-right (Told p names) (raises p m i a.instr.op) (does p m i (top_cell (row_at names m i) a.method.locals a.instr.height) a.instr.op)
      (each-left (Told p names) (raises p m i a.instr.op ++ does p m i (top_cell (row_at names m i) a.method.locals a.instr.height) a.instr.op) (targets p m i (row_at names m i) a.method.locals a.instr.height a.instr.op) (tells-acts m i r a)) in
      subst (λ (o : Option Method). Each (Told p names) (does p m i (top_cell (row_at names m i) (locals_of o) height) op)) (sym a.found)
      (subst (λ h. Each (Told p names) (does p m i (top_cell (row_at names m i) a.method.locals h) op)) ops.1 (subst (λ o. Each (Told p names) (does p m i (top_cell (row_at names m i) a.method.locals a.instr.height) o)) ops.0 here))

  pub tells-targets : (m i height : ℕ) (op : Op) → Net p names (ItHappens (Reached m i)) → OpAt p m i op height → Each (Told p names) (targets p m i (row_at names m i) (locals_of (slice_get p.methods m)) height op)
  tells-targets m i height op r at =
      let a : IsAt p m i = at-of m i r in
      let ops = is-op p whole m i height op a at in
      let here : Each (Told p names) (targets p m i (row_at names m i) a.method.locals a.instr.height a.instr.op) =
      each-right (Told p names) (raises p m i a.instr.op ++ does p m i (top_cell (row_at names m i) a.method.locals a.instr.height) a.instr.op) (targets p m i (row_at names m i) a.method.locals a.instr.height a.instr.op) (tells-acts m i r a) in
      subst (λ (o : Option Method). Each (Told p names) (targets p m i (row_at names m i) (locals_of o) height op)) (sym a.found)
      (subst (λ h. Each (Told p names) (targets p m i (row_at names m i) a.method.locals h op)) ops.1 (subst (λ o. Each (Told p names) (targets p m i (row_at names m i) a.method.locals a.instr.height o)) ops.0 here))

  -- ---- the next instruction

  pub way-told : (m i j : ℕ) → Net p names (ItHappens (Reached m i)) → (a : IsAt p m i) → Leads p m i j → Each (Told p names) (way names m (next_row p m i a.instr.op (row_at names m i)) j)
  way-told m i j r a leads =
      let same : leads.instr ≡ a.instr = same_Some leads.instr a.instr (sym leads.found ∙ instr-found p m i a.method a.instr a.found a.at) in
      let listed : Contains a.instr.next j = subst (λ (x : Instr). Contains x.next j) same leads.listed in
      way-to p names m j (next_row p m i a.instr.op (row_at names m i)) a.instr.next listed (tells-ways m i r a)

  pub next-told : (m i j : ℕ) → Net p names (ItHappens (Reached m i)) → Leads p m i j → Net p names (ItHappens (Reached m j))
  next-told m i j r leads = (way-told m i j r (at-of m i r) leads).0

  -- a slot of the frame has a cell
  pub number-below : (m j : ℕ) (y : Slot) (s : IsSlot p m j y) → slot_number p m y < length (row_at names m j)
  number-below m j y s = by y s.within
    where
      size : length (row_at names m j) ≡ s.at.method.locals + s.at.instr.height
      size = row-size p names whole right m j s.at

      same : locals_of (slice_get p.methods m) ≡ s.at.method.locals
      same = ap locals_of s.at.found

      by : (z : Slot) → IsWithin s.at.method.locals s.at.instr.height z → slot_number p m z < length (row_at names m j)
      by (Local l) lt = let e = size in omega arith
      by (OnStack k) lt = let e = size in let f = same in omega arith

  own-at : (m j y : ℕ) (row : List Cell) (count : ℕ) → row ≡ own_row m j 0 count → y < length row → cell_in row y ≡ Before m j y
  own-at m j y row count e lt =
      let size : length row ≡ length (own_row m j 0 count) = ap length e in
      let zero_more : 0 + y ≡ y = omega arith in
      ap (λ (r : List Cell). cell_in r y) e ∙ own-cell m j 0 count y (let s = own-length m j 0 count in omega arith) ∙ ap (Before m j) zero_more
    where
      own-length : (m j from count : ℕ) → length (own_row m j from count) ≡ count
      own-length m j from zero = refl
      own-length m j from (suc count) = ap suc (own-length m j (suc from) count)

  -- at the beginning of a method, and at a handler, each slot has a cell of its own
  pub begin-cell : (m y : ℕ) (a : IsAt p m 0) → y < length (row_at names m 0) → cell_in (row_at names m 0) y ≡ Before m 0 y
  begin-cell m y a lt = by (row-right p names whole right m 0 a)
    where
      by : IsRow p m a.method (get_or names m []) 0 a.instr (row_at names m 0) → cell_in (row_at names m 0) y ≡ Before m 0 y
      by (own e) = own-at m 0 y (row_at names m 0) (a.method.locals + a.instr.height) e lt
      by (shared i before later found reached way e) = absurd (omega arith)

  pub handler-cell : (m i j t y : ℕ) (a : IsAt p m j) → Contains (dest p m i t) (Inside j) → y < length (row_at names m j) → cell_in (row_at names m j) y ≡ Before m j y
  handler-cell m i j t y a inside lt = by (row-right p names whole right m j a)
    where
      handles : Handles i j a.method.handlers
      handles = dest-handler p i t j a.method.handlers (subst (λ (o : Option Method). Contains (dest_among p i t (handlers_of o)) (Inside j)) a.found inside)

      by : IsRow p m a.method (get_or names m []) j a.instr (row_at names m j) → cell_in (row_at names m j) y ≡ Before m j y
      by (own e) = own-at m j y (row_at names m j) (a.method.locals + a.instr.height) e lt
      by (shared k before later found reached way e) = let h = handles in absurd (way.unhandled h.0 h.1 h.3)

  -- what is behind an instruction comes to the next one
  pub arrives : (m i j height : ℕ) (op : Op) → Net p names (ItHappens (Reached m i)) → OpAt p m i op height → Leads p m i j → (y t : ℕ) → y < length (row_at names m j)
      → Net p names (HasToken (cell_in (next_row p m i op (row_at names m i)) y) t) → Net p names (HasToken (cell_in (row_at names m j) y) t)
  arrives m i j height op r at leads y t lt h = by (at-of m j (next-told m i j r leads))
    where
      a : IsAt p m i
      a = at-of m i r

      here : Net p names (HasToken (cell_in (next_row p m i a.instr.op (row_at names m i)) y) t)
      here = subst (λ o. Net p names (HasToken (cell_in (next_row p m i o (row_at names m i)) y) t)) (sym (is-op p whole m i height op a at).0) h

      of_row : (b : IsAt p m j) → IsRow p m b.method (get_or names m []) j b.instr (row_at names m j) → Net p names (HasToken (cell_in (row_at names m j) y) t)
      of_row b (own e) =
          let cell : cell_in (row_at names m j) y ≡ Before m j y = own-at m j y (row_at names m j) (b.method.locals + b.instr.height) e lt in
          let there : Each (Told p names) (flow m j (next_row p m i a.instr.op (row_at names m i)) (Before m j y)) =
          subst (λ (c : Cell). Each (Told p names) (flow m j (next_row p m i a.instr.op (row_at names m i)) c)) cell
          (flow-at p names m j (next_row p m i a.instr.op (row_at names m i)) (row_at names m j) y lt (way-told m i j r a leads).1) in
          let told : Each (Told p names) (copy (cell_in (next_row p m i a.instr.op (row_at names m i)) y) (Before m j y)) =
          each-when (Told p names) ((m == m) && (j == j)) (copy (cell_in (next_row p m i a.instr.op (row_at names m i)) y) (Before m j y)) (both-true m j) there in
          subst (λ (c : Cell). Net p names (HasToken c t)) (sym cell) (copied p names whole right (cell_in (next_row p m i a.instr.op (row_at names m i)) y) (Before m j y) t here told)
      of_row b (shared k before later found reached way e) =
          let one : k ≡ i = sym (way.only i leads) in
          let method_same : b.method ≡ a.method = same_Some b.method a.method (sym b.found ∙ a.found) in
          let found_here : slice_get a.method.code i ≡ Some before = subst (λ n. slice_get a.method.code n ≡ Some before) one (subst (λ (x : Method). slice_get x.code k ≡ Some before) method_same found) in
          let ops : before.op ≡ a.instr.op = ap (λ (x : Instr). x.op) (same_Some before a.instr (sym found_here ∙ a.at)) in
          let rows : row_at names m j ≡ next_row p m i a.instr.op (row_at names m i) =
          e ∙ ap (λ n. next_row p m n before.op (row_at names m n)) one ∙ ap (λ o. next_row p m i o (row_at names m i)) ops in
          subst (λ (row : List Cell). Net p names (HasToken (cell_in row y) t)) (sym rows) here

      by : IsAt p m j → Net p names (HasToken (cell_in (row_at names m j) y) t)
      by b = of_row b (row-right p names whole right m j b)

  pub comes : (m i j height : ℕ) (op : Op) → Net p names (ItHappens (Reached m i)) → OpAt p m i op height → Leads p m i j → (y : Slot) → IsSlot p m j y → (t : ℕ)
      → Net p names (HasToken (cell_in (next_row p m i op (row_at names m i)) (slot_number p m y)) t) → Held p names m j y t
  comes m i j height op r at leads y s t h = (arrives m i j height op r at leads (slot_number p m y) t (number-below m j y s) h, next-told m i j r leads)

  -- ---- what an operation finds

  pub finds : (m i height : ℕ) (op : Op) → Net p names (ItHappens (Reached m i)) → OpAt p m i op height → FindsOperands op height
  finds m i height op r at =
      let a : IsAt p m i = at-of m i r in
      let ops = is-op p whole m i height op a at in
      subst (λ o. FindsOperands o height) ops.0 (subst (FindsOperands a.instr.op) ops.1 (runs p whole m i a).operands)

  pub uses : (m i height : ℕ) (op : Op) → Net p names (ItHappens (Reached m i)) → OpAt p m i op height → UsesLocals op (locals_of (slice_get p.methods m))
  uses m i height op r at =
      let a : IsAt p m i = at-of m i r in
      let same : a.method.locals ≡ locals_of (slice_get p.methods m) = sym (ap locals_of a.found) in
      subst (λ o. UsesLocals o (locals_of (slice_get p.methods m))) (is-op p whole m i height op a at).0 (subst (UsesLocals a.instr.op) same (runs p whole m i a).locals)

  pub size-is : (m i height : ℕ) (op : Op) → Net p names (ItHappens (Reached m i)) → OpAt p m i op height → length (row_at names m i) ≡ locals_of (slice_get p.methods m) + height
  size-is m i height op r at =
      let a : IsAt p m i = at-of m i r in
      let size : length (row_at names m i) ≡ a.method.locals + a.instr.height = row-size p names whole right m i a in
      let same : locals_of (slice_get p.methods m) ≡ a.method.locals = ap locals_of a.found in
      let high : a.instr.height ≡ height = (is-op p whole m i height op a at).1 in
      omega arith

  -- what is pushed comes to the stack of the next instruction
  pub pushes-to : (m i j height under : ℕ) (op : Op) → Net p names (ItHappens (Reached m i)) → OpAt p m i op height → Leads p m i j → next_row p m i op (row_at names m i) ≡ plain p m i op (row_at names m i)
      → pops op ≤ height → under ≡ height - pops op → IsSlot p m j (OnStack under) → (t : ℕ) → Net p names (HasToken (cell_in (pushed_cells p m i op) 0) t) → Held p names m j (OnStack under) t
  pushes-to m i j height under op r at leads is enough lies s t h =
      let size : length (row_at names m i) ≡ locals_of (slice_get p.methods m) + height = size-is m i height op r at in
      let cell : cell_in (next_row p m i op (row_at names m i)) (locals_of (slice_get p.methods m) + under) ≡ cell_in (pushed_cells p m i op) 0 =
      ap (λ (row : List Cell). cell_in row (locals_of (slice_get p.methods m) + under)) is ∙ pushed-cell p m i op (row_at names m i) (locals_of (slice_get p.methods m) + under) (omega arith) (omega arith) in
      comes m i j height op r at leads (OnStack under) s t (subst (λ (c : Cell). Net p names (HasToken c t)) (sym cell) h)
