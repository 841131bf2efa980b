-- The cell of a slot before a reached instruction means what is in the slot.
use Rattle.std.proofs.Common.{◌≡◌, inl, inr, ℕ, zero, suc, ◌+◌, ◌-◌, ◌<◌, ◌≤◌, true, List, [], ◌∷◌, ◌++◌, Option, Some, length, map, get_or, refl, sym, ap, subst, ◌∙◌, arith}
use Rattle.std.specs.Prelude.{Contains, slice_get}
use Rattle.std.proofs.lemmas.Bool.{cases_lt}
use Rattle.std.proofs.lemmas.List.{length-append, length-take-le, length-map}
use Rattle.std.proofs.Math.ListN.{length-set, length-replicate}
use Rattle.std.proofs.lemmas.Option.{same_Some, slice_get_within}
use Rattle.ja_base.specs.declared.java_type.Kind.TheVariants.{P1, P2, R, T}
use Rattle.ja_ir.specs.declared.program.Parts.{Parts}
use Rattle.ja_ir.specs.declared.method.Method.{Method}
use Rattle.ja_ir.specs.declared.method.Instr.{Instr}
use Rattle.ja_ir.specs.declared.op.Op.{Op}
use Rattle.ja_ir.specs.declared.op.Op.TheVariants.{Nop, Const, Text, New, Load, Store, ArrLoad, ArrStore, Shuffle, Mix, Branch, Return, GetStatic, PutStatic, GetField, PutField, Call, NewArray, ArrLen, Throw, Cast, InstanceOf, Monitor}
use Rattle.ja_ir.specs.Lookup.{OpAt, Leads}
use Rattle.ja_ir.specs.Handlers.{Inside, dest_among, handlers_of}
use Rattle.ja_ir.specs.Operations.{pops, pushes, result_count, height_after, FindsOperands, UsesLocals}
use Rattle.ja_ir.specs.Whole.{IsWhole, Runs}
use Rattle.ja_facts.specs.Least.{Each, Iterate}
use Rattle.ja_facts.specs.Analyses.{Classes}
use Rattle.ja_facts.specs.ClassSets as class_sets
use Rattle.ja_facts.specs.ClassSets.{Fact as ClassFact, Rule as ClassRule, InSlot}
use Rattle.ja_network.specs.declared.cell.Cell.{Cell}
use Rattle.ja_network.specs.declared.cell.Cell.TheVariants.{Nothing, Pushed}
use Rattle.ja_cells.specs.Names.{Names, AreNames, IsRow, IsOnlyWay, own, shared, row_at, slot_number, locals_of}
use Rattle.ja_cells.specs.Rows.{cell_in, last_of, without_last, pushed_cells, next_row, own_row}
use Rattle.ja_class_laws.proofs.Frames.{IsAt, dest-handler, instr-found, op-at, is-op, runs, next-at, reached-at}
use Rattle.ja_class_laws.proofs.Meaning.{MeansToken, slot_of}
use Rattle.ja_class_laws.proofs.NextNames.{slot-local, slot-stack}
use Rattle.ja_class_laws.proofs.NextOps.{next-sound}

-- the number of the slot of a number is that
number-slot : (p : Parts) (m z : ℕ) → slot_number p m (slot_of p m z) ≡ z
number-slot p m z = elim (cases_lt z (locals_of (slice_get p.methods m))) [
  | inl local ↦ ap (slot_number p m) (slot-local p m z local)
  | inr stack ↦
      let split : z ≡ locals_of (slice_get p.methods m) + (z - locals_of (slice_get p.methods m)) = omega arith in
      ap (slot_number p m) (ap (slot_of p m) split ∙ slot-stack p m (z - locals_of (slice_get p.methods m))) ∙ sym split
]

-- cells of their own
own-at : (p : Parts) (m j from count y t : ℕ) → MeansToken p (get_or (own_row m j from count) y Nothing) t → Classes p (InSlot m j (slot_of p m (from + y)) t)
own-at p m j from zero y t h = absurd h
own-at p m j from (suc count) zero t h = let e : from ≡ from + 0 = omega arith in subst (λ n. Classes p (InSlot m j (slot_of p m n) t)) e h
own-at p m j from (suc count) (suc y) t h = let e : suc from + y ≡ from + suc y = omega arith in subst (λ n. Classes p (InSlot m j (slot_of p m n) t)) e (own-at p m j (suc from) count y t h)

own-size : (m j from count : ℕ) → length (own_row m j from count) ≡ count
own-size m j from zero = refl
own-size m j from (suc count) = ap suc (own-size m j (suc from) count)

-- as many cells as values are pushed
pushed-size : (p : Parts) (m i : ℕ) (op : Op) → length (pushed_cells p m i op) ≡ pushes op
pushed-size p m i Nop = refl
pushed-size p m i (Const kind) = refl
pushed-size p m i Text = refl
pushed-size p m i (New token) = refl
pushed-size p m i (Load kind l) = refl
pushed-size p m i (Store kind l) = refl
pushed-size p m i (ArrLoad P1) = refl
pushed-size p m i (ArrLoad P2) = refl
pushed-size p m i (ArrLoad R) = refl
pushed-size p m i (ArrLoad T) = refl
pushed-size p m i (ArrStore kind) = refl
pushed-size p m i (Mix k kind throws) = refl
pushed-size p m i (Branch k) = refl
pushed-size p m i (Return kind) = refl
pushed-size p m i (GetStatic field) = refl
pushed-size p m i (PutStatic field) = refl
pushed-size p m i (GetField field) = refl
pushed-size p m i (PutField field) = refl
pushed-size p m i (Call call) = length-replicate (result_count call.result) (Pushed m i)
pushed-size p m i (NewArray last dimensions) = refl
pushed-size p m i ArrLen = refl
pushed-size p m i Throw = refl
pushed-size p m i (Cast name) = refl
pushed-size p m i InstanceOf = refl
pushed-size p m i Monitor = refl
pushed-size p m i (Shuffle k ks) = length-replicate (length ks) Nothing

-- of an operation that copies nothing but what it leaves
plain-size : (p : Parts) (m i : ℕ) (op : Op) (row : List Cell) (n height : ℕ) → length row ≡ n + height → pops op ≤ height
    → length (without_last (pops op) row ++ pushed_cells p m i op) ≡ n + height_after op height
plain-size p m i op row n height size enough =
    let both = length-append (without_last (pops op) row) (pushed_cells p m i op) in
    let left = length-take-le (length row - pops op) row (omega arith) in
    let more = pushed-size p m i op in
    omega arith

-- as many cells as slots are there behind an instruction
next-size : (p : Parts) (m i : ℕ) (op : Op) (row : List Cell) (n height : ℕ) → length row ≡ n + height → FindsOperands op height → length (next_row p m i op row) ≡ n + height_after op height
next-size p m i (Load kind l) row n height size enough = let both = length-append row (get_or row l Nothing ∷ []) in omega arith
next-size p m i (Store kind l) row n height size enough =
    let same = length-set (without_last 1 row) l (cell_in row (length row - 1)) in
    let left = length-take-le (length row - 1) row (omega arith) in
    omega arith
next-size p m i (Shuffle k ks) row n height size enough =
    let fits : k ≤ height = enough.0 in
    let both = length-append (without_last k row) (map (cell_in (last_of k row)) ks) in
    let left = length-take-le (length row - k) row (omega arith) in
    let mapped = length-map ks (cell_in (last_of k row)) in
    omega arith
next-size p m i Nop row n height size enough = plain-size p m i Nop row n height size enough
next-size p m i (Const kind) row n height size enough = plain-size p m i (Const kind) row n height size enough
next-size p m i Text row n height size enough = plain-size p m i Text row n height size enough
next-size p m i (New token) row n height size enough = plain-size p m i (New token) row n height size enough
next-size p m i (ArrLoad P1) row n height size enough = plain-size p m i (ArrLoad P1) row n height size enough
next-size p m i (ArrLoad P2) row n height size enough = plain-size p m i (ArrLoad P2) row n height size enough
next-size p m i (ArrLoad R) row n height size enough = plain-size p m i (ArrLoad R) row n height size enough
next-size p m i (ArrLoad T) row n height size enough = plain-size p m i (ArrLoad T) row n height size enough
next-size p m i (ArrStore kind) row n height size enough = plain-size p m i (ArrStore kind) row n height size enough
next-size p m i (Mix k kind throws) row n height size enough = plain-size p m i (Mix k kind throws) row n height size enough
next-size p m i (Branch k) row n height size enough = plain-size p m i (Branch k) row n height size enough
next-size p m i (Return kind) row n height size enough = plain-size p m i (Return kind) row n height size enough
next-size p m i (GetStatic field) row n height size enough = plain-size p m i (GetStatic field) row n height size enough
next-size p m i (PutStatic field) row n height size enough = plain-size p m i (PutStatic field) row n height size enough
next-size p m i (GetField field) row n height size enough = plain-size p m i (GetField field) row n height size enough
next-size p m i (PutField field) row n height size enough = plain-size p m i (PutField field) row n height size enough
next-size p m i (Call call) row n height size enough = plain-size p m i (Call call) row n height size enough
next-size p m i (NewArray last dimensions) row n height size enough = plain-size p m i (NewArray last dimensions) row n height size enough
next-size p m i ArrLen row n height size enough = plain-size p m i ArrLen row n height size enough
next-size p m i Throw row n height size enough = plain-size p m i Throw row n height size enough
next-size p m i (Cast name) row n height size enough = plain-size p m i (Cast name) row n height size enough
next-size p m i InstanceOf row n height size enough = plain-size p m i InstanceOf row n height size enough
next-size p m i Monitor row n height size enough = plain-size p m i Monitor row n height size enough

-- the way to an instruction to which one way leads was taken
from-only : (p : Parts) (m i j n : ℕ) (method : Method) → suc i ≡ j → slice_get p.methods m ≡ Some method → IsOnlyWay p m method i j → (ps : List ClassFact) → ClassRule p ps (class_sets.Reached m j)
    → Each (Iterate (ClassRule p) n) ps → Iterate (ClassRule p) n (class_sets.Reached m i)
from-only p m i _ n method later found way _ (class_sets.initializer_runs r) each = absurd (omega arith)
from-only p m i _ n method later found way _ (class_sets.constructor_runs entry objects is) each = absurd (omega arith)
from-only p m i _ n method later found way _ (class_sets.entry_runs entry listed) each = absurd (omega arith)
from-only p m i j n method later found way _ (class_sets.next_reached {i = k} leads) each = subst (λ x. Iterate (ClassRule p) n (class_sets.Reached m x)) (way.only k leads) each.0
from-only p m i _ n method later found way _ (class_sets.initializes init) each = absurd (omega arith)
from-only p m i j n method later found way _ (class_sets.handler_reached {i = k} {t = t} inside) each =
    let h = dest-handler p k t j method.handlers (subst (λ (o : Option Method). Contains (dest_among p k t (handlers_of o)) (Inside j)) found inside) in
    absurd (way.unhandled h.0 h.1 h.3)
from-only p m i _ n method later found way _ class_sets.callee_reached each = absurd (omega arith)

module _ (p : Parts) (names : Names) (whole : IsWhole p) (right : AreNames p names) where
  pub row-right : (m j : ℕ) (a : IsAt p m j) → IsRow p m a.method (get_or names m []) j a.instr (row_at names m j)
  row-right m j a =
      let below : m < length p.methods = slice_get_within p.methods m a.method a.found in
      let within : j < length a.method.code = slice_get_within a.method.code j a.instr a.at in
      (right.each m a.method (omega arith) a.found).each j a.instr (omega arith) a.at a.reached

  -- an instruction before another
  at-before : (m i j : ℕ) (a : IsAt p m j) (before : Instr) → slice_get a.method.code i ≡ Some before → before.reached ≡ true → (b : IsAt p m i) × (b.method ≡ a.method) × (b.instr ≡ before)
  at-before m i j a before found reached = (record { method = a.method; instr = before; found = a.found; at = found; reached = reached }, refl, refl)

  locals-are : (m j : ℕ) (a : IsAt p m j) → locals_of (slice_get p.methods m) ≡ a.method.locals
  locals-are m j a = ap locals_of a.found

  -- there is a cell for each slot
  sized : (m j : ℕ) (a : IsAt p m j) → ((i : ℕ) → suc i ≡ j → (b : IsAt p m i) → length (row_at names m i) ≡ b.method.locals + b.instr.height) → length (row_at names m j) ≡ a.method.locals + a.instr.height
  sized m j a ih = by (row-right m j a)
    where
      by : IsRow p m a.method (get_or names m []) j a.instr (row_at names m j) → length (row_at names m j) ≡ a.method.locals + a.instr.height
      by (own e) = ap length e ∙ own-size m j 0 (a.method.locals + a.instr.height)
      by (shared i before later found_before reached_before way e) =
          let b = at-before m i j a before found_before reached_before in
          let size : length (row_at names m i) ≡ a.method.locals + before.height = ih i later b.0 ∙ ap (λ (x : Method). x.locals + b.0.instr.height) b.1 ∙ ap (λ (x : Instr). a.method.locals + x.height) b.2 in
          let going : Runs a.method i before = subst (λ (x : Instr). Runs a.method i x) b.2 (subst (λ (x : Method). Runs x i b.0.instr) b.1 (runs p whole m i b.0)) in
          let at : OpAt p m i before.op before.height = op-at p m i a.method before a.found found_before in
          let n = next-at p whole m i j before.height before.op way.leads b.0 at in
          let same : n.0.instr ≡ a.instr = same_Some n.0.instr a.instr (sym (instr-found p m j n.0.method n.0.instr n.0.found n.0.at) ∙ instr-found p m j a.method a.instr a.found a.at) in
          let high : height_after before.op before.height ≡ a.instr.height = sym n.2 ∙ ap (λ (x : Instr). x.height) same in
          ap length e ∙ next-size p m i before.op (row_at names m i) a.method.locals before.height size going.operands ∙ ap (λ h. a.method.locals + h) high

  pub row-size : (m j : ℕ) (a : IsAt p m j) → length (row_at names m j) ≡ a.method.locals + a.instr.height
  row-size m zero a = sized m zero a (λ i e b. absurd (omega arith))
  row-size m (suc j) a = sized m (suc j) a (λ i e b. let same : i ≡ j = omega arith in
      let here : (c : IsAt p m j) → length (row_at names m j) ≡ c.method.locals + c.instr.height = row-size m j in
      subst (λ k. (c : IsAt p m k) → length (row_at names m k) ≡ c.method.locals + c.instr.height) (sym same) here b)

  -- the slots behind a reached instruction
  pub next-means : (m i j height : ℕ) (op : Op) → Classes p (class_sets.Reached m i) → OpAt p m i op height → Leads p m i j
      → ((y t : ℕ) → MeansToken p (cell_in (row_at names m i) y) t → Classes p (InSlot m i (slot_of p m y) t))
      → (y t : ℕ) → MeansToken p (cell_in (next_row p m i op (row_at names m i)) y) t → Classes p (InSlot m j (slot_of p m y) t)
  next-means m i j height op reached at leads sound y t h =
      let a : IsAt p m i = reached-at p whole m i reached in
      let ops = is-op p whole m i height op a at in
      let going : Runs a.method i a.instr = runs p whole m i a in
      let finds : FindsOperands op height = subst (λ o. FindsOperands o height) ops.0 (subst (FindsOperands a.instr.op) ops.1 going.operands) in
      let uses : UsesLocals op (locals_of (slice_get p.methods m)) = subst (λ o. UsesLocals o (locals_of (slice_get p.methods m))) ops.0 (subst (UsesLocals a.instr.op) (sym (locals-are m i a)) going.locals) in
      let size : length (row_at names m i) ≡ locals_of (slice_get p.methods m) + height = row-size m i a ∙ ap (λ n. n + a.instr.height) (sym (locals-are m i a)) ∙ ap (λ n. locals_of (slice_get p.methods m) + n) ops.1 in
      next-sound p m i j height (row_at names m i) reached leads size sound op at finds uses y t h

  step : (m j : ℕ) → ((i : ℕ) → suc i ≡ j → Classes p (class_sets.Reached m i) → (y t : ℕ) → MeansToken p (cell_in (row_at names m i) y) t → Classes p (InSlot m i (slot_of p m y) t))
      → Classes p (class_sets.Reached m j) → (y t : ℕ) → MeansToken p (cell_in (row_at names m j) y) t → Classes p (InSlot m j (slot_of p m y) t)
  step m j ih reached y t h = by (reached-at p whole m j reached)
    where
      came : (a : IsAt p m j) (i : ℕ) → suc i ≡ j → IsOnlyWay p m a.method i j → (n : ℕ) → Iterate (ClassRule p) n (class_sets.Reached m j) → Classes p (class_sets.Reached m i)
      came a i later way zero x = absurd x
      came a i later way (suc n) x = (n, from-only p m i j n a.method later a.found way x.0 x.1 x.2)

      of_row : (a : IsAt p m j) → IsRow p m a.method (get_or names m []) j a.instr (row_at names m j) → Classes p (InSlot m j (slot_of p m y) t)
      of_row a (own e) =
          let zero_more : 0 + y ≡ y = omega arith in
          subst (λ z. Classes p (InSlot m j (slot_of p m z) t)) zero_more (own-at p m j 0 (a.method.locals + a.instr.height) y t (subst (λ (row : List Cell). MeansToken p (get_or row y Nothing) t) e h))
      of_row a (shared i before later found_before reached_before way e) =
          let from : Classes p (class_sets.Reached m i) = came a i later way reached.0 reached.1 in
          next-means m i j before.height before.op from (op-at p m i a.method before a.found found_before) way.leads (ih i later from) y t
          (subst (λ (row : List Cell). MeansToken p (get_or row y Nothing) t) e h)

      by : IsAt p m j → Classes p (InSlot m j (slot_of p m y) t)
      by a = of_row a (row-right m j a)

  pub named : (m j : ℕ) → Classes p (class_sets.Reached m j) → (y t : ℕ) → MeansToken p (cell_in (row_at names m j) y) t → Classes p (InSlot m j (slot_of p m y) t)
  named m zero = step m zero (λ i e. absurd (omega arith))
  named m (suc j) = step m (suc j) (λ i e. let same : i ≡ j = omega arith in
      subst (λ k. Classes p (class_sets.Reached m k) → (y t : ℕ) → MeansToken p (cell_in (row_at names m k) y) t → Classes p (InSlot m k (slot_of p m y) t)) (sym same) (named m j))
