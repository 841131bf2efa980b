-- What class sets say of where calls go, what they hand over and what comes back is told by the network.
use Rattle.std.proofs.Common.{◌≡◌, ◌⊎◌, inl, inr, ℕ, ◌+◌, ◌-◌, ◌<◌, ◌≤◌, ◌&&◌, not, Bool, true, false, List, ◌++◌, Option, Some, None, replicate, refl, sym, ap, subst, ◌∙◌, arith, true≢false}
use Rattle.std.specs.Prelude.{slice_get, if◌then◌else◌}
use Rattle.std.proofs.lemmas.Option.{same_Some}
use Rattle.ja_base.specs.declared.java_type.JavaType.{JavaType}
use Rattle.ja_ir.specs.declared.program.Parts.{Parts}
use Rattle.ja_ir.specs.declared.class.ClassInfo.{ClassInfo}
use Rattle.ja_ir.specs.declared.class.MethodAt.{MethodAt}
use Rattle.ja_ir.specs.declared.class.MethodAt.TheVariants.{Program, Abstract, Library}
use Rattle.ja_ir.specs.declared.method.Method.{Method}
use Rattle.ja_ir.specs.declared.op.CallOp.{CallOp}
use Rattle.ja_ir.specs.declared.op.CallKind.{CallKind}
use Rattle.ja_ir.specs.declared.op.CallKind.TheVariants.{Virtual, Special, Static, Interface, StaticField, MemberField}
use Rattle.ja_ir.specs.declared.op.Op.{Op}
use Rattle.ja_ir.specs.declared.op.Op.TheVariants.{Call}
use Rattle.ja_ir.specs.Lookup.{OpAt, Leads, selection_among, selections_of}
use Rattle.ja_ir.specs.Operations.{arguments, has_receiver, is_dispatched, result_count}
use Rattle.ja_ir.specs.Tokens.{fits, fits_shape, shape_of, is_in_program, names_program, lib_token}
use Rattle.ja_ir.specs.Whole.{IsWhole}
use Rattle.ja_facts.specs.Least.{Each}
use Rattle.ja_facts.specs.Slots.{OnStack, CallAt, argument}
use Rattle.ja_facts.specs.ClassSets as class_sets
use Rattle.ja_facts.specs.ClassSets.{CanBeCalled, Finds, Dispatches}
use Rattle.ja_network.specs.declared.cell.Cell.{Cell}
use Rattle.ja_network.specs.declared.cell.Cell.TheVariants.{Param, Answer, Out, Thrown, Pushed}
use Rattle.ja_network.specs.declared.cell.Action.TheVariants.{Dispatch}
use Rattle.ja_network.specs.declared.cell.Event.TheVariants.{Reached, Calls, CallsAbstract, CallsLibrary}
use Rattle.ja_network.specs.Facts.{HasToken, Happens as ItHappens}
use Rattle.ja_cells.specs.Names.{Names, AreNames, row_at, locals_of, slot_number}
use Rattle.ja_cells.specs.Rows.{cell_in}
use Rattle.ja_constraints.specs.declared.constraint.Constraint.{Constraint}
use Rattle.ja_constraints.specs.Links.{link, copy, throws_library}
use Rattle.ja_constraints.specs.Places.{argument_cell}
use Rattle.ja_constraints.specs.Calls.{can_be_called, calls, calls_abstract, goes_by_kind, null_receiver, first_handed, hands, passes}
use Rattle.ja_firing.specs.Tokens.{dispatched_by, dispatched, goes_to, dispatches}
use Rattle.ja_class_laws.proofs.Lists.{each-left, each-right, each-when, over-at, code-told}
use Rattle.ja_class_laws.proofs.Frames.{IsAt, IsSlot, IsCalled, HasResult, same-call, is-op}
use Rattle.ja_class_laws.proofs.Telling.{Net, Told, follows-told, fired, copied}
use Rattle.ja_class_laws.proofs.Arriving.{Held, at-of, tells-targets, pushes-to}

-- where a receiver leads a call
pub dispatched-is : (p : Parts) (call : CallOp) (t : ℕ) (target : MethodAt) → Dispatches p call t target → dispatched p call t ≡ Some target
dispatched-is p call t _ (class_sets.selected is fits_named) =
    ap (dispatched_by call (is_in_program (shape_of p call.class)) (fits_shape p t (shape_of p call.class))) is.1
    ∙ by (names_program p call.class) (fits p t call.class) fits_named
    ∙ ap Some (sym (ap (λ (o : Option ClassInfo). selection_among call.name call.desc (selections_of o)) is.1))
  where
    by : (named fit : Bool) → (named ≡ true → fit ≡ true) → (if named && not fit then None else Some (selection_among call.name call.desc is.0.selections)) ≡ Some (selection_among call.name call.desc is.0.selections)
    by true true h = refl
    by true false h = absurd (true≢false (sym (h refl)))
    by false fit h = refl
dispatched-is p call t _ (class_sets.elsewhere none library) = by (slice_get p.classes t) refl
  where
    by : (o : Option ClassInfo) → slice_get p.classes t ≡ o → dispatched_by call (is_in_program (shape_of p call.class)) (fits_shape p t (shape_of p call.class)) o ≡ Some Library
    by None is = ap (λ (b : Bool). if b then None else Some Library) library
    by (Some class) is = absurd (none (class, is))

module _ (p : Parts) (names : Names) (whole : IsWhole p) (right : AreNames p names) where
  -- what is told of an instruction, of its operation
  pub of-op : (m i height : ℕ) (op : Op) (a : IsAt p m i) → OpAt p m i op height → (f : ℕ → ℕ → Op → List Constraint) → Each (Told p names) (f a.method.locals a.instr.height a.instr.op)
      → Each (Told p names) (f (locals_of (slice_get p.methods m)) height op)
  of-op m i height op a at f h =
      let ops = is-op p whole m i height op a at in
      subst (λ (o : Option Method). Each (Told p names) (f (locals_of o) height op)) (sym a.found)
      (subst (λ x. Each (Told p names) (f a.method.locals x op)) ops.1 (subst (λ o. Each (Told p names) (f a.method.locals a.instr.height o)) ops.0 h))

  -- the cell of an argument
  pub argument-is : (m i under k : ℕ) (call : CallOp) (at : CallAt p m i call under) → cell_in (row_at names m i) (slot_number p m (argument under k)) ≡ argument_cell (row_at names m i) (locals_of (slice_get p.methods m)) at.height call k
  argument-is m i under k call at =
      let e : at.height ≡ under + arguments call = at.under_is in
      let lies : under ≡ at.height - arguments call = omega arith in
      ap (λ n. cell_in (row_at names m i) (locals_of (slice_get p.methods m) + (n + k))) lies

  pub argument-has : (m i under k t : ℕ) (call : CallOp) (at : CallAt p m i call under) → Net p names (HasToken (cell_in (row_at names m i) (slot_number p m (argument under k))) t)
      → Net p names (HasToken (argument_cell (row_at names m i) (locals_of (slice_get p.methods m)) at.height call k) t)
  argument-has m i under k t call at h = subst (λ (c : Cell). Net p names (HasToken c t)) (argument-is m i under k call at) h

  -- ---- where a call goes

  goes-told : (m i under : ℕ) (call : CallOp) → Net p names (ItHappens (Reached m i)) → (at : CallAt p m i call under)
      → Each (Told p names) (goes_by_kind p m i (argument_cell (row_at names m i) (locals_of (slice_get p.methods m)) at.height call 0) call.found call.kind)
  goes-told m i under call r at =
      each-right (Told p names) (null_receiver p m i call.kind) (goes_by_kind p m i (argument_cell (row_at names m i) (locals_of (slice_get p.methods m)) at.height call 0) call.found call.kind)
      (tells-targets p names whole right m i at.height (Call call) r at.at)

  pub null-told : (m i under : ℕ) (call : CallOp) → Net p names (ItHappens (Reached m i)) → CallAt p m i call under → has_receiver call.kind ≡ true → Net p names (HasToken (Thrown m i) (lib_token p))
  null-told m i under call r at receiver =
      (each-when (Told p names) (has_receiver call.kind) (throws_library p m i) receiver
      (each-left (Told p names) (null_receiver p m i call.kind) (goes_by_kind p m i (argument_cell (row_at names m i) (locals_of (slice_get p.methods m)) at.height call 0) call.found call.kind)
      (tells-targets p names whole right m i at.height (Call call) r at.at))).0 (omega arith)

  kind-told : (m i under : ℕ) (call : CallOp) → Net p names (ItHappens (Reached m i)) → (at : CallAt p m i call under) → (kind : CallKind) → call.kind ≡ kind → (found : Option MethodAt) → call.found ≡ found
      → Each (Told p names) (goes_by_kind p m i (argument_cell (row_at names m i) (locals_of (slice_get p.methods m)) at.height call 0) found kind)
  kind-told m i under call r at kind e found f =
      subst (λ (o : Option MethodAt). Each (Told p names) (goes_by_kind p m i (argument_cell (row_at names m i) (locals_of (slice_get p.methods m)) at.height call 0) o kind)) f
      (subst (λ k. Each (Told p names) (goes_by_kind p m i (argument_cell (row_at names m i) (locals_of (slice_get p.methods m)) at.height call 0) call.found k)) e (goes-told m i under call r at))

  pub found-method : (m i n under : ℕ) (call : CallOp) (method : Method) → Net p names (ItHappens (Reached m i)) → CallAt p m i call under → Finds call (Program (record { 0 = n })) → slice_get p.methods n ≡ Some method
      → CanBeCalled call.kind method → Net p names (ItHappens (Calls m i n))
  found-method m i n under call method r at (class_sets.by_static kind is) found can =
      (each-when (Told p names) (can_be_called Static (slice_get p.methods n)) (calls m i n) (ap (can_be_called Static) found ∙ subst (λ k. CanBeCalled k method) kind can)
      (kind-told m i under call r at Static kind (Some (Program (record { 0 = n }))) is)).0
  found-method m i n under call method r at (class_sets.by_special kind is) found can =
      (each-when (Told p names) (can_be_called Special (slice_get p.methods n)) (calls m i n) (ap (can_be_called Special) found ∙ subst (λ k. CanBeCalled k method) kind can)
      (kind-told m i under call r at Special kind (Some (Program (record { 0 = n }))) is)).0

  pub found-abstract : (m i n under : ℕ) (call : CallOp) (method : Method) → Net p names (ItHappens (Reached m i)) → CallAt p m i call under → Finds call (Abstract (record { 0 = n })) → slice_get p.methods n ≡ Some method
      → CanBeCalled call.kind method → Net p names (ItHappens (CallsAbstract m i n))
  found-abstract m i n under call method r at (class_sets.by_static kind is) found can =
      (each-when (Told p names) (can_be_called Static (slice_get p.methods n)) (calls_abstract m i n) (ap (can_be_called Static) found ∙ subst (λ k. CanBeCalled k method) kind can)
      (kind-told m i under call r at Static kind (Some (Abstract (record { 0 = n }))) is)).0
  found-abstract m i n under call method r at (class_sets.by_special kind is) found can =
      (each-when (Told p names) (can_be_called Special (slice_get p.methods n)) (calls_abstract m i n) (ap (can_be_called Special) found ∙ subst (λ k. CanBeCalled k method) kind can)
      (kind-told m i under call r at Special kind (Some (Abstract (record { 0 = n }))) is)).0

  pub found-library : (m i under : ℕ) (call : CallOp) → Net p names (ItHappens (Reached m i)) → CallAt p m i call under → Finds call Library → Net p names (ItHappens (CallsLibrary m i))
  found-library m i under call r at (class_sets.by_static kind is) = (kind-told m i under call r at Static kind (Some Library) is).0
  found-library m i under call r at (class_sets.by_special kind is) = (kind-told m i under call r at Special kind (Some Library) is).0
  found-library m i under call r at (class_sets.in_static_field kind) = (kind-told m i under call r at StaticField kind call.found refl).0
  found-library m i under call r at (class_sets.in_member_field kind) = (kind-told m i under call r at MemberField kind call.found refl).0

  dispatch-link : (m i : ℕ) (receiver : Cell) (found : Option MethodAt) (kind : CallKind) → is_dispatched kind ≡ true → Each (Told p names) (goes_by_kind p m i receiver found kind) → Each (Told p names) (link receiver (Dispatch m i))
  dispatch-link m i receiver found Virtual e h = h
  dispatch-link m i receiver found Interface e h = h
  dispatch-link m i receiver found Special e h = absurd (true≢false (sym e))
  dispatch-link m i receiver found Static e h = absurd (true≢false (sym e))
  dispatch-link m i receiver found StaticField e h = absurd (true≢false (sym e))
  dispatch-link m i receiver found MemberField e h = absurd (true≢false (sym e))

  -- a call goes where its receiver leads
  pub selected-told : (m i under t : ℕ) (call : CallOp) (target : MethodAt) → Net p names (ItHappens (Reached m i)) → CallAt p m i call under → is_dispatched call.kind ≡ true → Dispatches p call t target
      → Net p names (HasToken (cell_in (row_at names m i) (slot_number p m (argument under 0))) t) → Each (Told p names) (goes_to m i t (Some target))
  selected-told m i under t call target r at dispatches_kind goes h =
      let a : IsAt p m i = at-of p names whole right m i r in
      let told = dispatch-link m i (argument_cell (row_at names m i) (locals_of (slice_get p.methods m)) at.height call 0) call.found call.kind dispatches_kind (goes-told m i under call r at) in
      let code = fired p names whole right (argument_cell (row_at names m i) (locals_of (slice_get p.methods m)) at.height call 0) (Dispatch m i) t (argument-has m i under 0 t call at h) told in
      let there : Each (Told p names) (dispatches p m i t a.instr.op) = code-told (Told p names) p m i (λ method instr. dispatches p m i t instr.op) a.method a.instr a.found a.at code in
      let here : Each (Told p names) (goes_to m i t (dispatched p call t)) = of-op m i at.height (Call call) a at.at (λ locals height op. dispatches p m i t op) there in
      subst (λ (o : Option MethodAt). Each (Told p names) (goes_to m i t o)) (dispatched-is p call t target goes) here

  -- ---- calls of methods with code

  pub callee-reached : (m i n : ℕ) → Net p names (ItHappens (Calls m i n)) → Net p names (ItHappens (Reached n 0))
  callee-reached m i n c = (follows-told p names (Calls m i n) c).0

  pub callee-throws : (m i n t : ℕ) → Net p names (ItHappens (Calls m i n)) → Net p names (HasToken (Out n) t) → Net p names (HasToken (Thrown m i) t)
  callee-throws m i n t c h = copied p names whole right (Out n) (Thrown m i) t h ((follows-told p names (Calls m i n) c).1.0, tt)

  passes-told : (m i n under : ℕ) (call : CallOp) → Net p names (ItHappens (Reached m i)) → Net p names (ItHappens (Calls m i n)) → (at : CallAt p m i call under)
      → Each (Told p names) (hands (row_at names m i) (locals_of (slice_get p.methods m)) at.height call n ++ copy (Answer n) (Pushed m i))
  passes-told m i n under call r c at =
      let a : IsAt p m i = at-of p names whole right m i r in
      of-op m i at.height (Call call) a at.at (λ locals height op. passes m i n (row_at names m i) locals height op)
      (code-told (Told p names) p m i (λ method instr. passes m i n (row_at names m i) method.locals instr.height instr.op) a.method a.instr a.found a.at (follows-told p names (Calls m i n) c).1.1)

  first-below : (kind : CallKind) (k : ℕ) → ((is_dispatched kind ≡ false) ⊎ (0 < k)) → first_handed kind ≤ k
  first-below kind k h = by (is_dispatched kind) h
    where
      by : (b : Bool) → ((b ≡ false) ⊎ (0 < k)) → (if b then 1 else 0) ≤ k
      by true (inl e) = absurd (true≢false e)
      by true (inr lt) = omega arith
      by false h = omega arith

  pub hands-told : (m i n under k t : ℕ) (call : CallOp) → Net p names (ItHappens (Reached m i)) → Net p names (ItHappens (Calls m i n)) → CallAt p m i call under → k < arguments call → ((is_dispatched call.kind ≡ false) ⊎ (0 < k))
      → Net p names (HasToken (cell_in (row_at names m i) (slot_number p m (argument under k))) t) → Net p names (HasToken (Param n k) t)
  hands-told m i n under k t call r c at lt other h =
      let first : first_handed call.kind ≤ k = first-below call.kind k other in
      let told : Each (Told p names) (copy (argument_cell (row_at names m i) (locals_of (slice_get p.methods m)) at.height call k) (Param n k)) =
      over-at (Told p names) (λ x. copy (argument_cell (row_at names m i) (locals_of (slice_get p.methods m)) at.height call x) (Param n x)) (first_handed call.kind) (arguments call - first_handed call.kind) k first (omega arith)
      (each-left (Told p names) (hands (row_at names m i) (locals_of (slice_get p.methods m)) at.height call n) (copy (Answer n) (Pushed m i)) (passes-told m i n under call r c at)) in
      copied p names whole right (argument_cell (row_at names m i) (locals_of (slice_get p.methods m)) at.height call k) (Param n k) t (argument-has m i under k t call at h) told

  -- what a call pushes comes to the next instruction
  pub call-pushes : (m i j under t : ℕ) (call : CallOp) (type : JavaType) → Net p names (ItHappens (Reached m i)) → CallAt p m i call under → call.result ≡ Some type → Leads p m i j → IsSlot p m j (OnStack under)
      → Net p names (HasToken (Pushed m i) t) → Held p names m j (OnStack under) t
  call-pushes m i j under t call type r at has leads s h =
      let e : at.height ≡ under + arguments call = at.under_is in
      let cell : cell_in (replicate (result_count call.result) (Pushed m i)) 0 ≡ Pushed m i = ap (λ (o : Option JavaType). cell_in (replicate (result_count o) (Pushed m i)) 0) has in
      pushes-to p names whole right m i j at.height under (Call call) r at.at leads refl (omega arith) (omega arith) s t (subst (λ (c : Cell). Net p names (HasToken c t)) (sym cell) h)

  pub answered-told : (m i j n under t : ℕ) (call : CallOp) → Net p names (ItHappens (Reached m i)) → Net p names (ItHappens (Calls m i n)) → IsCalled p m i n → HasResult p n → CallAt p m i call under → Leads p m i j
      → IsSlot p m j (OnStack under) → Net p names (HasToken (Answer n) t) → Held p names m j (OnStack under) t
  answered-told m i j n under t call r c called result at leads s h =
      let same : called.call ≡ call = (same-call p m i called.call call called.under under called.at at).0 in
      let one : result.method ≡ called.method = same_Some result.method called.method (sym result.found ∙ called.found) in
      let has : call.result ≡ Some result.type = sym (ap (λ (x : CallOp). x.result) same) ∙ sym called.result ∙ sym (ap (λ (x : Method). x.types.result) one) ∙ result.has in
      let told : Each (Told p names) (copy (Answer n) (Pushed m i)) =
      each-right (Told p names) (hands (row_at names m i) (locals_of (slice_get p.methods m)) at.height call n) (copy (Answer n) (Pushed m i)) (passes-told m i n under call r c at) in
      call-pushes m i j under t call result.type r at has leads s (copied p names whole right (Answer n) (Pushed m i) t h told)

  pub abstract-throws : (m i n : ℕ) → Net p names (ItHappens (CallsAbstract m i n)) → Net p names (HasToken (Thrown m i) (lib_token p))
  abstract-throws m i n c = (follows-told p names (CallsAbstract m i n) c).0 (omega arith)
