-- Where calls go, what they hand over and what comes back: what is told of it is meant.
use Rattle.std.proofs.Common.{◌≡◌, ◌⊎◌, inl, inr, ℕ, ◌-◌, ◌<◌, ◌≤◌, Bool, true, false, List, [], ◌∷◌, Option, Some, None, refl, sym, ap, subst, ◌∙◌, arith, true≢false}
use Rattle.std.specs.Prelude.{slice_get, if◌then◌else◌}
use Rattle.std.proofs.lemmas.Option.{same_Some}
use Rattle.ja_ir.specs.declared.program.Parts.{Parts}
use Rattle.ja_ir.specs.declared.class.MethodAt.{MethodAt}
use Rattle.ja_ir.specs.declared.class.MethodAt.TheVariants.{Program, Abstract, Library}
use Rattle.ja_ir.specs.declared.method.Method.{Method}
use Rattle.ja_ir.specs.declared.method.Instr.{Instr}
use Rattle.ja_ir.specs.declared.op.CallOp.{CallOp}
use Rattle.ja_ir.specs.declared.op.CallKind.{CallKind}
use Rattle.ja_ir.specs.declared.op.CallKind.TheVariants.{Virtual, Special, Static, Interface, StaticField, MemberField}
use Rattle.ja_ir.specs.declared.op.Op.{Op}
use Rattle.ja_ir.specs.declared.op.Op.TheVariants.{Call}
use Rattle.ja_ir.specs.Lookup.{Leads}
use Rattle.ja_ir.specs.Operations.{arguments, has_receiver, is_dispatched}
use Rattle.ja_ir.specs.Tokens.{lib_token}
use Rattle.ja_ir.specs.Whole.{IsWhole}
use Rattle.ja_facts.specs.Least.{Each}
use Rattle.ja_facts.proofs.LeastLaws.{Least-is_solution}
use Rattle.ja_facts.specs.Analyses.{Classes}
use Rattle.ja_facts.specs.Slots.{OnStack, CallAt, argument}
use Rattle.ja_facts.specs.ClassSets as class_sets
use Rattle.ja_facts.specs.ClassSets.{Fact as ClassFact, Rule as ClassRule, InSlot, InThrown, InParam, InResult, InOut, CallsMethod, CanBeCalled, Finds}
use Rattle.ja_network.specs.declared.cell.Cell.TheVariants.{Param, Answer, Pushed}
use Rattle.ja_network.specs.declared.cell.Action.TheVariants.{Copy, Dispatch}
use Rattle.ja_cells.specs.Names.{Names, AreNames, row_at}
use Rattle.ja_constraints.specs.Links.{link, copy, throws_library}
use Rattle.ja_constraints.specs.Places.{argument_cell}
use Rattle.ja_constraints.specs.Calls.{can_be_called, calls, calls_abstract, goes_to_found, goes_by_kind, null_receiver, targets, first_handed, hands, passes}
use Rattle.ja_constraints.specs.Events.{called, passed}
use Rattle.ja_class_laws.proofs.Lists.{each-append, each-if, each-over, each-code}
use Rattle.ja_class_laws.proofs.Meaning.{MeansToken, Good}
use Rattle.ja_class_laws.proofs.Frames.{IsAt, same-op, same-call, same-under, reached-at}
use Rattle.ja_class_laws.proofs.InSlots.{call-there, good-argument}

-- a method that can be called is there
pub can-be-called : (kind : CallKind) (o : Option Method) → can_be_called kind o ≡ true → (method : Method) × (o ≡ Some method) × CanBeCalled kind method
can-be-called kind None e = absurd (true≢false (sym e))
can-be-called Static (Some method) e = (method, refl, e)
can-be-called Special (Some method) e = (method, refl, e)
can-be-called Virtual (Some method) e = absurd (true≢false (sym e))
can-be-called Interface (Some method) e = absurd (true≢false (sym e))
can-be-called StaticField (Some method) e = absurd (true≢false (sym e))
can-be-called MemberField (Some method) e = absurd (true≢false (sym e))

-- what a call pushes
pub pushed-by : (p : Parts) (m i t under : ℕ) (call : CallOp) → CallAt p m i call under → ((j : ℕ) → Leads p m i j → Classes p (InSlot m j (OnStack under) t)) → MeansToken p (Pushed m i) t
pushed-by p m i t under call at h j height below op other is leads =
    let same = same-op p m i op (Call call) height at.height other at.at in
    let lies : below ≡ under = same-under op call height at.height below under same.0 same.1 is at.under_is in
    subst (λ k. Classes p (InSlot m j (OnStack k) t)) (sym lies) (h j leads)

-- an instruction that is reached is marked so
pub still-reached : (p : Parts) (m i : ℕ) (method : Method) (instr : Instr) → IsWhole p → slice_get p.methods m ≡ Some method → slice_get method.code i ≡ Some instr → Classes p (class_sets.Reached m i) → instr.reached ≡ true
still-reached p m i method instr whole found at reached =
    let a : IsAt p m i = reached-at p whole m i reached in
    let one : a.method ≡ method = same_Some a.method method (sym a.found ∙ found) in
    let two : a.instr ≡ instr = same_Some a.instr instr (sym a.at ∙ subst (λ (x : Method). slice_get x.code i ≡ Some instr) (sym one) at) in
    subst (λ (x : Instr). x.reached ≡ true) two a.reached

module _ (p : Parts) (names : Names) (whole : IsWhole p) (right : AreNames p names) (m i : ℕ) (reached : Classes p (class_sets.Reached m i)) where
  close : (ps : List ClassFact) (f : ClassFact) → ClassRule p ps f → Each (Classes p) ps → Classes p f
  close = Least-is_solution (ClassRule p)

  module _ (method : Method) (instr : Instr) (found : slice_get p.methods m ≡ Some method) (at_code : slice_get method.code i ≡ Some instr) where
    call-at : (call : CallOp) → instr.op ≡ Call call → CallAt p m i call (instr.height - arguments call)
    call-at call is = call-there p m i method instr call whole found at_code (still-reached p m i method instr whole found at_code reached) is

    -- ---- where a call goes

    found-goes : (call : CallOp) (under : ℕ) → CallAt p m i call under → (kind : CallKind) → ((target : MethodAt) → call.found ≡ Some target → Finds call target) → call.kind ≡ kind → (o : Option MethodAt) → call.found ≡ o
        → Each (Good p) (goes_to_found p m i kind o)
    found-goes call under at kind finds is None e = tt
    found-goes call under at kind finds is (Some (Program n)) e = each-if (Good p) (can_be_called kind (slice_get p.methods n.0)) (calls m i n.0) (λ c.
        let there = can-be-called kind (slice_get p.methods n.0) c in
        let can : CanBeCalled call.kind there.0 = subst (λ k. CanBeCalled k there.0) (sym is) there.2 in
        ((reached, close (class_sets.Reached m i ∷ []) (CallsMethod m i n.0) (class_sets.found_method there.0 at (finds (Program n) e) there.1 can) (reached, tt)), tt))
    found-goes call under at kind finds is (Some (Abstract n)) e = each-if (Good p) (can_be_called kind (slice_get p.methods n.0)) (calls_abstract m i n.0) (λ c.
        let there = can-be-called kind (slice_get p.methods n.0) c in
        let can : CanBeCalled call.kind there.0 = subst (λ k. CanBeCalled k there.0) (sym is) there.2 in
        ((reached, close (class_sets.Reached m i ∷ []) (class_sets.CallsAbstract m i n.0) (class_sets.found_abstract there.0 at (finds (Abstract n) e) there.1 can) (reached, tt)), tt))
    found-goes call under at kind finds is (Some Library) e = ((reached, close (class_sets.Reached m i ∷ []) (class_sets.CallsLibrary m i) (class_sets.found_library at (finds Library e)) (reached, tt)), tt)

    dispatch-goes : (call : CallOp) → CallAt p m i call (instr.height - arguments call) → is_dispatched call.kind ≡ true → Each (Good p) (link (argument_cell (row_at names m i) method.locals instr.height call 0) (Dispatch m i))
    dispatch-goes call at dispatched = good-argument p names whole right m i method found reached instr.height 0 call (Dispatch m i) (λ t h. (reached, λ under other other_at. to t h under other (same-call p m i call other (instr.height - arguments call) under at other_at)))
      where
        to : (t : ℕ) → Classes p (InSlot m i (argument (instr.height - arguments call) 0) t) → (under : ℕ) (other : CallOp) → (call ≡ other) × ((instr.height - arguments call) ≡ under)
            → (is_dispatched other.kind ≡ true) × Classes p (InSlot m i (argument under 0) t)
        to t h under other same = (subst (λ (x : CallOp). is_dispatched x.kind ≡ true) same.0 dispatched, subst (λ n. Classes p (InSlot m i (argument n 0) t)) same.1 h)

    kind-goes : (call : CallOp) → CallAt p m i call (instr.height - arguments call) → (kind : CallKind) → call.kind ≡ kind
        → Each (Good p) (goes_by_kind p m i (argument_cell (row_at names m i) method.locals instr.height call 0) call.found kind)
    kind-goes call at Virtual is = dispatch-goes call at (ap is_dispatched is)
    kind-goes call at Interface is = dispatch-goes call at (ap is_dispatched is)
    kind-goes call at Special is = found-goes call (instr.height - arguments call) at Special (λ target e. class_sets.by_special is e) is call.found refl
    kind-goes call at Static is = found-goes call (instr.height - arguments call) at Static (λ target e. class_sets.by_static is e) is call.found refl
    kind-goes call at StaticField is = ((reached, close (class_sets.Reached m i ∷ []) (class_sets.CallsLibrary m i) (class_sets.found_library at (class_sets.in_static_field is)) (reached, tt)), tt)
    kind-goes call at MemberField is = ((reached, close (class_sets.Reached m i ∷ []) (class_sets.CallsLibrary m i) (class_sets.found_library at (class_sets.in_member_field is)) (reached, tt)), tt)

    good-targets : (op : Op) → instr.op ≡ op → Each (Good p) (targets p m i (row_at names m i) method.locals instr.height op)
    good-targets (Call call) is =
        let at : CallAt p m i call (instr.height - arguments call) = call-at call is in
        each-append (Good p) (null_receiver p m i call.kind) (goes_by_kind p m i (argument_cell (row_at names m i) method.locals instr.height call 0) call.found call.kind)
        (each-if (Good p) (has_receiver call.kind) (throws_library p m i) (λ e. (close (class_sets.Reached m i ∷ []) (InThrown m i (lib_token p)) (class_sets.null_receiver at e) (reached, tt), tt)))
        (kind-goes call at call.kind refl)
    good-targets op is = tt

    pub targets-sound : Each (Good p) (targets p m i (row_at names m i) method.locals instr.height instr.op)
    targets-sound = good-targets instr.op refl

    -- ---- what goes to a method with code, and comes back

    module _ (n : ℕ) (goes : Classes p (CallsMethod m i n)) where
      handed-over : (call : CallOp) (k : ℕ) → first_handed call.kind ≤ k → (is_dispatched call.kind ≡ false) ⊎ (0 < k)
      handed-over call k le = by (is_dispatched call.kind) refl le
        where
          by : (b : Bool) → is_dispatched call.kind ≡ b → (if b then 1 else 0) ≤ k → (is_dispatched call.kind ≡ false) ⊎ (0 < k)
          by true e lt = inr (omega arith)
          by false e lt = inl e

      good-passes : (op : Op) → instr.op ≡ op → Each (Good p) (passes m i n (row_at names m i) method.locals instr.height op)
      good-passes (Call call) is =
          let at : CallAt p m i call (instr.height - arguments call) = call-at call is in
          each-append (Good p) (hands (row_at names m i) method.locals instr.height call n) (copy (Answer n) (Pushed m i))
          (each-over (Good p) (λ k. copy (argument_cell (row_at names m i) method.locals instr.height call k) (Param n k)) (first_handed call.kind) (arguments call - first_handed call.kind)
          (λ k le lt. good-argument p names whole right m i method found reached instr.height k call (Copy (Param n k)) (λ t h.
          close (class_sets.Reached m i ∷ CallsMethod m i n ∷ InSlot m i (argument (instr.height - arguments call) k) t ∷ []) (InParam n k t) (class_sets.hands at (omega arith) (handed-over call k le)) (reached, (goes, (h, tt)))))) (
            (λ t h. pushed-by p m i t (instr.height - arguments call) call at
                (λ j leads. close (class_sets.Reached m i ∷ CallsMethod m i n ∷ InResult n t ∷ []) (InSlot m j (OnStack (instr.height - arguments call)) t) (class_sets.answered at leads) (reached, (goes, (h, tt))))),
            tt,
          )
      good-passes op is = tt

      pub passes-sound : Each (Good p) (passes m i n (row_at names m i) method.locals instr.height instr.op)
      passes-sound = good-passes instr.op refl

  pub called-sound : (n : ℕ) → Classes p (CallsMethod m i n) → Each (Good p) (called p names m i n)
  called-sound n goes =
      let begun : Classes p (class_sets.Reached n 0) = close (class_sets.Reached m i ∷ CallsMethod m i n ∷ []) (class_sets.Reached n 0) class_sets.callee_reached (reached, (goes, tt)) in
      let rest : Each (Good p) (passed p names m i n) = each-code (Good p) p m i (λ method instr. passes m i n (row_at names m i) method.locals instr.height instr.op) (λ method instr found at. passes-sound method instr found at n goes) in
      (begun, ((λ t h. close (class_sets.Reached m i ∷ CallsMethod m i n ∷ InOut n t ∷ []) (InThrown m i t) class_sets.callee_throws (reached, (goes, (h, tt)))), rest))
