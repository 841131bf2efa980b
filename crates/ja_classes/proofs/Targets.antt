-- Where calls go: each target has the call's name, descriptor and number of arguments.
use Rattle.std.proofs.Common.{◌≡◌, ◌↔◌, ℕ, suc, ◌+◌, Bool, true, false, List, [], ◌∷◌, Option, Some, length, refl, sym, ap, subst, ◌∙◌, arith, true≢false}
use Rattle.std.specs.Prelude.{All, slice_get, not, bytes_eq, ◌&&◌, if◌then◌else◌}
use Rattle.std.proofs.lemmas.Bool.{and_parts}
use Rattle.std.proofs.lemmas.List.Elements.{All-contains}
use Rattle.std.proofs.lemmas.Slice.Eq.{bytes_eq-Decides}
use Rattle.std.proofs.lemmas.Option.{same_Some}
use Rattle.ja_base.specs.Descriptor.{IsMethod, AreTypes}
use Rattle.ja_bytes.proofs.MethodText.{method_unique}
use Rattle.ja_ir.specs.declared.program.Parts.{Parts}
use Rattle.ja_ir.specs.declared.class.ClassInfo.{ClassInfo}
use Rattle.ja_ir.specs.declared.class.Selection.{Selection}
use Rattle.ja_ir.specs.declared.class.MethodAt.{MethodAt}
use Rattle.ja_ir.specs.declared.class.MethodAt.TheVariants.{Program, Abstract, Library}
use Rattle.ja_ir.specs.declared.method.Method.{Method}
use Rattle.ja_ir.specs.declared.op.CallOp.{CallOp}
use Rattle.ja_ir.specs.declared.op.CallKind.{CallKind}
use Rattle.ja_ir.specs.declared.op.CallKind.TheVariants.{Virtual, Special, Static, Interface, StaticField, MemberField}
use Rattle.ja_ir.specs.Lookup.{HasCode, is_static, is_member, selection_among, selections_of}
use Rattle.ja_ir.specs.Operations.{has_receiver, is_dispatched, count_of}
use Rattle.ja_ir.specs.Params.{param_count}
use Rattle.ja_ir.specs.Whole.{IsWhole, IsWholeSelection, IsAnswer, IsMember, IsFound, IsNamed, HasTypes, IsWholeMethod}
use Rattle.ja_facts.specs.Slots.{CallAt}
use Rattle.ja_facts.specs.ClassSets.{CanBeCalled, Dispatches, selected, elsewhere, Finds, by_static, by_special, in_static_field, in_member_field}
use Rattle.ja_facts.specs.Told.{IsMethodCall, IsTargetOf}
use Rattle.ja_class_laws.proofs.Lists.{all-at}
use Rattle.ja_class_laws.proofs.Params.{params-count}
use Rattle.ja_class_laws.proofs.Frames.{described}

-- a call goes to a method with code
pub record Calls (p : Parts) (m i n : ℕ) : Type 0 where
  pub call : CallOp
  pub under : ℕ
  pub at : CallAt p m i call under
  pub target : IsTargetOf p call n
  pub method : Method
  pub found : slice_get p.methods n ≡ Some method
  pub code : HasCode method

-- to one without code
pub record CallsNone (p : Parts) (m i n : ℕ) : Type 0 where
  pub call : CallOp
  pub under : ℕ
  pub at : CallAt p m i call under
  pub target : IsTargetOf p call n
  pub method : Method
  pub found : slice_get p.methods n ≡ Some method
  pub none : method.code ≡ []

-- ---- kinds of calls

dispatched-spelled : (kind : CallKind) (call : CallOp) → is_dispatched kind ≡ true → HasTypes kind call.desc call.params call.result → IsMethod call.desc call.params call.result
dispatched-spelled Virtual call e h = h
dispatched-spelled Interface call e h = h
dispatched-spelled Special call e h = absurd (true≢false (sym e))
dispatched-spelled Static call e h = absurd (true≢false (sym e))
dispatched-spelled StaticField call e h = absurd (true≢false (sym e))
dispatched-spelled MemberField call e h = absurd (true≢false (sym e))

dispatched-receiver : (kind : CallKind) → is_dispatched kind ≡ true → has_receiver kind ≡ true
dispatched-receiver Virtual e = refl
dispatched-receiver Interface e = refl
dispatched-receiver Special e = refl
dispatched-receiver Static e = absurd (true≢false (sym e))
dispatched-receiver StaticField e = absurd (true≢false (sym e))
dispatched-receiver MemberField e = refl

dispatched-call : (kind : CallKind) → is_dispatched kind ≡ true → IsMethodCall kind
dispatched-call Virtual e = tt
dispatched-call Interface e = tt
dispatched-call Special e = tt
dispatched-call Static e = tt
dispatched-call StaticField e = absurd (true≢false (sym e))
dispatched-call MemberField e = absurd (true≢false (sym e))

-- a method without a receiver is static, and is called so
static-is : (static : Bool) (kind : CallKind) → not static ≡ has_receiver kind → IsMethodCall kind → (static ≡ true) ↔ (kind ≡ Static)
static-is true Static e is = (λ h. refl, λ h. refl)
static-is true Virtual e is = absurd (true≢false (sym e))
static-is true Special e is = absurd (true≢false (sym e))
static-is true Interface e is = absurd (true≢false (sym e))
static-is true StaticField e is = absurd is
static-is true MemberField e is = absurd is
static-is false Static e is = absurd (true≢false e)
static-is false Virtual e is = (λ h. absurd (true≢false (sym h)), λ h. absurd (cc h))
static-is false Special e is = (λ h. absurd (true≢false (sym h)), λ h. absurd (cc h))
static-is false Interface e is = (λ h. absurd (true≢false (sym h)), λ h. absurd (cc h))
static-is false StaticField e is = absurd is
static-is false MemberField e is = absurd is

module _ (p : Parts) (whole : IsWhole p) where
  -- a method of the call's name and descriptor
  target-of : (call : CallOp) (n : ℕ) (method : Method) → IsNamed p n call.name call.desc method → IsMethod call.desc call.params call.result → is_member method.flags ≡ has_receiver call.kind → IsMethodCall call.kind → IsTargetOf p call n
  target-of call n method named spelled receiver is =
      let types : AreTypes method.desc method.types = (all-at (IsWholeMethod p) p.methods n method whole.methods named.found).spelled in
      let one = method_unique call.desc method.types.params call.params method.types.result call.result (subst (λ (d : List ℕ). IsMethod d method.types.params method.types.result) named.is_desc types.spelled) spelled in
      let count : param_count method ≡ count_of (is_member method.flags) + length method.types.params = params-count (is_member method.flags) method.types.params in
      let same : length method.types.params ≡ length call.params = ap length one.0 in
      let first : count_of (is_member method.flags) ≡ count_of (has_receiver call.kind) = ap count_of receiver in
      record {
        method = method;
        found = named.found;
        is_name = named.is_name;
        is_desc = named.is_desc;
        is_count = omega arith;
        is_kind = static-is (is_static method.flags) call.kind receiver is;
        no_access = is;
      }

  -- ---- what a call on an object selects

  selection-whole : (name desc : List ℕ) (selections : List Selection) → All (IsWholeSelection p) selections → IsAnswer p name desc (selection_among name desc selections) × IsMember p (selection_among name desc selections)
  selection-whole name desc [] all = (tt, tt)
  selection-whole name desc (s ∷ selections) all = by (bytes_eq s.name name && bytes_eq s.desc desc) refl (selection-whole name desc selections (λ k x lt. all (suc k) x (omega arith)))
    where
      by : (b : Bool) → (bytes_eq s.name name && bytes_eq s.desc desc) ≡ b → IsAnswer p name desc (selection_among name desc selections) × IsMember p (selection_among name desc selections)
          → IsAnswer p name desc (if b then s.target else selection_among name desc selections) × IsMember p (if b then s.target else selection_among name desc selections)
      by true same further =
          let one : IsWholeSelection p s = All-contains (IsWholeSelection p) (s ∷ selections) s all (0, omega arith, refl) in
          let both = and_parts (bytes_eq s.name name) (bytes_eq s.desc desc) same in (
            subst (λ d. IsAnswer p name d s.target) ((bytes_eq-Decides s.desc desc).0 both.1) (subst (λ x. IsAnswer p x s.desc s.target) ((bytes_eq-Decides s.name name).0 both.0) one.answer),
            one.member,
          )
      by false same further = further

  dispatch-whole : (call : CallOp) (t : ℕ) (target : MethodAt) → Dispatches p call t target → IsAnswer p call.name call.desc target × IsMember p target
  dispatch-whole call t _ (selected is fits) =
      subst (λ (o : Option ClassInfo). IsAnswer p call.name call.desc (selection_among call.name call.desc (selections_of o)) × IsMember p (selection_among call.name call.desc (selections_of o))) (sym is.1)
      (selection-whole call.name call.desc is.0.selections (all-at (λ (x : ClassInfo). All (IsWholeSelection p) x.selections) p.classes t is.0 whole.selections is.1))
  dispatch-whole call t _ (elsewhere none library) = (tt, tt)

  -- ---- targets

  dispatched-target : (m i n under : ℕ) (call : CallOp) (method : Method) → CallAt p m i call under → is_dispatched call.kind ≡ true → IsNamed p n call.name call.desc method → is_member method.flags ≡ true → IsTargetOf p call n
  dispatched-target m i n under call method at dispatched named member =
      target-of call n method named (dispatched-spelled call.kind call dispatched (described p whole m i at.height call at.at).0) (member ∙ sym (dispatched-receiver call.kind dispatched)) (dispatched-call call.kind dispatched)

  pub selects-calls : (m i n under t : ℕ) (call : CallOp) → CallAt p m i call under → is_dispatched call.kind ≡ true → Dispatches p call t (Program (record { 0 = n })) → Calls p m i n
  selects-calls m i n under t call at dispatched goes =
      let w = dispatch-whole call t (Program (record { 0 = n })) goes in
      let answer = w.0 in
      record { call = call; under = under; at = at; target = dispatched-target m i n under call answer.0 at dispatched answer.1 (w.1 answer.0 answer.1.found); method = answer.0; found = answer.1.found; code = answer.2 }

  pub selects-none : (m i n under t : ℕ) (call : CallOp) → CallAt p m i call under → is_dispatched call.kind ≡ true → Dispatches p call t (Abstract (record { 0 = n })) → CallsNone p m i n
  selects-none m i n under t call at dispatched goes =
      let w = dispatch-whole call t (Abstract (record { 0 = n })) goes in
      let answer = w.0 in
      record { call = call; under = under; at = at; target = dispatched-target m i n under call answer.0 at dispatched answer.1 (w.1 answer.0 answer.1.found); method = answer.0; found = answer.1.found; none = answer.2 }

  -- a method that a static or special call found can be called by it
  found-target : (m i n under : ℕ) (call : CallOp) (method found : Method) (target : MethodAt) → CallAt p m i call under → Finds call target → (target ≡ Library → ⊥) → slice_get p.methods n ≡ Some method → CanBeCalled call.kind method
      → IsNamed p n call.name call.desc found → IsTargetOf p call n
  found-target m i n under call method found target at (by_static kind is) other at_method can named =
      let static : is_static method.flags ≡ true = subst (λ k. CanBeCalled k method) kind can in
      let same : found ≡ method = same_Some found method (sym named.found ∙ at_method) in
      let spelled : IsMethod call.desc call.params call.result = subst (λ k. HasTypes k call.desc call.params call.result) kind (described p whole m i at.height call at.at).0 in
      target-of call n found named spelled (ap (λ (x : Method). is_member x.flags) same ∙ ap not static ∙ sym (ap has_receiver kind)) (subst IsMethodCall (sym kind) tt)
  found-target m i n under call method found target at (by_special kind is) other at_method can named =
      let member : is_member method.flags ≡ true = subst (λ k. CanBeCalled k method) kind can in
      let same : found ≡ method = same_Some found method (sym named.found ∙ at_method) in
      let spelled : IsMethod call.desc call.params call.result = subst (λ k. HasTypes k call.desc call.params call.result) kind (described p whole m i at.height call at.at).0 in
      target-of call n found named spelled (ap (λ (x : Method). is_member x.flags) same ∙ member ∙ sym (ap has_receiver kind)) (subst IsMethodCall (sym kind) tt)
  found-target m i n under call method found _ at (in_static_field kind) other at_method can named = absurd (other refl)
  found-target m i n under call method found _ at (in_member_field kind) other at_method can named = absurd (other refl)

  -- what it found answers its name and descriptor
  found-answer : (m i under : ℕ) (call : CallOp) (target : MethodAt) → CallAt p m i call under → Finds call target → IsAnswer p call.name call.desc target
  found-answer m i under call target at (by_static kind is) = subst (IsFound p call) is (described p whole m i at.height call at.at).1
  found-answer m i under call target at (by_special kind is) = subst (IsFound p call) is (described p whole m i at.height call at.at).1
  found-answer m i under call _ at (in_static_field kind) = tt
  found-answer m i under call _ at (in_member_field kind) = tt

  pub finds-calls : (m i n under : ℕ) (call : CallOp) (method : Method) → CallAt p m i call under → Finds call (Program (record { 0 = n })) → slice_get p.methods n ≡ Some method → CanBeCalled call.kind method → Calls p m i n
  finds-calls m i n under call method at finds found can =
      let answer = found-answer m i under call (Program (record { 0 = n })) at finds in
      record { call = call; under = under; at = at; target = found-target m i n under call method answer.0 (Program (record { 0 = n })) at finds (λ e. cc e) found can answer.1; method = answer.0; found = answer.1.found; code = answer.2 }

  pub finds-none : (m i n under : ℕ) (call : CallOp) (method : Method) → CallAt p m i call under → Finds call (Abstract (record { 0 = n })) → slice_get p.methods n ≡ Some method → CanBeCalled call.kind method → CallsNone p m i n
  finds-none m i n under call method at finds found can =
      let answer = found-answer m i under call (Abstract (record { 0 = n })) at finds in
      record { call = call; under = under; at = at; target = found-target m i n under call method answer.0 (Abstract (record { 0 = n })) at finds (λ e. cc e) found can answer.1; method = answer.0; found = answer.1.found; none = answer.2 }
