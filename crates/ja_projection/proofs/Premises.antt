-- What the rules ask of methods, instructions and entries still holds after a change.
use Rattle.std.proofs.Common.{◌≡◌, ◌∙◌, ℕ, ◌==◌, ◌&&◌, List, refl, sym, ap, subst}
use Rattle.std.specs.Prelude.{Option, Some, None, Contains, slice_get, bytes_eq, codes, nat_lt}
use Rattle.ja_base.specs.declared.id.MethodId.{MethodId}
use Rattle.ja_base.specs.declared.java_type.JavaType.{JavaType}
use Rattle.ja_ir.specs.declared.class.Field.{Field}
use Rattle.ja_ir.specs.declared.class.MethodAt.{MethodAt}
use Rattle.ja_ir.specs.declared.class.MethodAt.TheVariants.{Program}
use Rattle.ja_ir.specs.declared.entry.Entry.{Entry}
use Rattle.ja_ir.specs.declared.method.Method.{Method}
use Rattle.ja_ir.specs.declared.method.Instr.{Instr}
use Rattle.ja_ir.specs.declared.row.RowFlow.{RowFlow}
use Rattle.ja_ir.specs.declared.row.RowEffect.{RowEffect}
use Rattle.ja_ir.specs.declared.row.RowEffect.TheVariants.{Quiet, Absorb, Blend}
use Rattle.ja_ir.specs.declared.row.RowResult.{RowResult}
use Rattle.ja_ir.specs.declared.row.RowResult.TheVariants.{Fresh, Argument, Member, Any}
use Rattle.ja_ir.specs.declared.op.CallOp.{CallOp}
use Rattle.ja_ir.specs.declared.op.CallKind.{CallKind}
use Rattle.ja_ir.specs.declared.op.CallKind.TheVariants.{Special, Static}
use Rattle.ja_ir.specs.declared.op.Op.{Op}
use Rattle.ja_ir.specs.declared.op.Op.TheVariants.{GetStatic, PutStatic, Call, Cast}
use Rattle.ja_ir.specs.Lookup.{OpAt, Leads, instr_at, code_of, is_member}
use Rattle.ja_ir.specs.Entries.{is_constructor}
use Rattle.ja_ir.specs.Handlers.{Place, dest, dest_among, handlers_of}
use Rattle.ja_ir.specs.Initializing.{InitAt, inits_of, inits_of_field, inits_of_method, inits_of_call}
use Rattle.ja_facts.specs.Slots.{Slot, OnStack, Copies, kept_local, kept_stack, CallAt}
use Rattle.ja_facts.specs.Actions.{IsInitializer, IsConstructor, IsEntry, HasObjects, IsRun, runs_initializer, runs_constructor, runs_entry}
use Rattle.ja_facts.specs.ClassSets.{HasField, Passes, IsOuter, single, nested, IsInner, innermost, between, ThrowsLibrary, Finds, by_static, by_special, in_static_field, in_member_field, CanBeCalled, Dispatches, selected, elsewhere, IsSource, LeadsFrom, HasReference}
use Rattle.ja_facts.specs.Crossings.{IsHandled}
use Rattle.ja_facts.specs.Sharing.{IsNoCall, ThrowsNew, new_by_choice, new_for_receiver}
use Rattle.ja_projection.proofs.Alike.{Alike, nil, AlikeOption, neither, both, Related, at, found, listed, same_length, same_position}
use Rattle.ja_projection.proofs.Changes.{with_flow, SameOp, unchanged, reflowed, SameInstr, redone, SameMethod, recoded, SameEntry, remarked, Change, changed}
use Rattle.ja_projection.proofs.Classes.{same-fits, same-names, same-dest}

-- the method with other code, the entry with other marked positions, the call with another flow
pub record Recoded (method : Method) (Has : Method → Type 0) : Type 0 where
  pub code : List Instr
  pub has : Has (record method { code = code })

pub record Remarked (entry : Entry) (Has : Entry → Type 0) : Type 0 where
  pub marked : List ℕ
  pub has : Has (record entry { marked = marked })

pub record Reflowed (call : CallOp) (Has : CallOp → Type 0) : Type 0 where
  pub flow : RowFlow
  pub has : Has (with_flow flow call)

-- what holds of an operation holds of one that is the same but for a flow, if this is so of calls
across : (P : Op → Type 0) → ((call : CallOp) (flow : RowFlow) → P (Call call) → P (Call (with_flow flow call))) → (op other : Op) → SameOp op other → P op → P other
across P of-call _ _ unchanged h = h
across P of-call _ _ (reflowed {call = call} {flow = flow}) h = of-call call flow h

copies-call : {call : CallOp} {height : ℕ} {z y : Slot} (flow : RowFlow) → Copies (Call call) height z y → Copies (Call (with_flow flow call)) height z y
copies-call flow (kept_local k) = kept_local k
copies-call flow (kept_stack b) = kept_stack b

pub copies : {op other : Op} {height : ℕ} {z y : Slot} → SameOp op other → Copies op height z y → Copies other height z y
copies {op = op} {other = other} {height = height} {z = z} {y = y} s = across (λ (o : Op). Copies o height z y) (λ call flow. copies-call flow) op other s

pub throws-library : {op other : Op} → SameOp op other → ThrowsLibrary op → ThrowsLibrary other
throws-library {op = op} {other = other} s = across ThrowsLibrary (λ call flow h. h) op other s

new-call : {call : CallOp} (flow : RowFlow) → ThrowsNew (Call call) → ThrowsNew (Call (with_flow flow call))
new-call flow (new_by_choice h) = new_by_choice h
new-call flow (new_for_receiver h) = new_for_receiver h

pub throws-new : {op other : Op} → SameOp op other → ThrowsNew op → ThrowsNew other
throws-new {op = op} {other = other} s = across ThrowsNew (λ call flow. new-call flow) op other s

no-call : (op other : Op) → SameOp op other → IsNoCall op → op ≡ other
no-call _ _ unchanged n = refl
no-call _ _ reflowed n = absurd n

as-reflowed : (Has : Op → Type 0) (call : CallOp) (other : Op) → SameOp (Call call) other → Has other → Reflowed call (λ c. Has (Call c))
as-reflowed Has call _ unchanged has = record { flow = call.row.flow; has = has }
as-reflowed Has call _ (reflowed {flow = flow}) has = record { flow = flow; has = has }

-- calls with another flow
pub finds : {call : CallOp} {target : MethodAt} (flow : RowFlow) → Finds call target → Finds (with_flow flow call) target
finds flow (by_static k f) = by_static k f
finds flow (by_special k f) = by_special k f
finds flow (in_static_field k) = in_static_field k
finds flow (in_member_field k) = in_member_field k

pub can-be-called : (kind : CallKind) (method : Method) (code : List Instr) → CanBeCalled kind method → CanBeCalled kind (record method { code = code })
can-be-called Static method code h = h
can-be-called Special method code h = h
can-be-called _ method code h = h

pub is-source : (call : CallOp) (flow : RowFlow) (k : ℕ) (effect : RowEffect) → IsSource call k effect → IsSource (with_flow flow call) k effect
is-source call flow k Quiet h = h
is-source call flow k Absorb h = h
is-source call flow k Blend h = h

pub leads-from : (call : CallOp) (flow : RowFlow) (k : ℕ) (answer : RowResult) → LeadsFrom call k answer → LeadsFrom (with_flow flow call) k answer
leads-from call flow k Fresh h = h
leads-from call flow k Argument h = h
leads-from call flow k Member h = h
leads-from call flow k Any h = h

pub has-reference : {call : CallOp} {type : JavaType} (flow : RowFlow) → HasReference call type → HasReference (with_flow flow call) type
has-reference flow h = record { has = h.has; reference = h.reference }

-- a method, or none
codes-alike : (o u : Option Method) → AlikeOption SameMethod o u → Alike SameInstr (code_of o) (code_of u)
codes-alike _ _ neither = nil
codes-alike _ _ (both (recoded s)) = s

same-handlers : (o u : Option Method) → AlikeOption SameMethod o u → handlers_of u ≡ handlers_of o
same-handlers _ _ neither = refl
same-handlers _ _ (both (recoded s)) = refl

as-recoded : (Has : Method → Type 0) (method other : Method) → SameMethod method other → Has other → Recoded method Has
as-recoded Has _ _ (recoded {code = code} s) has = record { code = code; has = has }

as-remarked : (Has : Entry → Type 0) (entry other : Entry) → SameEntry entry other → Has other → Remarked entry Has
as-remarked Has _ _ (remarked {marked = marked}) has = record { marked = marked; has = has }

as-redone : (instr other : Instr) → SameInstr instr other → (Has : Instr → Type 0) → Has other → Related SameOp instr.op (λ op. Has (record instr { op = op }))
as-redone _ _ (redone {op = op} s) Has has = record { other = op; related = s; has = has }

same-constructor : (c : ℕ) (method other : Method) → SameMethod method other → is_constructor c other ≡ is_constructor c method
same-constructor c _ _ (recoded {method = method} {code = code} s) =
    ap (λ (n : ℕ). (method.class.0 == c) && (is_member method.flags && (bytes_eq method.name (codes "<init>") && (bytes_eq method.desc (codes "()V") && nat_lt 0 n)))) (same_length SameInstr method.code code s)

module _ (w : Change) where
  pub method-at : (m : ℕ) (method : Method) → slice_get w.program.methods m ≡ Some method → Recoded method (λ x. slice_get w.methods m ≡ Some x)
  method-at m method e =
      let it = found SameMethod w.program.methods w.methods w.same_methods m method e in
      as-recoded (λ (x : Method). slice_get w.methods m ≡ Some x) method it.other it.related it.has

  pub instr-at : (m i : ℕ) (instr : Instr) → instr_at w.program m i ≡ Some instr → Related SameOp instr.op (λ op. instr_at (changed w) m i ≡ Some (record instr { op = op }))
  instr-at m i instr e =
      let o = slice_get w.program.methods m in
      let u = slice_get w.methods m in
      let it = found SameInstr (code_of o) (code_of u) (codes-alike o u (at SameMethod w.program.methods w.methods w.same_methods m)) i instr e in
      as-redone instr it.other it.related (λ (x : Instr). instr_at (changed w) m i ≡ Some x) it.has

  pub op-at : {m i height : ℕ} {op : Op} → OpAt w.program m i op height → Related SameOp op (λ o. OpAt (changed w) m i o height)
  op-at {m = m} {i = i} x =
      let it = instr-at m i x.instr x.found in
      record {
        other = it.other;
        related = subst (λ (o : Op). SameOp o it.other) x.is_op it.related;
        has = record { instr = record x.instr { op = it.other }; found = it.has; is_op = refl; is_height = x.is_height };
      }

  pub still-at : {m i height : ℕ} {op : Op} → OpAt w.program m i op height → IsNoCall op → OpAt (changed w) m i op height
  still-at {m = m} {i = i} {height = height} {op = op} x n =
      let it = op-at x in
      subst (λ (o : Op). OpAt (changed w) m i o height) (sym (no-call op it.other it.related n)) it.has

  pub call-at : {m i under : ℕ} {call : CallOp} → CallAt w.program m i call under → Reflowed call (λ c. CallAt (changed w) m i c under)
  call-at {m = m} {i = i} {call = call} x =
      let it = op-at x.at in
      let same = as-reflowed (λ (o : Op). OpAt (changed w) m i o x.height) call it.other it.related it.has in
      record { flow = same.flow; has = record { height = x.height; at = same.has; under_is = x.under_is } }

  pub leads : {m i j : ℕ} → Leads w.program m i j → Leads (changed w) m i j
  leads {m = m} {i = i} x =
      let it = instr-at m i x.instr x.found in
      record { instr = record x.instr { op = it.other }; found = it.has; listed = x.listed }

  passes-here : (op : Op) (height : ℕ) (z : Slot) (t : ℕ) → Passes w.program op height z t → Passes (changed w) op height z t
  passes-here (Cast name) height (OnStack k) t h = λ e. same-fits w t name ∙ h e
  passes-here _ height z t h = tt

  pub passes : {op other : Op} (height : ℕ) (z : Slot) (t : ℕ) → SameOp op other → Passes w.program op height z t → Passes (changed w) other height z t
  passes {op = op} {other = other} height z t s h =
      across (λ (o : Op). Passes (changed w) o height z t) (λ call flow k. k) op other s (passes-here op height z t h)

  -- where exceptions go
  pub goes : (m i t : ℕ) (place : Place) → Contains (dest w.program m i t) place → Contains (dest (changed w) m i t) place
  goes m i t place x =
      let o = slice_get w.program.methods m in
      let handlers = same-handlers o (slice_get w.methods m) (at SameMethod w.program.methods w.methods w.same_methods m) in
      let same = ap (dest_among (changed w) i t) handlers ∙ same-dest w i t (handlers_of o) in
      subst (λ (places : List Place). Contains places place) (sym same) x

  pub is-handled : {m i j : ℕ} → IsHandled w.program m i j → IsHandled (changed w) m i j
  is-handled {m = m} x =
      let it = method-at m x.method x.found in
      record { method = record x.method { code = it.code }; found = it.has; handler = x.handler; listed = x.listed; ranges = x.ranges; target = x.target }

  -- class initialisers
  inits-field : (o : Option Field) → inits_of_field (changed w) o ≡ inits_of_field w.program o
  inits-field None = refl
  inits-field (Some field) = refl

  inits-method : (o u : Option Method) → AlikeOption SameMethod o u → inits_of_method (changed w) u ≡ inits_of_method w.program o
  inits-method _ _ neither = refl
  inits-method _ _ (both (recoded s)) = refl

  inits-call : (kind : CallKind) (to : Option MethodAt) → inits_of_call (changed w) kind to ≡ inits_of_call w.program kind to
  inits-call Static (Some (Program m)) = inits-method (slice_get w.program.methods m.0) (slice_get w.methods m.0) (at SameMethod w.program.methods w.methods w.same_methods m.0)
  inits-call _ _ = refl

  inits-here : (op : Op) → inits_of (changed w) op ≡ inits_of w.program op
  inits-here (GetStatic field) = inits-field (slice_get w.program.fields field.0)
  inits-here (PutStatic field) = inits-field (slice_get w.program.fields field.0)
  inits-here (Call call) = inits-call call.kind call.found
  inits-here _ = refl

  same-inits : (op other : Op) → SameOp op other → inits_of (changed w) other ≡ inits_of w.program op
  same-inits op other s = across (λ (o : Op). inits_of (changed w) o ≡ inits_of w.program op) (λ call flow e. e) op other s (inits-here op)

  pub init-at : {m i n : ℕ} → InitAt w.program m i n → InitAt (changed w) m i n
  init-at {m = m} {i = i} {n = n} x =
      let it = instr-at m i x.instr x.found in
      record {
        instr = record x.instr { op = it.other };
        found = it.has;
        listed = subst (λ (inits : List MethodId). Contains inits (record { 0 = n })) (sym (same-inits x.instr.op it.other it.related)) x.listed;
      }

  -- what the environment runs
  pub entry-at : (entry : Entry) → Contains w.program.entries entry → Remarked entry (λ e. Contains w.entries e)
  entry-at entry x =
      let it = listed SameEntry w.program.entries w.entries w.same_entries entry x in
      as-remarked (λ (e : Entry). Contains w.entries e) entry it.other it.related it.has

  pub is-entry : {entry : Entry} {method : Method} → IsEntry w.program entry method → Remarked entry (λ e. Recoded method (λ x. IsEntry (changed w) e x))
  is-entry {entry = entry} {method = method} x =
      let it = entry-at entry x.listed in
      let there = method-at entry.method.0 method x.found in
      record { marked = it.marked; has = record { code = there.code; has = record { listed = it.has; found = there.has } } }

  pub has-objects : {entry : Entry} → HasObjects w.program entry → Remarked entry (λ e. HasObjects (changed w) e)
  has-objects x =
      let it = is-entry x.is_entry in
      record { marked = it.marked; has = record { method = record x.method { code = it.has.code }; is_entry = it.has.has; member = x.member } }

  pub is-constructor : (c m : ℕ) → IsConstructor w.program c m → IsConstructor (changed w) c m
  is-constructor c m x = same_position SameMethod (is_constructor c) (same-constructor c) 0 w.program.methods w.methods w.same_methods ∙ x

  pub is-initializer : {m : ℕ} → IsInitializer w.program m → IsInitializer (changed w) m
  is-initializer x =
      let it = entry-at x.entry x.listed in
      record { entry = record x.entry { marked = it.marked }; listed = it.has; initializes = x.initializes }

  pub is-run : {m : ℕ} → IsRun w.program m → IsRun (changed w) m
  is-run (runs_initializer x) = runs_initializer (is-initializer x)
  is-run {m = m} (runs_constructor entry objects c) =
      let it = has-objects objects in
      runs_constructor (record entry { marked = it.marked }) it.has (is-constructor entry.class.0 m c)
  is-run (runs_entry entry method x e) =
      let it = is-entry x in
      runs_entry (record entry { marked = it.marked }) (record method { code = it.has.code }) it.has.has e

  -- fields, arrays, and where calls go
  pub has-field : {t f : ℕ} → HasField w.program t f → HasField (changed w) t f
  has-field x = record { field = x.field; found = x.found; class = x.class; instance = x.instance }

  pub is-outer : {last dimensions t : ℕ} → IsOuter w.program last dimensions t → IsOuter (changed w) last dimensions t
  is-outer (single h) = single h
  is-outer (nested h) = nested h

  pub is-inner : {last dimensions t : ℕ} → IsInner w.program last dimensions t → IsInner (changed w) last dimensions t
  is-inner (innermost h) = innermost h
  is-inner (between h) = between h

  pub dispatches : {call : CallOp} {t : ℕ} {target : MethodAt} (flow : RowFlow) → Dispatches w.program call t target → Dispatches (changed w) (with_flow flow call) t target
  dispatches {call = call} {t = t} flow (selected c f) = selected c (λ e. same-fits w t call.class ∙ f (sym (same-names w call.class) ∙ e))
  dispatches {call = call} flow (elsewhere c n) = elsewhere c (same-names w call.class ∙ n)
