-- What class sets reach and call is as the program's kinds and descriptors say.
use Rattle.std.proofs.Common.{◌≡◌, ℕ, zero, suc, ◌+◌, ◌<◌, Bool, true, false, List, [], ◌∷◌, Option, Some, None, length, refl, sym, ap, subst, ◌∙◌, arith, true≢false}
use Rattle.std.specs.Prelude.{All, Contains, slice_get, not, bytes_eq, ◌&&◌, if◌then◌else◌}
use Rattle.std.proofs.lemmas.Bool.{and_parts}
use Rattle.std.proofs.lemmas.List.Elements.{All-contains}
use Rattle.std.proofs.lemmas.Slice.Eq.{bytes_eq-Decides}
use Rattle.std.proofs.lemmas.Option.{same_Some, slice_get_within}
use Rattle.ja_base.specs.declared.id.MethodId.{MethodId}
use Rattle.ja_base.specs.declared.java_type.Kind.{Kind}
use Rattle.ja_base.specs.declared.java_type.JavaType.{JavaType}
use Rattle.ja_base.specs.Descriptor.{IsMethod, AreTypes}
use Rattle.ja_bytes.proofs.MethodText.{method_unique}
use Rattle.ja_ir.specs.declared.program.Parts.{Parts}
use Rattle.ja_ir.specs.declared.class.ClassInfo.{ClassInfo}
use Rattle.ja_ir.specs.declared.class.Field.{Field}
use Rattle.ja_ir.specs.declared.class.Selection.{Selection}
use Rattle.ja_ir.specs.declared.class.MethodAt.{MethodAt}
use Rattle.ja_ir.specs.declared.class.MethodAt.TheVariants.{Program}
use Rattle.ja_ir.specs.declared.method.Method.{Method}
use Rattle.ja_ir.specs.declared.method.Instr.{Instr}
use Rattle.ja_ir.specs.declared.method.Handler.{Handler}
use Rattle.ja_ir.specs.declared.method.Catch.{Catch}
use Rattle.ja_ir.specs.declared.method.Catch.TheVariants as catches
use Rattle.ja_ir.specs.declared.op.CallOp.{CallOp}
use Rattle.ja_ir.specs.declared.op.Op.{Op}
use Rattle.ja_ir.specs.declared.op.Op.TheVariants.{New, GetStatic, PutStatic, Call, Return, Throw, Store}
use Rattle.ja_ir.specs.declared.op.CallKind.{CallKind}
use Rattle.ja_ir.specs.declared.op.CallKind.TheVariants as kinds
use Rattle.ja_ir.specs.Lookup.{HasCode, OpAt, Leads, code_of, instr_at, at_or_below, is_static, is_member, selection_among, selections_of}
use Rattle.ja_ir.specs.Operations.{arguments, has_receiver, is_dispatched, count_of, pops, result_count, height_after, UsesLocals}
use Rattle.ja_ir.specs.Params.{param_count, param_local}
use Rattle.ja_ir.specs.Handlers.{Inside, Outside, dest, dest_at, dest_among, handlers_of, in_range}
use Rattle.ja_ir.specs.Initializing.{InitAt, inits_of_class, inits_of_field, inits_of_method, inits_of_call, inits_of}
use Rattle.ja_ir.specs.Whole.{IsWhole, IsWholeEntry, IsWholeSelection, IsAnswer, IsMember, IsFound, IsDescribed, HasTypes, IsReachedAt, Starts, Runs, NamesInitializer, IsWholeMethod, ReturnsAs}
use Rattle.ja_ir.proofs.Entered.{constructor-says}
use Rattle.ja_facts.specs.Least.{IsSolution}
use Rattle.ja_facts.proofs.LeastLaws.{Least-below}
use Rattle.ja_facts.specs.Analyses.{Classes}
use Rattle.ja_facts.specs.ClassTables.{throws_some}
use Rattle.ja_facts.specs.Slots.{Slot, Local, OnStack, CallAt, Copies, KeepsLocal}
use Rattle.ja_facts.specs.Slots as slots
use Rattle.ja_facts.specs.ClassSets as class_sets
use Rattle.ja_facts.specs.ClassSets.{Fact, Rule, Reached, InSlot, InThrown, InParam, InResult, CallsMethod, CallsAbstract, CallsLibrary, CanBeCalled, ThrowsLibrary, Finds}
use Rattle.ja_class_laws.proofs.Lists.{all-at}
use Rattle.ja_class_laws.proofs.Params.{params-count, typed-below, local-below}

-- ---- instructions

-- a reached instruction, with its method
pub record IsAt (p : Parts) (m i : ℕ) : Type 0 where
  pub method : Method
  pub instr : Instr
  pub found : slice_get p.methods m ≡ Some method
  pub at : slice_get method.code i ≡ Some instr
  pub reached : instr.reached ≡ true

-- the method of an instruction
pub instr-method : (p : Parts) (m i : ℕ) (instr : Instr) → instr_at p m i ≡ Some instr → (method : Method) × (slice_get p.methods m ≡ Some method) × (slice_get method.code i ≡ Some instr)
instr-method p m i instr found = by (slice_get p.methods m) refl found
  where
    by : (o : Option Method) → slice_get p.methods m ≡ o → slice_get (code_of o) i ≡ Some instr → (method : Method) × (slice_get p.methods m ≡ Some method) × (slice_get method.code i ≡ Some instr)
    by None e f = absurd (cc f)
    by (Some method) e f = (method, e, f)

-- an instruction of a method is one of the program
pub instr-found : (p : Parts) (m i : ℕ) (method : Method) (instr : Instr) → slice_get p.methods m ≡ Some method → slice_get method.code i ≡ Some instr → instr_at p m i ≡ Some instr
instr-found p m i method instr found at = ap (λ (o : Option Method). slice_get (code_of o) i) found ∙ at

pub op-at : (p : Parts) (m i : ℕ) (method : Method) (instr : Instr) → slice_get p.methods m ≡ Some method → slice_get method.code i ≡ Some instr → OpAt p m i instr.op instr.height
op-at p m i method instr found at = record { instr = instr; found = instr-found p m i method instr found at; is_op = refl; is_height = refl }

-- an instruction has one operation, and one height
pub same-op : (p : Parts) (m i : ℕ) (op other : Op) (height below : ℕ) → OpAt p m i op height → OpAt p m i other below → (op ≡ other) × (height ≡ below)
same-op p m i op other height below at to =
    let same : at.instr ≡ to.instr = same_Some at.instr to.instr (sym at.found ∙ to.found) in
    (sym at.is_op ∙ ap (λ (x : Instr). x.op) same ∙ to.is_op, sym at.is_height ∙ ap (λ (x : Instr). x.height) same ∙ to.is_height)

pub call-is : (c d : CallOp) → Call c ≡ Call d → c ≡ d
call-is c d e = cc e

pub same-under : (op : Op) (call : CallOp) (height other below under : ℕ) → op ≡ Call call → height ≡ other → height ≡ below + pops op → other ≡ under + arguments call → below ≡ under
same-under op call height other below under is same e f =
    let pop : pops op ≡ arguments call = ap pops is in omega arith

-- one call stands at an instruction, over one number of values
pub same-call : (p : Parts) (m i : ℕ) (c d : CallOp) (under below : ℕ) → CallAt p m i c under → CallAt p m i d below → (c ≡ d) × (under ≡ below)
same-call p m i c d under below at to =
    let same = same-op p m i (Call c) (Call d) at.height to.height at.at to.at in
    (call-is c d same.0, same-under (Call c) d at.height to.height under below same.0 same.1 at.under_is to.under_is)

-- ---- places of exceptions

-- a handler among these in whose range the instruction lies, and that leads there
abbrev pub Handles : (i j : ℕ) → List Handler → Type 0
Handles i j handlers = (handler : Handler) × Contains handlers handler × (in_range handler i ≡ true) × (handler.target ≡ j)

further-on : (i j : ℕ) (h : Handler) (hs : List Handler) → Handles i j hs → Handles i j (h ∷ hs)
further-on i j h hs (handler, (k, below, e), range, target) = (handler, (suc k, omega (arith, below), e), range, target)

inside-is : (j k : ℕ) → Inside j ≡ Inside k → j ≡ k
inside-is j k e = cc e

outside-no : (j : ℕ) → Outside ≡ Inside j → ⊥
outside-no j e = cc e

-- a handler that is among the places of an exception is in whose range it was thrown
pub dest-handler : (p : Parts) (i t j : ℕ) (handlers : List Handler) → Contains (dest_among p i t handlers) (Inside j) → Handles i j handlers
dest-handler p i t j [] (zero, below, e) = absurd (outside-no j e)
dest-handler p i t j [] (suc k, below, e) = absurd (omega (arith, below))
dest-handler p i t j (h ∷ hs) listed = by (in_range h i) refl (λ c. further-on i j h hs (dest-handler p i t j hs c)) listed
  where
    first : in_range h i ≡ true → h.target ≡ j → Handles i j (h ∷ hs)
    first range target = (h, (0, omega arith, refl), range, target)

    alone : in_range h i ≡ true → Contains (Inside h.target ∷ []) (Inside j) → Handles i j (h ∷ hs)
    alone range (zero, below, e) = first range (inside-is h.target j e)
    alone range (suc k, below, e) = absurd (omega (arith, below))

    or_further : in_range h i ≡ true → (Contains (dest_among p i t hs) (Inside j) → Handles i j (h ∷ hs)) → Contains (Inside h.target ∷ dest_among p i t hs) (Inside j) → Handles i j (h ∷ hs)
    or_further range further (zero, below, e) = first range (inside-is h.target j e)
    or_further range further (suc k, below, e) = further (k, omega (arith, below), e)

    fitting : (b : Bool) → in_range h i ≡ true → (Contains (dest_among p i t hs) (Inside j) → Handles i j (h ∷ hs)) → Contains (if b then Inside h.target ∷ [] else dest_among p i t hs) (Inside j) → Handles i j (h ∷ hs)
    fitting true range further c = alone range c
    fitting false range further c = further c

    caught : (c : Catch) → in_range h i ≡ true → (Contains (dest_among p i t hs) (Inside j) → Handles i j (h ∷ hs)) → Contains (dest_at p t h.target c (dest_among p i t hs)) (Inside j) → Handles i j (h ∷ hs)
    caught catches.All range further c = alone range c
    caught (catches.Program class) range further c = fitting (at_or_below p t class.0) range further c
    caught catches.Library range further c = or_further range further c

    by : (b : Bool) → in_range h i ≡ b → (Contains (dest_among p i t hs) (Inside j) → Handles i j (h ∷ hs)) → Contains (if b then dest_at p t h.target h.catch (dest_among p i t hs) else dest_among p i t hs) (Inside j) → Handles i j (h ∷ hs)
    by true range further c = caught h.catch range further c
    by false range further c = further c

-- ---- what is said

-- a call, and a method with code of its types
pub record IsCalled (p : Parts) (m i n : ℕ) : Type 0 where
  pub call : CallOp
  pub under : ℕ
  pub at : CallAt p m i call under
  pub method : Method
  pub found : slice_get p.methods n ≡ Some method
  pub code : HasCode method
  pub params : method.types.params ≡ call.params
  pub result : method.types.result ≡ call.result
  pub receiver : is_member method.flags ≡ has_receiver call.kind

pub record IsParam (p : Parts) (m k : ℕ) : Type 0 where
  pub method : Method
  pub found : slice_get p.methods m ≡ Some method
  pub below : k < param_count method

pub record HasResult (p : Parts) (m : ℕ) : Type 0 where
  pub method : Method
  pub found : slice_get p.methods m ≡ Some method
  pub type : JavaType
  pub has : method.types.result ≡ Some type

pub record MayThrow (p : Parts) (m i : ℕ) : Type 0 where
  pub op : Op
  pub height : ℕ
  pub at : OpAt p m i op height
  pub throws : throws_some op ≡ true

pub record IsCall (p : Parts) (m i : ℕ) : Type 0 where
  pub call : CallOp
  pub under : ℕ
  pub at : CallAt p m i call under

-- the slot is one of a frame of so many locals and values on the stack
abbrev pub IsWithin : (locals height : ℕ) → Slot → Type 0
IsWithin locals height (Local l) = l < locals
IsWithin locals height (OnStack k) = k < height

pub record IsSlot (p : Parts) (m i : ℕ) (z : Slot) : Type 0 where
  pub at : IsAt p m i
  pub within : IsWithin at.method.locals at.instr.height z

-- what each fact says of the kinds
abbrev pub Says : Parts → Fact → Type 0
Says p (Reached m i) = IsAt p m i
Says p (InSlot m i z t) = IsSlot p m i z
Says p (InThrown m i t) = MayThrow p m i
Says p (InParam m k t) = IsParam p m k
Says p (InResult m t) = HasResult p m
Says p (CallsMethod m i n) = IsCalled p m i n
Says p (CallsAbstract m i n) = IsCall p m i
Says p (CallsLibrary m i) = IsCall p m i
Says p f = Unit {0}

spelled-as : (kind : CallKind) (desc : List ℕ) (params : List JavaType) (result : Option JavaType) → is_dispatched kind ≡ true → HasTypes kind desc params result → IsMethod desc params result
spelled-as kinds.Virtual desc params result e h = h
spelled-as kinds.Interface desc params result e h = h
spelled-as kinds.Special desc params result e h = absurd (true≢false (sym e))
spelled-as kinds.Static desc params result e h = absurd (true≢false (sym e))
spelled-as kinds.StaticField desc params result e h = absurd (true≢false (sym e))
spelled-as kinds.MemberField desc params result e h = absurd (true≢false (sym e))

received : (kind : CallKind) → is_dispatched kind ≡ true → has_receiver kind ≡ true
received kinds.Virtual e = refl
received kinds.Interface e = refl
received kinds.Special e = refl
received kinds.Static e = absurd (true≢false (sym e))
received kinds.StaticField e = absurd (true≢false (sym e))
received kinds.MemberField e = refl

throws-some : (op : Op) → ThrowsLibrary op → throws_some op ≡ true
throws-some Throw h = refl
throws-some (Call call) h = refl
throws-some op h = h

-- what a slot has comes to one of the next frame
pub copied-within : {op : Op} {height : ℕ} {z y : Slot} (locals : ℕ) → Copies op height z y → ((kind : Kind) (l : ℕ) → op ≡ Store kind l → l < locals) → IsWithin locals height z → IsWithin locals (height_after op height) y
copied-within locals (slots.kept_local keeps) uses within = within
copied-within locals (slots.kept_stack room) uses within = omega arith
copied-within locals slots.loaded uses within = omega arith
copied-within locals (slots.stored {kind} {l} e) uses within = uses kind l refl
copied-within locals (slots.shuffled {n} {height} {pushed} under j k e found) uses within =
    let below : j < length pushed = slice_get_within pushed j k found in
    omega arith
copied-within locals (slots.checked e) uses within = omega arith

module _ (p : Parts) (whole : IsWhole p) where
  -- a method with code begins with a reached instruction
  begins : (m : ℕ) (method : Method) → slice_get p.methods m ≡ Some method → HasCode method → IsAt p m 0
  begins m method found code =
      let first = (all-at (λ (x : Method). HasCode x → Starts x) p.methods m method whole.starts found code).first in
      record { method = method; instr = first.instr; found = found; at = first.found; reached = first.reached }

  -- what a reached instruction leads to is reached
  goes : (m : ℕ) (method : Method) (j height : ℕ) → slice_get p.methods m ≡ Some method → IsReachedAt method j height → (b : IsAt p m j) × (b.method ≡ method) × (b.instr.height ≡ height)
  goes m method j height found at = (record { method = method; instr = at.instr; found = found; at = at.found; reached = at.reached }, refl, at.is_height)

  initializer : (m : ℕ) → NamesInitializer p m → IsAt p m 0
  initializer m i = begins m i.method i.named.found i.code

  -- the class initialisers of a class, if there is one, begin
  of_class : (c n : ℕ) → Contains (inits_of_class (slice_get p.classes c)) (record { 0 = n }) → IsAt p n 0
  of_class c n listed = by (slice_get p.classes c) refl listed
    where
      by : (o : Option ClassInfo) → slice_get p.classes c ≡ o → Contains (inits_of_class o) (record { 0 = n }) → IsAt p n 0
      by None e (k, below, is) = absurd (omega (arith, below))
      by (Some class) e found = initializer n (All-contains (λ (x : MethodId). NamesInitializer p x.0) class.inits (record { 0 = n }) (all-at (λ (x : ClassInfo). All (λ m. NamesInitializer p m.0) x.inits) p.classes c class whole.inits e) found)

  pub runs : (m i : ℕ) (a : IsAt p m i) → Runs a.method i a.instr
  runs m i a = all-at (λ (x : Method). (k : ℕ) (other : Instr) → slice_get x.code k ≡ Some other → other.reached ≡ true → Runs x k other) p.methods m a.method whole.runs a.found i a.instr a.at a.reached

  pub is-op : (m i height : ℕ) (op : Op) (a : IsAt p m i) → OpAt p m i op height → (a.instr.op ≡ op) × (a.instr.height ≡ height)
  is-op m i height op a at = same-op p m i a.instr.op op a.instr.height height (op-at p m i a.method a.instr a.found a.at) at

  -- a next instruction is reached, with the height that is left
  pub next-at : (m i j height : ℕ) (op : Op) → Leads p m i j → (a : IsAt p m i) → OpAt p m i op height → (b : IsAt p m j) × (b.method ≡ a.method) × (b.instr.height ≡ height_after op height)
  next-at m i j height op leads a at =
      let same : leads.instr ≡ a.instr = same_Some leads.instr a.instr (sym leads.found ∙ instr-found p m i a.method a.instr a.found a.at) in
      let listed : Contains a.instr.next j = subst (λ (x : Instr). Contains x.next j) same leads.listed in
      let to : IsReachedAt a.method j (height_after a.instr.op a.instr.height) = All-contains (λ k. IsReachedAt a.method k (height_after a.instr.op a.instr.height)) a.instr.next j (runs m i a).next listed in
      let ops = is-op m i height op a at in
      let e : height_after a.instr.op a.instr.height ≡ height_after op height = ap (λ o. height_after o a.instr.height) ops.0 ∙ ap (height_after op) ops.1 in
      let g = goes m a.method j (height_after a.instr.op a.instr.height) a.found to in
      (g.0, g.1, g.2 ∙ e)

  next-says : (m i j : ℕ) → Leads p m i j → IsAt p m i → IsAt p m j
  next-says m i j leads a = (next-at m i j a.instr.height a.instr.op leads a (op-at p m i a.method a.instr a.found a.at)).0

  -- a value of the stack of the next frame
  pub pushed-says : (m i j height k : ℕ) (op : Op) → Leads p m i j → IsAt p m i → OpAt p m i op height → k < height_after op height → IsSlot p m j (OnStack k)
  pushed-says m i j height k op leads a at lt =
      let n = next-at m i j height op leads a at in
      let h : n.0.instr.height ≡ height_after op height = n.2 in
      record { at = n.0; within = omega arith }

  init-says : (m i n : ℕ) → InitAt p m i n → IsAt p n 0
  init-says m i n init = by init.instr.op init.listed
    where
      of_field : (o : Option Field) → Contains (inits_of_field p o) (record { 0 = n }) → IsAt p n 0
      of_field None (k, below, e) = absurd (omega (arith, below))
      of_field (Some field) listed = of_class field.class.0 n listed

      of_method : (o : Option Method) → Contains (inits_of_method p o) (record { 0 = n }) → IsAt p n 0
      of_method None (k, below, e) = absurd (omega (arith, below))
      of_method (Some method) listed = of_class method.class.0 n listed

      of_call : (kind : CallKind) (found : Option MethodAt) → Contains (inits_of_call p kind found) (record { 0 = n }) → IsAt p n 0
      of_call kinds.Static (Some (Program m)) listed = of_method (slice_get p.methods m.0) listed
      of_call kind found (k, below, e) = absurd (omega (arith, below))

      by : (op : Op) → Contains (inits_of p op) (record { 0 = n }) → IsAt p n 0
      by (New token) listed = of_class token.0 n listed
      by (GetStatic field) listed = of_field (slice_get p.fields field.0) listed
      by (PutStatic field) listed = of_field (slice_get p.fields field.0) listed
      by (Call call) listed = of_call call.kind call.found listed
      by op (k, below, e) = absurd (omega (arith, below))

  -- a handler to which an exception goes is reached, with one value on the stack
  pub handler-at : (m i j t : ℕ) → Contains (dest p m i t) (Inside j) → (a : IsAt p m i) → (b : IsAt p m j) × (b.method ≡ a.method) × (b.instr.height ≡ 1)
  handler-at m i j t inside a =
      let listed : Contains (dest_among p i t a.method.handlers) (Inside j) = subst (λ (o : Option Method). Contains (dest_among p i t (handlers_of o)) (Inside j)) a.found inside in
      let h = dest-handler p i t j a.method.handlers listed in
      let to : IsReachedAt a.method h.0.target 1 = All-contains (λ (x : Handler). in_range x i ≡ true → IsReachedAt a.method x.target 1) a.method.handlers h.0 (runs m i a).handlers h.1 h.2 in
      let here : IsReachedAt a.method j 1 = subst (λ k. IsReachedAt a.method k 1) h.3 to in
      goes m a.method j 1 a.found here

  -- a call is described as its descriptor says
  pub described : (m i height : ℕ) (call : CallOp) → OpAt p m i (Call call) height → IsDescribed p (Call call)
  described m i height call at =
      let found = instr-method p m i at.instr at.found in
      subst (IsDescribed p) at.is_op (all-at (λ (x : Instr). IsDescribed p x.op) found.0.code i at.instr (all-at (IsWholeMethod p) p.methods m found.0 whole.methods found.1).calls found.2)

  called : (m i n under : ℕ) (call : CallOp) → CallAt p m i call under → (method : Method) → slice_get p.methods n ≡ Some method → HasCode method → method.desc ≡ call.desc
      → IsMethod call.desc call.params call.result → is_member method.flags ≡ has_receiver call.kind → IsCalled p m i n
  called m i n under call at method found code desc spelled receiver =
      let types : AreTypes method.desc method.types = (all-at (IsWholeMethod p) p.methods n method whole.methods found).spelled in
      let one = method_unique call.desc method.types.params call.params method.types.result call.result (subst (λ (d : List ℕ). IsMethod d method.types.params method.types.result) desc types.spelled) spelled in
      record { call = call; under = under; at = at; method = method; found = found; code = code; params = one.0; result = one.1; receiver = receiver }

  -- a static or special call that found a method
  found-says : (m i n under : ℕ) (call : CallOp) (method : Method) → CallAt p m i call under → call.found ≡ Some (Program (record { 0 = n })) → slice_get p.methods n ≡ Some method
      → IsMethod call.desc call.params call.result → is_member method.flags ≡ has_receiver call.kind → IsCalled p m i n
  found-says m i n under call method at is found spelled receiver =
      let answer : IsFound p call (Some (Program (record { 0 = n }))) = subst (IsFound p call) is (described m i at.height call at.at).1 in
      let same : answer.0 ≡ method = same_Some answer.0 method (sym answer.1.found ∙ found) in
      called m i n under call at method found (subst HasCode same answer.2) (sym (ap (λ (x : Method). x.desc) same) ∙ answer.1.is_desc) spelled receiver

  selected-says : (name desc : List ℕ) (n : ℕ) (selections : List Selection) → All (IsWholeSelection p) selections → selection_among name desc selections ≡ Program (record { 0 = n })
      → (method : Method) × (slice_get p.methods n ≡ Some method) × HasCode method × (method.desc ≡ desc) × (is_member method.flags ≡ true)
  selected-says name desc n [] all e = absurd (cc e)
  selected-says name desc n (s ∷ selections) all e = by (bytes_eq s.name name && bytes_eq s.desc desc) refl (λ is. selected-says name desc n selections (λ k x lt. all (suc k) x (omega arith)) is) e
    where
      by : (b : Bool) → (bytes_eq s.name name && bytes_eq s.desc desc) ≡ b
          → (selection_among name desc selections ≡ Program (record { 0 = n }) → (method : Method) × (slice_get p.methods n ≡ Some method) × HasCode method × (method.desc ≡ desc) × (is_member method.flags ≡ true))
          → (if b then s.target else selection_among name desc selections) ≡ Program (record { 0 = n })
          → (method : Method) × (slice_get p.methods n ≡ Some method) × HasCode method × (method.desc ≡ desc) × (is_member method.flags ≡ true)
      by true same further is =
          let whole_one : IsWholeSelection p s = All-contains (IsWholeSelection p) (s ∷ selections) s all (0, omega arith, refl) in
          let answer : IsAnswer p s.name s.desc (Program (record { 0 = n })) = subst (IsAnswer p s.name s.desc) is whole_one.answer in
          let member : IsMember p (Program (record { 0 = n })) = subst (IsMember p) is whole_one.member in
          let desc_is : s.desc ≡ desc = (bytes_eq-Decides s.desc desc).0 (and_parts (bytes_eq s.name name) (bytes_eq s.desc desc) same).1 in
          (answer.0, answer.1.found, answer.2, answer.1.is_desc ∙ desc_is, member answer.0 answer.1.found)
      by false same further is = further is

  -- a virtual or interface call that goes to a method
  dispatch-says : (m i n t under : ℕ) (call : CallOp) (target : MethodAt) → CallAt p m i call under → is_dispatched call.kind ≡ true → class_sets.Dispatches p call t target → target ≡ Program (record { 0 = n })
      → IsCalled p m i n
  dispatch-says m i n t under call _ at dispatched (class_sets.selected is fits) e =
      let s = selected-says call.name call.desc n is.0.selections (all-at (λ (x : ClassInfo). All (IsWholeSelection p) x.selections) p.classes t is.0 whole.selections is.1)
      (sym (ap (λ (o : Option ClassInfo). selection_among call.name call.desc (selections_of o)) is.1) ∙ e) in
      called m i n under call at s.0 s.1 s.2 s.3 (spelled-as call.kind call.desc call.params call.result dispatched (described m i at.height call at.at).0) (s.4 ∙ sym (received call.kind dispatched))
  dispatch-says m i n t under call _ at dispatched (class_sets.elsewhere none library) e = absurd (cc e)

  -- a receiver is the first parameter
  receiver-below : (method : Method) → is_member method.flags ≡ true → 0 < param_count method
  receiver-below method member =
      let count : param_count method ≡ count_of (is_member method.flags) + length method.types.params = params-count (is_member method.flags) method.types.params in
      let one : count_of (is_member method.flags) ≡ 1 = ap count_of member in
      omega arith

  receiver-says : (m : ℕ) (method : Method) → slice_get p.methods m ≡ Some method → is_member method.flags ≡ true → IsParam p m 0
  receiver-says m method found member = record { method = method; found = found; below = receiver-below method member }

  -- the method has as many parameters as the call has arguments
  pub counts : (m i n : ℕ) (c : IsCalled p m i n) → param_count c.method ≡ arguments c.call
  counts m i n c =
      let count : param_count c.method ≡ count_of (is_member c.method.flags) + length c.method.types.params = params-count (is_member c.method.flags) c.method.types.params in
      let one : count_of (is_member c.method.flags) ≡ count_of (has_receiver c.call.kind) = ap count_of c.receiver in
      let same : length c.method.types.params ≡ length c.call.params = ap length c.params in
      omega arith

  -- the local of a parameter is one of the frame
  pub local-says : (m k : ℕ) (method : Method) → slice_get p.methods m ≡ Some method → HasCode method → k < param_count method → param_local method k < method.locals
  local-says m k method found code lt =
      let room = (all-at (λ (x : Method). HasCode x → Starts x) p.methods m method whole.starts found code).room in
      let below = local-below (is_member method.flags) method.types.params k lt in
      omega arith

  pub code-there : (m i : ℕ) (a : IsAt p m i) → HasCode a.method
  code-there m i a = let below : i < length a.method.code = slice_get_within a.method.code i a.instr a.at in omega arith

  stores-within : (m i height : ℕ) (op : Op) (a : IsAt p m i) → OpAt p m i op height → (kind : Kind) (l : ℕ) → op ≡ Store kind l → l < a.method.locals
  stores-within m i height op a at kind l e = subst (λ o. UsesLocals o a.method.locals) ((is-op m i height op a at).0 ∙ e) (runs m i a).locals

  some-pushed : (call : CallOp) (type : JavaType) (height under : ℕ) → height ≡ under + arguments call → call.result ≡ Some type → under < height_after (Call call) height
  some-pushed call type height under e has = let one : result_count call.result ≡ 1 = ap result_count has in omega arith

  pub says-solution : IsSolution (Rule p) (Says p)
  says-solution _ _ (class_sets.env_object entry objects) each = tt
  says-solution _ _ (class_sets.env_fresh entry method k t type is has fresh) each = tt
  says-solution _ _ (class_sets.initializer_runs {m} r) each = of_class r.entry.class.0 m r.initializes
  says-solution _ _ (class_sets.constructor_runs {m} entry objects is) each = let c = (constructor-says p entry.class.0 m).0 is in begins m c.method c.found c.constructs.plain.code
  says-solution _ _ (class_sets.entry_runs entry listed) each = let e = All-contains (IsWholeEntry p) p.entries entry whole.entries listed in begins entry.method.0 e.method e.found e.code
  says-solution _ _ (class_sets.constructor_receives {m} entry objects is) each = let c = (constructor-says p entry.class.0 m).0 is in receiver-says m c.method c.found c.constructs.member
  says-solution _ _ (class_sets.entry_receives entry objects) each = receiver-says entry.method.0 objects.method objects.is_entry.found objects.member
  says-solution _ _ (class_sets.entry_takes entry method k type is has reference fits) each = record { method = method; found = is.found; below = typed-below (is_member method.flags) method.types.params k type has }
  says-solution _ _ (class_sets.env_bag b) each = tt
  says-solution _ _ (class_sets.next_reached {m} {i} {j} leads) each = next-says m i j leads each.0
  says-solution _ _ (class_sets.initializes {m} {i} {n} init) each = init-says m i n init
  says-solution _ _ (class_sets.begins {m} {k} {t} method found) each =
      let a : IsAt p m 0 = each.0 in
      let b : IsParam p m k = each.1.0 in
      let one : method ≡ a.method = same_Some method a.method (sym found ∙ a.found) in
      let two : b.method ≡ method = same_Some b.method method (sym b.found ∙ found) in
      let below : k < param_count method = subst (λ (x : Method). k < param_count x) two b.below in
      let code : HasCode method = subst HasCode (sym one) (code-there m 0 a) in
      record { at = a; within = subst (λ (x : Method). param_local method k < x.locals) one (local-says m k method found code below) }
  says-solution _ _ (class_sets.moved {m} {i} {j} {t} {height} {op} {z} {y} at leads copies passes) each =
      let s : IsSlot p m i z = each.1.0 in
      let n = next-at m i j height op leads s.at at in
      let high : s.at.instr.height ≡ height = (is-op m i height op s.at at).1 in
      let w : IsWithin s.at.method.locals height z = subst (λ h. IsWithin s.at.method.locals h z) high s.within in
      let to : IsWithin s.at.method.locals (height_after op height) y = copied-within s.at.method.locals copies (stores-within m i height op s.at at) w in
      record { at = n.0; within = subst (λ (x : Method). IsWithin x.locals n.0.instr.height y) (sym n.1) (subst (λ h. IsWithin s.at.method.locals h y) (sym n.2) to) }
  says-solution _ _ (class_sets.text_made {m} {i} {j} {height} at leads) each = pushed-says m i j height height _ leads each.0 at (omega arith)
  says-solution _ _ (class_sets.made {m} {i} {j} {height} at leads can) each = pushed-says m i j height height _ leads each.0 at (omega arith)
  says-solution _ _ (class_sets.array_made {m} {i} {j} {height} {under} at leads lies outer) each = pushed-says m i j height under _ leads each.0 at (omega arith)
  says-solution _ _ (class_sets.array_filled at inner) each = tt
  says-solution _ _ (class_sets.got {m} {i} {j} {f} {t} {k} at leads) each = pushed-says m i j (suc k) k _ leads each.0 at (omega arith)
  says-solution _ _ (class_sets.got_static {m} {i} {j} {f} {t} {height} at leads) each = pushed-says m i j height height _ leads each.0 at (omega arith)
  says-solution _ _ (class_sets.put at) each = tt
  says-solution _ _ (class_sets.put_static at) each = tt
  says-solution _ _ (class_sets.text_field field found text) each = tt
  says-solution _ _ (class_sets.element_got {m} {i} {j} {t} {k} at leads) each = pushed-says m i j (suc (suc k)) k _ leads each.0 at (omega arith)
  says-solution _ _ (class_sets.element_put at) each = tt
  says-solution _ _ (class_sets.throws_library {m} {i} {height} {op} at throws) each = record { op = op; height = height; at = at; throws = throws-some op throws }
  says-solution _ _ (class_sets.throws {m} {i} {t} {k} at) each = record { op = Throw; height = suc k; at = at; throws = refl }
  says-solution _ _ (class_sets.handler_reached {m} {i} {j} {t} inside) each = (handler-at m i j t inside each.0).0
  says-solution _ _ (class_sets.handled {m} {i} {j} {t} inside) each =
      let n = handler-at m i j t inside each.0 in
      let h : n.0.instr.height ≡ 1 = n.2 in
      record { at = n.0; within = omega arith }
  says-solution _ _ (class_sets.handler_keeps {m} {i} {j} {t} {l} {u} inside) each =
      let s : IsSlot p m i (Local l) = each.1.1.0 in
      let n = handler-at m i j t inside s.at in
      record { at = n.0; within = subst (λ (x : Method). l < x.locals) (sym n.1) s.within }
  says-solution _ _ (class_sets.thrown_out out) each = tt
  says-solution _ _ (class_sets.found_method {m} {i} {n} {under} {call} method at (class_sets.by_static kind found) is can) each =
      let static : is_static method.flags ≡ true = subst (λ k. CanBeCalled k method) kind can in
      let spelled : IsMethod call.desc call.params call.result = subst (λ k. HasTypes k call.desc call.params call.result) kind (described m i at.height call at.at).0 in
      found-says m i n under call method at found is spelled (ap not static ∙ sym (ap has_receiver kind))
  says-solution _ _ (class_sets.found_method {m} {i} {n} {under} {call} method at (class_sets.by_special kind found) is can) each =
      let member : is_member method.flags ≡ true = subst (λ k. CanBeCalled k method) kind can in
      let spelled : IsMethod call.desc call.params call.result = subst (λ k. HasTypes k call.desc call.params call.result) kind (described m i at.height call at.at).0 in
      found-says m i n under call method at found is spelled (member ∙ sym (ap has_receiver kind))
  says-solution _ _ (class_sets.found_abstract {m} {i} {n} {under} {call} method at finds is can) each = record { call = call; under = under; at = at }
  says-solution _ _ (class_sets.found_library {m} {i} {under} {call} at finds) each = record { call = call; under = under; at = at }
  says-solution _ _ (class_sets.selects_method {m} {i} {n} {under} {t} {call} at dispatched goes) each = dispatch-says m i n t under call _ at dispatched goes refl
  says-solution _ _ (class_sets.selects_abstract {m} {i} {n} {under} {t} {call} at dispatched goes) each = record { call = call; under = under; at = at }
  says-solution _ _ (class_sets.selects_library {m} {i} {under} {t} {call} at dispatched goes) each = record { call = call; under = under; at = at }
  says-solution _ _ (class_sets.callee_reached {m} {i} {n}) each = let c : IsCalled p m i n = each.1.0 in begins n c.method c.found c.code
  says-solution _ _ (class_sets.receives {m} {i} {n} {under} {t} {call} at dispatched goes) each =
      let c : IsCalled p m i n = dispatch-says m i n t under call _ at dispatched goes refl in
      let same : c.call ≡ call = (same-call p m i c.call call c.under under c.at at).0 in
      receiver-says n c.method c.found (c.receiver ∙ ap (λ (x : CallOp). has_receiver x.kind) same ∙ received call.kind dispatched)
  says-solution _ _ (class_sets.hands {m} {i} {n} {under} {k} {t} {call} at lt other) each =
      let c : IsCalled p m i n = each.1.0 in
      let same : call ≡ c.call = (same-call p m i call c.call under c.under at c.at).0 in
      let few : k < arguments c.call = subst (λ (x : CallOp). k < arguments x) same lt in
      let count : param_count c.method ≡ arguments c.call = counts m i n c in
      record { method = c.method; found = c.found; below = omega arith }
  says-solution _ _ (class_sets.returned {m} {i} {k} {t} {kind} at) each =
      let a : IsAt p m i = each.0 in
      let say : ReturnsAs a.method.types.result a.instr.op = all-at (λ (x : Instr). x.reached ≡ true → ReturnsAs a.method.types.result x.op) a.method.code i a.instr (all-at (IsWholeMethod p) p.methods m a.method whole.methods a.found).returns a.at a.reached in
      let has : (type : JavaType) × (a.method.types.result ≡ Some type) = subst (λ o. ReturnsAs a.method.types.result o) (is-op m i (suc k) (Return (Some kind)) a at).0 say in
      record { method = a.method; found = a.found; type = has.0; has = has.1 }
  says-solution _ _ (class_sets.answered {m} {i} {j} {n} {under} {t} {call} at leads) each =
      let c : IsCalled p m i n = each.1.0 in
      let r : HasResult p n = each.1.1.0 in
      let same : c.call ≡ call = (same-call p m i c.call call c.under under c.at at).0 in
      let one : r.method ≡ c.method = same_Some r.method c.method (sym r.found ∙ c.found) in
      let has : call.result ≡ Some r.type = sym (ap (λ (x : CallOp). x.result) same) ∙ sym c.result ∙ sym (ap (λ (x : Method). x.types.result) one) ∙ r.has in
      pushed-says m i j at.height under (Call call) leads each.0 at.at (some-pushed call r.type at.height under at.under_is has)
  says-solution _ _ (class_sets.callee_throws {m} {i} {n} {t}) each = let c : IsCalled p m i n = each.1.0 in record { op = Call c.call; height = c.at.height; at = c.at.at; throws = refl }
  says-solution _ _ (class_sets.null_receiver {m} {i} {under} {call} at receiver) each = record { op = Call call; height = at.height; at = at.at; throws = refl }
  says-solution _ _ (class_sets.abstract_throws {m} {i} {n}) each = let c : IsCall p m i = each.1.0 in record { op = Call c.call; height = c.at.height; at = c.at.at; throws = refl }
  says-solution _ _ (class_sets.library_throws {m} {i}) each = let c : IsCall p m i = each.1.0 in record { op = Call c.call; height = c.at.height; at = c.at.at; throws = refl }
  says-solution _ _ class_sets.spans_itself each = tt
  says-solution _ _ (class_sets.spans_field f has) each = tt
  says-solution _ _ (class_sets.spans_bag absorbing) each = tt
  says-solution _ _ (class_sets.taker k at source absorbing) each = tt
  says-solution _ _ (class_sets.taken at lt) each = tt
  says-solution _ _ (class_sets.library_fresh {m} {i} {j} {under} {t} {call} {type} at leads has fresh fits) each = pushed-says m i j at.height under (Call call) leads each.0 at.at (some-pushed call type at.height under at.under_is has.has)
  says-solution _ _ (class_sets.library_filled at has makes bagged) each = tt
  says-solution _ _ (class_sets.library_argument {m} {i} {j} {under} {t} {call} {type} at leads has is some fits) each = pushed-says m i j at.height under (Call call) leads each.0 at.at (some-pushed call type at.height under at.under_is has.has)
  says-solution _ _ (class_sets.library_member {m} {i} {j} {under} {t} {u} {call} {type} k at leads has from fits) each = pushed-says m i j at.height under (Call call) leads each.0 at.at (some-pushed call type at.height under at.under_is has.has)

  pub says : (f : Fact) → Classes p f → Says p f
  says = Least-below (Rule p) (Says p) says-solution

  -- an instruction that class sets reach is one that the kinds reach
  pub reached-at : (m i : ℕ) → Classes p (Reached m i) → IsAt p m i
  reached-at m i h = says (Reached m i) h
