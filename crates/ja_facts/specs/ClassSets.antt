-- Which kinds of objects may be where, and where calls may go: class sets and the call graph, as one least set of facts.
use Rattle.std.specs.Prelude.{◌≡◌, ◌⊎◌, ℕ, suc, ◌+◌, ◌<◌, ◌≤◌, true, false, List, [], ◌∷◌, Some, Contains, slice_get}
use Rattle.ja_base.specs.declared.java_type.Kind.{Kind}
use Rattle.ja_base.specs.declared.java_type.Kind.TheVariants.{R}
use Rattle.ja_base.specs.declared.java_type.JavaType.{JavaType}
use Rattle.ja_ir.specs.declared.program.Parts.{Parts}
use Rattle.ja_ir.specs.declared.class.ClassInfo.{ClassInfo}
use Rattle.ja_ir.specs.declared.class.Field.{Field}
use Rattle.ja_ir.specs.declared.class.MethodAt.{MethodAt}
use Rattle.ja_ir.specs.declared.class.MethodAt.TheVariants.{Program, Abstract, Library}
use Rattle.ja_ir.specs.declared.method.Method.{Method}
use Rattle.ja_ir.specs.declared.entry.Entry.{Entry}
use Rattle.ja_ir.specs.declared.row.RowEffect.{RowEffect}
use Rattle.ja_ir.specs.declared.row.RowEffect.TheVariants.{Quiet, Absorb, Blend}
use Rattle.ja_ir.specs.declared.row.RowResult.{RowResult}
use Rattle.ja_ir.specs.declared.row.RowResult.TheVariants.{Fresh, Argument, Member, Any}
use Rattle.ja_ir.specs.declared.op.CallOp.{CallOp}
use Rattle.ja_ir.specs.declared.op.CallKind.{CallKind}
use Rattle.ja_ir.specs.declared.op.CallKind.TheVariants.{Special, Static, StaticField, MemberField}
use Rattle.ja_ir.specs.declared.op.Op.{Op}
use Rattle.ja_ir.specs.declared.op.Op.TheVariants.{Text, New, NewArray, ArrLoad, ArrStore, Return, GetStatic, PutStatic, GetField, PutField, Throw, Cast}
use Rattle.ja_ir.specs.Lookup.{OpAt, Leads, is_static, is_member, is_abstract, is_interface, is_instance_field, select}
use Rattle.ja_ir.specs.Operations.{arguments, has_receiver, is_dispatched, may_throw}
use Rattle.ja_ir.specs.Tokens.{text_token, lib_token, rarr_token, parr_token, fits, absorbs, names_program, fresh_tokens, bagged_tokens}
use Rattle.ja_ir.specs.Handlers.{dest, Inside, Outside}
use Rattle.ja_ir.specs.Initializing.{InitAt}
use Rattle.ja_ir.specs.Params.{HasParam, param_local}
use Rattle.ja_facts.specs.Slots.{Slot, Local, OnStack, Copies, CallAt, argument}
use Rattle.ja_facts.specs.Actions.{IsInitializer, IsConstructor, IsEntry, HasObjects}

-- what class sets and the call graph say
pub data Fact : Type 0 where
  -- instruction i of method m may run
  Reached : (m i : ℕ) → Fact
  -- an object of token t may be: made by the environment; in a slot before an instruction; thrown by an instruction; a parameter;
  -- a result; thrown out of a method; in a field; in the bag of an object of token b
  InEnv : (t : ℕ) → Fact
  InSlot : (m i : ℕ) (z : Slot) (t : ℕ) → Fact
  InThrown : (m i t : ℕ) → Fact
  InParam : (m k t : ℕ) → Fact
  InResult : (m t : ℕ) → Fact
  InOut : (m t : ℕ) → Fact
  InField : (f t : ℕ) → Fact
  InBag : (b t : ℕ) → Fact
  -- a call may go to method n, which has code; to method n, which has none; to the library
  CallsMethod : (m i n : ℕ) → Fact
  CallsAbstract : (m i n : ℕ) → Fact
  CallsLibrary : (m i : ℕ) → Fact
  -- an object of token t is or leads to one of token u, by fields of program objects and by bags
  Spans : (t u : ℕ) → Fact
  -- objects of token b may take the arguments of a library call into their bags
  Takes : (m i b : ℕ) → Fact

-- the token is one of the three that absorb and are no program class
abbrev pub IsLibraryBag : Parts → ℕ → Type 0
IsLibraryBag p t = (t ≡ lib_token p) ⊎ ((t ≡ rarr_token p) ⊎ (t ≡ parr_token p))

-- an object of the token can be made: it is no program class, or one that is neither abstract nor an interface
abbrev pub CanBeMade : Parts → ℕ → Type 0
CanBeMade p t = (class : ClassInfo) → slice_get p.classes t ≡ Some class → (is_abstract class.flags ≡ false) × (is_interface class.flags ≡ false)

-- the token is a program class
abbrev pub IsClass : Parts → ℕ → Type 0
IsClass p t = (class : ClassInfo) × (slice_get p.classes t ≡ Some class)

-- f is a field that each object of the token has
pub record HasField (p : Parts) (t f : ℕ) : Type 0 where
  pub field : Field
  pub found : slice_get p.fields f ≡ Some field
  pub class : IsClass p t
  pub instance : is_instance_field p t field ≡ true

-- a reference of the token in the slot passes the operation: the one that a cast looks at passes where it fits
abbrev pub Passes : Parts → Op → (height : ℕ) → Slot → (t : ℕ) → Type 0
Passes p (Cast name) height (OnStack k) t = height ≡ suc k → fits p t name ≡ true
Passes p _ height z t = Unit {0}

-- the token of the array that is pushed, of so many dimensions whose innermost is of this token
pub data IsOuter (p : Parts) (last : ℕ) : (dimensions : ℕ) → ℕ → Type 0 where
  single : {dimensions : ℕ} → dimensions ≤ 1 → IsOuter p last dimensions last
  nested : {dimensions : ℕ} → 2 ≤ dimensions → IsOuter p last dimensions (rarr_token p)

-- an array of references of so many dimensions has an array of this token in its bag when it is made
pub data IsInner (p : Parts) (last : ℕ) : (dimensions : ℕ) → ℕ → Type 0 where
  innermost : {dimensions : ℕ} → 2 ≤ dimensions → IsInner p last dimensions last
  between : {dimensions : ℕ} → 3 ≤ dimensions → IsInner p last dimensions (rarr_token p)

-- the operation throws a library object by choice, or where the reference that it throws is null
abbrev pub ThrowsLibrary : Op → Type 0
ThrowsLibrary Throw = Unit {0}
ThrowsLibrary op = may_throw op ≡ true

-- what a call goes to whatever its receiver is: a static or special call to what it finds, an access of a library field to the library
pub data Finds (call : CallOp) : MethodAt → Type 0 where
  by_static : {target : MethodAt} → call.kind ≡ Static → call.found ≡ Some target → Finds call target
  by_special : {target : MethodAt} → call.kind ≡ Special → call.found ≡ Some target → Finds call target
  in_static_field : call.kind ≡ StaticField → Finds call Library
  in_member_field : call.kind ≡ MemberField → Finds call Library

-- a method that a call of this kind found can be called by it: by a static call a static one, by a special call one that is not
abbrev pub CanBeCalled : CallKind → Method → Type 0
CanBeCalled Static method = is_static method.flags ≡ true
CanBeCalled Special method = is_member method.flags ≡ true
CanBeCalled _ method = ⊥

-- a virtual or interface call on an object of the token goes there: to what a program class selects, where it fits the named class
-- or that is a library class; to the library for another token, where the named class is a library class
pub data Dispatches (p : Parts) (call : CallOp) (t : ℕ) : MethodAt → Type 0 where
  selected : IsClass p t → (names_program p call.class ≡ true → fits p t call.class ≡ true)
      → Dispatches p call t (select p t call.name call.desc)
  elsewhere : (IsClass p t → ⊥) → names_program p call.class ≡ false → Dispatches p call t Library

-- argument k is one of those whose objects a call with this effect may change
abbrev pub IsSource : CallOp → (k : ℕ) → RowEffect → Type 0
IsSource call k Quiet = ⊥
IsSource call k Absorb = (has_receiver call.kind ≡ true) × (k ≡ 0)
IsSource call k Blend = k < arguments call

-- the result of a library call may be what argument k leads to
abbrev pub LeadsFrom : CallOp → (k : ℕ) → RowResult → Type 0
LeadsFrom call k Fresh = ⊥
LeadsFrom call k Argument = ⊥
LeadsFrom call k Member = (k ≡ 0) × (k < arguments call)
LeadsFrom call k Any = k < arguments call

-- a library call with this result makes something new for it
abbrev pub MakesResult : RowResult → Type 0
MakesResult Argument = ⊥
MakesResult _ = Unit {0}

-- the call has a result of this reference type
pub record HasReference (call : CallOp) (type : JavaType) : Type 0 where
  pub has : call.result ≡ Some type
  pub reference : type.kind ≡ R

-- from these facts comes this fact
pub data Rule (p : Parts) : List Fact → Fact → Type 0 where
  -- the environment: what it makes, what it runs, and what it hands over
  env_object : (entry : Entry) → HasObjects p entry → Rule p [] (InEnv entry.class.0)
  env_fresh : (entry : Entry) (method : Method) (k t : ℕ) (type : JavaType) → IsEntry p entry method → HasParam method k type
      → Contains (fresh_tokens p type) t → Rule p [] (InEnv t)
  initializer_runs : {m : ℕ} → IsInitializer p m → Rule p [] (Reached m 0)
  constructor_runs : {m : ℕ} (entry : Entry) → HasObjects p entry → IsConstructor p entry.class.0 m → Rule p [] (Reached m 0)
  entry_runs : (entry : Entry) → Contains p.entries entry → Rule p [] (Reached entry.method.0 0)
  constructor_receives : {m : ℕ} (entry : Entry) → HasObjects p entry → IsConstructor p entry.class.0 m → Rule p [] (InParam m 0 entry.class.0)
  entry_receives : (entry : Entry) → HasObjects p entry → Rule p [] (InParam entry.method.0 0 entry.class.0)
  entry_takes : {t : ℕ} (entry : Entry) (method : Method) (k : ℕ) (type : JavaType) → IsEntry p entry method → HasParam method k type
      → type.kind ≡ R → fits p t type.name ≡ true → Rule p (InEnv t ∷ []) (InParam entry.method.0 k t)
  env_bag : {b t : ℕ} → IsLibraryBag p b → Rule p (InEnv b ∷ InEnv t ∷ []) (InBag b t)
  -- control goes on, and values move with it
  next_reached : {m i j : ℕ} → Leads p m i j → Rule p (Reached m i ∷ []) (Reached m j)
  initializes : {m i n : ℕ} → InitAt p m i n → Rule p (Reached m i ∷ []) (Reached n 0)
  begins : {m k t : ℕ} (method : Method) → slice_get p.methods m ≡ Some method
      → Rule p (Reached m 0 ∷ InParam m k t ∷ []) (InSlot m 0 (Local (param_local method k)) t)
  moved : {m i j t height : ℕ} {op : Op} {z y : Slot} → OpAt p m i op height → Leads p m i j → Copies op height z y → Passes p op height z t
      → Rule p (Reached m i ∷ InSlot m i z t ∷ []) (InSlot m j y t)
  -- objects that are made, and what is in their bags when they are made
  text_made : {m i j height : ℕ} → OpAt p m i Text height → Leads p m i j → Rule p (Reached m i ∷ []) (InSlot m j (OnStack height) (text_token p))
  made : {m i j height t : ℕ} → OpAt p m i (New (record { 0 = t })) height → Leads p m i j → CanBeMade p t
      → Rule p (Reached m i ∷ []) (InSlot m j (OnStack height) t)
  array_made : {m i j height under dimensions last t : ℕ} → OpAt p m i (NewArray (record { 0 = last }) dimensions) height → Leads p m i j
      → height ≡ under + dimensions → IsOuter p last dimensions t → Rule p (Reached m i ∷ []) (InSlot m j (OnStack under) t)
  array_filled : {m i height dimensions last t : ℕ} → OpAt p m i (NewArray (record { 0 = last }) dimensions) height
      → IsInner p last dimensions t → Rule p (Reached m i ∷ []) (InBag (rarr_token p) t)
  -- fields and arrays of references
  got : {m i j f t k : ℕ} → OpAt p m i (GetField (record { 0 = f })) (suc k) → Leads p m i j
      → Rule p (Reached m i ∷ InField f t ∷ []) (InSlot m j (OnStack k) t)
  got_static : {m i j f t height : ℕ} → OpAt p m i (GetStatic (record { 0 = f })) height → Leads p m i j
      → Rule p (Reached m i ∷ InField f t ∷ []) (InSlot m j (OnStack height) t)
  put : {m i f t k : ℕ} → OpAt p m i (PutField (record { 0 = f })) (suc (suc k))
      → Rule p (Reached m i ∷ InSlot m i (OnStack (suc k)) t ∷ []) (InField f t)
  put_static : {m i f t k : ℕ} → OpAt p m i (PutStatic (record { 0 = f })) (suc k)
      → Rule p (Reached m i ∷ InSlot m i (OnStack k) t ∷ []) (InField f t)
  text_field : {f : ℕ} (field : Field) → slice_get p.fields f ≡ Some field → field.text ≡ true → Rule p [] (InField f (text_token p))
  element_got : {m i j t k : ℕ} → OpAt p m i (ArrLoad R) (suc (suc k)) → Leads p m i j
      → Rule p (Reached m i ∷ InBag (rarr_token p) t ∷ []) (InSlot m j (OnStack k) t)
  element_put : {m i t k : ℕ} → OpAt p m i (ArrStore R) (suc (suc (suc k)))
      → Rule p (Reached m i ∷ InSlot m i (OnStack (suc (suc k))) t ∷ []) (InBag (rarr_token p) t)
  -- exceptions, and where they go
  throws_library : {m i height : ℕ} {op : Op} → OpAt p m i op height → ThrowsLibrary op → Rule p (Reached m i ∷ []) (InThrown m i (lib_token p))
  throws : {m i t k : ℕ} → OpAt p m i Throw (suc k) → Rule p (Reached m i ∷ InSlot m i (OnStack k) t ∷ []) (InThrown m i t)
  handler_reached : {m i j t : ℕ} → Contains (dest p m i t) (Inside j) → Rule p (Reached m i ∷ InThrown m i t ∷ []) (Reached m j)
  handled : {m i j t : ℕ} → Contains (dest p m i t) (Inside j) → Rule p (Reached m i ∷ InThrown m i t ∷ []) (InSlot m j (OnStack 0) t)
  handler_keeps : {m i j t l u : ℕ} → Contains (dest p m i t) (Inside j)
      → Rule p (Reached m i ∷ InThrown m i t ∷ InSlot m i (Local l) u ∷ []) (InSlot m j (Local l) u)
  thrown_out : {m i t : ℕ} → Contains (dest p m i t) Outside → Rule p (Reached m i ∷ InThrown m i t ∷ []) (InOut m t)
  -- where calls go
  found_method : {m i n under : ℕ} {call : CallOp} (method : Method) → CallAt p m i call under → Finds call (Program (record { 0 = n }))
      → slice_get p.methods n ≡ Some method → CanBeCalled call.kind method → Rule p (Reached m i ∷ []) (CallsMethod m i n)
  found_abstract : {m i n under : ℕ} {call : CallOp} (method : Method) → CallAt p m i call under → Finds call (Abstract (record { 0 = n }))
      → slice_get p.methods n ≡ Some method → CanBeCalled call.kind method → Rule p (Reached m i ∷ []) (CallsAbstract m i n)
  found_library : {m i under : ℕ} {call : CallOp} → CallAt p m i call under → Finds call Library → Rule p (Reached m i ∷ []) (CallsLibrary m i)
  selects_method : {m i n under t : ℕ} {call : CallOp} → CallAt p m i call under → is_dispatched call.kind ≡ true
      → Dispatches p call t (Program (record { 0 = n })) → Rule p (Reached m i ∷ InSlot m i (argument under 0) t ∷ []) (CallsMethod m i n)
  selects_abstract : {m i n under t : ℕ} {call : CallOp} → CallAt p m i call under → is_dispatched call.kind ≡ true
      → Dispatches p call t (Abstract (record { 0 = n })) → Rule p (Reached m i ∷ InSlot m i (argument under 0) t ∷ []) (CallsAbstract m i n)
  selects_library : {m i under t : ℕ} {call : CallOp} → CallAt p m i call under → is_dispatched call.kind ≡ true
      → Dispatches p call t Library → Rule p (Reached m i ∷ InSlot m i (argument under 0) t ∷ []) (CallsLibrary m i)
  -- calls of program methods
  callee_reached : {m i n : ℕ} → Rule p (Reached m i ∷ CallsMethod m i n ∷ []) (Reached n 0)
  receives : {m i n under t : ℕ} {call : CallOp} → CallAt p m i call under → is_dispatched call.kind ≡ true
      → Dispatches p call t (Program (record { 0 = n })) → Rule p (Reached m i ∷ InSlot m i (argument under 0) t ∷ []) (InParam n 0 t)
  hands : {m i n under k t : ℕ} {call : CallOp} → CallAt p m i call under → k < arguments call
      → ((is_dispatched call.kind ≡ false) ⊎ (0 < k)) → Rule p (Reached m i ∷ CallsMethod m i n ∷ InSlot m i (argument under k) t ∷ []) (InParam n k t)
  returned : {m i k t : ℕ} {kind : Kind} → OpAt p m i (Return (Some kind)) (suc k) → Rule p (Reached m i ∷ InSlot m i (OnStack k) t ∷ []) (InResult m t)
  answered : {m i j n under t : ℕ} {call : CallOp} → CallAt p m i call under → Leads p m i j
      → Rule p (Reached m i ∷ CallsMethod m i n ∷ InResult n t ∷ []) (InSlot m j (OnStack under) t)
  callee_throws : {m i n t : ℕ} → Rule p (Reached m i ∷ CallsMethod m i n ∷ InOut n t ∷ []) (InThrown m i t)
  null_receiver : {m i under : ℕ} {call : CallOp} → CallAt p m i call under → has_receiver call.kind ≡ true → Rule p (Reached m i ∷ []) (InThrown m i (lib_token p))
  abstract_throws : {m i n : ℕ} → Rule p (Reached m i ∷ CallsAbstract m i n ∷ []) (InThrown m i (lib_token p))
  library_throws : {m i : ℕ} → Rule p (Reached m i ∷ CallsLibrary m i ∷ []) (InThrown m i (lib_token p))
  -- what objects lead to
  spans_itself : {t : ℕ} → Rule p [] (Spans t t)
  spans_field : {t u v : ℕ} (f : ℕ) → HasField p u f → Rule p (Spans t u ∷ InField f v ∷ []) (Spans t v)
  spans_bag : {t u v : ℕ} → absorbs p u ≡ true → Rule p (Spans t u ∷ InBag u v ∷ []) (Spans t v)
  -- calls of the library: what takes the arguments
  taker : {m i under t b : ℕ} {call : CallOp} (k : ℕ) → CallAt p m i call under → IsSource call k call.row.effect → absorbs p b ≡ true
      → Rule p (Reached m i ∷ CallsLibrary m i ∷ InSlot m i (argument under k) t ∷ Spans t b ∷ []) (Takes m i b)
  taken : {m i under k b t : ℕ} {call : CallOp} → CallAt p m i call under → k < arguments call
      → Rule p (Reached m i ∷ Takes m i b ∷ InSlot m i (argument under k) t ∷ []) (InBag b t)
  -- what is answered
  library_fresh : {m i j under t : ℕ} {call : CallOp} {type : JavaType} → CallAt p m i call under → Leads p m i j → HasReference call type
      → Contains (fresh_tokens p type) t → fits p t type.name ≡ true → Rule p (Reached m i ∷ CallsLibrary m i ∷ []) (InSlot m j (OnStack under) t)
  library_filled : {m i under t : ℕ} {call : CallOp} {type : JavaType} → CallAt p m i call under → HasReference call type
      → MakesResult call.row.result → Contains (bagged_tokens p type.name) t → Rule p (Reached m i ∷ CallsLibrary m i ∷ []) (InBag (rarr_token p) t)
  library_argument : {m i j under t : ℕ} {call : CallOp} {type : JavaType} → CallAt p m i call under → Leads p m i j → HasReference call type
      → call.row.result ≡ Argument → 0 < arguments call → fits p t type.name ≡ true
      → Rule p (Reached m i ∷ CallsLibrary m i ∷ InSlot m i (argument under 0) t ∷ []) (InSlot m j (OnStack under) t)
  library_member : {m i j under t u : ℕ} {call : CallOp} {type : JavaType} (k : ℕ) → CallAt p m i call under → Leads p m i j → HasReference call type
      → LeadsFrom call k call.row.result → fits p u type.name ≡ true
      → Rule p (Reached m i ∷ CallsLibrary m i ∷ InSlot m i (argument under k) t ∷ Spans t u ∷ []) (InSlot m j (OnStack under) u)
