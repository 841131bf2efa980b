-- What may be shared between the names of a point, and what a method may change of what it was given: heap pairs and effects, as
-- one least set of facts.
use Rattle.std.specs.Prelude.{◌≡◌, ◌≢◌, ℕ, suc, ◌+◌, ◌<◌, true, List, [], ◌∷◌, Some, slice_get}
use Rattle.ja_base.specs.declared.java_type.Kind.{Kind}
use Rattle.ja_base.specs.declared.java_type.Kind.TheVariants.{R}
use Rattle.ja_ir.specs.declared.program.Parts.{Parts}
use Rattle.ja_ir.specs.declared.method.Method.{Method}
use Rattle.ja_ir.specs.declared.method.Instr.{Instr}
use Rattle.ja_ir.specs.declared.row.RowResult.{RowResult}
use Rattle.ja_ir.specs.declared.row.RowResult.TheVariants.{Argument}
use Rattle.ja_ir.specs.declared.op.CallOp.{CallOp}
use Rattle.ja_ir.specs.declared.op.Op.{Op}
use Rattle.ja_ir.specs.declared.op.Op.TheVariants.{Text, New, NewArray, ArrLoad, ArrStore, GetStatic, PutStatic, GetField, PutField, Call, Throw}
use Rattle.ja_ir.specs.Lookup.{OpAt, Leads, instr_at}
use Rattle.ja_ir.specs.Operations.{arguments, has_receiver, may_throw}
use Rattle.ja_ir.specs.Params.{IsReferenceParam, param_local}
use Rattle.ja_facts.specs.Slots.{Slot, Local, OnStack, Copies, CallAt, argument, IsLeft}
use Rattle.ja_facts.specs.Actions.{IsRun}
use Rattle.ja_facts.specs.ClassSets.{Fact as ClassFact, Reached, CallsAbstract, CallsLibrary, IsSource, LeadsFrom}
use Rattle.ja_facts.specs.Crossings.{IsHandled, Enters, Crossing, Crosses, has_result}

-- what a method begins with: argument k, or the static fields
pub data Root : Type 0 where
  Arg : (k : ℕ) → Root
  StaticFields : Root

-- the names at a point: a slot, the static fields, and the objects that a root reached when the method began
pub data Name : Type 0 where
  OfSlot : (z : Slot) → Name
  Statics : Name
  Old : (r : Root) → Name

-- what pairs and effects say
pub data Fact : Type 0 where
  -- before instruction i of method m, some object may be reached from both names
  PairAt : (m i : ℕ) (a b : Name) → Fact
  -- the same at a library call, between its effect and its result or exception
  PairWithin : (m i : ℕ) (a b : Name) → Fact
  -- method m may change objects that the root reached when it began, or set a static field
  Effect : (m : ℕ) (r : Root) → Fact

-- the name can change: it is a slot or the static fields
pub data IsLive : Name → Type 0 where
  live_slot : {z : Slot} → IsLive (OfSlot z)
  live_statics : IsLive Statics

-- at a normal end of an operation, the second name has the places that the first had
pub data Keeps (op : Op) (height : ℕ) : Name → Name → Type 0 where
  keeps_slot : {z y : Slot} → Copies op height z y → Keeps op height (OfSlot z) (OfSlot y)
  keeps_statics : Keeps op height Statics Statics
  keeps_old : {r : Root} → Keeps op height (Old r) (Old r)

-- the name stays where so many values are left on the stack: each but the other slots of the stack
pub data Stays (left : ℕ) : Name → Type 0 where
  stays_slot : {z : Slot} → IsLeft left z → Stays left (OfSlot z)
  stays_statics : Stays left Statics
  stays_old : {r : Root} → Stays left (Old r)

-- the operation pushes there what a field or an element of the object in the slot has
pub data Loads : Op → (height : ℕ) → (x r : Slot) → Type 0 where
  loads_field : {f height k : ℕ} → height ≡ suc k → Loads (GetField (record { 0 = f })) height (OnStack k) (OnStack k)
  loads_element : {height k : ℕ} → height ≡ suc (suc k) → Loads (ArrLoad R) height (OnStack k) (OnStack k)

-- the operation pushes there what a static field has
pub data LoadsStatic : Op → (height : ℕ) → (r : Slot) → Type 0 where
  loads_static : {f height : ℕ} → LoadsStatic (GetStatic (record { 0 = f })) height (OnStack height)

-- the operation writes what is in slot v into the object in slot x
pub data Writes : Op → (height : ℕ) → (x v : Slot) → Type 0 where
  writes_field : {f height k : ℕ} → height ≡ suc (suc k) → Writes (PutField (record { 0 = f })) height (OnStack k) (OnStack (suc k))
  writes_element : {kind : Kind} {height k : ℕ} → height ≡ suc (suc (suc k)) → Writes (ArrStore kind) height (OnStack k) (OnStack (suc (suc k)))

-- the operation writes what is in slot v into a static field
pub data WritesStatic : Op → (height : ℕ) → (v : Slot) → Type 0 where
  writes_static : {f height k : ℕ} → height ≡ suc k → WritesStatic (PutStatic (record { 0 = f })) height (OnStack k)

-- the operation pushes a new object there
pub data Makes : Op → (height : ℕ) → (r : Slot) → Type 0 where
  makes_text : {height : ℕ} → Makes Text height (OnStack height)
  makes_object : {t height : ℕ} → Makes (New (record { 0 = t })) height (OnStack height)
  makes_array : {last dimensions height under : ℕ} → height ≡ under + dimensions → Makes (NewArray (record { 0 = last }) dimensions) height (OnStack under)

-- the name of a root of a method, where its arguments lie over so many values on the stack of the method that enters it
abbrev pub root_name : (under : ℕ) → Root → Name
root_name under (Arg k) = OfSlot (argument under k)
root_name under StaticFields = Statics

-- the root is one of a method that is entered with so many arguments: one of these, or the static fields
abbrev pub IsRootOf : (count : ℕ) → Root → Type 0
IsRootOf count (Arg k) = k < count
IsRootOf count StaticFields = Unit {0}

-- the name in a method of what it begins with
abbrev pub start_name : Method → Root → Name
start_name method (Arg k) = OfSlot (Local (param_local method k))
start_name method StaticFields = Statics

-- the root of a method that the environment runs: a reference parameter, or the static fields
abbrev pub IsReference : Method → Root → Type 0
IsReference method (Arg k) = IsReferenceParam method k
IsReference method StaticFields = Unit {0}

-- the result of a library call meets itself whatever its arguments are: it is no copy of one
abbrev pub MeetsItself : RowResult → Type 0
MeetsItself Argument = ⊥
MeetsItself _ = Unit {0}

-- the operation throws a new object by choice, or because of a null reference
pub data ThrowsNew : Op → Type 0 where
  new_by_choice : {op : Op} → may_throw op ≡ true → ThrowsNew op
  new_for_null : ThrowsNew Throw
  new_for_receiver : {call : CallOp} → has_receiver call.kind ≡ true → ThrowsNew (Call call)

-- the operation is no call
abbrev pub IsNoCall : Op → Type 0
IsNoCall (Call _) = ⊥
IsNoCall _ = Unit {0}

-- this is method m
abbrev pub Begins : Parts → (m : ℕ) → Method → Type 0
Begins p m method = slice_get p.methods m ≡ Some method

-- instruction i of method m, which is reached, has this operation, before which so many values are on the stack, and its normal end may lead
-- to instruction j
pub record Step (p : Parts) (C : ClassFact → Type 0) (m i j : ℕ) (op : Op) (height : ℕ) : Type 0 where
  pub at : OpAt p m i op height
  pub reached : C (Reached m i)
  pub leads : Leads p m i j

-- instruction i of method m, which is reached, is this call, with so many values under its arguments, and may go to the library
pub record LibraryCall (p : Parts) (C : ClassFact → Type 0) (m i : ℕ) (call : CallOp) (under : ℕ) : Type 0 where
  pub at : CallAt p m i call under
  pub reached : C (Reached m i)
  pub goes : C (CallsLibrary m i)

-- such a call may go on at instruction j with its result
pub record LibraryAnswer (p : Parts) (C : ClassFact → Type 0) (m i j : ℕ) (call : CallOp) (under : ℕ) : Type 0 where
  pub library : LibraryCall p C m i call under
  pub leads : Leads p m i j
  pub answers : has_result call.result ≡ true

-- such a call may go on at instruction j, where so many values of the stack are left: those under its arguments, and none at a handler
pub data LibraryEnds (p : Parts) (C : ClassFact → Type 0) (m i j : ℕ) : (left : ℕ) → Type 0 where
  ends_normally : {under : ℕ} {call : CallOp} → LibraryCall p C m i call under → Leads p m i j → LibraryEnds p C m i j under
  ends_by_exception : {under : ℕ} {call : CallOp} → LibraryCall p C m i call under → IsHandled p m i j → LibraryEnds p C m i j 0

-- instruction i of method m, which is reached, may throw a new object to a handler at instruction j with nothing else done: the operation
-- does, or a call that goes to a method without code
pub data RaisesNew (p : Parts) (C : ClassFact → Type 0) (m i j : ℕ) : Type 0 where
  raised_here : {height : ℕ} {op : Op} → OpAt p m i op height → C (Reached m i) → ThrowsNew op → IsHandled p m i j → RaisesNew p C m i j
  raised_at_abstract : {n under : ℕ} {call : CallOp} → CallAt p m i call under → C (Reached m i) → C (CallsAbstract m i n) → IsHandled p m i j
      → RaisesNew p C m i j

-- instruction i of method m, which is reached, throws the value over so many others on the stack to a handler at instruction j
pub record ThrowsTo (p : Parts) (C : ClassFact → Type 0) (m i j k : ℕ) : Type 0 where
  pub at : OpAt p m i Throw (suc k)
  pub reached : C (Reached m i)
  pub handled : IsHandled p m i j

-- from these facts comes this fact, for the call graph that C tells
pub data Rule (p : Parts) (C : ClassFact → Type 0) : List Fact → Fact → Type 0 where
  -- pairs have no order, and the static fields always meet what they reached when the method began
  turned : {m i : ℕ} {a b : Name} → Rule p C (PairAt m i a b ∷ []) (PairAt m i b a)
  turned_within : {m i : ℕ} {a b : Name} → Rule p C (PairWithin m i a b ∷ []) (PairWithin m i b a)
  statics_meet : {m i : ℕ} (instr : Instr) → instr_at p m i ≡ Some instr → Rule p C [] (PairAt m i Statics Statics)
  statics_meet_old : {m i : ℕ} (instr : Instr) → instr_at p m i ≡ Some instr → Rule p C [] (PairAt m i Statics (Old StaticFields))
  -- where methods begin: those that the environment runs, and those that are entered
  run_begins : {m : ℕ} (method : Method) (s r : Root) → IsRun p m → Begins p m method → IsReference method s → IsReference method r
      → Rule p C [] (PairAt m 0 (start_name method s) (start_name method r))
  run_begins_old : {m : ℕ} (method : Method) (s r : Root) → IsRun p m → Begins p m method → IsReference method s → IsReference method r
      → Rule p C [] (PairAt m 0 (start_name method s) (Old r))
  entered_begins : {m i n count under : ℕ} (method : Method) (s r : Root) → Enters p C m i n count under → Begins p n method → IsRootOf count s → IsRootOf count r
      → Rule p C (PairAt m i (root_name under s) (root_name under r) ∷ []) (PairAt n 0 (start_name method s) (start_name method r))
  entered_begins_old : {m i n count under : ℕ} (method : Method) (s r : Root) → Enters p C m i n count under → Begins p n method → IsRootOf count s → IsRootOf count r
      → Rule p C (PairAt m i (root_name under s) (root_name under r) ∷ []) (PairAt n 0 (start_name method s) (Old r))
  -- a normal end of an operation that is no call: names keep their places; two copies of one slot meet
  kept : {m i j height : ℕ} {op : Op} {a b c d : Name} → Step p C m i j op height → IsNoCall op → Keeps op height a c → Keeps op height b d
      → Rule p C (PairAt m i a b ∷ []) (PairAt m j c d)
  copied : {m i j height : ℕ} {op : Op} {z x y : Slot} → Step p C m i j op height → IsNoCall op → Copies op height z x → Copies op height z y → x ≢ y
      → Rule p C [] (PairAt m j (OfSlot x) (OfSlot y))
  -- a new object
  made : {m i j height : ℕ} {op : Op} {r : Slot} → Step p C m i j op height → Makes op height r → Rule p C [] (PairAt m j (OfSlot r) (OfSlot r))
  -- what a field or an element has is in what its object reaches
  object_loaded : {m i j height : ℕ} {op : Op} {x r : Slot} {b d : Name} → Step p C m i j op height → Loads op height x r → Keeps op height b d
      → Rule p C (PairAt m i (OfSlot x) b ∷ []) (PairAt m j (OfSlot r) d)
  object_loaded_meets : {m i j height : ℕ} {op : Op} {x r : Slot} → Step p C m i j op height → Loads op height x r → Rule p C [] (PairAt m j (OfSlot r) (OfSlot r))
  static_loaded : {m i j height : ℕ} {op : Op} {r : Slot} {b d : Name} → Step p C m i j op height → LoadsStatic op height r → Keeps op height b d
      → Rule p C (PairAt m i Statics b ∷ []) (PairAt m j (OfSlot r) d)
  static_loaded_meets : {m i j height : ℕ} {op : Op} {r : Slot} → Step p C m i j op height → LoadsStatic op height r → Rule p C [] (PairAt m j (OfSlot r) (OfSlot r))
  static_loaded_shares : {m i j height : ℕ} {op : Op} {r : Slot} → Step p C m i j op height → LoadsStatic op height r → Rule p C [] (PairAt m j (OfSlot r) Statics)
  -- a write: what reaches the object then reaches what is written
  written : {m i j height : ℕ} {op : Op} {x v : Slot} {a b c d : Name} → Step p C m i j op height → Writes op height x v → IsLive a → Keeps op height a c → Keeps op height b d
      → Rule p C (PairAt m i a (OfSlot x) ∷ PairAt m i (OfSlot v) b ∷ []) (PairAt m j c d)
  static_written : {m i j height : ℕ} {op : Op} {v : Slot} {b d : Name} → Step p C m i j op height → WritesStatic op height v → Keeps op height b d
      → Rule p C (PairAt m i (OfSlot v) b ∷ []) (PairAt m j Statics d)
  -- a library call: its effect
  within : {m i under : ℕ} {call : CallOp} {a b : Name} → LibraryCall p C m i call under → Rule p C (PairAt m i a b ∷ []) (PairWithin m i a b)
  absorbed : {m i under : ℕ} {call : CallOp} {a b : Name} (x v : ℕ) → LibraryCall p C m i call under → IsSource call x call.row.effect → v < arguments call → IsLive a
      → Rule p C (PairAt m i a (OfSlot (argument under x)) ∷ PairAt m i (OfSlot (argument under v)) b ∷ []) (PairWithin m i a b)
  -- what is there after it, at its normal end and where it throws; and the exception, which is new
  library_ends : {m i j left : ℕ} {a b : Name} → LibraryEnds p C m i j left → Stays left a → Stays left b → Rule p C (PairWithin m i a b ∷ []) (PairAt m j a b)
  library_throws : {m i j under : ℕ} {call : CallOp} → LibraryCall p C m i call under → IsHandled p m i j → Rule p C [] (PairAt m j (OfSlot (OnStack 0)) (OfSlot (OnStack 0)))
  -- and its result
  library_meets : {m i j under : ℕ} {call : CallOp} → LibraryAnswer p C m i j call under → MeetsItself call.row.result
      → Rule p C [] (PairAt m j (OfSlot (OnStack under)) (OfSlot (OnStack under)))
  library_argument : {m i j under : ℕ} {call : CallOp} {b : Name} → LibraryAnswer p C m i j call under → call.row.result ≡ Argument → 0 < arguments call → Stays under b
      → Rule p C (PairWithin m i (OfSlot (argument under 0)) b ∷ []) (PairAt m j (OfSlot (OnStack under)) b)
  library_argument_meets : {m i j under : ℕ} {call : CallOp} → LibraryAnswer p C m i j call under → call.row.result ≡ Argument → 0 < arguments call
      → Rule p C (PairWithin m i (OfSlot (argument under 0)) (OfSlot (argument under 0)) ∷ []) (PairAt m j (OfSlot (OnStack under)) (OfSlot (OnStack under)))
  library_member : {m i j under : ℕ} {call : CallOp} {b : Name} (k : ℕ) → LibraryAnswer p C m i j call under → LeadsFrom call k call.row.result → Stays under b
      → Rule p C (PairWithin m i (OfSlot (argument under k)) b ∷ []) (PairAt m j (OfSlot (OnStack under)) b)
  -- a way through a program method: what stays; what meets a root that the method changes meets what meets any root, and what is answered
  crossing_kept : {m i n : ℕ} {a b : Name} (x : Crossing) → Crosses p C m i n x → Stays x.left a → Stays x.left b → Rule p C (PairAt m i a b ∷ []) (PairAt m x.back a b)
  affected_meets : {m i n : ℕ} {a b : Name} (x : Crossing) (s r : Root) → Crosses p C m i n x → IsRootOf x.count s → IsRootOf x.count r → IsLive a → Stays x.left a → Stays x.left b
      → Rule p C (Effect n s ∷ PairAt m i a (root_name x.under s) ∷ PairAt m i b (root_name x.under r) ∷ []) (PairAt m x.back a b)
  affected_answer : {m i n : ℕ} {a : Name} (x : Crossing) (s : Root) → Crosses p C m i n x → IsRootOf x.count s → x.answers ≡ true → IsLive a → Stays x.left a
      → Rule p C (Effect n s ∷ PairAt m i a (root_name x.under s) ∷ []) (PairAt m x.back a (OfSlot (OnStack x.left)))
  -- what is answered, a result or an exception: it meets what meets any root, and itself
  answer_meets : {m i n : ℕ} {b : Name} (x : Crossing) (r : Root) → Crosses p C m i n x → IsRootOf x.count r → x.answers ≡ true → Stays x.left b
      → Rule p C (PairAt m i b (root_name x.under r) ∷ []) (PairAt m x.back (OfSlot (OnStack x.left)) b)
  answer_meets_itself : {m i n : ℕ} (x : Crossing) → Crosses p C m i n x → x.answers ≡ true → Rule p C [] (PairAt m x.back (OfSlot (OnStack x.left)) (OfSlot (OnStack x.left)))
  -- an exceptional end by a new object, before anything else is done
  throws_new : {m i j : ℕ} → RaisesNew p C m i j → Rule p C [] (PairAt m j (OfSlot (OnStack 0)) (OfSlot (OnStack 0)))
  throw_kept : {m i j : ℕ} {a b : Name} → RaisesNew p C m i j → Stays 0 a → Stays 0 b → Rule p C (PairAt m i a b ∷ []) (PairAt m j a b)
  -- and by the object that a throw names, which is a copy
  thrown : {m i j k : ℕ} {b : Name} → ThrowsTo p C m i j k → Stays 0 b → Rule p C (PairAt m i (OfSlot (OnStack k)) b ∷ []) (PairAt m j (OfSlot (OnStack 0)) b)
  thrown_meets : {m i j k : ℕ} → ThrowsTo p C m i j k → Rule p C (PairAt m i (OfSlot (OnStack k)) (OfSlot (OnStack k)) ∷ []) (PairAt m j (OfSlot (OnStack 0)) (OfSlot (OnStack 0)))
  -- effects
  written_effect : {m i height : ℕ} {op : Op} {x v : Slot} {r : Root} → OpAt p m i op height → C (Reached m i) → Writes op height x v
      → Rule p C (PairAt m i (OfSlot x) (Old r) ∷ []) (Effect m r)
  static_effect : {m i height : ℕ} {op : Op} {v : Slot} → OpAt p m i op height → C (Reached m i) → WritesStatic op height v → Rule p C [] (Effect m StaticFields)
  library_effect : {m i under : ℕ} {call : CallOp} {r : Root} (x : ℕ) → LibraryCall p C m i call under → IsSource call x call.row.effect
      → Rule p C (PairAt m i (OfSlot (argument under x)) (Old r) ∷ []) (Effect m r)
  entered_effect : {m i n count under : ℕ} {r : Root} (s : Root) → Enters p C m i n count under → IsRootOf count s
      → Rule p C (Effect n s ∷ PairAt m i (root_name under s) (Old r) ∷ []) (Effect m r)

-- the fact is one of pairs
abbrev pub IsPair : Fact → Type 0
IsPair (PairAt m i a b) = Unit {0}
IsPair (PairWithin m i a b) = Unit {0}
IsPair (Effect m r) = ⊥

-- the fact is one of effects
abbrev pub IsEffect : Fact → Type 0
IsEffect (PairAt m i a b) = ⊥
IsEffect (PairWithin m i a b) = ⊥
IsEffect (Effect m r) = Unit {0}

-- the rules of pairs alone, for given effects
pub data PairRule (p : Parts) (C : ClassFact → Type 0) (E : Fact → Type 0) : List Fact → Fact → Type 0 where
  pair_rule : {ps : List Fact} {f : Fact} → Rule p C ps f → IsPair f → PairRule p C E ps f
  given_effect : {f : Fact} → E f → IsEffect f → PairRule p C E [] f

-- the rules of effects alone, for given pairs
pub data EffectRule (p : Parts) (C : ClassFact → Type 0) (S : Fact → Type 0) : List Fact → Fact → Type 0 where
  effect_rule : {ps : List Fact} {f : Fact} → Rule p C ps f → IsEffect f → EffectRule p C S ps f
  given_pair : {f : Fact} → S f → IsPair f → EffectRule p C S [] f
