-- From which names the object of which slot may be reached.
use Rattle.std.specs.Prelude.{◌≡◌, ◌≢◌, ℕ, ◌<◌, true, List, [], ◌∷◌}
use Rattle.ja_ir.specs.declared.program.Parts.{Parts}
use Rattle.ja_ir.specs.declared.method.Method.{Method}
use Rattle.ja_ir.specs.declared.row.RowResult.TheVariants.{Argument}
use Rattle.ja_ir.specs.declared.op.CallOp.{CallOp}
use Rattle.ja_ir.specs.declared.op.Op.{Op}
use Rattle.ja_ir.specs.Operations.{arguments}
use Rattle.ja_ir.specs.Params.{IsReferenceParam, param_local}
use Rattle.ja_facts.specs.Slots.{Slot, Local, OnStack, Copies, argument, IsLeft}
use Rattle.ja_facts.specs.Actions.{IsRun}
use Rattle.ja_facts.specs.ClassSets.{Fact as ClassFact, IsSource, LeadsFrom}
use Rattle.ja_facts.specs.Crossings.{IsHandled, Enters, Crossing, Crosses}
use Rattle.ja_facts.specs.Sharing.{Fact as HeapFact, PairAt, PairWithin, Effect, Root, Name, OfSlot, Statics, IsLive, Keeps, Stays, Loads, LoadsStatic, Writes, WritesStatic, Makes, MeetsItself, IsNoCall, Begins, IsReference, IsRootOf, root_name, start_name, Step, LibraryCall, LibraryAnswer, LibraryEnds, RaisesNew, ThrowsTo}

-- what reachability says
pub data Fact : Type 0 where
  -- before instruction i of method m, the object of slot b may be reached from name a, which is a slot or the static fields
  ReachAt : (m i : ℕ) (a : Name) (b : Slot) → Fact
  -- the same at a library call, between its effect and its result or exception
  ReachWithin : (m i : ℕ) (a : Name) (b : Slot) → Fact

-- from these facts comes this fact, for the call graph that C tells and the pairs and effects that H tells
pub data Rule (p : Parts) (C : ClassFact → Type 0) (H : HeapFact → Type 0) : List Fact → Fact → Type 0 where
  -- where methods begin: those that the environment runs, and those that are entered
  run_begins : {m : ℕ} (method : Method) (s : Root) (k : ℕ) → IsRun p m → Begins p m method → IsReference method s → IsReferenceParam method k
      → Rule p C H [] (ReachAt m 0 (start_name method s) (Local (param_local method k)))
  entered_begins : {m i n count under : ℕ} (method : Method) (s : Root) (k : ℕ) → Enters p C m i n count under → Begins p n method → IsRootOf count s → k < count
      → Rule p C H (ReachAt m i (root_name under s) (argument under k) ∷ []) (ReachAt n 0 (start_name method s) (Local (param_local method k)))
  -- a normal end of an operation that is no call: what was reached is; two copies of one slot reach each other
  kept : {m i j height : ℕ} {op : Op} {a c : Name} {b d : Slot} → Step p C m i j op height → IsNoCall op → Keeps op height a c → Copies op height b d
      → Rule p C H (ReachAt m i a b ∷ []) (ReachAt m j c d)
  copied : {m i j height : ℕ} {op : Op} {z x y : Slot} → Step p C m i j op height → IsNoCall op → Copies op height z x → Copies op height z y → x ≢ y
      → Rule p C H [] (ReachAt m j (OfSlot x) y)
  -- a new object
  made : {m i j height : ℕ} {op : Op} {r : Slot} → Step p C m i j op height → Makes op height r → Rule p C H [] (ReachAt m j (OfSlot r) r)
  -- what a field or an element has: it reaches what its object reaches, and is reached from what shares with its object
  object_loaded : {m i j height : ℕ} {op : Op} {x r b d : Slot} → Step p C m i j op height → Loads op height x r → Copies op height b d
      → Rule p C H (ReachAt m i (OfSlot x) b ∷ []) (ReachAt m j (OfSlot r) d)
  object_loaded_reached : {m i j height : ℕ} {op : Op} {x r : Slot} {a c : Name} → Step p C m i j op height → Loads op height x r → IsLive a → H (PairAt m i a (OfSlot x)) → Keeps op height a c
      → Rule p C H [] (ReachAt m j c r)
  object_loaded_itself : {m i j height : ℕ} {op : Op} {x r : Slot} → Step p C m i j op height → Loads op height x r → Rule p C H [] (ReachAt m j (OfSlot r) r)
  static_loaded : {m i j height : ℕ} {op : Op} {r b d : Slot} → Step p C m i j op height → LoadsStatic op height r → Copies op height b d
      → Rule p C H (ReachAt m i Statics b ∷ []) (ReachAt m j (OfSlot r) d)
  static_loaded_reached : {m i j height : ℕ} {op : Op} {r : Slot} {a c : Name} → Step p C m i j op height → LoadsStatic op height r → IsLive a → H (PairAt m i a Statics) → Keeps op height a c
      → Rule p C H [] (ReachAt m j c r)
  static_loaded_itself : {m i j height : ℕ} {op : Op} {r : Slot} → Step p C m i j op height → LoadsStatic op height r → Rule p C H [] (ReachAt m j (OfSlot r) r)
  -- a write: what reaches the object then reaches what the value reaches
  written : {m i j height : ℕ} {op : Op} {x v b d : Slot} {a c : Name} → Step p C m i j op height → Writes op height x v → Keeps op height a c → Copies op height b d
      → Rule p C H (ReachAt m i a x ∷ ReachAt m i (OfSlot v) b ∷ []) (ReachAt m j c d)
  static_written : {m i j height : ℕ} {op : Op} {v b d : Slot} → Step p C m i j op height → WritesStatic op height v → Copies op height b d
      → Rule p C H (ReachAt m i (OfSlot v) b ∷ []) (ReachAt m j Statics d)
  -- a library call: its effect
  within : {m i under : ℕ} {call : CallOp} {a : Name} {b : Slot} → LibraryCall p C m i call under → Rule p C H (ReachAt m i a b ∷ []) (ReachWithin m i a b)
  absorbed : {m i under : ℕ} {call : CallOp} {a : Name} {b : Slot} (x v : ℕ) → LibraryCall p C m i call under → IsSource call x call.row.effect → v < arguments call → IsLive a
      → H (PairAt m i a (OfSlot (argument under x))) → Rule p C H (ReachAt m i (OfSlot (argument under v)) b ∷ []) (ReachWithin m i a b)
  -- what is there after it, at its normal end and where it throws; and the exception, which is new
  library_ends : {m i j left : ℕ} {a : Name} {b : Slot} → LibraryEnds p C m i j left → Stays left a → IsLeft left b → Rule p C H (ReachWithin m i a b ∷ []) (ReachAt m j a b)
  library_throws : {m i j under : ℕ} {call : CallOp} → LibraryCall p C m i call under → IsHandled p m i j → Rule p C H [] (ReachAt m j (OfSlot (OnStack 0)) (OnStack 0))
  -- and its result
  library_itself : {m i j under : ℕ} {call : CallOp} → LibraryAnswer p C m i j call under → MeetsItself call.row.result → Rule p C H [] (ReachAt m j (OfSlot (OnStack under)) (OnStack under))
  library_argument : {m i j under : ℕ} {call : CallOp} {b : Slot} → LibraryAnswer p C m i j call under → call.row.result ≡ Argument → 0 < arguments call → IsLeft under b
      → Rule p C H (ReachWithin m i (OfSlot (argument under 0)) b ∷ []) (ReachAt m j (OfSlot (OnStack under)) b)
  library_argument_reached : {m i j under : ℕ} {call : CallOp} {a : Name} → LibraryAnswer p C m i j call under → call.row.result ≡ Argument → 0 < arguments call → Stays under a
      → Rule p C H (ReachWithin m i a (argument under 0) ∷ []) (ReachAt m j a (OnStack under))
  library_argument_itself : {m i j under : ℕ} {call : CallOp} → LibraryAnswer p C m i j call under → call.row.result ≡ Argument → 0 < arguments call
      → Rule p C H (ReachWithin m i (OfSlot (argument under 0)) (argument under 0) ∷ []) (ReachAt m j (OfSlot (OnStack under)) (OnStack under))
  library_member : {m i j under : ℕ} {call : CallOp} {b : Slot} (k : ℕ) → LibraryAnswer p C m i j call under → LeadsFrom call k call.row.result → IsLeft under b
      → Rule p C H (ReachWithin m i (OfSlot (argument under k)) b ∷ []) (ReachAt m j (OfSlot (OnStack under)) b)
  library_member_reached : {m i j under : ℕ} {call : CallOp} {a : Name} (k : ℕ) → LibraryAnswer p C m i j call under → LeadsFrom call k call.row.result → IsLive a
      → H (PairWithin m i a (OfSlot (argument under k))) → Stays under a → Rule p C H [] (ReachAt m j a (OnStack under))
  -- a way through a program method: what stays; what meets a root that the method changes reaches what any root reaches
  crossing_kept : {m i n : ℕ} {a : Name} {b : Slot} (x : Crossing) → Crosses p C m i n x → Stays x.left a → IsLeft x.left b → Rule p C H (ReachAt m i a b ∷ []) (ReachAt m x.back a b)
  affected_reaches : {m i n : ℕ} {a : Name} {b : Slot} (x : Crossing) (s r : Root) → Crosses p C m i n x → IsRootOf x.count s → IsRootOf x.count r → IsLive a → H (Effect n s)
      → H (PairAt m i a (root_name x.under s)) → Stays x.left a → IsLeft x.left b → Rule p C H (ReachAt m i (root_name x.under r) b ∷ []) (ReachAt m x.back a b)
  -- what is answered, a result or an exception: it reaches what any root reaches, and is reached from what meets any root, and from itself
  answer_reaches : {m i n : ℕ} {b : Slot} (x : Crossing) (r : Root) → Crosses p C m i n x → IsRootOf x.count r → x.answers ≡ true → IsLeft x.left b
      → Rule p C H (ReachAt m i (root_name x.under r) b ∷ []) (ReachAt m x.back (OfSlot (OnStack x.left)) b)
  answer_reached : {m i n : ℕ} {a : Name} (x : Crossing) (r : Root) → Crosses p C m i n x → IsRootOf x.count r → x.answers ≡ true → IsLive a → H (PairAt m i a (root_name x.under r))
      → Stays x.left a → Rule p C H [] (ReachAt m x.back a (OnStack x.left))
  answer_itself : {m i n : ℕ} (x : Crossing) → Crosses p C m i n x → x.answers ≡ true → Rule p C H [] (ReachAt m x.back (OfSlot (OnStack x.left)) (OnStack x.left))
  -- an exceptional end by a new object, before anything else is done
  throws_new : {m i j : ℕ} → RaisesNew p C m i j → Rule p C H [] (ReachAt m j (OfSlot (OnStack 0)) (OnStack 0))
  throw_kept : {m i j : ℕ} {a : Name} {b : Slot} → RaisesNew p C m i j → Stays 0 a → IsLeft 0 b → Rule p C H (ReachAt m i a b ∷ []) (ReachAt m j a b)
  -- and by the object that a throw names, which is a copy
  thrown : {m i j k : ℕ} {b : Slot} → ThrowsTo p C m i j k → IsLeft 0 b → Rule p C H (ReachAt m i (OfSlot (OnStack k)) b ∷ []) (ReachAt m j (OfSlot (OnStack 0)) b)
  thrown_reached : {m i j k : ℕ} {a : Name} → ThrowsTo p C m i j k → Stays 0 a → Rule p C H (ReachAt m i a (OnStack k) ∷ []) (ReachAt m j a (OnStack 0))
  thrown_itself : {m i j k : ℕ} → ThrowsTo p C m i j k → Rule p C H (ReachAt m i (OfSlot (OnStack k)) (OnStack k) ∷ []) (ReachAt m j (OfSlot (OnStack 0)) (OnStack 0))
