-- How the truth of slots changes over an instruction: a relation of assignments before and after it, for its normal end and for
-- its exceptional ends.
use Rattle.std.specs.Prelude.{◌≡◌, ℕ, zero, suc, ◌+◌, ◌-◌, ◌≤◌, Bool, true, false, ◌||◌, Some, min}
use Rattle.ja_base.specs.declared.java_type.Kind.{Kind}
use Rattle.ja_base.specs.declared.java_type.Kind.TheVariants.{R}
use Rattle.ja_base.specs.declared.java_type.JavaType.{JavaType}
use Rattle.ja_ir.specs.declared.program.Parts.{Parts}
use Rattle.ja_ir.specs.declared.method.Instr.{Instr}
use Rattle.ja_ir.specs.declared.row.RowFlow.{RowFlow}
use Rattle.ja_ir.specs.declared.row.RowFlow.TheVariants.{Always, Never, Args}
use Rattle.ja_ir.specs.declared.row.RowEffect.{RowEffect}
use Rattle.ja_ir.specs.declared.row.RowEffect.TheVariants.{Quiet, Absorb, Blend}
use Rattle.ja_ir.specs.declared.row.RowResult.{RowResult}
use Rattle.ja_ir.specs.declared.row.RowResult.TheVariants.{Fresh, Argument, Member, Any}
use Rattle.ja_ir.specs.declared.op.CallOp.{CallOp}
use Rattle.ja_ir.specs.declared.op.Op.{Op}
use Rattle.ja_ir.specs.declared.op.Op.TheVariants.{Const, ArrLoad, ArrStore, Mix, GetStatic, PutField, GetField, Call, ArrLen, Throw, InstanceOf}
use Rattle.ja_ir.specs.Lookup.{instr_at}
use Rattle.ja_ir.specs.Operations.{arguments, count_of, has_receiver, may_throw, ends_method, height_after}
use Rattle.ja_facts.specs.Slots.{Slot, Local, OnStack, Copies, argument, IsLeft}
use Rattle.ja_facts.specs.ClassSets.{CallsAbstract, CallsLibrary, IsSource}
use Rattle.ja_facts.specs.Sharing.{PairAt, Effect, Root, OfSlot, Makes, Writes, IsRootOf, root_name}
use Rattle.ja_facts.specs.Reaching.{ReachAt}
use Rattle.ja_facts.specs.Analyses.{Analyses}

-- which slots of a frame are true; whether something was stored that is tainted; and at an exceptional end whether what is thrown is
pub record Assignment : Type 0 where
  pub slot : Slot → Bool
  pub dirt : Bool
  pub exc : Bool

-- what is told of a method's end: whether its result, what was stored, and what was thrown is tainted
pub record Summary : Type 0 where
  pub result : Bool
  pub dirt : Bool
  pub exc : Bool

-- the second is true where the first is
abbrev pub Implies : Bool → Bool → Type 0
Implies p q = p ≡ true → q ≡ true

-- one of the first so many is true
abbrev pub any_below : (ℕ → Bool) → ℕ → Bool
any_below test zero = false
any_below test (suc n) = any_below test n || test n

-- one of so many values on the stack is true, above so many others
abbrev pub any_stacked : Assignment → (under count : ℕ) → Bool
any_stacked b under count = any_below (λ k. b.slot (OnStack (under + k))) count

-- some argument of a call is true
abbrev pub any_argument : Assignment → CallOp → (under : ℕ) → Bool
any_argument b call under = any_stacked b under (arguments call)

-- argument 0 of a call is true; it is false where there is none
abbrev pub first_argument : Assignment → CallOp → (under : ℕ) → Bool
first_argument b call under = any_stacked b under (min 1 (arguments call))

-- what a library call makes tainted by the flow of its row
abbrev pub flow_by : RowFlow → (argument : Bool) → Bool
flow_by Always any = true
flow_by Never any = false
flow_by Args any = any

-- what a library call makes tainted at its arguments
abbrev pub flow : Assignment → CallOp → (under : ℕ) → Bool
flow b call under = flow_by call.row.flow (any_argument b call under)

-- what a library call puts into the objects that it changes: its flow or an argument
abbrev pub put_in : Assignment → CallOp → (under : ℕ) → Bool
put_in b call under = flow b call under || any_argument b call under

-- what is put in, where the effect changes any object
abbrev pub put_by : RowEffect → Bool → Bool
put_by Quiet put = false
put_by Absorb put = put
put_by Blend put = put

-- what a library call puts into the objects that it changes, if any
abbrev pub changes : Assignment → CallOp → (under : ℕ) → Bool
changes b call under = put_by call.row.effect (put_in b call under)

-- the most that the reference that a library call answers may be
abbrev pub answer_by : RowResult → (flow first any changes : Bool) → Bool
answer_by Fresh flow first any changes = flow
answer_by Argument flow first any changes = first || changes
answer_by Member flow first any changes = flow || (first || changes)
answer_by Any flow first any changes = flow || any

-- the most that what a library call answers may be: a primitive its flow
abbrev pub answer_of : Kind → Assignment → CallOp → (under : ℕ) → Bool
answer_of R b call under = answer_by call.row.result (flow b call under) (first_argument b call under) (any_argument b call under) (changes b call under)
answer_of _ b call under = flow b call under

-- the operation pushes there what it reads of the object in the slot
pub data Loads : Op → (height : ℕ) → (x r : Slot) → Type 0 where
  loads_field : {f height k : ℕ} → height ≡ suc k → Loads (GetField (record { 0 = f })) height (OnStack k) (OnStack k)
  loads_element : {kind : Kind} {height k : ℕ} → height ≡ suc (suc k) → Loads (ArrLoad kind) height (OnStack k) (OnStack k)

-- the slot has a pair with a source of the library call
pub record MeetsSource (A : Analyses) (m i : ℕ) (call : CallOp) (under : ℕ) (y : Slot) : Type 0 where
  pub x : ℕ
  pub source : IsSource call x call.row.effect
  pub pair : A.heaps (PairAt m i (OfSlot y) (OfSlot (argument under x)))

-- at a normal end of an operation with so many values on the stack before it, the slot may have this truth
pub data Turns (A : Analyses) (m i : ℕ) (b : Assignment) : Op → (height : ℕ) → Slot → Bool → Type 0 where
  -- the truth moves with the value
  copied : {op : Op} {height : ℕ} {z y : Slot} → Copies op height z y → Turns A m i b op height y (b.slot z)
  -- above the stack nothing is true
  above : {op : Op} {height k : ℕ} → height_after op height ≤ k → Turns A m i b op height (OnStack k) false
  -- a constant is false
  constant : {kind : Kind} {height : ℕ} → Turns A m i b (Const kind) height (OnStack height) false
  -- so is a new object
  made : {op : Op} {height : ℕ} {r : Slot} → Makes op height r → Turns A m i b op height r false
  -- so is a length
  measured : {height k : ℕ} → height ≡ suc k → Turns A m i b ArrLen height (OnStack k) false
  -- so is the answer of a test
  tested : {height k : ℕ} → height ≡ suc k → Turns A m i b InstanceOf height (OnStack k) false
  -- what is computed is true where an operand is
  mixed : {n height under : ℕ} {kind : Kind} {throws : Bool} → height ≡ under + n
      → Turns A m i b (Mix n kind throws) height (OnStack under) (any_stacked b under n)
  -- what is read of an object is true at most where the object is
  loaded : {op : Op} {height : ℕ} {x r : Slot} {t : Bool} → Loads op height x r → Implies t (b.slot x) → Turns A m i b op height r t
  -- what is read of a static field is anything
  static_loaded : {f height : ℕ} {t : Bool} → Turns A m i b (GetStatic (record { 0 = f })) height (OnStack height) t
  -- a write may make true what may reach the object, where the value is true
  written : {op : Op} {height : ℕ} {x v y : Slot} {t : Bool} → Writes op height x v → Copies op height y y → A.reach (ReachAt m i (OfSlot y) x)
      → Implies t (b.slot y || b.slot v) → Turns A m i b op height y t
  -- a library call may make true what meets a source of its effect
  absorbed : {call : CallOp} {height : ℕ} {y : Slot} {t : Bool} (under : ℕ) → height ≡ under + arguments call → Copies (Call call) height y y
      → MeetsSource A m i call under y → Implies t (b.slot y || put_in b call under) → Turns A m i b (Call call) height y t
  -- and it answers something that is true at most as its row says
  answered : {call : CallOp} {height : ℕ} {type : JavaType} {t : Bool} (under : ℕ) → height ≡ under + arguments call → call.result ≡ Some type
      → Implies t (answer_of type.kind b call under) → Turns A m i b (Call call) height (OnStack under) t

-- whether something was stored that is tainted, after a normal end: it is the topmost value that a write stores
abbrev pub dirt_after : Op → (height : ℕ) → Assignment → Bool
dirt_after (PutField _) height b = b.dirt || b.slot (OnStack (height - 1))
dirt_after (ArrStore _) height b = b.dirt || b.slot (OnStack (height - 1))
dirt_after (Call call) height b = b.dirt || changes b call (height - arguments call)
dirt_after _ height b = b.dirt

-- a call goes to the library; another operation says nothing here
abbrev pub IsLibraryPart : Analyses → (m i : ℕ) → Op → Type 0
IsLibraryPart A m i (Call _) = A.classes (CallsLibrary m i)
IsLibraryPart A m i _ = Unit {0}

-- the normal end of instruction i of method m, at a call that of its library part: from the one assignment it may lead to the other
pub record IsNormalEnd (p : Parts) (A : Analyses) (m i : ℕ) (b after : Assignment) : Type 0 where
  pub instr : Instr
  pub found : instr_at p m i ≡ Some instr
  pub reached : instr.reached ≡ true
  pub goes_on : ends_method instr.op ≡ false
  pub library : IsLibraryPart A m i instr.op
  pub slots : (y : Slot) → Turns A m i b instr.op instr.height y (after.slot y)
  pub dirt : after.dirt ≡ dirt_after instr.op instr.height b
  pub exc : after.exc ≡ b.exc

-- the operation may end with a new object thrown before it has done anything: by choice, or because a receiver is null
pub data ThrowsClean : Op → Type 0 where
  clean_by_choice : {op : Op} → may_throw op ≡ true → ThrowsClean op
  clean_for_receiver : {call : CallOp} → has_receiver call.kind ≡ true → ThrowsClean (Call call)

-- an exceptional end with such an exception, which leaves all but the stack as it is
pub record Leaves (b : Assignment) (exc : Bool) (after : Assignment) : Type 0 where
  pub locals : (l : ℕ) → after.slot (Local l) ≡ b.slot (Local l)
  pub stack : (k : ℕ) → after.slot (OnStack k) ≡ false
  pub dirt : after.dirt ≡ b.dirt
  pub is_exc : after.exc ≡ exc

-- a local may have this truth after the effect of a library call
pub data Absorbs (A : Analyses) (m i : ℕ) (b : Assignment) (call : CallOp) (under : ℕ) (l : ℕ) : Bool → Type 0 where
  -- it stays as it is
  local_kept : Absorbs A m i b call under l (b.slot (Local l))
  -- it may become true where it meets a source of the effect
  local_absorbed : {t : Bool} → MeetsSource A m i call under (Local l) → Implies t (b.slot (Local l) || put_in b call under) → Absorbs A m i b call under l t

-- an exceptional end of a library call after its effect
pub record LeavesLibrary (A : Analyses) (m i : ℕ) (b : Assignment) (call : CallOp) (under : ℕ) (after : Assignment) : Type 0 where
  pub locals : (l : ℕ) → Absorbs A m i b call under l (after.slot (Local l))
  pub stack : (k : ℕ) → after.slot (OnStack k) ≡ false
  pub dirt : after.dirt ≡ (b.dirt || changes b call under)
  pub exc : Implies after.exc (flow b call under)

-- the operation of instruction i of method m may end so
pub data Throws (A : Analyses) (m i : ℕ) (b : Assignment) : Op → (height : ℕ) → Assignment → Type 0 where
  -- with a new object, and nothing done
  clean : {op : Op} {height : ℕ} {after : Assignment} → ThrowsClean op → Leaves b false after → Throws A m i b op height after
  -- so too where a call finds a method without code
  at_abstract : {call : CallOp} {height : ℕ} {after : Assignment} (n : ℕ) → A.classes (CallsAbstract m i n) → Leaves b false after → Throws A m i b (Call call) height after
  -- with the value that is thrown
  thrown : {height k : ℕ} {after : Assignment} → height ≡ suc k → Leaves b (b.slot (OnStack k)) after → Throws A m i b Throw height after
  -- in the library
  in_library : {call : CallOp} {height : ℕ} {after : Assignment} (under : ℕ) → height ≡ under + arguments call → A.classes (CallsLibrary m i)
      → LeavesLibrary A m i b call under after → Throws A m i b (Call call) height after

-- an exceptional end of instruction i of method m: from the one assignment it may lead to the other
pub record IsExceptionalEnd (p : Parts) (A : Analyses) (m i : ℕ) (b after : Assignment) : Type 0 where
  pub instr : Instr
  pub found : instr_at p m i ≡ Some instr
  pub reached : instr.reached ≡ true
  pub throws : Throws A m i b instr.op instr.height after

-- the slot has a pair with something that method n may change, which instruction i of method m enters with so many arguments over so many
-- values: an argument, or the static fields
pub record IsAffected (A : Analyses) (m i n count under : ℕ) (y : Slot) : Type 0 where
  pub root : Root
  pub is_root : IsRootOf count root
  pub effect : A.heaps (Effect n root)
  pub pair : A.heaps (PairAt m i (OfSlot y) (root_name under root))

-- the slot may have this truth after method n, which was entered so, has ended with this summary: the values under the arguments are left on the
-- stack, and over them the result if there is one
pub data CallTurns (A : Analyses) (m i n count under : ℕ) (answers : Bool) (b : Assignment) (s : Summary) : Slot → Bool → Type 0 where
  -- what is left stays as it is
  call_kept : {y : Slot} → IsLeft under y → CallTurns A m i n count under answers b s y (b.slot y)
  -- it may become true where it is affected, if something tainted was stored
  call_affected : {y : Slot} {t : Bool} → IsLeft under y → IsAffected A m i n count under y → Implies t (b.slot y || s.dirt) → CallTurns A m i n count under answers b s y t
  -- the result is true as the summary says
  call_answered : answers ≡ true → CallTurns A m i n count under answers b s (OnStack under) s.result
  -- above the stack nothing is true
  call_above : {k : ℕ} → under + count_of answers ≤ k → CallTurns A m i n count under answers b s (OnStack k) false

-- method n, which was entered so and ended normally with this summary, may lead from the one assignment to the other
pub record IsReturn (A : Analyses) (m i n count under : ℕ) (answers : Bool) (b : Assignment) (s : Summary) (after : Assignment) : Type 0 where
  pub slots : (y : Slot) → CallTurns A m i n count under answers b s y (after.slot y)
  pub dirt : after.dirt ≡ (b.dirt || s.dirt)
  pub exc : after.exc ≡ b.exc

-- a local may have this truth after method n, which was entered so, has ended with this summary
pub data CallLeaves (A : Analyses) (m i n count under : ℕ) (b : Assignment) (s : Summary) (l : ℕ) : Bool → Type 0 where
  -- it stays as it is
  left_kept : CallLeaves A m i n count under b s l (b.slot (Local l))
  -- it may become true where it is affected, if something tainted was stored
  left_affected : {t : Bool} → IsAffected A m i n count under (Local l) → Implies t (b.slot (Local l) || s.dirt) → CallLeaves A m i n count under b s l t

-- method n, which was entered so and ended by an exception with this summary, may lead from the one assignment to the other
pub record IsCallThrown (A : Analyses) (m i n count under : ℕ) (b : Assignment) (s : Summary) (after : Assignment) : Type 0 where
  pub locals : (l : ℕ) → CallLeaves A m i n count under b s l (after.slot (Local l))
  pub stack : (k : ℕ) → after.slot (OnStack k) ≡ false
  pub dirt : after.dirt ≡ (b.dirt || s.dirt)
  pub is_exc : after.exc ≡ s.exc
