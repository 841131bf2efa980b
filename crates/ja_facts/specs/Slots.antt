-- The slots of a frame, and how operations move what is in them.
use Rattle.std.specs.Prelude.{◌≡◌, ◌≢◌, ℕ, suc, ◌+◌, ◌<◌, List, Some, slice_get}
use Rattle.ja_base.specs.declared.java_type.Kind.{Kind}
use Rattle.ja_ir.specs.declared.program.Parts.{Parts}
use Rattle.ja_ir.specs.declared.op.Op.{Op}
use Rattle.ja_ir.specs.declared.op.Op.TheVariants.{Load, Store, Shuffle, Cast, Call}
use Rattle.ja_ir.specs.declared.op.CallOp.{CallOp}
use Rattle.ja_ir.specs.Lookup.{OpAt}
use Rattle.ja_ir.specs.Operations.{pops, arguments}

-- where a value stands in a frame: in a local, or on the stack with so many values under it
pub data Slot : Type 0 where
  Local : (l : ℕ) → Slot
  OnStack : (k : ℕ) → Slot

-- the operation leaves the local as it is
abbrev pub KeepsLocal : Op → ℕ → Type 0
KeepsLocal (Store _ l) x = x ≢ l
KeepsLocal _ x = Unit {0}

-- at a normal end of an operation, before which so many values are on the stack, the second slot has the value that the first had
pub data Copies : Op → (height : ℕ) → Slot → Slot → Type 0 where
  -- a local that is not stored to, and a value that is not popped, stay
  kept_local : {op : Op} {height l : ℕ} → KeepsLocal op l → Copies op height (Local l) (Local l)
  kept_stack : {op : Op} {height k : ℕ} → pops op + k < height → Copies op height (OnStack k) (OnStack k)
  -- a load pushes its local, and a store pops into its local
  loaded : {kind : Kind} {l height : ℕ} → Copies (Load kind l) height (Local l) (OnStack height)
  stored : {kind : Kind} {l height k : ℕ} → height ≡ suc k → Copies (Store kind l) height (OnStack k) (Local l)
  -- a shuffle pushes some of the values that it popped
  shuffled : {n height : ℕ} {pushed : List ℕ} (under j k : ℕ) → height ≡ under + n → slice_get pushed j ≡ Some k
      → Copies (Shuffle n pushed) height (OnStack (under + k)) (OnStack (under + j))
  -- a cast leaves the reference where it is
  checked : {name : List ℕ} {height k : ℕ} → height ≡ suc k → Copies (Cast name) height (OnStack k) (OnStack k)

-- instruction i of method m is this call, and under its arguments lie so many values
pub record CallAt (p : Parts) (m i : ℕ) (call : CallOp) (under : ℕ) : Type 0 where
  pub height : ℕ
  pub at : OpAt p m i (Call call) height
  pub under_is : height ≡ under + arguments call

-- argument k of the call stands here, over so many values under the arguments
abbrev pub argument : (under k : ℕ) → Slot
argument under k = OnStack (under + k)

-- the slot stays where so many values are left on the stack: it is a local, or one of these values
pub data IsLeft (left : ℕ) : Slot → Type 0 where
  left_local : {l : ℕ} → IsLeft left (Local l)
  left_stack : {k : ℕ} → k < left → IsLeft left (OnStack k)
