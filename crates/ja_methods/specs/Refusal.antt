-- Why a method of a program class is refused: the first of its refusals.
use Rattle.std.specs.Prelude.{◌≡◌, ℕ, ◌<◌, true, false, List, Option, Some, slice_get}
use Rattle.ja_pool.specs.Table.{Table}
use Rattle.ja_code.specs.declared.instr.RawInstr.{RawInstr}
use Rattle.ja_code.specs.declared.code.Code.{Code}
use Rattle.ja_ir.specs.declared.head.ClassHead.{ClassHead}
use Rattle.ja_ir.specs.declared.head.HeadMethod.{HeadMethod}
use Rattle.ja_class.specs.Meaning.{ClassSpelled}
use Rattle.ja_kinds.specs.declared.fault.KindFault.{KindFault}
use Rattle.ja_kinds.specs.declared.fault.KindFault.TheVariants as kind_faults
use Rattle.ja_kinds.specs.declared.state.KindState.{KindState}
use Rattle.ja_kinds.specs.Answer.{AreKindsOf, IsFaultOf}
use Rattle.ja_operations.specs.declared.fault.OpFault.{OpFault}
use Rattle.ja_operations.specs.declared.fault.OpFault.TheVariants as op_faults
use Rattle.ja_operations.specs.Refused.{IsRefusedFor}
use Rattle.ja_methods.specs.declared.fault.MethodFault.{MethodFault}
use Rattle.ja_methods.specs.declared.fault.MethodFault.TheVariants as faults
use Rattle.ja_methods.specs.Method.{is_native, IsCodeOf}

-- a fault of the kinds, as a refusal of the method
abbrev pub kind_refusal : KindFault → MethodFault
kind_refusal (kind_faults.FrameSize values) = faults.FrameSize values
kind_refusal (kind_faults.StackDepth pc) = faults.StackDepth pc
kind_refusal (kind_faults.KindClash pc) = faults.KindClash pc
kind_refusal (kind_faults.FallsOff pc) = faults.FallsOff pc
kind_refusal kind_faults.Memory = faults.Memory

-- what an instruction at pc is refused for, as a refusal of the method
abbrev pub instr_refusal : (pc : ℕ) → OpFault → MethodFault
instr_refusal pc op_faults.Reflection = faults.Reflection pc
instr_refusal pc op_faults.ThreadStart = faults.ThreadStart pc
instr_refusal pc op_faults.LibraryStore = faults.LibraryStore pc
instr_refusal pc op_faults.NoField = faults.NoField pc
instr_refusal pc op_faults.Memory = faults.Memory

-- an instruction of class c is not refused
abbrev pub IsUnrefused : List ClassHead → (c : ℕ) → Table → RawInstr → Type 0
IsUnrefused heads c pool raw = (fault : OpFault) → IsRefusedFor heads c pool raw fault → ⊥

-- the refusal is that of an instruction of class c
pub record IsRefusalOf (heads : List ClassHead) (c : ℕ) (pool : Table) (raw : RawInstr) (refusal : MethodFault) : Type 0 where
  pub fault : OpFault
  pub refused : IsRefusedFor heads c pool raw fault
  pub is : refusal ≡ instr_refusal raw.pc fault

-- no instruction of class c before index k is refused
abbrev pub NoneBefore : List ClassHead → (c : ℕ) → Table → List RawInstr → (k : ℕ) → Type 0
NoneBefore heads c pool instrs k = (j : ℕ) (raw : RawInstr) → j < k → slice_get instrs j ≡ Some raw → IsUnrefused heads c pool raw

-- the refusal is that of the first instruction of class c that is refused, reached or not
pub record IsFirstRefusal (heads : List ClassHead) (c : ℕ) (pool : Table) (instrs : List RawInstr) (refusal : MethodFault) : Type 0 where
  pub k : ℕ
  pub raw : RawInstr
  pub at : slice_get instrs k ≡ Some raw
  pub is : IsRefusalOf heads c pool raw refusal
  pub before : NoneBefore heads c pool instrs k

-- why the code of method m of class c is refused: it has a fault of kinds, else an instruction is refused
pub data IsCodeRefused (heads : List ClassHead) (class : ClassSpelled) (c m : ℕ) : MethodFault → Type 0 where
  kinds : (fault : KindFault) → IsFaultOf class m fault → IsCodeRefused heads class c m (kind_refusal fault)
  instruction : {code : Code} {refusal : MethodFault} → IsCodeOf class m code → (kinds : List (Option KindState)) → AreKindsOf class m kinds
      → IsFirstRefusal heads c class.pool code.instrs refusal → IsCodeRefused heads class c m refusal

-- why method m of class c is refused: it is native, else its code is refused
pub data IsRefused (heads : List ClassHead) (class : ClassSpelled) (c m : ℕ) : MethodFault → Type 0 where
  native : {head : HeadMethod} → slice_get class.head.methods m ≡ Some head → is_native head.flags ≡ true → IsRefused heads class c m faults.Native
  coded : {head : HeadMethod} {refusal : MethodFault} → slice_get class.head.methods m ≡ Some head → is_native head.flags ≡ false
      → IsCodeRefused heads class c m refusal → IsRefused heads class c m refusal
