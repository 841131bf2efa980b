-- Instructions that have no operation.
use Rattle.std.specs.Prelude.{◌≡◌, Bool, true, false, List, codes, bytes_eq, length, take, ◌&&◌, ◌||◌, ℕ, Contains, Some}
use Rattle.ja_ir.specs.declared.head.ClassHead.{ClassHead}
use Rattle.ja_ir.specs.declared.class.MethodAt.TheVariants.{Library}
use Rattle.ja_ir.specs.declared.op.CallKind.{CallKind}
use Rattle.ja_hier.specs.declared.field_at.FieldAt.TheVariants.{Library as OfLibrary, Missing}
use Rattle.ja_pool.specs.Table.{Table}
use Rattle.ja_code.specs.declared.instr.RawInstr.{RawInstr}
use Rattle.ja_code.specs.declared.behaviour.FieldAccess.{FieldAccess}
use Rattle.ja_code.specs.declared.behaviour.FieldAccess.TheVariants.{GetStatic, PutStatic, GetField, PutField}
use Rattle.ja_code.specs.declared.behaviour.Behaviour.{Behaviour}
use Rattle.ja_code.specs.declared.behaviour.Behaviour.TheVariants.{Access, Invoke}
use Rattle.ja_code.specs.Behaviour.{behaviour_at}
use Rattle.ja_operations.specs.declared.fault.OpFault.{OpFault}
use Rattle.ja_operations.specs.declared.fault.OpFault.TheVariants.{Reflection, ThreadStart, LibraryStore, NoField, Memory}
use Rattle.ja_operations.specs.declared.member.MemberRef.{MemberRef}
use Rattle.ja_operations.specs.Names.{member_in}
use Rattle.ja_operations.specs.Fields.{IsFieldAt}
use Rattle.ja_operations.specs.Rows.{AreTried}
use Rattle.ja_operations.specs.Targets.{call_kind, LooksUp}

-- the bytes begin with these
abbrev pub begins_with : (start bytes : List ℕ) → Bool
begins_with start bytes = bytes_eq (take (length start) bytes) start

-- a method of java/lang/Class of this name makes classes or objects by their names
abbrev pub makes_class : (name : List ℕ) → Bool
makes_class name = bytes_eq name (codes "forName") || bytes_eq name (codes "newInstance")

-- the call is one of reflection: of a method in the package java/lang/reflect or of java/lang/ClassLoader, or one of
-- java/lang/Class that makes something by its name
abbrev pub is_reflective : MemberRef → Bool
is_reflective member =
    begins_with (codes "java/lang/reflect/") member.class || bytes_eq member.class (codes "java/lang/ClassLoader")
    || (bytes_eq member.class (codes "java/lang/Class") && makes_class member.name)

-- java/lang/Thread is among the names that are tried for calls of methods of this class
pub record TriesThread (heads : List ClassHead) (class : List ℕ) : Type 0 where
  pub names : List (List ℕ)
  pub tried : AreTried heads class names
  pub listed : Contains names (codes "java/lang/Thread")

-- a call of this kind in class c starts a thread: it is one of start()V, its look-up ends in the library, and java/lang/Thread is
-- tried for it
pub record StartsThread (heads : List ClassHead) (c : ℕ) (kind : CallKind) (member : MemberRef) : Type 0 where
  pub is_start : member.name ≡ codes "start"
  pub is_plain : member.desc ≡ codes "()V"
  pub nowhere : LooksUp heads c member kind Library
  pub tries : TriesThread heads member.class

-- why a call of this kind in class c has no operation: reflection is judged first
pub data RefusesCall (heads : List ClassHead) (c : ℕ) (kind : CallKind) (member : MemberRef) : OpFault → Type 0 where
  reflection : is_reflective member ≡ true → RefusesCall heads c kind member Reflection
  thread_start : is_reflective member ≡ false → StartsThread heads c kind member → RefusesCall heads c kind member ThreadStart

-- why a read of a field, or a write of a field that is not static, has no operation
pub data RefusesAccess (heads : List ClassHead) (member : MemberRef) : OpFault → Type 0 where
  missing : IsFieldAt heads member Missing → RefusesAccess heads member NoField

-- why a write of a static field has no operation
pub data RefusesStore (heads : List ClassHead) (member : MemberRef) : OpFault → Type 0 where
  nowhere : IsFieldAt heads member Missing → RefusesStore heads member NoField
  library_store : IsFieldAt heads member OfLibrary → RefusesStore heads member LibraryStore

-- why such an access of a field has no operation
abbrev pub RefusesField : List ClassHead → MemberRef → FieldAccess → OpFault → Type 0
RefusesField heads member GetStatic fault = RefusesAccess heads member fault
RefusesField heads member PutStatic fault = RefusesStore heads member fault
RefusesField heads member GetField fault = RefusesAccess heads member fault
RefusesField heads member PutField fault = RefusesAccess heads member fault

-- why an instruction of this behaviour in class c has no operation
abbrev pub Refuses : List ClassHead → (c : ℕ) → Table → RawInstr → Behaviour → OpFault → Type 0
Refuses heads c pool i (Access how) fault = RefusesField heads (member_in pool i) how fault
Refuses heads c pool i (Invoke how) fault = RefusesCall heads c (call_kind how) (member_in pool i) fault
Refuses heads c pool i _ fault = ⊥

-- why an instruction of class c has no operation
pub record IsRefusedFor (heads : List ClassHead) (c : ℕ) (pool : Table) (i : RawInstr) (fault : OpFault) : Type 0 where
  pub behaviour : Behaviour
  pub opcode : behaviour_at i.opcode ≡ Some behaviour
  pub refuses : Refuses heads c pool i behaviour fault

-- want of memory, or a fault that has its cause
abbrev pub UnlessMemory : (OpFault → Type 0) → OpFault → Type 0
UnlessMemory Causes Memory = Unit {0}
UnlessMemory Causes fault = Causes fault
