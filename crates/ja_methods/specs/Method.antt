-- What a method of a program class is: its instructions, by what is known before them, and its handlers.
use Rattle.std.specs.Prelude.{◌≡◌, ℕ, Bool, false, List, [], Option, Some, None, is_some, length, slice_get, slice_index_or}
use Rattle.ja_base.specs.Descriptor.{AreTypes}
use Rattle.ja_base.specs.AccessFlags.{acc_native}
use Rattle.ja_pool.specs.Table.{Table}
use Rattle.ja_code.specs.declared.instr.RawInstr.{RawInstr}
use Rattle.ja_code.specs.declared.code.Code.{Code}
use Rattle.ja_ir.specs.declared.head.ClassHead.{ClassHead}
use Rattle.ja_ir.specs.declared.head.HeadMethod.{HeadMethod}
use Rattle.ja_ir.specs.declared.method.Method.{Method}
use Rattle.ja_ir.specs.declared.method.Instr.{Instr}
use Rattle.ja_ir.specs.declared.method.Handler.{Handler}
use Rattle.ja_ir.specs.Lookup.{has_flag}
use Rattle.ja_class.specs.declared.class.ClassMethod.{ClassMethod}
use Rattle.ja_class.specs.Meaning.{ClassSpelled}
use Rattle.ja_lib.specs.Content.{Content}
use Rattle.ja_kinds.specs.declared.state.KindState.{KindState}
use Rattle.ja_kinds.specs.Answer.{AreKindsOf}
use Rattle.ja_operations.specs.Operation.{IsOperation}
use Rattle.ja_methods.specs.Places.{next_of}
use Rattle.ja_methods.specs.Handlers.{handlers_of}

-- the locals and the stack before instruction k, where it is reached
abbrev pub state_before : (kinds : List (Option KindState)) → (k : ℕ) → Option KindState
state_before kinds k = slice_index_or kinds k None

-- the number of values on the stack, where there is one; a long or double is one value
abbrev pub height_of : Option KindState → ℕ
height_of None = 0
height_of (Some state) = length state.stack

-- instruction k of a code in class c is this one, where the locals and the stack before it are these, if it is reached
pub record IsInstrOf (heads : List ClassHead) (table : Content) (c : ℕ) (pool : Table) (instrs : List RawInstr) (before : Option KindState) (k : ℕ) (raw : RawInstr) (instr : Instr) : Type 0 where
  pub pc_is : instr.pc ≡ raw.pc
  pub operation : IsOperation heads table c pool raw before instr.op
  pub next_is : instr.next ≡ next_of instrs k raw
  pub height_is : instr.height ≡ height_of before
  pub reached_is : instr.reached ≡ is_some before

-- the instructions of a code in class c, one for each that was decoded, in the same order
pub record AreInstrsOf (heads : List ClassHead) (table : Content) (c : ℕ) (pool : Table) (instrs : List RawInstr) (kinds : List (Option KindState)) (list : List Instr) : Type 0 where
  pub size : length list ≡ length instrs
  pub each : (k : ℕ) (raw : RawInstr) (instr : Instr) → slice_get instrs k ≡ Some raw → slice_get list k ≡ Some instr
      → IsInstrOf heads table c pool instrs (state_before kinds k) k raw instr

-- the instructions and handlers of a method that has code, by its kinds
pub record HasInstrs (heads : List ClassHead) (table : Content) (class : ClassSpelled) (c m : ℕ) (code : Code) (list : List Instr) (handlers : List Handler) : Type 0 where
  pub kinds : List (Option KindState)
  pub are_kinds : AreKindsOf class m kinds
  pub instrs : AreInstrsOf heads table c class.pool code.instrs kinds list
  pub handlers_are : handlers ≡ handlers_of heads class.pool code.instrs code.handlers

-- the same of a method with or without code
abbrev pub HasContent : List ClassHead → Content → ClassSpelled → (c m : ℕ) → Option Code → List Instr → List Handler → Type 0
HasContent heads table class c m None list handlers = (list ≡ []) × (handlers ≡ [])
HasContent heads table class c m (Some code) list handlers = HasInstrs heads table class c m code list handlers

-- method m of the class has this code
pub record IsCodeOf (class : ClassSpelled) (m : ℕ) (code : Code) : Type 0 where
  pub body : ClassMethod
  pub body_at : slice_get class.methods m ≡ Some body
  pub code_is : body.code ≡ Some code

-- ACC_NATIVE: the method's code is not in the class file (table 4.6-A)
abbrev pub is_native : (flags : ℕ) → Bool
is_native flags = has_flag flags acc_native

-- method m of the class is declared so, with this code
pub record IsDeclared (class : ClassSpelled) (m : ℕ) (head : HeadMethod) (body : ClassMethod) : Type 0 where
  pub head_at : slice_get class.head.methods m ≡ Some head
  pub body_at : slice_get class.methods m ≡ Some body

-- method m of class c, whose class file says this, in a program of these classes with this table
pub record IsMethodOf (heads : List ClassHead) (table : Content) (class : ClassSpelled) (c m : ℕ) (method : Method) : Type 0 where
  pub head : HeadMethod
  pub body : ClassMethod
  pub declared : IsDeclared class m head body
  pub not_native : is_native head.flags ≡ false
  pub class_is : method.class.0 ≡ c
  pub name_is : method.name ≡ head.name
  pub desc_is : method.desc ≡ head.desc
  pub types_are : AreTypes head.desc method.types
  pub flags_are : method.flags ≡ head.flags
  pub locals_are : method.locals ≡ body.max_locals
  pub stack_is : method.stack ≡ body.max_stack
  pub content : HasContent heads table class c m body.code method.code method.handlers
