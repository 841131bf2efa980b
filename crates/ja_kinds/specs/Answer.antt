-- The kinds of a method of a class, and its fault: the frame that the class gives the method, and what is known before
-- each of its instructions.
use Rattle.std.specs.Prelude.{◌≡◌, ℕ, List, ◌∷◌, map, sum_by, slice_get, Option, Some, None, option_map, if◌then◌else◌}
use Rattle.ja_base.specs.declared.java_type.Kind.{Kind}
use Rattle.ja_base.specs.declared.java_type.Kind.TheVariants.{R}
use Rattle.ja_base.specs.declared.java_type.JavaType.{JavaType}
use Rattle.ja_base.specs.Descriptor.{IsMethod}
use Rattle.ja_code.specs.declared.instr.RawInstr.{RawInstr}
use Rattle.ja_code.specs.declared.code.Code.{Code}
use Rattle.ja_ir.specs.declared.head.HeadMethod.{HeadMethod}
use Rattle.ja_class.specs.declared.class.ClassMethod.{ClassMethod}
use Rattle.ja_ir.specs.Lookup.{is_static}
use Rattle.ja_class.specs.Meaning.{ClassSpelled}
use Rattle.ja_kinds.specs.declared.fault.KindFault.{KindFault}
use Rattle.ja_kinds.specs.declared.frame.Frame.{Frame}
use Rattle.ja_kinds.specs.declared.state.KindState.{KindState}
use Rattle.ja_kinds.specs.declared.state.State.{State}
use Rattle.ja_kinds.specs.declared.state.State.TheVariants.{Unreached, Known, Clash}
use Rattle.ja_kinds.specs.Effect.{kind_of_type}
use Rattle.ja_kinds.specs.Solution.{AreKinds, IsFault}

-- ---- the method

-- the method of a class with this number has code
pub record HasCode (class : ClassSpelled) (m : ℕ) : Type 0 where
  pub method : ClassMethod
  pub method_at : slice_get class.methods m ≡ Some method
  pub code : Code
  pub code_is : method.code ≡ Some code

-- the length of code in bytes: that of its instructions, which stand one after another
abbrev pub code_size : Code → ℕ
code_size code = sum_by (λ (i : RawInstr). i.length) code.instrs

-- the kinds of the parameters of a method with these flags: the receiver, unless it is static, and those of its descriptor
abbrev pub parameter_kinds : ℕ → List JavaType → List Kind
parameter_kinds flags params = if is_static flags then map kind_of_type params else R ∷ map kind_of_type params

-- what a method with this code is judged against (JVM specification 4.6, 4.7.3)
pub record IsFrame (head : HeadMethod) (method : ClassMethod) (code : Code) (frame : Frame) : Type 0 where
  pub params : List JavaType
  pub result : Option JavaType
  pub descriptor : IsMethod head.desc params result
  pub size : frame.size ≡ code_size code
  pub locals : frame.max_locals ≡ method.max_locals
  pub stack : frame.max_stack ≡ method.max_stack
  pub parameters : frame.parameters ≡ parameter_kinds head.flags params
  pub returns : frame.returns ≡ option_map kind_of_type result

-- the method of a class with this number has this code, which is judged against this frame
pub record HasFrame (class : ClassSpelled) (m : ℕ) (code : Code) (frame : Frame) : Type 0 where
  pub head : HeadMethod
  pub head_at : slice_get class.head.methods m ≡ Some head
  pub method : ClassMethod
  pub method_at : slice_get class.methods m ≡ Some method
  pub code_is : method.code ≡ Some code
  pub is : IsFrame head method code frame

-- ---- the answer

-- the locals and the stack, where they are known
abbrev pub known_of : State → Option KindState
known_of Unreached = None
known_of (Known f) = Some f
known_of Clash = None

-- what is known before each of some instructions, where it is reached
abbrev pub known_at : (ℕ → State) → List RawInstr → List (Option KindState)
known_at at instrs = map (λ (i : RawInstr). known_of (at i.pc)) instrs

-- the method has no fault, and this is what its least solution says before each instruction that it reaches
pub record AreKindsOf (class : ClassSpelled) (m : ℕ) (kinds : List (Option KindState)) : Type 0 where
  pub code : Code
  pub frame : Frame
  pub has_frame : HasFrame class m code frame
  pub at : ℕ → State
  pub are : AreKinds class.pool code frame at
  pub kinds_are : kinds ≡ known_at at code.instrs

-- the first fault of the method
pub record IsFaultOf (class : ClassSpelled) (m : ℕ) (fault : KindFault) : Type 0 where
  pub code : Code
  pub frame : Frame
  pub has_frame : HasFrame class m code frame
  pub is : IsFault class.pool code frame fault
