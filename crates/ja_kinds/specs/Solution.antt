-- What is known before each instruction of a method: the least solution, and the first fault.
use Rattle.std.specs.Prelude.{◌≡◌, ℕ, ◌+◌, ◌<◌, ◌≤◌, Bool, true, false, List, [], ◌∷◌, length, Option, Some, None, is_none, nat_lt, ◌==◌, ◌&&◌, ◌||◌, if◌then◌else◌}
use Rattle.ja_base.specs.Limit.{max_frame_values}
use Rattle.ja_base.specs.declared.java_type.Kind.{Kind}
use Rattle.ja_base.specs.declared.java_type.Kind.TheVariants.{R}
use Rattle.ja_pool.specs.Table.{Table}
use Rattle.ja_code.specs.declared.instr.RawInstr.{RawInstr}
use Rattle.ja_code.specs.declared.handler.RawHandler.{RawHandler}
use Rattle.ja_code.specs.declared.code.Code.{Code}
use Rattle.ja_code.specs.declared.behaviour.Behaviour.{Behaviour}
use Rattle.ja_kinds.specs.declared.effect.Effect.{Effect}
use Rattle.ja_kinds.specs.declared.fault.KindFault.{KindFault}
use Rattle.ja_kinds.specs.declared.fault.KindFault.TheVariants.{FrameSize, StackDepth, KindClash, FallsOff}
use Rattle.ja_kinds.specs.declared.state.KindState.{KindState}
use Rattle.ja_kinds.specs.declared.state.State.{State}
use Rattle.ja_kinds.specs.declared.state.State.TheVariants.{Unreached, Known, Clash}
use Rattle.ja_kinds.specs.declared.frame.Frame.{Frame}
use Rattle.ja_kinds.specs.Frame.{Below, entry_locals, parameter_words}
use Rattle.ja_kinds.specs.Effect.{Does, is_wrong_depth, turned, LeadsTo, IsOneOf}
use Rattle.ja_code.specs.Behaviour.{goes_on}

-- ---- what an instruction hands on

-- the locals and the stack after an effect, where a frame takes it
abbrev pub accepted : Frame → Effect → KindState → Option KindState
accepted frame effect f = if is_wrong_depth frame.max_stack effect f.stack then None else turned frame.returns effect f

abbrev pub handed : Option KindState → State
handed None = Clash
handed (Some f) = Known f

-- what is known after an instruction, by what is known before: the clash where it does not accept what it finds
abbrev pub after : Frame → Effect → State → State
after frame effect Unreached = Unreached
after frame effect (Known f) = handed (accepted frame effect f)
after frame effect Clash = Clash

abbrev pub thrown_with : List Kind → Option KindState → State
thrown_with locals None = Clash
thrown_with locals (Some f) = Known (record { locals = locals; stack = R ∷ [] })

-- what is known where an instruction throws: its locals before, and the exception alone on the stack
abbrev pub thrown : Frame → Effect → State → State
thrown frame effect Unreached = Unreached
thrown frame effect (Known f) = thrown_with f.locals (accepted frame effect f)
thrown frame effect Clash = Clash

-- an exception at this pc may go to this place: the handler of an entry whose range has the pc
pub record HandledAt (rows : List RawHandler) (pc place : ℕ) : Type 0 where
  pub row : RawHandler
  pub there : IsOneOf row rows
  pub from : row.start ≤ pc
  pub before : pc < row.end
  pub place_is : place ≡ row.handler

-- ---- the least solution

-- the state of the locals and the stack at the start
abbrev pub entry_state : Frame → State
entry_state frame = Known (record { locals = entry_locals frame.max_locals frame.parameters; stack = [] })

-- what an instruction hands on is there at each place of the code where it may go
pub record IsClosed (pool : Table) (code : Code) (frame : Frame) (at : ℕ → State) (i : RawInstr) : Type 0 where
  pub normal : (behaviour : Behaviour) (effect : Effect) (place : ℕ) → Does pool i behaviour effect → LeadsTo i behaviour place
      → place < frame.size → Below (after frame effect (at i.pc)) (at place)
  pub exceptional : (behaviour : Behaviour) (effect : Effect) (place : ℕ) → Does pool i behaviour effect → HandledAt code.handlers i.pc place
      → place < frame.size → Below (thrown frame effect (at i.pc)) (at place)

-- what is known, by place, is right at the entry and after each instruction
pub record IsSolution (pool : Table) (code : Code) (frame : Frame) (at : ℕ → State) : Type 0 where
  pub entry : Below (entry_state frame) (at 0)
  pub closed : (i : RawInstr) → IsOneOf i code.instrs → IsClosed pool code frame at i

-- the solution that says the most
pub record IsLeast (pool : Table) (code : Code) (frame : Frame) (at : ℕ → State) : Type 0 where
  pub solves : IsSolution pool code frame at
  pub below : (other : ℕ → State) → IsSolution pool code frame other → (place : ℕ) → Below (at place) (other place)

-- ---- faults

-- whether the parameters do not fit the locals: judged at the first instruction
abbrev pub is_narrow : Frame → ℕ → Bool
is_narrow frame pc = pc == 0 && nat_lt frame.max_locals (length (parameter_words frame.parameters))

-- whether an instruction goes on past the end of the code
abbrev pub falls_off : Frame → RawInstr → Behaviour → Bool
falls_off frame i behaviour = goes_on behaviour && i.pc + i.length == frame.size

-- the first fault of an instruction, by what is known before it
abbrev pub fault_at : Frame → RawInstr → Behaviour → Effect → State → Option KindFault
fault_at frame i behaviour effect Unreached = None
fault_at frame i behaviour effect (Known f) =
    if is_wrong_depth frame.max_stack effect f.stack then Some (StackDepth i.pc)
    else if is_none (turned frame.returns effect f) || is_narrow frame i.pc then Some (KindClash i.pc)
    else if falls_off frame i behaviour then Some (FallsOff i.pc) else None
fault_at frame i behaviour effect Clash = Some (KindClash i.pc)

-- an instruction has no fault
abbrev pub IsRight : Table → Frame → (ℕ → State) → RawInstr → Type 0
IsRight pool frame at i =
    (behaviour : Behaviour) (effect : Effect) → Does pool i behaviour effect → fault_at frame i behaviour effect (at i.pc) ≡ None

-- the first fault of instructions, in their order
pub data IsFirst (pool : Table) (frame : Frame) (at : ℕ → State) : List RawInstr → KindFault → Type 0 where
  here : {i : RawInstr} {is : List RawInstr} {fault : KindFault} (behaviour : Behaviour) (effect : Effect) → Does pool i behaviour effect
      → fault_at frame i behaviour effect (at i.pc) ≡ Some fault → IsFirst pool frame at (i ∷ is) fault
  later : {i : RawInstr} {is : List RawInstr} {fault : KindFault} → IsRight pool frame at i → IsFirst pool frame at is fault
      → IsFirst pool frame at (i ∷ is) fault

-- the locals and the stack have more words together than a frame may have
abbrev pub is_too_large : Frame → Bool
is_too_large frame = nat_lt max_frame_values (frame.max_locals + frame.max_stack)

-- the first fault of a method: the size of its frame, and then the fault of the first instruction that has one
pub data IsFault (pool : Table) (code : Code) (frame : Frame) : KindFault → Type 0 where
  size : is_too_large frame ≡ true → IsFault pool code frame (FrameSize (frame.max_locals + frame.max_stack))
  instruction : {fault : KindFault} (at : ℕ → State) → is_too_large frame ≡ false → IsLeast pool code frame at
      → IsFirst pool frame at code.instrs fault → IsFault pool code frame fault

-- a method without a fault, and what is known before its instructions
pub record AreKinds (pool : Table) (code : Code) (frame : Frame) (at : ℕ → State) : Type 0 where
  pub small : is_too_large frame ≡ false
  pub least : IsLeast pool code frame at
  pub right : (i : RawInstr) → IsOneOf i code.instrs → IsRight pool frame at i
