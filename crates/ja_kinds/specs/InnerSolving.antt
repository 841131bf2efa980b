-- What a step of the solver does to the states, by place.
use Rattle.std.specs.Prelude.{◌≡◌, ℕ, ◌+◌, ◌<◌, ◌≤◌, Bool, true, false, List, [], ◌∷◌, length, slice_index_or, Option, Some, None}
use Rattle.ja_base.specs.declared.java_type.Kind.{Kind}
use Rattle.ja_base.specs.declared.java_type.Kind.TheVariants.{P1, P2, R, T}
use Rattle.ja_pool.specs.Table.{Table}
use Rattle.ja_code.specs.declared.instr.RawInstr.{RawInstr}
use Rattle.ja_code.specs.declared.code.Code.{Code}
use Rattle.ja_code.specs.declared.handler.RawHandler.{RawHandler}
use Rattle.ja_kinds.specs.declared.frame.Frame.{Frame}
use Rattle.ja_kinds.specs.declared.fault.KindFault.{KindFault}
use Rattle.ja_code.specs.declared.behaviour.Behaviour.{Behaviour}
use Rattle.ja_kinds.specs.declared.effect.Effect.{Effect}
use Rattle.ja_kinds.specs.declared.state.KindState.{KindState}
use Rattle.ja_kinds.specs.declared.state.State.{State}
use Rattle.ja_kinds.specs.declared.state.State.TheVariants.{Unreached, Known, Clash}
use Rattle.ja_kinds.specs.Frame.{Below}
use Rattle.ja_kinds.specs.Effect.{IsOneOf, Does}
use Rattle.ja_kinds.specs.Solution.{entry_state, IsClosed, IsSolution, fault_at, IsRight, IsFirst, AreKinds}
use Rattle.ja_kinds.specs.Answer.{known_at}

-- the state at a place
abbrev pub state_at : List State → ℕ → State
state_at states place = slice_index_or states place Unreached

-- the locals that are known are as many as the frame has
abbrev pub IsWide : ℕ → State → Type 0
IsWide count Unreached = Unit {0}
IsWide count (Known f) = length f.locals ≡ count
IsWide count Clash = Unit {0}

abbrev pub AreWide : ℕ → List State → Type 0
AreWide count [] = Unit {0}
AreWide count (s ∷ ss) = IsWide count s × AreWide count ss

-- how far states may still rise
abbrev pub usable : Kind → ℕ
usable P1 = 1
usable P2 = 1
usable R = 1
usable T = 0

abbrev pub usables : List Kind → ℕ
usables [] = 0
usables (k ∷ ks) = usable k + usables ks

abbrev pub room_of : ℕ → State → ℕ
room_of count Unreached = count + 2
room_of count (Known f) = usables f.locals + 1
room_of count Clash = 0

abbrev pub room : ℕ → List State → ℕ
room count [] = 0
room count (s ∷ ss) = room_of count s + room count ss

-- the states are below what is known by place
abbrev pub Within : (ℕ → State) → List State → Type 0
Within bound states = (place : ℕ) → Below (state_at states place) (bound place)

-- the states rise, if they change
pub record Rises (count : ℕ) (old new : List State) (changed : Bool) : Type 0 where
  pub same_length : length new ≡ length old
  pub wide : AreWide count new
  pub up : (place : ℕ) → Below (state_at old place) (state_at new place)
  pub same : changed ≡ false → new ≡ old
  pub falls : changed ≡ true → room count new < room count old

-- an entry of the exception table catches at this pc, with its handler at this place
pub record Catches (row : RawHandler) (pc place : ℕ) : Type 0 where
  pub from : row.start ≤ pc
  pub before : pc < row.end
  pub place_is : place ≡ row.handler

-- whether a place is marked
abbrev pub is_marked : List Bool → ℕ → Bool
is_marked marks place = slice_index_or marks place false

-- marks stay, and what is known changes at marked places alone
pub record Marks (old new : List State) (before after : List Bool) : Type 0 where
  pub same_length : length after ≡ length before
  pub kept : (place : ℕ) → is_marked after place ≡ false → is_marked before place ≡ false
  pub unmarked : (place : ℕ) → is_marked after place ≡ false → state_at new place ≡ state_at old place

-- a state is handed to some places, those where what is known changes are marked, and nothing else happens
pub record Hands (count : ℕ) (Goes : ℕ → Type 0) (handed : State) (old new : List State) (before after : List Bool) (changed : Bool) : Type 0 where
  pub rises : Rises count old new changed
  pub marks : Marks old new before after
  pub there : (place : ℕ) → Goes place → place < length old → Below handed (state_at new place)
  pub within : (bound : ℕ → State) → Within bound old → ((place : ℕ) → Goes place → place < length old → Below handed (bound place))
      → Within bound new

-- no two instructions stand at one place
abbrev pub AreApart : List RawInstr → Type 0
AreApart is = (i j : RawInstr) → IsOneOf i is → IsOneOf j is → i.pc ≡ j.pc → i ≡ j

-- each instruction of the code that is not marked is closed
abbrev pub AreClean : Table → Code → Frame → List State → List Bool → Type 0
AreClean pool code frame states marks =
    (i : RawInstr) → IsOneOf i code.instrs → is_marked marks i.pc ≡ false → IsClosed pool code frame (state_at states) i

-- what an instruction hands on is handed on, and nothing else happens: the instruction is closed, unless what is known
-- before it changes
pub record Spreads (pool : Table) (code : Code) (frame : Frame) (i : RawInstr) (old new : List State) (before after : List Bool) (changed : Bool) : Type 0 where
  pub rises : Rises frame.max_locals old new changed
  pub marks : Marks old new before after
  pub closed : state_at new i.pc ≡ state_at old i.pc → IsClosed pool code frame (state_at new) i
  pub within : (bound : ℕ → State) → IsClosed pool code frame bound i → Within bound old → Within bound new

-- the same where the instruction is marked
pub record Visits (pool : Table) (code : Code) (frame : Frame) (i : RawInstr) (old new : List State) (before after : List Bool) (changed : Bool) : Type 0 where
  pub rises : Rises frame.max_locals old new changed
  pub same_marks : length after ≡ length before
  pub clean : AreClean pool code frame new after
  pub closed : changed ≡ false → IsClosed pool code frame (state_at new) i
  pub within : (bound : ℕ → State) → IsClosed pool code frame bound i → Within bound old → Within bound new

-- the same of instructions one after another
pub record Sweeps (pool : Table) (code : Code) (frame : Frame) (is : List RawInstr) (old new : List State) (before after : List Bool) (changed : Bool) : Type 0 where
  pub rises : Rises frame.max_locals old new changed
  pub same_marks : length after ≡ length before
  pub clean : AreClean pool code frame new after
  pub closed : changed ≡ false → (i : RawInstr) → IsOneOf i is → IsClosed pool code frame (state_at new) i
  pub within : (bound : ℕ → State) → ((i : RawInstr) → IsOneOf i code.instrs → IsClosed pool code frame bound i) → Within bound old → Within bound new

-- the states are on the way to the least solution
pub record AreOnTheWay (pool : Table) (code : Code) (frame : Frame) (states : List State) (marks : List Bool) : Type 0 where
  pub size : length states ≡ frame.size
  pub marks_size : length marks ≡ length states
  pub wide : AreWide frame.max_locals states
  pub clean : AreClean pool code frame states marks
  pub entry : Below (entry_state frame) (state_at states 0)
  pub within : (other : ℕ → State) → IsSolution pool code frame other → Within other states

-- the fault of an instruction, or that it has none
abbrev pub IsFaultAt : Table → Frame → (ℕ → State) → RawInstr → Option KindFault → Type 0
IsFaultAt pool frame at i None = IsRight pool frame at i
IsFaultAt pool frame at i (Some fault) =
    (behaviour : Behaviour) × (effect : Effect) × Does pool i behaviour effect × (fault_at frame i behaviour effect (at i.pc) ≡ Some fault)

-- the first fault of some instructions, or that they have none
abbrev pub IsFirstOf : Table → Frame → (ℕ → State) → List RawInstr → Option KindFault → Type 0
IsFirstOf pool frame at is None = (i : RawInstr) → IsOneOf i is → IsRight pool frame at i
IsFirstOf pool frame at is (Some fault) = IsFirst pool frame at is fault

-- these are the kinds of a code
pub record AreKindsIn (pool : Table) (code : Code) (frame : Frame) (kinds : List (Option KindState)) : Type 0 where
  pub at : ℕ → State
  pub are : AreKinds pool code frame at
  pub kinds_are : kinds ≡ known_at at code.instrs
