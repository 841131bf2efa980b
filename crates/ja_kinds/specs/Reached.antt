-- What the kinds of a code say of the instructions that are reached.
use Rattle.std.specs.Prelude.{◌≡◌, ℕ, ◌≤◌, false, List, [], ◌∷◌, length, Some}
use Rattle.ja_base.specs.declared.java_type.Kind.{Kind}
use Rattle.ja_base.specs.declared.java_type.Kind.TheVariants.{R}
use Rattle.ja_pool.specs.Table.{Table}
use Rattle.ja_code.specs.declared.instr.RawInstr.{RawInstr}
use Rattle.ja_code.specs.declared.code.Code.{Code}
use Rattle.ja_code.specs.declared.behaviour.Behaviour.{Behaviour}
use Rattle.ja_kinds.specs.declared.effect.Effect.{Effect}
use Rattle.ja_kinds.specs.declared.frame.Frame.{Frame}
use Rattle.ja_kinds.specs.declared.state.KindState.{KindState}
use Rattle.ja_kinds.specs.declared.state.State.{State}
use Rattle.ja_kinds.specs.declared.state.State.TheVariants.{Known, Clash}
use Rattle.ja_kinds.specs.Frame.{AreBelow, parameter_words, entry_locals}
use Rattle.ja_kinds.specs.Effect.{is_wrong_depth, turned, Does, IsOneOf, LeadsTo}
use Rattle.ja_kinds.specs.Solution.{accepted, HandledAt, falls_off}

-- an instruction begins at a place
pub record StartsAt (is : List RawInstr) (place : ℕ) : Type 0 where
  pub instr : RawInstr
  pub there : IsOneOf instr is
  pub at : instr.pc ≡ place

-- a state is known, with this stack, and with locals for which these may be taken
pub record IsKnown (s : State) (locals stack : List Kind) : Type 0 where
  pub state : KindState
  pub is : s ≡ Known state
  pub locals_below : AreBelow locals state.locals
  pub same_stack : state.stack ≡ stack

-- an instruction takes what is known before it, and does not go on past the end of the code
pub record IsAccepted (frame : Frame) (i : RawInstr) (behaviour : Behaviour) (effect : Effect) (f : KindState) : Type 0 where
  pub result : KindState
  pub is : accepted frame effect f ≡ Some result
  pub turns : turned frame.returns effect f ≡ Some result
  pub depth : is_wrong_depth frame.max_stack effect f.stack ≡ false
  pub stays : falls_off frame i behaviour ≡ false

-- an instruction of a code is reached: it has this effect, and this is known before it
pub record IsReached (pool : Table) (code : Code) (at : ℕ → State) (i : RawInstr) (behaviour : Behaviour) (effect : Effect) (f : KindState) : Type 0 where
  pub there : IsOneOf i code.instrs
  pub does : Does pool i behaviour effect
  pub known : at i.pc ≡ Known f

-- each instruction that is reached takes what is known before it, and leads to instructions that are reached: its normal
-- end with what it makes of the stack, and its handlers with the exception alone; the first instruction is reached with
-- the parameters, which fit the locals; and no stacks clash
pub record AreReached (pool : Table) (code : Code) (frame : Frame) (at : ℕ → State) : Type 0 where
  pub accepts : (i : RawInstr) (b : Behaviour) (e : Effect) (f : KindState) → IsReached pool code at i b e f → IsAccepted frame i b e f
  pub next : (i : RawInstr) (b : Behaviour) (e : Effect) (f g : KindState) (place : ℕ) → IsReached pool code at i b e f → accepted frame e f ≡ Some g
      → LeadsTo i b place → IsKnown (at place) g.locals g.stack
  pub next_starts : (i : RawInstr) (b : Behaviour) (e : Effect) (f : KindState) (place : ℕ) → IsReached pool code at i b e f → LeadsTo i b place
      → StartsAt code.instrs place
  pub handler : (i : RawInstr) (b : Behaviour) (e : Effect) (f : KindState) (place : ℕ) → IsReached pool code at i b e f
      → HandledAt code.handlers i.pc place → IsKnown (at place) f.locals (R ∷ [])
  pub handler_starts : (pc place : ℕ) → HandledAt code.handlers pc place → StartsAt code.instrs place
  pub no_clash : (i : RawInstr) → IsOneOf i code.instrs → at i.pc ≡ Clash → ⊥
  pub entry : IsKnown (at 0) (entry_locals frame.max_locals frame.parameters) []
  pub entry_starts : StartsAt code.instrs 0
  pub parameters : length (parameter_words frame.parameters) ≤ frame.max_locals
