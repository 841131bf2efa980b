-- Methods of the first form whose instructions find what they need.
use Rattle.std.specs.Prelude.{◌≡◌, ◌≢◌, ℕ, ◌+◌, ◌-◌, ◌<◌, ◌≤◌, List, [], ◌∷◌, Contains}
use Rattle.ja_class.specs.declared.first.FirstOp.{FirstOp}
use Rattle.ja_class.specs.declared.first.FirstOp.TheVariants.{Load, Store, Text, Pop, Source, Sink, Return}
use Rattle.ja_class.specs.declared.first.FirstInstr.{FirstInstr}
use Rattle.ja_class.specs.declared.first.FirstMethod.{FirstMethod}

-- how many values an operation takes from the stack
abbrev pub pops : FirstOp → ℕ
pops (Load _) = 0
pops (Store _) = 1
pops Text = 0
pops Pop = 1
pops Source = 0
pops Sink = 1
pops Return = 0

-- how many values an operation puts on the stack
abbrev pub pushes : FirstOp → ℕ
pushes (Load _) = 1
pushes (Store _) = 0
pushes Text = 1
pushes Pop = 0
pushes Source = 1
pushes Sink = 0
pushes Return = 0

-- the number of stack values after an operation
abbrev pub height_after : FirstOp → ℕ → ℕ
height_after op height = height + pushes op - pops op

-- the locals that are set after an operation
abbrev pub set_after : FirstOp → List ℕ → List ℕ
set_after (Load _) set = set
set_after (Store n) set = n ∷ set
set_after Text set = set
set_after Pop set = set
set_after Source set = set
set_after Sink set = set
set_after Return set = set

-- the local that an operation uses is one of the frame, and is set where it is read
abbrev pub UsesLocal : (locals : ℕ) (set : List ℕ) → FirstOp → Type 0
UsesLocal locals set (Load n) = (n < locals) × Contains set n
UsesLocal locals set (Store n) = n < locals
UsesLocal locals set Text = Unit {0}
UsesLocal locals set Pop = Unit {0}
UsesLocal locals set Source = Unit {0}
UsesLocal locals set Sink = Unit {0}
UsesLocal locals set Return = Unit {0}

-- an operation finds its values on the stack, leaves no more than the frame has room for, and uses a local that is there
pub record Accepts (locals stack height : ℕ) (set : List ℕ) (op : FirstOp) : Type 0 where
  pub takes : pops op ≤ height
  pub leaves : height_after op height ≤ stack
  pub local : UsesLocal locals set op

-- from this height and with these locals set, the instructions run to their end, which is a return and the only one
abbrev pub RunsFrom : (locals stack height : ℕ) (set : List ℕ) → List FirstInstr → Type 0
RunsFrom locals stack height set [] = ⊥
RunsFrom locals stack height set (i ∷ []) = (i.op ≡ Return) × Accepts locals stack height set i.op
RunsFrom locals stack height set (i ∷ (j ∷ is)) =
    (i.op ≢ Return) × Accepts locals stack height set i.op × RunsFrom locals stack (height_after i.op height) (set_after i.op set) (j ∷ is)

-- the method has a local for its argument, a frame of at most ten values, and instructions that find what they need
pub record IsRunnable (m : FirstMethod) : Type 0 where
  pub argument : 1 ≤ m.locals
  pub frame : m.locals + m.stack ≤ 10
  pub runs : RunsFrom m.locals m.stack 0 (0 ∷ []) m.code
