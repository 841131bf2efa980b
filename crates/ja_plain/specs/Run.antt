-- The marked machine: one operation, and the run of a method.
use Rattle.std.specs.Prelude.{ℕ, zero, suc, Bool, false, List, [], ◌∷◌, ◌++◌, Option, Some, None, length, drop, reverse, replicate, ◌-◌, slice_get, slice_set, nat_lt, if◌then◌else◌}
use Rattle.ja_class.specs.declared.first.FirstInstr.{FirstInstr}
use Rattle.ja_class.specs.declared.first.FirstMethod.{FirstMethod}
use Rattle.ja_plain.specs.Token.{Token}
use Rattle.ja_plain.specs.Operation.{LibraryCall, Operation, Load, Store, Text, Pop, Call, Return, operation, listed}
use Rattle.ja_plain.specs.State.{Value, Prim, Object, Frame, Event, World, make}
use Rattle.ja_plain.specs.Reach.{tainted_if}
use Rattle.ja_plain.specs.Library.{Next, Goes, Throws, Ends, NoRule, pushed, pushes, calls_on}

-- so many topmost values, the topmost first
abbrev pub topmost : ℕ → List Value → Option (List Value)
topmost zero stack = Some []
topmost (suc n) [] = None
topmost (suc n) (v ∷ vs) = elim (topmost n vs) [ None ↦ None | Some us ↦ Some (v ∷ us) ]

-- the arguments of a call on a stack, the first one first
abbrev pub arguments_on : LibraryCall → List Value → Option (List Value)
arguments_on c stack = elim (topmost c.arguments stack) [ None ↦ None | Some vs ↦ Some (reverse vs) ]

-- the frame with this stack
abbrev pub with_stack : List Value → Frame → Frame
with_stack stack f = record { locals = f.locals; stack = stack; dirt = f.dirt }

-- a local is pushed, if there is one
abbrev pub loads : Option Value → Frame → World → Next
loads None f w = NoRule
loads (Some v) f w = Goes (pushed v f) w

-- the topmost value is popped into a local, if both are there
abbrev pub stores : ℕ → List Value → Frame → World → Next
stores n [] f w = NoRule
stores n (v ∷ vs) f w = if nat_lt n (length f.locals) then Goes (record { locals = slice_set f.locals n v; stack = vs; dirt = f.dirt }) w else NoRule

-- the topmost value is popped, if there is one
abbrev pub drops : List Value → Frame → World → Next
drops [] f w = NoRule
drops (v ∷ vs) f w = Goes (with_stack vs f) w

-- a library method is called, if its arguments are on the stack
abbrev pub calls : LibraryCall → Option (List Value) → Frame → World → Next
calls c None f w = NoRule
calls c (Some args) f w = calls_on c.receiver c args (with_stack (drop c.arguments f.stack) f) w

-- one operation
abbrev pub act : Operation → Frame → World → Next
act (Load n) f w = loads (slice_get f.locals n) f w
act (Store n) f w = stores n f.stack f w
act Text f w = pushes f (make Token.Text false [] w)
act Pop f w = drops f.stack f w
act (Call c) f w = calls c (arguments_on c f.stack) f w
act Return f w = Ends None f w

-- the positions among these at which the argument is tainted
abbrev pub tainted_at : List Object → List Value → List ℕ → List ℕ
tainted_at heap args [] = []
tainted_at heap args (p ∷ ps) = if tainted_if heap (slice_get args p) then p ∷ tainted_at heap args ps else tainted_at heap args ps

-- the event of a call with these listed positions, if there are any
abbrev pub events_at : ℕ → List Object → List ℕ → Option (List Value) → List Event
events_at i heap [] args = []
events_at i heap (p ∷ ps) None = []
events_at i heap (p ∷ ps) (Some args) = record { site = i; positions = tainted_at heap args (p ∷ ps) } ∷ []

-- the event of an operation, if it is a site
abbrev pub events_of : ℕ → Operation → Frame → List Object → List Event
events_of i (Call c) f heap = events_at i heap (listed (Call c)) (arguments_on c f.stack)
events_of i (Load n) f heap = []
events_of i (Store n) f heap = []
events_of i Text f heap = []
events_of i Pop f heap = []
events_of i Return f heap = []

-- the event of an operation is noted before the operation is done
abbrev pub noted : ℕ → Operation → Frame → World → World
noted i op f w = record { heap = w.heap; choices = w.choices; events = w.events ++ events_of i op f w.heap }

-- what a method began with
pub record Began : Type 0 where
  -- the first one first
  pub arguments : List Value
  pub heap : List Object

-- a frame before the instruction at a place of its method's code
pub record Point : Type 0 where
  pub index : ℕ
  pub frame : Frame
  pub began : Began

-- how a run of a method ends, with the number of steps that are left: it returned, or threw an object, with its dirt; or no rule allowed a step; or all steps were made. Frames stand innermost first
pub data Outcome : Type 0 where
  Returned : (value : Option Value) (dirt : Bool) (world : World) (left : ℕ) → Outcome
  Threw : (place : ℕ) (dirt : Bool) (world : World) (left : ℕ) → Outcome
  Stuck : (frames : List Point) (world : World) → Outcome
  Cut : (frames : List Point) (world : World) → Outcome

-- the frame before the next instruction
abbrev pub at_next : Point → Frame → Point
at_next x f = record { index = suc x.index; frame = f; began = x.began }

-- what is left of a run from a point, after what its operation came to
abbrev pub follows : (Point → World → Outcome) → ℕ → Point → World → Next → Outcome
follows go left x w (Goes f v) = go (at_next x f) v
follows go left x w (Throws place f v) = Threw place f.dirt v left
follows go left x w (Ends value f v) = Returned value f.dirt v left
follows go left x w NoRule = Stuck (x ∷ []) w

-- what is left of a run from a point whose instruction is this, if there is one
abbrev pub steps : (Point → World → Outcome) → ℕ → Point → World → Option FirstInstr → Outcome
steps go left x w None = Stuck (x ∷ []) w
steps go left x w (Some i) =
    let v : World = noted x.index (operation i.op) x.frame w in
    follows go left x v (act (operation i.op) x.frame v)

-- the run of a method from a point by so many steps at most
abbrev pub run : FirstMethod → ℕ → Point → World → Outcome
run m zero x w = Cut (x ∷ []) w
run m (suc left) x w = steps (run m left) left x w (slice_get m.code x.index)

-- a method before its first instruction: its arguments are its first locals, and the others are unmarked primitives
abbrev pub start : FirstMethod → List Value → List Object → Point
start m arguments heap = record {
  index = 0;
  frame = record { locals = arguments ++ replicate (m.locals - length arguments) (Prim false); stack = []; dirt = false };
  began = record { arguments = arguments; heap = heap };
}
