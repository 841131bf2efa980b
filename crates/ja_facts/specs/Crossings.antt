-- How an instruction enters a method and comes back from it: by a call, or by a class initialiser that runs before the operation.
use Rattle.std.specs.Prelude.{◌≡◌, ℕ, Bool, true, false, Option, Some, None, Contains, slice_get}
use Rattle.ja_base.specs.declared.java_type.JavaType.{JavaType}
use Rattle.ja_ir.specs.declared.program.Parts.{Parts}
use Rattle.ja_ir.specs.declared.method.Method.{Method}
use Rattle.ja_ir.specs.declared.method.Handler.{Handler}
use Rattle.ja_ir.specs.declared.op.CallOp.{CallOp}
use Rattle.ja_ir.specs.declared.op.Op.{Op}
use Rattle.ja_ir.specs.Lookup.{OpAt, Leads}
use Rattle.ja_ir.specs.Operations.{arguments}
use Rattle.ja_ir.specs.Handlers.{in_range}
use Rattle.ja_ir.specs.Initializing.{InitAt}
use Rattle.ja_facts.specs.Slots.{CallAt}
use Rattle.ja_facts.specs.ClassSets.{Fact as ClassFact, Reached, CallsMethod}

-- instruction i of method m is in the range of a handler at instruction j
pub record IsHandled (p : Parts) (m i j : ℕ) : Type 0 where
  pub method : Method
  pub found : slice_get p.methods m ≡ Some method
  pub handler : Handler
  pub listed : Contains method.handlers handler
  pub ranges : in_range handler i ≡ true
  pub target : handler.target ≡ j

-- there is a result
abbrev pub has_result : Option JavaType → Bool
has_result None = false
has_result (Some type) = true

-- instruction i of method m, which is reached, may enter method n with so many arguments that lie over so many values on the stack, for
-- the call graph that C tells
pub data Enters (p : Parts) (C : ClassFact → Type 0) (m i n : ℕ) : (count under : ℕ) → Type 0 where
  -- a call enters its target with its arguments
  by_call : {under : ℕ} {call : CallOp} → C (Reached m i) → C (CallsMethod m i n) → CallAt p m i call under → Enters p C m i n (arguments call) under
  -- an initialising step enters the class initialiser without arguments, over all that is on the stack
  by_initializer : {height : ℕ} {op : Op} → C (Reached m i) → InitAt p m i n → OpAt p m i op height → Enters p C m i n 0 height

-- a way through a method: with how many arguments it is entered, over how many values on the stack; at which instruction control comes back,
-- where each local and so many values of the stack are left; and whether a result or an exception is then on top of these
pub record Crossing : Type 0 where
  pub count : ℕ
  pub under : ℕ
  pub back : ℕ
  pub left : ℕ
  pub answers : Bool

-- instruction i of method m, which is reached, may go this way through method n, for the call graph that C tells
pub data Crosses (p : Parts) (C : ClassFact → Type 0) (m i n : ℕ) : Crossing → Type 0 where
  -- a call that returns comes back at a next instruction; the arguments are gone, and the result is there if there is one
  call_returns : {j under : ℕ} {call : CallOp} → C (Reached m i) → C (CallsMethod m i n) → CallAt p m i call under → Leads p m i j
      → Crosses p C m i n (record { count = arguments call; under = under; back = j; left = under; answers = has_result call.result })
  -- a call that throws comes back at a handler; the stack is gone, and the exception is there
  call_throws : {j under : ℕ} {call : CallOp} → C (Reached m i) → C (CallsMethod m i n) → CallAt p m i call under → IsHandled p m i j
      → Crosses p C m i n (record { count = arguments call; under = under; back = j; left = 0; answers = true })
  -- an initialising step comes back before the same instruction; all is left, and nothing is answered
  initializer_returns : {height : ℕ} {op : Op} → C (Reached m i) → InitAt p m i n → OpAt p m i op height
      → Crosses p C m i n (record { count = 0; under = height; back = i; left = height; answers = false })
