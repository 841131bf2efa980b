-- Methods and runs that show that the definitions are not empty.
use Rattle.std.specs.Prelude.{ℕ, true, false, List, [], ◌∷◌, Some}
use Rattle.ja_class.specs.declared.first.FirstOp.TheVariants.{Text, Pop, Source, Sink, Return}
use Rattle.ja_class.specs.declared.first.FirstInstr.{FirstInstr}
use Rattle.ja_class.specs.declared.first.FirstMethod.{FirstMethod}
use Rattle.ja_plain.specs.Token as token
use Rattle.ja_plain.specs.Operation.{LibraryCall, ByArguments, Absorb, Self, LibraryClass}
use Rattle.ja_plain.specs.State.{Null, Object, Frame, World}
use Rattle.ja_plain.specs.Run.{Point, Outcome, run, start}

-- a method with one local and room for one stack value
abbrev pub method_of : List FirstInstr → FirstMethod
method_of code = record { class = []; file = []; locals = 1; stack = 1; code = code }

-- a source's text comes to a sink
abbrev pub passes_source : FirstMethod
passes_source = method_of (record { pc = 0; op = Source } ∷ record { pc = 3; op = Sink } ∷ record { pc = 6; op = Return } ∷ [])

-- a constant text comes to a sink
abbrev pub passes_constant : FirstMethod
passes_constant = method_of (record { pc = 0; op = Text } ∷ record { pc = 2; op = Sink } ∷ record { pc = 5; op = Return } ∷ [])

-- a value is popped from the empty stack, which no class file that passes the reader has
abbrev pub pops_nothing : FirstMethod
pops_nothing = method_of (record { pc = 0; op = Pop } ∷ record { pc = 1; op = Return } ∷ [])

-- the world before anything was done, with these choices
abbrev pub empty_world : List ℕ → World
empty_world choices = record { heap = []; choices = choices; events = [] }

-- a call with null from the empty heap
abbrev pub call_with_null : FirstMethod → (bound : ℕ) → (choices : List ℕ) → Outcome
call_with_null m bound choices = run m bound (start m (Null ∷ []) []) (empty_world choices)

-- a frame whose one local is null, and which began so in the empty heap
abbrev pub point_of : ℕ → Frame → Point
point_of i frame = record { index = i; frame = frame; began = record { arguments = Null ∷ []; heap = [] } }

-- an object without marks that holds nothing
abbrev pub plain_object : token.Token → Object
plain_object t = record { token = t; fields = []; mark = false; bag = [] }

-- an object with a mark that holds nothing
abbrev pub marked_object : token.Token → Object
marked_object t = record { token = t; fields = []; mark = true; bag = [] }

-- a call that appends its argument to its receiver, and returns that
abbrev pub append_call : LibraryCall
append_call = record { receiver = true; arguments = 2; result = Some LibraryClass; row = record { flow = ByArguments; effect = Absorb; returns = Self; sink = [] } }
