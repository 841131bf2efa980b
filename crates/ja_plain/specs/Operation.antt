-- What the instructions of a method do, and the rows by which library calls are done.
use Rattle.std.specs.Prelude.{true, ◌≡◌, ℕ, zero, suc, Bool, false, List, [], ◌∷◌, Option, Some, None, slice_get, nat_lt, if◌then◌else◌}
use Rattle.ja_class.specs.declared.first.FirstOp.{FirstOp}
use Rattle.ja_class.specs.declared.first.FirstOp.TheVariants.{Load as LoadFirst, Store as StoreFirst, Text as TextFirst, Pop as PopFirst, Source, Sink, Return as ReturnFirst}
use Rattle.ja_class.specs.declared.first.FirstInstr.{FirstInstr}
use Rattle.ja_class.specs.declared.first.FirstMethod.{FirstMethod}
use Rattle.ja_class.specs.Runnable.{height_after}

-- when what a library call returns, stores or throws is tainted by the call itself: always, never, or where an argument is tainted
pub data Flow : Type 0 where
  Always : Flow
  Never : Flow
  ByArguments : Flow

-- the objects that a library call may put its arguments into: none, those of its receiver, or those of all its arguments
pub data Effect : Type 0 where
  Quiet : Effect
  Absorb : Effect
  Blend : Effect

-- what a library call may return: a new object, its first argument, what that holds, or what any argument reaches
pub data Returns : Type 0 where
  Fresh : Returns
  Self : Returns
  Member : Returns
  Any : Returns

-- a call brings taint into its result and its exception, by whether some argument is tainted
abbrev pub flow_of : Flow → Bool → Bool
flow_of Always some = true
flow_of Never some = false
flow_of ByArguments some = some

-- the truth where a call may change objects, else false
abbrev pub if_effect : Effect → Bool → Bool
if_effect Quiet t = false
if_effect Absorb t = t
if_effect Blend t = t

-- the row of a library method: the positions in `sink` are those to which no tainted argument should come
pub record Row : Type 0 where
  pub flow : Flow
  pub effect : Effect
  pub returns : Returns
  pub sink : List ℕ

-- the types of references and results, as far as the rules tell them apart: `LibraryClass` is each class of the library but `String` and `Object`
pub data ResultType : Type 0 where
  Primitive : ResultType
  ArrayOfPrimitives : ResultType
  ArrayOf : (element : ResultType) → ResultType
  StringClass : ResultType
  ObjectClass : ResultType
  LibraryClass : ResultType
  ProgramClass : ResultType

-- a library call: whether its first argument is a receiver, how many arguments it has with the receiver, and its result's type, None for `void`
pub record LibraryCall : Type 0 where
  pub receiver : Bool
  pub arguments : ℕ
  pub result : Option ResultType
  pub row : Row

-- what one instruction does
pub data Operation : Type 0 where
  Load : (local : ℕ) → Operation
  Store : (local : ℕ) → Operation
  -- pushes a new string
  Text : Operation
  Pop : Operation
  Call : (call : LibraryCall) → Operation
  Return : Operation

-- `demo/Taint.source()`: its text is tainted
abbrev pub source_call : LibraryCall
source_call = record { receiver = false; arguments = 0; result = Some StringClass; row = record { flow = Always; effect = Quiet; returns = Fresh; sink = [] } }

-- `demo/Taint.sink(text)`: no tainted text should come to it
abbrev pub sink_call : LibraryCall
sink_call = record { receiver = false; arguments = 1; result = None; row = record { flow = Never; effect = Quiet; returns = Fresh; sink = 0 ∷ [] } }

-- the operation of an instruction
abbrev pub operation : FirstOp → Operation
operation (LoadFirst n) = Load n
operation (StoreFirst n) = Store n
operation TextFirst = Text
operation PopFirst = Pop
operation Source = Call source_call
operation Sink = Call sink_call
operation ReturnFirst = Return

-- how many values an operation takes from the stack
abbrev pub takes : Operation → ℕ
takes (Load n) = 0
takes (Store n) = 1
takes Text = 0
takes Pop = 1
takes (Call c) = c.arguments
takes Return = 0

-- how many values a result is
abbrev pub gives_result : Option ResultType → ℕ
gives_result None = 0
gives_result (Some t) = 1

-- how many values an operation puts on the stack
abbrev pub gives : Operation → ℕ
gives (Load n) = 1
gives (Store n) = 0
gives Text = 1
gives Pop = 0
gives (Call c) = gives_result c.result
gives Return = 0

-- the positions below a number
abbrev pub positions_below : ℕ → List ℕ → List ℕ
positions_below n [] = []
positions_below n (p ∷ ps) = if nat_lt p n then p ∷ positions_below n ps else positions_below n ps

-- the positions that an operation lists: the sink positions of its row at which it has an argument. An operation that lists one is a site
abbrev pub listed : Operation → List ℕ
listed (Load n) = []
listed (Store n) = []
listed Text = []
listed Pop = []
listed (Call c) = positions_below c.arguments c.row.sink
listed Return = []

-- the number of stack values before the instruction at a place, where there are so many before the first
abbrev pub height_from : ℕ → List FirstInstr → ℕ → ℕ
height_from height [] i = height
height_from height (x ∷ xs) zero = height
height_from height (x ∷ xs) (suc i) = height_from (height_after x.op height) xs i

-- the instruction at this place of the method is this operation, and finds so many values on the stack
pub record IsAt (m : FirstMethod) (i : ℕ) (op : Operation) (height : ℕ) : Type 0 where
  pub instr : FirstInstr
  pub found : slice_get m.code i ≡ Some instr
  pub does : operation instr.op ≡ op
  pub finds : height_from 0 m.code i ≡ height
