-- What each opcode does with locals and stack (JVM specification, 6.5).
use Rattle.std.specs.Prelude.{ℕ, ◌-◌, ◌%◌, ◌==◌, ◌||◌, Bool, true, false, List, [], ◌∷◌, Option, Some, None, nat_le, if◌then◌else◌}
use Rattle.ja_base.specs.declared.java_type.Kind.{Kind}
use Rattle.ja_base.specs.declared.java_type.Kind.TheVariants.{P1, P2, R}
use Rattle.ja_code.specs.declared.behaviour.Source.TheVariants.{Operand, Fixed}
use Rattle.ja_code.specs.declared.behaviour.Operands.TheVariants.{One, Two}
use Rattle.ja_code.specs.declared.behaviour.Rearrangement.TheVariants.{Pop, Pop2, Dup, DupX1, DupX2, Dup2, Dup2X1, Dup2X2, Swap}
use Rattle.ja_code.specs.declared.behaviour.FieldAccess.TheVariants.{GetStatic, PutStatic, GetField, PutField}
use Rattle.ja_code.specs.declared.behaviour.Invocation.TheVariants.{Virtual, Special, Static, Interface}
use Rattle.ja_code.specs.declared.behaviour.Elements.TheVariants.{Primitives, References}
use Rattle.ja_code.specs.declared.behaviour.Behaviour.{Behaviour}
use Rattle.ja_code.specs.declared.behaviour.Behaviour.TheVariants.{Nothing, Constant, Loaded, Load, Store, Increment, ArrayLoad, ArrayStore, Rearrange, Compute, Test, Jump, Switch, Return, Access, Invoke, New, NewArray, NewArrays, ArrayLength, Throw, Cast, InstanceOf, Monitor}

-- the last of a run of opcodes, and what each of them does
pub record Run : Type 0 where
  pub last : ℕ
  pub does : ℕ → Option Behaviour

abbrev pub run : ℕ → Behaviour → Run
run last behaviour = record { last = last; does = λ op. Some behaviour }

-- opcodes each of which names a local, the first of them local 0
abbrev pub loads : ℕ → ℕ → Kind → Run
loads first last kind = record { last = last; does = λ op. Some (Load kind (Fixed (op - first))) }

abbrev pub stores : ℕ → ℕ → Kind → Run
stores first last kind = record { last = last; does = λ op. Some (Store kind (Fixed (op - first))) }

-- the operand kinds of arithmetic alternate: int, long, float, double
abbrev pub arithmetic_kind : ℕ → Kind
arithmetic_kind op = if op % 2 == 0 then P1 else P2

-- of the divisions, those of ints and of longs may throw
abbrev pub is_integer_division : ℕ → Bool
is_integer_division op = op == 108 || op == 109 || op == 112 || op == 113

abbrev pub arithmetic : ℕ → Option Behaviour
arithmetic op =
    Some (Compute (Two (arithmetic_kind op) (arithmetic_kind op)) (arithmetic_kind op) (is_integer_division op))

abbrev pub negation : ℕ → Option Behaviour
negation op = Some (Compute (One (arithmetic_kind op)) (arithmetic_kind op) false)

-- a shift takes a number of bits above what it shifts
abbrev pub shift : ℕ → Option Behaviour
shift op = Some (Compute (Two (arithmetic_kind op) P1) (arithmetic_kind op) false)

abbrev pub convert : ℕ → Kind → Kind → Run
convert last from to = run last (Compute (One from) to false)

abbrev pub compare : ℕ → Kind → Run
compare last kind = run last (Compute (Two kind kind) P1 false)

-- opcodes that no decoded instruction has: jsr, ret, invokedynamic, jsr_w, and wide, which is no instruction of its own
abbrev pub refused : ℕ → Run
refused last = record { last = last; does = λ op. None }

-- the opcodes in runs
abbrev pub runs : List Run
runs =
    run 0 Nothing ∷ run 1 (Constant R) ∷ run 8 (Constant P1) ∷ run 10 (Constant P2) ∷ run 13 (Constant P1)
    ∷ run 15 (Constant P2) ∷ run 17 (Constant P1) ∷ run 19 Loaded ∷ run 20 (Constant P2)
    ∷ run 21 (Load P1 Operand) ∷ run 22 (Load P2 Operand) ∷ run 23 (Load P1 Operand) ∷ run 24 (Load P2 Operand)
    ∷ run 25 (Load R Operand) ∷ loads 26 29 P1 ∷ loads 30 33 P2 ∷ loads 34 37 P1 ∷ loads 38 41 P2 ∷ loads 42 45 R
    ∷ run 46 (ArrayLoad P1) ∷ run 47 (ArrayLoad P2) ∷ run 48 (ArrayLoad P1) ∷ run 49 (ArrayLoad P2)
    ∷ run 50 (ArrayLoad R) ∷ run 53 (ArrayLoad P1)
    ∷ run 54 (Store P1 Operand) ∷ run 55 (Store P2 Operand) ∷ run 56 (Store P1 Operand) ∷ run 57 (Store P2 Operand)
    ∷ run 58 (Store R Operand) ∷ stores 59 62 P1 ∷ stores 63 66 P2 ∷ stores 67 70 P1 ∷ stores 71 74 P2 ∷ stores 75 78 R
    ∷ run 79 (ArrayStore P1) ∷ run 80 (ArrayStore P2) ∷ run 81 (ArrayStore P1) ∷ run 82 (ArrayStore P2)
    ∷ run 83 (ArrayStore R) ∷ run 86 (ArrayStore P1)
    ∷ run 87 (Rearrange Pop) ∷ run 88 (Rearrange Pop2) ∷ run 89 (Rearrange Dup) ∷ run 90 (Rearrange DupX1)
    ∷ run 91 (Rearrange DupX2) ∷ run 92 (Rearrange Dup2) ∷ run 93 (Rearrange Dup2X1) ∷ run 94 (Rearrange Dup2X2)
    ∷ run 95 (Rearrange Swap)
    ∷ record { last = 115; does = arithmetic } ∷ record { last = 119; does = negation } ∷ record { last = 125; does = shift }
    ∷ record { last = 131; does = arithmetic } ∷ run 132 Increment
    ∷ convert 133 P1 P2 ∷ convert 134 P1 P1 ∷ convert 135 P1 P2 ∷ convert 137 P2 P1 ∷ convert 138 P2 P2 ∷ convert 139 P1 P1
    ∷ convert 141 P1 P2 ∷ convert 142 P2 P1 ∷ convert 143 P2 P2 ∷ convert 144 P2 P1 ∷ convert 147 P1 P1
    ∷ compare 148 P2 ∷ compare 150 P1 ∷ compare 152 P2
    ∷ run 158 (Test (One P1)) ∷ run 164 (Test (Two P1 P1)) ∷ run 166 (Test (Two R R)) ∷ run 167 Jump ∷ refused 169
    ∷ run 171 Switch ∷ run 172 (Return (Some P1)) ∷ run 173 (Return (Some P2)) ∷ run 174 (Return (Some P1))
    ∷ run 175 (Return (Some P2)) ∷ run 176 (Return (Some R)) ∷ run 177 (Return None)
    ∷ run 178 (Access GetStatic) ∷ run 179 (Access PutStatic) ∷ run 180 (Access GetField) ∷ run 181 (Access PutField)
    ∷ run 182 (Invoke Virtual) ∷ run 183 (Invoke Special) ∷ run 184 (Invoke Static) ∷ run 185 (Invoke Interface) ∷ refused 186
    ∷ run 187 New ∷ run 188 (NewArray Primitives) ∷ run 189 (NewArray References) ∷ run 190 ArrayLength ∷ run 191 Throw ∷ run 192 Cast
    ∷ run 193 InstanceOf ∷ run 195 Monitor ∷ refused 196 ∷ run 197 NewArrays ∷ run 199 (Test (One R)) ∷ run 200 Jump
    ∷ refused 201 ∷ []

-- what an opcode of the run that it lies in does
abbrev pub behaviour_in : List Run → ℕ → Option Behaviour
behaviour_in [] op = None
behaviour_in (r ∷ rs) op = if nat_le op r.last then r.does op else behaviour_in rs op

-- what an opcode does; nothing where no decoded instruction has it
unfoldable pub behaviour_at : ℕ → Option Behaviour
behaviour_at op = behaviour_in runs op

-- whether the next instruction in the code may come after one
abbrev pub goes_on : Behaviour → Bool
goes_on Jump = false
goes_on Switch = false
goes_on (Return kind) = false
goes_on Throw = false
goes_on behaviour = true

-- whether the operands of an instruction are places where it may go
abbrev pub branches : Behaviour → Bool
branches (Test operands) = true
branches Jump = true
branches Switch = true
branches behaviour = false

-- how an instruction moves values: the words of the values that it takes, from the bottom, and which of these values it
-- pushes, in this order
pub record Move : Type 0 where
  pub takes : List ℕ
  pub pushes : List ℕ

abbrev pub move : List ℕ → List ℕ → Move
move takes pushes = record { takes = takes; pushes = pushes }

-- the moves that an instruction can be, by the words of the values on the stack (JVM specification 6.5)
abbrev pub moves_of : Rattle.ja_code.specs.declared.behaviour.Rearrangement.Rearrangement → List Move
moves_of Pop = move (1 ∷ []) [] ∷ []
moves_of Pop2 = move (1 ∷ 1 ∷ []) [] ∷ move (2 ∷ []) [] ∷ []
moves_of Dup = move (1 ∷ []) (0 ∷ 0 ∷ []) ∷ []
moves_of DupX1 = move (1 ∷ 1 ∷ []) (1 ∷ 0 ∷ 1 ∷ []) ∷ []
moves_of DupX2 = move (1 ∷ 1 ∷ 1 ∷ []) (2 ∷ 0 ∷ 1 ∷ 2 ∷ []) ∷ move (2 ∷ 1 ∷ []) (1 ∷ 0 ∷ 1 ∷ []) ∷ []
moves_of Dup2 = move (1 ∷ 1 ∷ []) (0 ∷ 1 ∷ 0 ∷ 1 ∷ []) ∷ move (2 ∷ []) (0 ∷ 0 ∷ []) ∷ []
moves_of Dup2X1 = move (1 ∷ 1 ∷ 1 ∷ []) (1 ∷ 2 ∷ 0 ∷ 1 ∷ 2 ∷ []) ∷ move (1 ∷ 2 ∷ []) (1 ∷ 0 ∷ 1 ∷ []) ∷ []
moves_of Dup2X2 =
    move (1 ∷ 1 ∷ 1 ∷ 1 ∷ []) (2 ∷ 3 ∷ 0 ∷ 1 ∷ 2 ∷ 3 ∷ []) ∷ move (1 ∷ 1 ∷ 2 ∷ []) (2 ∷ 0 ∷ 1 ∷ 2 ∷ [])
    ∷ move (2 ∷ 1 ∷ 1 ∷ []) (1 ∷ 2 ∷ 0 ∷ 1 ∷ 2 ∷ []) ∷ move (2 ∷ 2 ∷ []) (1 ∷ 0 ∷ 1 ∷ []) ∷ []
moves_of Swap = move (1 ∷ 1 ∷ []) (1 ∷ 0 ∷ []) ∷ []
