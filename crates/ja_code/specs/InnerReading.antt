-- What the private functions of the decoder answer. A reader of the public contracts need not look here.
use Rattle.std.specs.Prelude.{◌≡◌, ℕ, ◌+◌, ◌-◌, List, [], ◌∷◌, Bool, true, false, Option, Some, None, Result, Ok, Err, slice_index, slice_index_or, ⊤}
use Rattle.ja_code.specs.declared.form.Form.{Form}
use Rattle.ja_code.specs.declared.form.Form.TheVariants.{Plain, Byte, Short, Local, Increment, ByteIndex, Index, Interface, Dynamic, ArrayType, Dimensions, Branch, FarBranch, TableSwitch, LookupSwitch, Wide}
use Rattle.ja_code.specs.declared.instr.RawInstr.{RawInstr}
use Rattle.ja_code.specs.declared.fault.CodeFault.{CodeFault}
use Rattle.ja_code.specs.declared.fault.CodeFault.TheVariants.{Memory}
use Rattle.ja_code.specs.Opcode.{form_at}
use Rattle.ja_code.specs.Bytes.{u2_at, u4_at, near, far, places, padding}
use Rattle.ja_code.specs.Faults.{size_at, least_key, greatest_key, pair_count}

-- the operands of an instruction with wide, by the form of the opcode that is widened
abbrev pub wide_operands : Option Form → List ℕ → List ℕ
wide_operands (Some Increment) bytes = u2_at bytes 2 ∷ u2_at bytes 4 ∷ []
wide_operands _ bytes = u2_at bytes 2 ∷ []

-- the operands of an instruction at pc whose bytes are there
unfoldable pub operands_at : Form → ℕ → List ℕ → List ℕ
operands_at Plain pc bytes = []
operands_at Byte pc bytes = slice_index bytes 1 ∷ []
operands_at Short pc bytes = u2_at bytes 1 ∷ []
operands_at Local pc bytes = slice_index bytes 1 ∷ []
operands_at Increment pc bytes = slice_index bytes 1 ∷ slice_index bytes 2 ∷ []
operands_at ByteIndex pc bytes = slice_index bytes 1 ∷ []
operands_at (Index entry) pc bytes = u2_at bytes 1 ∷ []
operands_at Interface pc bytes = u2_at bytes 1 ∷ []
operands_at Dynamic pc bytes = u2_at bytes 1 ∷ []
operands_at ArrayType pc bytes = slice_index bytes 1 ∷ []
operands_at Dimensions pc bytes = u2_at bytes 1 ∷ slice_index bytes 3 ∷ []
operands_at Branch pc bytes = near pc (u2_at bytes 1) ∷ []
operands_at FarBranch pc bytes = far pc (u4_at bytes 1) ∷ []
operands_at TableSwitch pc bytes =
    far pc (u4_at bytes (padding pc + 1)) ∷ places pc bytes 4 (padding pc + 13) (greatest_key pc bytes + 1 - least_key pc bytes)
operands_at LookupSwitch pc bytes =
    far pc (u4_at bytes (padding pc + 1)) ∷ places pc bytes 8 (padding pc + 13) (pair_count pc bytes)
operands_at Wide pc bytes = wide_operands (form_at (slice_index bytes 1)) bytes

abbrev pub is_wide : Form → Bool
is_wide Wide = true
is_wide _ = false

-- the opcode of an instruction, and behind wide the one that is widened
abbrev pub opcode_at : Form → List ℕ → ℕ
opcode_at Wide bytes = slice_index bytes 1
opcode_at _ bytes = slice_index bytes 0

-- an instruction at pc whose bytes are there
abbrev pub instr_of : Form → ℕ → List ℕ → RawInstr
instr_of form pc bytes = record { pc = pc; opcode = opcode_at form bytes; wide = is_wide form; operands = operands_at form pc bytes; length = size_at form pc bytes }

abbrev pub instr_with : Option Form → ℕ → List ℕ → RawInstr
instr_with None pc bytes = instr_of Plain pc bytes
instr_with (Some form) pc bytes = instr_of form pc bytes

unfoldable pub instr_at : ℕ → List ℕ → RawInstr
instr_at pc bytes = instr_with (form_at (slice_index bytes 0)) pc bytes

-- which places are marked
abbrev pub marked : List Bool → ℕ → Bool
marked starts place = slice_index_or starts place false

-- an error is the fault that was found, unless memory ran out
abbrev pub Fails : CodeFault → Option CodeFault → Type 0
Fails Memory found = Unit {0}
Fails fault found = found ≡ Some fault

-- a check passes where no fault was found
abbrev pub Passes : Result ⊤ CodeFault → Option CodeFault → Type 0
Passes (Ok _) found = found ≡ None
Passes (Err fault) found = Fails fault found

-- a reader gives what is due where no fault was found
abbrev pub Gives : {X : Type 0} → Result X CodeFault → Option CodeFault → X → Type 0
Gives (Ok x) found due = (found ≡ None) × (x ≡ due)
Gives (Err fault) found due = Fails fault found

-- a form where no fault was found, and it is the opcode's
abbrev pub Finds : Result Form CodeFault → Option CodeFault → Option Form → Type 0
Finds (Ok form) found due = (found ≡ None) × (due ≡ Some form)
Finds (Err fault) found due = Fails fault found
