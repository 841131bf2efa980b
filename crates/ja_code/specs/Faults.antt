-- The order of the checks of a code array: its fault is that of the first check that fails.
use Rattle.std.specs.Prelude.{◌≡◌, ℕ, ◌+◌, ◌-◌, ◌*◌, ◌<◌, List, [], ◌∷◌, ◌++◌, length, Bool, true, false, not, Option, Some, None, Result, Err, slice_index, nat_lt, nat_le, ◌==◌, ◌||◌, ◌&&◌, if◌then◌else◌}
use Rattle.ja_base.specs.Tag as pool_tag
use Rattle.ja_code.specs.declared.form.Entry.{Entry}
use Rattle.ja_code.specs.declared.form.Entry.TheVariants.{Loadable, InterfaceMethod, Class}
use Rattle.ja_code.specs.declared.form.Form.{Form}
use Rattle.ja_code.specs.declared.form.Form.TheVariants.{Plain, Byte, Short, Local, Increment, ByteIndex, Index, Interface, Dynamic, ArrayType, Dimensions, Branch, FarBranch, TableSwitch, LookupSwitch, Wide}
use Rattle.ja_code.specs.declared.instr.RawInstr.{RawInstr}
use Rattle.ja_code.specs.declared.handler.RawHandler.{RawHandler}
use Rattle.ja_code.specs.declared.code.Code.{Code}
use Rattle.ja_code.specs.declared.fault.CodeFault.{CodeFault}
use Rattle.ja_code.specs.declared.fault.CodeFault.TheVariants.{BadOpcode, RefusedOpcode, CodeEnd, BadOperand, BadBranch, BadHandler, Memory}
use Rattle.ja_code.specs.Opcode.{form_at, is_refused}
use Rattle.ja_code.specs.Number.{ret}
use Rattle.ja_code.specs.Bytes.{u2_at, u4_at, rank, padding, tag_at, names}
use Rattle.ja_code.specs.Grammar.{AreInstrs, is_start, leads_to_starts, is_handler}

-- a check: whether it fails, and the fault that it then is
pub record Check : Type 0 where
  pub fails : Bool
  pub fault : CodeFault

-- the fault of the first check that fails
abbrev pub first_failing : List Check → Option CodeFault
first_failing [] = None
first_failing (c ∷ cs) = if c.fails then Some c.fault else first_failing cs

-- the code has this many bytes from the instruction at pc on
abbrev pub has : ℕ → List ℕ → ℕ → Check
has pc bytes n = record { fails = nat_lt (length bytes) n; fault = CodeEnd pc }

-- the operands of the instruction at pc are right
abbrev pub right : ℕ → Bool → Check
right pc ok = record { fails = not ok; fault = BadOperand pc }

-- the instruction at pc with this opcode is not refused for this cause
abbrev pub unless : ℕ → ℕ → Bool → Check
unless pc op cause = record { fails = cause; fault = RefusedOpcode pc op }

-- whether an entry with this tag is a method handle or a method type where one is loaded
abbrev pub is_handle : Entry → ℕ → Bool
is_handle Loadable tag = tag == pool_tag.method_handle || tag == pool_tag.method_type
is_handle _ tag = false

-- the checks of what an index names: a constant that is a method handle or a method type is refused
abbrev pub index_checks : Entry → ℕ → ℕ → ℕ → List Check
index_checks entry pc op tag = unless pc op (is_handle entry tag) ∷ right pc (names entry tag) ∷ []

-- whether an opcode has a wide form: it takes a local
abbrev pub can_widen : Option Form → Bool
can_widen (Some Local) = true
can_widen (Some Increment) = true
can_widen _ = false

-- The number of bytes of an instruction at pc that its form alone asks for: of a switch those before its table, and of
-- wide both opcodes.
abbrev pub front_size : Form → ℕ → ℕ
front_size Plain pc = 1
front_size Byte pc = 2
front_size Short pc = 3
front_size Local pc = 2
front_size Increment pc = 3
front_size ByteIndex pc = 2
front_size (Index entry) pc = 3
front_size Interface pc = 5
front_size Dynamic pc = 5
front_size ArrayType pc = 2
front_size Dimensions pc = 4
front_size Branch pc = 3
front_size FarBranch pc = 5
front_size TableSwitch pc = padding pc + 13
front_size LookupSwitch pc = padding pc + 9
front_size Wide pc = 2

-- the bounds of a tableswitch at pc, and the number of pairs of a lookupswitch
abbrev pub least_key : ℕ → List ℕ → ℕ
least_key pc bytes = rank (u4_at bytes (padding pc + 5))

abbrev pub greatest_key : ℕ → List ℕ → ℕ
greatest_key pc bytes = rank (u4_at bytes (padding pc + 9))

abbrev pub pair_count : ℕ → List ℕ → ℕ
pair_count pc bytes = u4_at bytes (padding pc + 5)

-- the number of bytes of an instruction with wide, by the form of the opcode that is widened
abbrev pub wide_size : Option Form → ℕ
wide_size (Some Increment) = 6
wide_size _ = 4

-- the number of bytes of an instruction at pc
unfoldable pub size_at : Form → ℕ → List ℕ → ℕ
size_at TableSwitch pc bytes = padding pc + 13 + 4 * (greatest_key pc bytes + 1 - least_key pc bytes)
size_at LookupSwitch pc bytes = padding pc + 9 + 8 * pair_count pc bytes
size_at Wide pc bytes = wide_size (form_at (slice_index bytes 1))
size_at form pc bytes = front_size form pc

-- the checks of the array type of newarray (JVM specification 6.5)
abbrev pub array_checks : ℕ → List ℕ → List Check
array_checks pc bytes = right pc (nat_le 4 (slice_index bytes 1) && nat_le (slice_index bytes 1) 11) ∷ []

-- the checks of multianewarray: a class, and at least one dimension and at most those of the class
abbrev pub dimension_checks : List ℕ → List ℕ → ℕ → List ℕ → List Check
dimension_checks tags dims pc bytes =
    right pc (names Class (tag_at tags (u2_at bytes 1)))
    ∷ right pc (nat_le 1 (slice_index bytes 3) && nat_le (slice_index bytes 3) (slice_index dims (u2_at bytes 1))) ∷ []

-- the checks of tableswitch: its keys are in order, and the offsets are there
abbrev pub table_checks : ℕ → List ℕ → List Check
table_checks pc bytes =
    right pc (nat_le (least_key pc bytes) (greatest_key pc bytes)) ∷ has pc bytes (size_at TableSwitch pc bytes) ∷ []

-- the checks of lookupswitch: its number of pairs is not negative, and the pairs are there
abbrev pub lookup_checks : ℕ → List ℕ → List Check
lookup_checks pc bytes =
    right pc (nat_lt (pair_count pc bytes) 2147483648) ∷ has pc bytes (size_at LookupSwitch pc bytes) ∷ []

-- the checks of wide: before ret it is refused, the opcode behind it has a wide form, and its operands are there
abbrev pub wide_checks : ℕ → List ℕ → List Check
wide_checks pc bytes =
    unless pc (slice_index bytes 0) (slice_index bytes 1 == ret) ∷ right pc (can_widen (form_at (slice_index bytes 1)))
    ∷ has pc bytes (size_at Wide pc bytes) ∷ []

-- The checks of the operands of an instruction at pc, by its form, where the bytes that the form asks for are there. The
-- bytes are those of the code from pc on.
unfoldable pub operand_checks : Form → List ℕ → List ℕ → ℕ → List ℕ → List Check
operand_checks ByteIndex tags dims pc bytes =
    index_checks Loadable pc (slice_index bytes 0) (tag_at tags (slice_index bytes 1))
operand_checks (Index entry) tags dims pc bytes =
    index_checks entry pc (slice_index bytes 0) (tag_at tags (u2_at bytes 1))
operand_checks Interface tags dims pc bytes =
    index_checks InterfaceMethod pc (slice_index bytes 0) (tag_at tags (u2_at bytes 1))
operand_checks ArrayType tags dims pc bytes = array_checks pc bytes
operand_checks Dimensions tags dims pc bytes = dimension_checks tags dims pc bytes
operand_checks TableSwitch tags dims pc bytes = table_checks pc bytes
operand_checks LookupSwitch tags dims pc bytes = lookup_checks pc bytes
operand_checks Wide tags dims pc bytes = wide_checks pc bytes
operand_checks _ tags dims pc bytes = []

-- the checks of the opcode at pc and of its operands
abbrev pub opcode_checks : Option Form → List ℕ → List ℕ → ℕ → List ℕ → List Check
opcode_checks None tags dims pc bytes =
    record { fails = true; fault = BadOpcode pc (slice_index bytes 0) } ∷ []
opcode_checks (Some form) tags dims pc bytes =
    unless pc (slice_index bytes 0) (is_refused (slice_index bytes 0))
    ∷ has pc bytes (front_size form pc) ∷ operand_checks form tags dims pc bytes

-- the checks of the instruction at pc
unfoldable pub instr_checks : List ℕ → List ℕ → ℕ → List ℕ → List Check
instr_checks tags dims pc bytes = opcode_checks (form_at (slice_index bytes 0)) tags dims pc bytes

-- the checks of the branches of instructions, where starts tells the places at which one begins
abbrev pub branch_checks : (ℕ → Bool) → List RawInstr → List Check
branch_checks starts [] = []
branch_checks starts (i ∷ is) =
    record { fails = not (leads_to_starts starts i); fault = BadBranch i.pc } ∷ branch_checks starts is

-- the checks of the entries of an exception table, the first of which has this number
abbrev pub handler_checks : List ℕ → (ℕ → Bool) → ℕ → ℕ → List RawHandler → List Check
handler_checks tags starts size number [] = []
handler_checks tags starts size number (row ∷ rows) =
    record { fails = not (is_handler tags starts size row); fault = BadHandler number }
    ∷ handler_checks tags starts size (number + 1) rows

-- The fault of a code array is that of its first instruction with a check that fails: the code before it spells
-- instructions. Where all of the code does, it is that of the first branch that fails, and then of the first entry of
-- the exception table.
pub data IsFault (code tags dims : List ℕ) (rows : List RawHandler) : CodeFault → Type 0 where
  in_instr : (before bytes : List ℕ) (instrs : List RawInstr) {fault : CodeFault}
      → code ≡ before ++ bytes → 0 < length bytes → AreInstrs tags dims 0 before instrs
      → first_failing (instr_checks tags dims (length before) bytes) ≡ Some fault
      → IsFault code tags dims rows fault
  behind : (instrs : List RawInstr) {fault : CodeFault} → AreInstrs tags dims 0 code instrs
      → first_failing (branch_checks (is_start instrs) instrs
      ++ handler_checks tags (is_start instrs) (length code) 0 rows) ≡ Some fault
      → IsFault code tags dims rows fault

-- an answer that says so, unless memory ran out
abbrev pub Answers : Result Code CodeFault → Result Code CodeFault → Type 0
Answers (Err Memory) due = Unit {0}
Answers result due = result ≡ due

-- what an answer of decode other than Ok means
abbrev pub IsCause : List ℕ → List ℕ → List ℕ → List RawHandler → CodeFault → Type 0
IsCause code tags dims rows Memory = Unit {0}
IsCause code tags dims rows fault = IsFault code tags dims rows fault
