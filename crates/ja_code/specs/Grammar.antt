-- The code arrays that the analyser takes, and what they spell (JVM specification 4.9.1, 6.5 and 4.7.3).
use Rattle.std.specs.Prelude.{◌≡◌, ℕ, ◌+◌, ◌*◌, ◌<◌, ◌≤◌, List, [], ◌∷◌, ◌++◌, length, Bool, true, false, IsTrue, Option, Some, slice_index, nat_lt, ◌==◌, ◌||◌, ◌&&◌, if◌then◌else◌}
use Rattle.std.specs.List.{list_any, list_all}
use Rattle.ja_code.specs.declared.form.Entry.{Entry}
use Rattle.ja_code.specs.declared.form.Entry.TheVariants.{Loadable, InterfaceMethod, Class}
use Rattle.ja_code.specs.declared.form.Form.{Form}
use Rattle.ja_code.specs.declared.form.Form.TheVariants.{Plain, Byte, Short, Local, Increment, ByteIndex, Index, Interface, ArrayType, Dimensions, Branch, FarBranch, TableSwitch, LookupSwitch, Wide}
use Rattle.ja_code.specs.declared.instr.RawInstr.{RawInstr}
use Rattle.ja_code.specs.declared.handler.RawHandler.{RawHandler}
use Rattle.ja_code.specs.declared.code.Code.{Code}
use Rattle.ja_code.specs.Opcode.{form_at, is_refused}
use Rattle.ja_code.specs.Bytes.{u2, u4, u4_at, near, far, places, rank, padding, tag_at, names}

-- the analyser takes this opcode, and it has this form
abbrev pub Takes : ℕ → Form → Type 0
Takes op form = (form_at op ≡ Some form) × (is_refused op ≡ false)

-- the index names such an entry of the pool with these tags
abbrev pub Names : List ℕ → ℕ → Entry → Type 0
Names tags i entry = IsTrue (names entry (tag_at tags i))

-- an instruction without wide, and one with it
abbrev pub narrow : ℕ → ℕ → List ℕ → ℕ → RawInstr
narrow pc op operands length = record { pc = pc; opcode = op; wide = false; operands = operands; length = length }

abbrev pub widened : ℕ → ℕ → List ℕ → ℕ → RawInstr
widened pc op operands length = record { pc = pc; opcode = op; wide = true; operands = operands; length = length }

-- At pc, the bytes spell the instruction: one rule for each form. The pool has these tags, and its classes
-- have names that begin with so many [.
pub data IsInstr (tags dims : List ℕ) (pc : ℕ) : List ℕ → RawInstr → Type 0 where
  plain : {op : ℕ} → Takes op Plain
      → IsInstr tags dims pc (op ∷ []) (narrow pc op [] 1)
  byte : {op b : ℕ} → Takes op Byte
      → IsInstr tags dims pc (op ∷ b ∷ []) (narrow pc op (b ∷ []) 2)
  short : {op a b : ℕ} → Takes op Short
      → IsInstr tags dims pc (op ∷ a ∷ b ∷ []) (narrow pc op (u2 a b ∷ []) 3)
  local : {op n : ℕ} → Takes op Local
      → IsInstr tags dims pc (op ∷ n ∷ []) (narrow pc op (n ∷ []) 2)
  increment : {op n c : ℕ} → Takes op Increment
      → IsInstr tags dims pc (op ∷ n ∷ c ∷ []) (narrow pc op (n ∷ c ∷ []) 3)
  byte_index : {op i : ℕ} → Takes op ByteIndex → Names tags i Loadable
      → IsInstr tags dims pc (op ∷ i ∷ []) (narrow pc op (i ∷ []) 2)
  index : {op a b : ℕ} {entry : Entry} → Takes op (Index entry) → Names tags (u2 a b) entry
      → IsInstr tags dims pc (op ∷ a ∷ b ∷ []) (narrow pc op (u2 a b ∷ []) 3)
  -- the last two bytes may be any
  interface : {op a b x y : ℕ} → Takes op Interface → Names tags (u2 a b) InterfaceMethod
      → IsInstr tags dims pc (op ∷ a ∷ b ∷ x ∷ y ∷ []) (narrow pc op (u2 a b ∷ []) 5)
  array_type : {op t : ℕ} → Takes op ArrayType → 4 ≤ t → t ≤ 11
      → IsInstr tags dims pc (op ∷ t ∷ []) (narrow pc op (t ∷ []) 2)
  dimensions : {op a b d : ℕ} → Takes op Dimensions → Names tags (u2 a b) Class
      → 1 ≤ d → d ≤ slice_index dims (u2 a b)
      → IsInstr tags dims pc (op ∷ a ∷ b ∷ d ∷ []) (narrow pc op (u2 a b ∷ d ∷ []) 4)
  branch : {op a b : ℕ} → Takes op Branch
      → IsInstr tags dims pc (op ∷ a ∷ b ∷ []) (narrow pc op (near pc (u2 a b) ∷ []) 3)
  far_branch : {op a b c d : ℕ} → Takes op FarBranch
      → IsInstr tags dims pc (op ∷ a ∷ b ∷ c ∷ d ∷ []) (narrow pc op (far pc (u4 a b c d) ∷ []) 5)
  -- padding, the offset of the default, the least and the greatest key, and an offset for each key
  -- from one to the other
  table_switch : {op : ℕ} (gap default low high table : List ℕ) (count : ℕ) → Takes op TableSwitch
      → length gap ≡ padding pc → length default ≡ 4 → length low ≡ 4 → length high ≡ 4
      → rank (u4_at low 0) ≤ rank (u4_at high 0)
      → count + rank (u4_at low 0) ≡ rank (u4_at high 0) + 1 → length table ≡ 4 * count
      → IsInstr tags dims pc (op ∷ (gap ++ (default ++ (low ++ (high ++ table)))))
      (narrow pc op (far pc (u4_at default 0) ∷ places pc table 4 0 count)
      (padding pc + 13 + 4 * count))
  -- padding, the offset of the default, the number of pairs, which is not negative, and pairs of a
  -- key and an offset
  lookup_switch : {op : ℕ} (gap default count pairs : List ℕ) → Takes op LookupSwitch
      → length gap ≡ padding pc → length default ≡ 4 → length count ≡ 4
      → u4_at count 0 < 2147483648 → length pairs ≡ 8 * u4_at count 0
      → IsInstr tags dims pc (op ∷ (gap ++ (default ++ (count ++ pairs))))
      (narrow pc op (far pc (u4_at default 0) ∷ places pc pairs 8 4 (u4_at count 0))
      (padding pc + 9 + 8 * u4_at count 0))
  wide_local : {wide op a b : ℕ} → Takes wide Wide → Takes op Local
      → IsInstr tags dims pc (wide ∷ op ∷ a ∷ b ∷ []) (widened pc op (u2 a b ∷ []) 4)
  wide_increment : {wide op a b c d : ℕ} → Takes wide Wide → Takes op Increment
      → IsInstr tags dims pc (wide ∷ op ∷ a ∷ b ∷ c ∷ d ∷ [])
      (widened pc op (u2 a b ∷ u2 c d ∷ []) 6)

-- From pc on, the bytes spell the instructions, one after the other.
pub data AreInstrs (tags dims : List ℕ) : ℕ → List ℕ → List RawInstr → Type 0 where
  none : {pc : ℕ} → AreInstrs tags dims pc [] []
  next : {pc : ℕ} (text rest : List ℕ) {i : RawInstr} {is : List RawInstr}
      → IsInstr tags dims pc text i → AreInstrs tags dims (pc + length text) rest is
      → AreInstrs tags dims pc (text ++ rest) (i ∷ is)

-- the operand of an instruction at a place, 0 where it has none there
abbrev pub operand_at : RawInstr → ℕ → ℕ
operand_at i place = slice_index i.operands place

-- whether an instruction begins at a place
abbrev pub is_start : List RawInstr → ℕ → Bool
is_start instrs place = list_any (λ i. i.pc == place) instrs

-- whether the operands of such an opcode are places that it may go to
abbrev pub is_branch : Option Form → Bool
is_branch (Some Branch) = true
is_branch (Some FarBranch) = true
is_branch (Some TableSwitch) = true
is_branch (Some LookupSwitch) = true
is_branch _ = false

-- the places that an instruction may branch to
abbrev pub targets : RawInstr → List ℕ
targets i = if is_branch (form_at i.opcode) then i.operands else []

-- whether an instruction branches to instructions alone, where starts tells the places at which one begins
abbrev pub leads_to_starts : (ℕ → Bool) → RawInstr → Bool
leads_to_starts starts i = list_all starts (targets i)

-- whether an entry of the exception table is right: its range is not empty, it begins at an instruction and ends at one
-- or at the end of the code, the handler is an instruction, and what is caught is anything or a class
abbrev pub is_handler : List ℕ → (ℕ → Bool) → ℕ → RawHandler → Bool
is_handler tags starts size row =
    nat_lt row.start row.end && starts row.start && (row.end == size || starts row.end)
    && starts row.handler && (row.catch_type == 0 || names Class (tag_at tags row.catch_type))

-- The bytes and the exception table spell the code.
pub record Spells (code tags dims : List ℕ) (rows : List RawHandler) (spelled : Code) : Type 0 where
  pub instrs : AreInstrs tags dims 0 code spelled.instrs
  pub branches : IsTrue (list_all (leads_to_starts (is_start spelled.instrs)) spelled.instrs)
  pub handlers : IsTrue (list_all (is_handler tags (is_start spelled.instrs) (length code)) rows)
  pub same_rows : spelled.handlers ≡ rows
