-- The order in which attributes are judged, and what is at fault: each part names its fault where it stands.
use Rattle.std.specs.Prelude.{◌≡◌, ℕ, ◌⊎◌, Bool, false, ◌&&◌, not, ⊤, List, codes, nat_le, ◌==◌, is_none, Option, Some, None}
use Rattle.ja_base.specs.Tag as pool_tag
use Rattle.ja_bytes.specs.Reading.{Reading}
use Rattle.ja_pool.specs.Table.{Table, tag_at, tags_of, dims_of}
use Rattle.ja_code.specs.declared.code.Code.{Code}
use Rattle.ja_code.specs.declared.handler.RawHandler.{RawHandler}
use Rattle.ja_code.specs.declared.fault.CodeFault.{CodeFault}
use Rattle.ja_code.specs.Grammar.{Spells}
use Rattle.ja_code.specs.Faults.{IsFault}
use Rattle.ja_attributes.specs.declared.fault.AttributeFault.{AttributeFault}
use Rattle.ja_attributes.specs.declared.fault.AttributeFault.TheVariants.{End, BadIndex, BadAttribute, Undecodable, Memory}
use Rattle.ja_attributes.specs.declared.code.MethodCode.{MethodCode}
use Rattle.ja_attributes.specs.declared.method.Codes.{Codes}
use Rattle.ja_attributes.specs.declared.method.Codes.TheVariants.{Absent, Single, Several}
use Rattle.ja_attributes.specs.Part.{Part, value, here, left, check, at_end, field, u2, u4, rest, within, ◌>>=◌, choose, times, fold, renamed}
use Rattle.ja_attributes.specs.Attribute.{is_named, is_value_tag}

-- the index of a name; at fault where no text stands there
unfoldable pub name_index : Table → Part AttributeFault ℕ
name_index table = do
  at ← here
  index ← u2 End
  _ ← check (tag_at table index == pool_tag.utf8) (BadIndex at)
  value index

-- an attribute, whose content is one field; what the content must be depends on the attribute's place and name
unfoldable pub attribute : {A : Type 0} → Table → (ℕ → ℕ → Part AttributeFault A) → Part AttributeFault A
attribute table content = do
  at ← here
  name ← name_index table
  len ← u4 End
  within End len (content at name)

-- a content that is passed over unread
unfoldable pub passed_over : {A : Type 0} → A → Part AttributeFault A
passed_over a = do
  _ ← rest
  value a

-- an attribute that is passed over unread
unfoldable pub any_attribute : Table → Part AttributeFault ⊤
any_attribute table = attribute table (λ at name. passed_over tt)

-- attributes that are all passed over unread
unfoldable pub any_attributes : Table → Part AttributeFault ⊤
any_attributes table = do
  count ← u2 End
  fold (λ _. any_attribute table) count tt

-- ---- fields

-- the content of the ConstantValue attribute that begins at a place: it has two bytes, and then names a constant
unfoldable pub constant_value : Table → ℕ → Part AttributeFault ℕ
constant_value table at = do
  from ← here
  len ← left
  _ ← check (len == 2) (BadAttribute at)
  index ← u2 End
  _ ← check (is_value_tag (tag_at table index)) (BadIndex from)
  value index

-- the first ConstantValue of a field, where none was found; a second one is at fault whatever it holds
unfoldable pub first_constant : Table → Option ℕ → ℕ → Part AttributeFault (Option ℕ)
first_constant table found at = do
  _ ← check (is_none found) (BadAttribute at)
  index ← constant_value table at
  value (Some index)

-- an attribute of a field, where this constant was found before
unfoldable pub field_attribute : Table → Option ℕ → Part AttributeFault (Option ℕ)
field_attribute table found =
    attribute table (λ at name. choose (is_named table (codes "ConstantValue") name) (first_constant table found at) (passed_over found))

-- the attributes of a field
unfoldable pub field_attributes : Table → Part AttributeFault (Option ℕ)
field_attributes table = do
  count ← u2 End
  fold (field_attribute table) count None

-- ---- methods

-- an entry of an exception table
unfoldable pub handler : Part AttributeFault RawHandler
handler = do
  start ← u2 End
  end ← u2 End
  handler ← u2 End
  catch_type ← u2 End
  value (record { start = start; end = end; handler = handler; catch_type = catch_type })

-- the decoding of a code array
unfoldable pub decoded : Table → List ℕ → List RawHandler → Part AttributeFault Code
decoded table code rows = record {
  passes = λ old spelled new. Spells code (tags_of table) (dims_of table) rows spelled × (new ≡ old);
  fault = λ old f. (wrong : CodeFault) × IsFault code (tags_of table) (dims_of table) rows wrong × (f ≡ Undecodable wrong);
}

-- whether a code array may have this length
abbrev pub is_code_length : ℕ → Bool
is_code_length len = nat_le 1 len && nat_le len 65535

-- the code array of the Code attribute that begins at a place, behind its length
unfoldable pub code_array : ℕ → Part AttributeFault (List ℕ)
code_array at = do
  len ← u4 End
  _ ← check (is_code_length len) (BadAttribute at)
  field End len

-- the content of a Code attribute, without the attributes in it
pub record Layout : Type 0 where
  pub max_stack : ℕ
  pub max_locals : ℕ
  pub code : List ℕ
  pub rows : List RawHandler

-- the fields of the Code attribute that begins at a place, to the end of its content
unfoldable pub code_layout : Table → ℕ → Part AttributeFault Layout
code_layout table at = do
  max_stack ← u2 End
  max_locals ← u2 End
  code ← code_array at
  count ← u2 End
  rows ← times count handler
  _ ← any_attributes table
  _ ← at_end (λ _. BadAttribute at)
  value (record { max_stack = max_stack; max_locals = max_locals; code = code; rows = rows })

-- a fault among the fields of the attribute that begins at a place: where its content ends too early, the attribute is wrong
abbrev pub in_content : ℕ → AttributeFault → AttributeFault
in_content at (End _) = BadAttribute at
in_content at (BadIndex place) = BadIndex place
in_content at (BadAttribute place) = BadAttribute place
in_content at (Undecodable wrong) = Undecodable wrong
in_content at Memory = Memory

-- one more Code attribute
abbrev pub with_code : Codes → MethodCode → Codes
with_code Absent code = Single code
with_code (Single first) code = Several
with_code Several code = Several

-- the content of the Code attribute that begins at a place; its code is decoded behind its fields
unfoldable pub code_content : Table → ℕ → Part AttributeFault MethodCode
code_content table at = do
  layout ← renamed (in_content at) (code_layout table at)
  code ← decoded table layout.code layout.rows
  value (record { code = code; max_stack = layout.max_stack; max_locals = layout.max_locals })

-- a Code attribute behind these
unfoldable pub next_code : Table → Codes → ℕ → Part AttributeFault Codes
next_code table found at = do
  code ← code_content table at
  value (with_code found code)

-- an attribute of a method, behind these Code attributes
unfoldable pub method_attribute : Table → Codes → Part AttributeFault Codes
method_attribute table found =
    attribute table (λ at name. choose (is_named table (codes "Code") name) (next_code table found at) (passed_over found))

-- whether a method that needs a code, or needs none, may have these Code attributes
abbrev pub is_due : (needs_code : Bool) → Codes → Bool
is_due needs_code Absent = not needs_code
is_due needs_code (Single code) = needs_code
is_due needs_code Several = false

-- the code of the only Code attribute
abbrev pub only_code : Codes → Option MethodCode
only_code Absent = None
only_code (Single code) = Some code
only_code Several = None

-- the attributes of a method whose flags stand at a place; the number of Code attributes is judged behind them
unfoldable pub method_attributes : Table → (needs_code : Bool) → (flags_at : ℕ) → Part AttributeFault (Option MethodCode)
method_attributes table needs_code flags_at = do
  count ← u2 End
  found ← fold (method_attribute table) count Absent
  _ ← check (is_due needs_code found) (BadAttribute flags_at)
  value (only_code found)

-- ---- faults

-- the fault of attributes that are all passed over
abbrev pub IsAnyFault : Table → Reading → AttributeFault → Type 0
IsAnyFault table old fault = (any_attributes table).fault old fault

-- the fault of the attributes of a field
abbrev pub IsFieldFault : Table → Reading → AttributeFault → Type 0
IsFieldFault table old fault = (field_attributes table).fault old fault

-- the fault of the attributes of a method whose flags stand at a place
abbrev pub IsMethodFault : Table → (needs_code : Bool) → (flags_at : ℕ) → Reading → AttributeFault → Type 0
IsMethodFault table needs_code flags_at old fault = (method_attributes table needs_code flags_at).fault old fault

-- the fault is want of memory, or it is such
abbrev pub OrMemory : (AttributeFault → Type 0) → AttributeFault → Type 0
OrMemory P fault = (fault ≡ Memory) ⊎ P fault
