-- The operands of instructions in the notation.
use Rattle.std.specs.Prelude.{ℕ, ◌+◌, List, length, take, drop, slice_get, position, Option, Some, None, ◌==◌, if◌then◌else◌}
use Rattle.ja_code.specs.declared.form.Entry.TheVariants as entries
use Rattle.ja_code.specs.declared.form.Form.{Form}
use Rattle.ja_code.specs.declared.form.Form.TheVariants.{Plain, Byte, Short, Local, Increment, ByteIndex, Index, Interface, Dynamic, ArrayType, Dimensions, Branch, FarBranch, TableSwitch, LookupSwitch, Wide}
use Rattle.ja_listing.specs.declared.number.Number.{Number}
use Rattle.ja_listing.specs.declared.word.Word.{Word}
use Rattle.ja_listing.specs.declared.word.Word.TheVariants.{Bare, Text, Whole}
use Rattle.ja_listing.specs.declared.item.MemberName.{MemberName}
use Rattle.ja_listing.specs.declared.item.Operand.{Operand}
use Rattle.ja_listing.specs.declared.item.Operand.TheVariants.{Nothing, Constant, LocalAndConstant, Label, Quotation, ClassName, FieldName, MethodName, ArrayName}
use Rattle.ja_listing.specs.Word.{◌>>=◌}
use Rattle.ja_listing.specs.Number.{number_of}

-- a word that is no quoted text
abbrev pub bare : Option Word → Option (List ℕ)
bare None = None
bare (Some (Bare bytes)) = Some bytes
bare (Some (Text bytes)) = None
bare (Some Whole) = None

-- the word at a place, which is no quoted text
unfoldable pub bare_at : List Word → ℕ → Option (List ℕ)
bare_at words i = bare (slice_get words i)

-- a word that is a quoted text
abbrev pub quoted : Option Word → Option (List ℕ)
quoted None = None
quoted (Some (Bare bytes)) = None
quoted (Some (Text bytes)) = Some bytes
quoted (Some Whole) = None

-- the quoted text at a place
unfoldable pub quoted_at : List Word → ℕ → Option (List ℕ)
quoted_at words i = quoted (slice_get words i)

-- the number at a place
unfoldable pub number_at : List Word → ℕ → Option Number
number_at words i = do
  word ← bare_at words i
  number_of word

-- the place of the first such byte of a word
abbrev pub first_place : ℕ → List ℕ → Option ℕ
first_place b word = position (λ c. c == b) word

-- a class and one of its fields: the class up to the first point, and the field's name
unfoldable pub field_name : (word desc : List ℕ) → Option MemberName
field_name word desc = do
  point ← first_place 46 word
  Some (record { class = take point word; name = drop (point + 1) word; desc = desc })

-- a class and one of its methods: the class up to the first point, the name up to the first bracket behind it, and the
-- descriptor
unfoldable pub method_name : List ℕ → Option MemberName
method_name word = do
  point ← first_place 46 word
  bracket ← first_place 40 (drop (point + 1) word)
  Some (record { class = take point word; name = take bracket (drop (point + 1) word); desc = drop bracket (drop (point + 1) word) })

-- the meaning of so many words; none where there are more or fewer
abbrev pub of_count : {A : Type 0} → ℕ → List Word → Option A → Option A
of_count n words meaning = if length words == n then meaning else None

-- a number
unfoldable pub constant_operand : List Word → Option Operand
constant_operand words = of_count 1 words (do
  number ← number_at words 0
  Some (Constant number))

-- a local variable and the constant that is added to it
unfoldable pub increment_operand : List Word → Option Operand
increment_operand words = of_count 2 words (do
  local ← number_at words 0
  change ← number_at words 1
  Some (LocalAndConstant local change))

-- a label
unfoldable pub label_operand : List Word → Option Operand
label_operand words = of_count 1 words (do
  name ← bare_at words 0
  Some (Label name))

-- a quoted text
unfoldable pub text_operand : List Word → Option Operand
text_operand words = of_count 1 words (do
  text ← quoted_at words 0
  Some (Quotation text))

-- a class
unfoldable pub class_operand : List Word → Option Operand
class_operand words = of_count 1 words (do
  name ← bare_at words 0
  Some (ClassName name))

-- a class and a number of dimensions
unfoldable pub array_operand : List Word → Option Operand
array_operand words = of_count 2 words (do
  name ← bare_at words 0
  dimensions ← number_at words 1
  Some (ArrayName name dimensions))

-- a field and its descriptor
unfoldable pub field_operand : List Word → Option Operand
field_operand words = of_count 2 words (do
  word ← bare_at words 0
  desc ← bare_at words 1
  name ← field_name word desc
  Some (FieldName name))

-- a method
unfoldable pub method_operand : List Word → Option Operand
method_operand words = of_count 1 words (do
  word ← bare_at words 0
  name ← method_name word
  Some (MethodName name))

-- The operands of an opcode, by its form. `wide`, `ldc_w`, `ldc2_w` and the two switches are not in the notation.
unfoldable pub operand_of : Form → List Word → Option Operand
operand_of Plain words = of_count 0 words (Some Nothing)
operand_of Byte words = constant_operand words
operand_of Short words = constant_operand words
operand_of Local words = constant_operand words
operand_of Increment words = increment_operand words
operand_of ByteIndex words = text_operand words
operand_of (Index entries.Loadable) words = None
operand_of (Index entries.TwoWord) words = None
operand_of (Index entries.Field) words = field_operand words
operand_of (Index entries.Method) words = method_operand words
operand_of (Index entries.InterfaceMethod) words = method_operand words
operand_of (Index entries.AnyMethod) words = method_operand words
operand_of (Index entries.Class) words = class_operand words
operand_of Interface words = method_operand words
operand_of Dynamic words = method_operand words
operand_of ArrayType words = constant_operand words
operand_of Dimensions words = array_operand words
operand_of Branch words = label_operand words
operand_of FarBranch words = label_operand words
operand_of TableSwitch words = None
operand_of LookupSwitch words = None
operand_of Wide words = None
