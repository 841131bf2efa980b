-- Which items of a class cannot be written: what the class file format and the analyser's profile of it do not allow.
use Rattle.std.specs.Prelude.{◌≡◌, ℕ, ◌+◌, ◌<◌, ◌≤◌, Bool, true, false, not, ◌&&◌, nat_le, nat_lt, bit_and, List, [], ◌∷◌, ◌++◌, length, take, drop, slice_get, slice_index, Option, Some, None, Result, Ok, Err, ◌==◌, ◌⊎◌}
use Rattle.std.specs.List.{flat_map, take_while}
use Rattle.ja_base.specs.AccessFlags.{acc_static}
use Rattle.ja_code.specs.declared.form.Entry.TheVariants as entry_kinds
use Rattle.ja_code.specs.declared.form.Form.{Form}
use Rattle.ja_code.specs.declared.form.Form.TheVariants as forms
use Rattle.ja_code.specs.Opcode.{form_at, is_refused}
use Rattle.ja_base.specs.declared.java_type.JavaType.{JavaType}
use Rattle.ja_base.specs.Descriptor.{words_of_all, IsMethod}
use Rattle.ja_bytes.specs.Text.{IsModifiedUtf8}
use Rattle.ja_bytes.specs.DescriptorText.{IsFieldDesc, IsMethodText}
use Rattle.ja_listing.specs.declared.fault.MakeFault.{MakeFault}
use Rattle.ja_listing.specs.declared.fault.MakeFault.TheVariants as faults
use Rattle.ja_listing.specs.declared.number.Number.{Number}
use Rattle.ja_listing.specs.declared.item.MemberName.{MemberName}
use Rattle.ja_listing.specs.declared.item.Head.{Head}
use Rattle.ja_listing.specs.declared.item.Frame.{Frame}
use Rattle.ja_listing.specs.declared.item.Operand.{Operand}
use Rattle.ja_listing.specs.declared.item.Operand.TheVariants.{Nothing, Constant, LocalAndConstant, Label, Quotation, ClassName, FieldName, MethodName, ArrayName}
use Rattle.ja_listing.specs.declared.item.Item.{Item}
use Rattle.ja_listing.specs.declared.item.Item.TheVariants.{Field, Method, Initializer, Try, Instruction}
use Rattle.ja_listing.specs.Number.{has_code}
use Rattle.ja_listing.specs.Listed.{Listed}
use Rattle.ja_assembly.specs.Members.{fits, fits_signed, Labelled, Body, Range, expanded, fields, methods, instructions, code_size, place_of_label}
use Rattle.ja_assembly.specs.Wanted.{pool_strings, entries}
use Rattle.ja_assembly.specs.Arguments.{argument_words}

-- ---- texts and numbers that do not fit

-- a text that stands in no pool
abbrev pub IsNoText : List ℕ → Type 0
IsNoText bytes = (65535 < length bytes) ⊎ (IsModifiedUtf8 bytes → ⊥)

-- a number that does not fit the field of an opcode of this form
abbrev pub is_no_constant : Option Form → Number → Bool
is_no_constant (Some forms.Byte) n = not (fits_signed 7 n)
is_no_constant (Some forms.Short) n = not (fits_signed 15 n)
is_no_constant (Some forms.ArrayType) n = not (fits 8 n && (nat_le 4 n.size && nat_le n.size 11))
is_no_constant _ n = not (fits 8 n)

-- the number of `[` with which a name begins
abbrev pub dimensions_of : List ℕ → ℕ
dimensions_of name = length (take_while (λ b. b == 91) name)

-- a number of dimensions that does not fit, is 0, or is more than the array type has
abbrev pub IsNoDimensions : List ℕ → Number → Type 0
IsNoDimensions name dimensions = (fits 8 dimensions ≡ false) ⊎ (dimensions.size ≡ 0) ⊎ (dimensions_of name < dimensions.size)

-- the name of a member that stands in no pool, where descriptors are judged so
abbrev pub IsNoMember : (List ℕ → Type 0) → MemberName → Type 0
IsNoMember IsDesc m = IsNoText m.class ⊎ IsNoText m.name ⊎ IsNoText m.desc ⊎ (IsDesc m.desc → ⊥)

-- ---- the items before one

-- what the items of a class stand for
abbrev pub expansion : Listed → List Item → List Item
expansion c items = flat_map (expanded c.head.superclass) items

abbrev pub last_of : List Body → Option Body
last_of [] = None
last_of (body ∷ []) = Some body
last_of (body ∷ other ∷ bodies) = last_of (other ∷ bodies)

abbrev pub body_instructions : Option Body → List Labelled
body_instructions None = []
body_instructions (Some body) = body.instructions

abbrev pub body_ranges : Option Body → List Range
body_ranges None = []
body_ranges (Some body) = body.ranges

abbrev pub body_has_code : Option Body → Bool
body_has_code None = false
body_has_code (Some body) = has_code body.member.flags

-- what the first k items behind the one that begins the class stand for
abbrev pub before : Listed → ℕ → List Item
before c k = expansion c (take k c.items)

-- the method of the item of this place, as far as the items before it go
abbrev pub method_before : Listed → ℕ → Option Body
method_before c k = last_of (methods (before c k))

-- the instructions from the item of this place on, up to the next method
abbrev pub instructions_from : Listed → ℕ → List Labelled
instructions_from c k = instructions (expansion c (drop k c.items))

-- where the labels of the whole method stand
abbrev pub labels_at : Listed → ℕ → List ℕ → Option ℕ
labels_at c k name = place_of_label 0 (body_instructions (method_before c k) ++ instructions_from c k) name

-- where an instruction of this place begins
abbrev pub pc_at : Listed → ℕ → ℕ
pc_at c k = code_size (body_instructions (method_before c k))

-- ---- operands

-- an operand of the kind that an opcode of this form has
abbrev pub suits : Option Form → Operand → Bool
suits (Some forms.Plain) Nothing = true
suits (Some forms.Byte) (Constant n) = true
suits (Some forms.Short) (Constant n) = true
suits (Some forms.Local) (Constant n) = true
suits (Some forms.ArrayType) (Constant n) = true
suits (Some forms.Increment) (LocalAndConstant local change) = true
suits (Some forms.ByteIndex) (Quotation bytes) = true
suits (Some (forms.Index entry_kinds.Class)) (ClassName name) = true
suits (Some (forms.Index entry_kinds.Field)) (FieldName m) = true
suits (Some (forms.Index entry_kinds.Method)) (MethodName m) = true
suits (Some (forms.Index entry_kinds.AnyMethod)) (MethodName m) = true
suits (Some forms.Interface) (MethodName m) = true
suits (Some forms.Dimensions) (ArrayName name dimensions) = true
suits (Some forms.Branch) (Label name) = true
suits (Some forms.FarBranch) (Label name) = true
suits _ _ = false

-- a branch from one place of the code to another that an offset of two bytes in two's complement does not bridge
abbrev pub IsTooFar : ℕ → ℕ → Type 0
IsTooFar pc place = (pc + 32767 < place) ⊎ (place + 32768 < pc)

-- a label that stands nowhere, or that a branch of two bytes does not reach
abbrev pub IsNoTarget : Option Form → ℕ → Option ℕ → Type 0
IsNoTarget form pc None = Unit {0}
IsNoTarget (Some forms.Branch) pc (Some place) = IsTooFar pc place
IsNoTarget _ pc (Some place) = ⊥

-- a call of an interface's method whose words do not fit the byte that tells them (6.5, invokeinterface)
abbrev pub is_beyond_count : Option Form → (desc : List ℕ) → Bool
is_beyond_count (Some forms.Interface) desc = nat_lt 255 (argument_words desc)
is_beyond_count _ desc = false

-- an operand that cannot be written, of an instruction that begins at pc
abbrev pub IsNoValue : (List ℕ → Option ℕ) → ℕ → Option Form → Operand → Type 0
IsNoValue labels pc form Nothing = ⊥
IsNoValue labels pc form (Constant n) = is_no_constant form n ≡ true
IsNoValue labels pc form (LocalAndConstant local change) = (fits 8 local ≡ false) ⊎ (fits_signed 7 change ≡ false)
IsNoValue labels pc form (Label name) = IsNoTarget form pc (labels name)
IsNoValue labels pc form (Quotation bytes) = IsNoText bytes
IsNoValue labels pc form (ClassName name) = IsNoText name
IsNoValue labels pc form (FieldName m) = IsNoMember IsFieldDesc m
IsNoValue labels pc form (MethodName m) = IsNoMember IsMethodText m ⊎ (is_beyond_count form m.desc ≡ true)
IsNoValue labels pc form (ArrayName name dimensions) = IsNoText name ⊎ IsNoDimensions name dimensions

-- an instruction with an opcode that the profile refuses, or with an operand that does not suit it or cannot be written
abbrev pub IsNoInstruction : (List ℕ → Option ℕ) → ℕ → ℕ → Operand → Type 0
IsNoInstruction labels pc opcode operand =
    (is_refused opcode ≡ true) ⊎ (suits (form_at opcode) operand ≡ false) ⊎ IsNoValue labels pc (form_at opcode) operand

-- ---- items

-- parameters of so many words, with the receiver of an instance method, are too many
abbrev pub IsCrowded : Number → ℕ → Type 0
IsCrowded flags words = (bit_and flags.size acc_static ≡ 0) × (254 < words)

-- the descriptor of a method with too many parameter words
abbrev pub HasNoRoom : Number → List ℕ → Type 0
HasNoRoom flags desc = (params : List JavaType) × (result : Option JavaType) × IsMethod desc params result × IsCrowded flags (words_of_all params)

-- the labels of an entry of an exception table that are not there, or in the wrong order, or at a place that does not fit the
-- two bytes that the entry has for it
abbrev pub IsNoRange : Option ℕ → Option ℕ → Option ℕ → Type 0
IsNoRange (Some start) (Some end) (Some handler) = (end ≤ start) ⊎ (65535 < end) ⊎ (65535 < handler)
IsNoRange _ _ _ = Unit {0}

abbrev pub IsNoCatch : Option (List ℕ) → Type 0
IsNoCatch None = ⊥
IsNoCatch (Some name) = IsNoText name

-- a frame whose numbers do not fit, one of a method without code, or none of one with code
abbrev pub IsNoFrame : (code : Bool) → Option Frame → Type 0
IsNoFrame code None = code ≡ true
IsNoFrame code (Some frame) = (code ≡ false) ⊎ (fits 16 frame.stack ≡ false) ⊎ (fits 16 frame.locals ≡ false)

-- a method that needs code and has no instruction
abbrev pub IsEmpty : Number → (some : Bool) → Type 0
IsEmpty flags some = (has_code flags ≡ true) × (some ≡ false)

-- the beginning of a field, and of a method, that cannot be written
abbrev pub IsNoField : Number → (name desc : List ℕ) → Type 0
IsNoField flags name desc = (fits 16 flags ≡ false) ⊎ IsNoText name ⊎ IsNoText desc ⊎ (IsFieldDesc desc → ⊥)

abbrev pub IsNoMethod : Number → (name desc : List ℕ) → Option Frame → (some : Bool) → Type 0
IsNoMethod flags name desc frame some =
    (fits 16 flags ≡ false) ⊎ IsNoText name ⊎ IsNoText desc ⊎ (IsMethodText desc → ⊥) ⊎ HasNoRoom flags desc ⊎ IsNoFrame (has_code flags) frame
    ⊎ IsEmpty flags some

-- an entry of an exception table that cannot be written in a method with code or without
abbrev pub IsNoTry : (code : Bool) → (labels : List ℕ → Option ℕ) → (start end handler : List ℕ) → (catch : Option (List ℕ)) → Type 0
IsNoTry code labels start end handler catch = (code ≡ false) ⊎ IsNoRange (labels start) (labels end) (labels handler) ⊎ IsNoCatch catch

-- an item that cannot be written by itself or at its place: code tells whether its method has code, labels where the labels of
-- that stand, pc where the next instruction begins, and some whether an instruction stands behind it before the next method
abbrev pub IsNoItemAt : (code : Bool) → (labels : List ℕ → Option ℕ) → (pc : ℕ) → (some : Bool) → Item → Type 0
IsNoItemAt code labels pc some (Field flags name desc) = IsNoField flags name desc
IsNoItemAt code labels pc some (Method flags name desc frame) = IsNoMethod flags name desc frame some
IsNoItemAt code labels pc some Initializer = ⊥
IsNoItemAt code labels pc some (Try start end handler catch) = IsNoTry code labels start end handler catch
IsNoItemAt code labels pc some (Instruction label opcode operand) = (code ≡ false) ⊎ IsNoInstruction labels pc opcode operand

-- whether there is an instruction
abbrev pub is_some_of : List Labelled → Bool
is_some_of [] = false
is_some_of (i ∷ is) = true

-- the item of this place of a class
abbrev pub IsNoItem : Listed → ℕ → Item → Type 0
IsNoItem c k item =
    IsNoItemAt (body_has_code (method_before c k)) (labels_at c k) (pc_at c k) (is_some_of (instructions_from c (k + 1))) item

-- the item that begins a class cannot be written: its flags or its names do not fit, or its name is that of an array
abbrev pub IsNoHead : Head → Type 0
IsNoHead head = (fits 16 head.flags ≡ false) ⊎ IsNoText head.name ⊎ IsNoText head.superclass ⊎ (slice_index head.name 0 ≡ 91)

-- the items of a class up to one bring too many entries, members, ranges or bytes of code
abbrev pub IsTooMuch : Head → List Item → Type 0
IsTooMuch head items =
    (255 < length (pool_strings items)) ⊎ (65534 < entries head items)
    ⊎ (65535 < length (fields items)) ⊎ (65535 < length (methods items))
    ⊎ (65535 < length (body_ranges (last_of (methods items)))) ⊎ (65535 < code_size (body_instructions (last_of (methods items))))

-- the item with this number among those of its class cannot be written; number 0 has the item that begins the class
pub data CannotBeWritten (c : Listed) : ℕ → Type 0 where
  head : IsNoHead c.head → CannotBeWritten c 0
  item : (k : ℕ) (i : Item) → slice_get c.items k ≡ Some i → IsNoItem c k i → CannotBeWritten c (k + 1)
  too_much : (k : ℕ) → IsTooMuch c.head (before c k) → CannotBeWritten c k

-- the number of the first item of a listing that cannot be written
pub record IsFirstUnwritable (c : Listed) (number : ℕ) : Type 0 where
  pub k : ℕ
  pub number_is : number ≡ c.number + k
  pub unwritable : CannotBeWritten c k
  pub first : (j : ℕ) → j < k → CannotBeWritten c j → ⊥

-- each item can be written
abbrev pub IsWritable : Listed → Type 0
IsWritable c = (k : ℕ) → CannotBeWritten c k → ⊥

-- an error is the first item that cannot be written, or want of memory
abbrev pub IsCause : Listed → MakeFault → Type 0
IsCause c (faults.BadListing n) = IsFirstUnwritable c n
IsCause c faults.Memory = Unit {0}

-- an answer that is no error, unless memory ran out
abbrev pub Passes : {X : Type 0} → Result X MakeFault → Type 0
Passes (Ok x) = Unit {0}
Passes (Err (faults.BadListing n)) = ⊥
Passes (Err faults.Memory) = Unit {0}

-- an answer that the item with this number is the first that cannot be written, unless memory ran out
abbrev pub Refuses : {X : Type 0} → ℕ → Result X MakeFault → Type 0
Refuses n (Ok x) = ⊥
Refuses n (Err (faults.BadListing m)) = m ≡ n
Refuses n (Err faults.Memory) = Unit {0}
