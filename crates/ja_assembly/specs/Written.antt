-- What the class file of a listed class is to say (JVM specification 4.1, 4.5, 4.6, 4.7.3), and the order of its pool.
use Rattle.std.specs.Prelude.{◌≡◌, ℕ, ◌+◌, Bool, true, false, List, [], ◌∷◌, codes, slice_get, Option, Some, None}
use Rattle.ja_base.specs.Tag as pool_tag
use Rattle.ja_code.specs.declared.form.Form.{Form}
use Rattle.ja_code.specs.declared.form.Form.TheVariants as forms
use Rattle.ja_code.specs.declared.instr.RawInstr.{RawInstr}
use Rattle.ja_code.specs.declared.handler.RawHandler.{RawHandler}
use Rattle.ja_code.specs.declared.code.Code.{Code}
use Rattle.ja_code.specs.Opcode.{form_at}
use Rattle.ja_pool.specs.Entry.{Entry}
use Rattle.ja_pool.specs.Table.{Table, IsAt, tag_at, text_at, first_at, class_name_at, member_class_at, member_name_at, member_desc_at}
use Rattle.ja_attributes.specs.declared.code.MethodCode.{MethodCode}
use Rattle.ja_attributes.specs.Attribute.{AttributeInfo, IsCode}
use Rattle.ja_class.specs.Meaning.{ClassSpelled}
use Rattle.ja_class.specs.ClassFile.{MemberInfo, ClassFile, pool_of, spelling, Says}
use Rattle.ja_listing.specs.declared.number.Number.{Number}
use Rattle.ja_listing.specs.declared.item.MemberName.{MemberName}
use Rattle.ja_listing.specs.declared.item.Head.{Head}
use Rattle.ja_listing.specs.declared.item.Frame.{Frame}
use Rattle.ja_listing.specs.declared.item.Operand.{Operand}
use Rattle.ja_listing.specs.declared.item.Operand.TheVariants.{Nothing, Constant, LocalAndConstant, Label, Quotation, ClassName, FieldName, MethodName, ArrayName}
use Rattle.ja_listing.specs.Number.{has_code}
use Rattle.ja_listing.specs.Listed.{Listed}
use Rattle.ja_assembly.specs.Members.{unsigned, Member, Labelled, Range, Body, items_of_class, fields, methods, size_of_opcode, place_of_label}
use Rattle.ja_assembly.specs.Wanted.{method_tag, pool_strings}

-- the entry at an index is a class of this name
pub record NamesClass (table : Table) (i : ℕ) (name : List ℕ) : Type 0 where
  pub tag : tag_at table i ≡ pool_tag.class
  pub name_is : class_name_at table i ≡ name

-- the entry at an index is a string with this text
pub record NamesText (table : Table) (i : ℕ) (text : List ℕ) : Type 0 where
  pub tag : tag_at table i ≡ pool_tag.string
  pub text_is : text_at table (first_at table i) ≡ text

-- the entry at an index has this tag and names this member
pub record NamesMember (table : Table) (tag i : ℕ) (member : MemberName) : Type 0 where
  pub tag_is : tag_at table i ≡ tag
  pub class_is : member_class_at table i ≡ member.class
  pub name_is : member_name_at table i ≡ member.name
  pub desc_is : member_desc_at table i ≡ member.desc

-- the unsigned number that stands for a constant: one in two's complement where it has a sign
abbrev pub constant_of : Option Form → Number → ℕ
constant_of (Some forms.Byte) n = unsigned 8 n
constant_of (Some forms.Short) n = unsigned 16 n
constant_of _ n = n.size

-- the operands of a written instruction say what the listed one does, where labels tells where the labels stand
abbrev pub SaysOperand : Table → (List ℕ → Option ℕ) → Option Form → Operand → List ℕ → Type 0
SaysOperand table labels form Nothing values = values ≡ []
SaysOperand table labels form (Constant n) values = values ≡ constant_of form n ∷ []
SaysOperand table labels form (LocalAndConstant local change) values = values ≡ local.size ∷ unsigned 8 change ∷ []
SaysOperand table labels form (Label name) values = (place : ℕ) × (labels name ≡ Some place) × (values ≡ place ∷ [])
SaysOperand table labels form (Quotation text) values = (i : ℕ) × NamesText table i text × (values ≡ i ∷ [])
SaysOperand table labels form (ClassName name) values = (i : ℕ) × NamesClass table i name × (values ≡ i ∷ [])
SaysOperand table labels form (FieldName member) values = (i : ℕ) × NamesMember table pool_tag.field i member × (values ≡ i ∷ [])
SaysOperand table labels form (MethodName member) values = (i : ℕ) × NamesMember table (method_tag form) i member × (values ≡ i ∷ [])
SaysOperand table labels form (ArrayName name dimensions) values = (i : ℕ) × NamesClass table i name × (values ≡ i ∷ dimensions.size ∷ [])

-- from pc on, the instructions of a decoded code are the listed ones, in order
abbrev pub SayInstructions : Table → (List ℕ → Option ℕ) → ℕ → List Labelled → List RawInstr → Type 0
SayInstructions table labels pc [] [] = Unit {0}
SayInstructions table labels pc [] (raw ∷ raws) = ⊥
SayInstructions table labels pc (i ∷ is) [] = ⊥
SayInstructions table labels pc (i ∷ is) (raw ∷ raws) =
    (raw.pc ≡ pc) × (raw.opcode ≡ i.opcode) × (raw.wide ≡ false) × SaysOperand table labels (form_at i.opcode) i.operand raw.operands
    × SayInstructions table labels (pc + size_of_opcode i.opcode) is raws

-- what an entry of an exception table catches
abbrev pub SaysCatch : Table → Option (List ℕ) → ℕ → Type 0
SaysCatch table None i = i ≡ 0
SaysCatch table (Some name) i = NamesClass table i name

-- the entries of an exception table are the listed ones, in order
abbrev pub SayRanges : Table → (List ℕ → Option ℕ) → List Range → List RawHandler → Type 0
SayRanges table labels [] [] = Unit {0}
SayRanges table labels [] (row ∷ rows) = ⊥
SayRanges table labels (r ∷ rs) [] = ⊥
SayRanges table labels (r ∷ rs) (row ∷ rows) =
    (labels r.start ≡ Some row.start) × (labels r.end ≡ Some row.end) × (labels r.handler ≡ Some row.handler) × SaysCatch table r.catch row.catch_type
    × SayRanges table labels rs rows

-- a decoded code, its greatest stack and its number of locals are those of a listed method
pub record SaysCode (table : Table) (body : Body) (frame : Frame) (stack locals : ℕ) (code : Code) : Type 0 where
  pub stack_is : frame.stack.size ≡ stack
  pub locals_is : frame.locals.size ≡ locals
  pub instructions_are : SayInstructions table (place_of_label 0 body.instructions) 0 body.instructions code.instrs
  pub ranges_are : SayRanges table (place_of_label 0 body.instructions) body.ranges code.handlers

-- what a class file says of itself: its flags, and the indices of its name and of its superclass
pub record SaysHead (table : Table) (head : Head) (flags this super : ℕ) : Type 0 where
  pub flags_are : head.flags.size ≡ flags
  pub this_is : NamesClass table this head.name
  pub super_is : NamesClass table super head.superclass

-- what it says of a field or a method: its flags, and the indices of its name and of its descriptor
pub record SaysMember (table : Table) (member : Member) (flags name desc : ℕ) : Type 0 where
  pub flags_are : member.flags.size ≡ flags
  pub name_tag : tag_at table name ≡ pool_tag.utf8
  pub name_is : text_at table name ≡ member.name
  pub desc_tag : tag_at table desc ≡ pool_tag.utf8
  pub desc_is : text_at table desc ≡ member.desc

-- ---- the whole class file

-- fields of a class file, without attributes, are the listed ones, in order
abbrev pub SayFields : Table → List Member → List MemberInfo → Type 0
SayFields table [] [] = Unit {0}
SayFields table [] (info ∷ infos) = ⊥
SayFields table (m ∷ ms) [] = ⊥
SayFields table (m ∷ ms) (info ∷ infos) =
    SaysMember table m info.access_flags info.name_index info.descriptor_index × (info.attributes ≡ []) × SayFields table ms infos

-- the one attribute of a method with code: it has no attributes itself, and its code is the listed one
pub record SaysAttribute (table : Table) (body : Body) (frame : Frame) (a : AttributeInfo) : Type 0 where
  pub name_is : text_at table a.attribute_name_index ≡ codes "Code"
  pub spelled : MethodCode
  pub code : IsCode table a.info spelled
  pub bare : code.attribute.attributes ≡ []
  pub says : SaysCode table body frame spelled.max_stack spelled.max_locals spelled.code

-- the attributes of a method: that of its code where it has code by its flags, and else none
abbrev pub SayAttributes : Table → Body → Option Frame → Bool → List AttributeInfo → Type 0
SayAttributes table body frame false attributes = attributes ≡ []
SayAttributes table body None true attributes = ⊥
SayAttributes table body (Some frame) true [] = ⊥
SayAttributes table body (Some frame) true (a ∷ []) = SaysAttribute table body frame a
SayAttributes table body (Some frame) true (a ∷ b ∷ attributes) = ⊥

-- the methods of a class file are the listed ones, in order
abbrev pub SayMethods : Table → List Body → List MemberInfo → Type 0
SayMethods table [] [] = Unit {0}
SayMethods table [] (info ∷ infos) = ⊥
SayMethods table (b ∷ bs) [] = ⊥
SayMethods table (b ∷ bs) (info ∷ infos) =
    SaysMember table b.member info.access_flags info.name_index info.descriptor_index
    × SayAttributes table b b.frame (has_code b.member.flags) info.attributes × SayMethods table bs infos

-- The order of a pool: each entry stands once, and first come the strings that `ldc` loads, in the order of their first use.
pub record IsOrdered (table : Table) (strings : List (List ℕ)) : Type 0 where
  pub once : (i j : ℕ) (entry : Entry) → IsAt table i entry → IsAt table j entry → i ≡ j
  pub first : (i : ℕ) (bytes : List ℕ) → slice_get strings i ≡ Some bytes → NamesText table (i + 1) bytes

-- a class file of version 52.0 that says what a listed class says, and no more
pub record SaysListed (c : Listed) (file : ClassFile) : Type 0 where
  pub minor : file.minor_version ≡ 0
  pub major : file.major_version ≡ 52
  pub head : SaysHead (pool_of file) c.head file.access_flags file.this_class file.super_class
  pub interfaces : file.interfaces ≡ []
  pub fields_are : SayFields (pool_of file) (fields (items_of_class c)) file.fields
  pub methods_are : SayMethods (pool_of file) (methods (items_of_class c)) file.methods
  pub attributes : file.attributes ≡ []
  pub order : IsOrdered (pool_of file) (pool_strings (items_of_class c))

-- bytes are the class file of a listed class: one of the profile, which says what is listed
pub record IsWritten (c : Listed) (bytes : List ℕ) : Type 0 where
  pub file : ClassFile
  pub class : ClassSpelled
  pub says : Says file class
  pub whole : bytes ≡ spelling file
  pub listed : SaysListed c file
