-- What a class file says of its class.
use Rattle.std.specs.Prelude.{ℕ, Bool, false, List, codes, bytes_eq, bit_and, Option, Some, None, ◌==◌, ◌&&◌, if◌then◌else◌}
use Rattle.ja_base.specs.Tag as pool_tag
use Rattle.ja_base.specs.AccessFlags.{acc_native, acc_abstract}
use Rattle.ja_pool.specs.Table.{Table, tag_at, text_at, class_name_at}
use Rattle.ja_ir.specs.Lookup.{is_static}
use Rattle.ja_ir.specs.declared.head.HeadField.{HeadField}
use Rattle.ja_ir.specs.declared.head.HeadMethod.{HeadMethod}
use Rattle.ja_ir.specs.declared.head.ClassHead.{ClassHead}
use Rattle.ja_attributes.specs.declared.code.MethodCode.{MethodCode}
use Rattle.ja_class.specs.declared.class.ClassMethod.{ClassMethod}

-- a class: what its file says of it apart from code, its constant pool, and its methods in their order
pub record ClassSpelled : Type 0 where
  pub head : ClassHead
  pub pool : Table
  pub methods : List ClassMethod

-- a method has code, where it is neither abstract nor native (table 4.6-A)
abbrev pub needs_code : ℕ → Bool
needs_code flags = bit_and flags acc_abstract == 0 && bit_and flags acc_native == 0

-- the constant is a String
abbrev pub is_string : Table → Option ℕ → Bool
is_string table None = false
is_string table (Some index) = tag_at table index == pool_tag.string

-- the constant of a field is the text with which it begins: the field is a static one of type String (4.7.2)
abbrev pub begins_as_text : Table → (flags : ℕ) → (desc : List ℕ) → (constant : Option ℕ) → Bool
begins_as_text table flags desc constant = is_static flags && (bytes_eq desc (codes "Ljava/lang/String;") && is_string table constant)

-- a field with these flags, whose name and descriptor are at these indices
abbrev pub field_said : Table → (flags name descriptor : ℕ) → (constant : Option ℕ) → HeadField
field_said table flags name descriptor constant =
    record { name = text_at table name; desc = text_at table descriptor; flags = flags; text = begins_as_text table flags (text_at table descriptor) constant }

-- a method with these flags, whose name and descriptor are at these indices
abbrev pub method_said : Table → (flags name descriptor : ℕ) → HeadMethod
method_said table flags name descriptor = record { name = text_at table name; desc = text_at table descriptor; flags = flags }

-- the code of a method; without code the frame's sizes are 0
abbrev pub code_said : Option MethodCode → ClassMethod
code_said None = record { code = None; max_stack = 0; max_locals = 0 }
code_said (Some m) = record { code = Some m.code; max_stack = m.max_stack; max_locals = m.max_locals }

-- the superclass, if the index names one
abbrev pub super_said : Table → ℕ → Option (List ℕ)
super_said table index = if index == 0 then None else Some (class_name_at table index)
