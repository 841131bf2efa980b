-- The class file that is written of a listed class, part by part (JVM specification 4.1 to 4.7).
use Rattle.std.specs.Prelude.{ℕ, ◌+◌, ◌-◌, ◌%◌, ◌^◌, List, [], ◌∷◌, ◌++◌, length, map, codes, bytes_eq, Option, Some, None}
use Rattle.std.specs.Int.{w16, w32, to_be_bytes}
use Rattle.std.specs.List.{position}
use Rattle.ja_code.specs.declared.form.Form.{Form}
use Rattle.ja_code.specs.declared.form.Form.TheVariants as forms
use Rattle.ja_code.specs.declared.handler.RawHandler.{RawHandler}
use Rattle.ja_code.specs.Opcode.{form_at}
use Rattle.ja_pool.specs.Entry.{Entry, utf8, single, pair}
use Rattle.ja_attributes.specs.Attribute.{AttributeInfo, CodeAttribute, code_bytes}
use Rattle.ja_class.specs.ClassFile.{MemberInfo, ClassFile}
use Rattle.ja_listing.specs.declared.number.Number.{Number}
use Rattle.ja_listing.specs.declared.item.MemberName.{MemberName}
use Rattle.ja_listing.specs.declared.item.Frame.{Frame}
use Rattle.ja_listing.specs.declared.item.Operand.{Operand}
use Rattle.ja_listing.specs.declared.item.Operand.TheVariants.{Nothing, Constant, LocalAndConstant, Label, Quotation, ClassName, FieldName, MethodName, ArrayName}
use Rattle.ja_listing.specs.Listed.{Listed}
use Rattle.ja_assembly.specs.declared.key.Key.{Key}
use Rattle.ja_assembly.specs.declared.key.Key.TheVariants as keys
use Rattle.ja_assembly.specs.Members.{unsigned, Member, Labelled, Range, Body, items_of_class, fields, methods, size_of_opcode, place_of_label}
use Rattle.ja_assembly.specs.Wanted.{same_key, method_tag, pool_strings, pool_keys}
use Rattle.ja_assembly.specs.Arguments.{argument_words}
use Rattle.ja_base.specs.Tag as pool_tag

-- ---- the constant pool (4.4): first the strings, from index 1 on, and then the other entries

-- the strings of a pool, and its other entries
pub record Pool : Type 0 where
  pub strings : List (List ℕ)
  pub keys : List Key

-- the index of an entry at a place of a list whose first entry has this index; 0 for one that is not there
abbrev pub index_from : ℕ → Option ℕ → ℕ
index_from first None = 0
index_from first (Some place) = first + place

-- the index of a string, and of another entry
abbrev pub string_index : Pool → List ℕ → ℕ
string_index pool text = index_from 1 (position (bytes_eq text) pool.strings)

abbrev pub key_index : Pool → Key → ℕ
key_index pool key = index_from (length pool.strings + 1) (position (same_key key) pool.keys)

abbrev pub text_index : Pool → List ℕ → ℕ
text_index pool text = key_index pool (keys.Text text)

abbrev pub class_index : Pool → List ℕ → ℕ
class_index pool name = key_index pool (keys.Class name)

abbrev pub member_index : Pool → ℕ → MemberName → ℕ
member_index pool tag m = key_index pool (keys.Member tag m.class m.name m.desc)

-- the entries
abbrev pub string_entry : Pool → List ℕ → Entry
string_entry pool text = single pool_tag.string (text_index pool text)

abbrev pub key_entry : Pool → Key → Entry
key_entry pool (keys.Text text) = utf8 text
key_entry pool (keys.Class name) = single pool_tag.class (text_index pool name)
key_entry pool (keys.NameAndType name desc) = pair pool_tag.name_and_type (text_index pool name) (text_index pool desc)
key_entry pool (keys.Member tag class name desc) = pair tag (class_index pool class) (key_index pool (keys.NameAndType name desc))

abbrev pub entries_of : Pool → List Entry
entries_of pool = map (string_entry pool) pool.strings ++ map (key_entry pool) pool.keys

-- ---- instructions (6.5)

-- one byte, two bytes and four bytes, the highest first
abbrev pub u1 : ℕ → List ℕ
u1 n = n % 256 ∷ []

abbrev pub u2 : ℕ → List ℕ
u2 n = to_be_bytes w16 n

abbrev pub u4 : ℕ → List ℕ
u4 n = to_be_bytes w32 n

-- the place of a label, where it has one
abbrev pub place_or_0 : Option ℕ → ℕ
place_or_0 None = 0
place_or_0 (Some place) = place

-- the offset from one place of the code to another, in two's complement of so many bits
abbrev pub offset : (bits from to : ℕ) → ℕ
offset bits from to = (2 ^ bits + to % 2 ^ bits - from % 2 ^ bits) % 2 ^ bits

-- a constant, by the form of its opcode
abbrev pub constant_bytes : Option Form → Number → List ℕ
constant_bytes (Some forms.Byte) n = u1 (unsigned 8 n)
constant_bytes (Some forms.Short) n = u2 (unsigned 16 n)
constant_bytes _ n = u1 n.size

-- the offset of a branch from pc to a place
abbrev pub branch_bytes : Option Form → (pc place : ℕ) → List ℕ
branch_bytes (Some forms.Branch) pc place = u2 (offset 16 pc place)
branch_bytes _ pc place = u4 (offset 32 pc place)

-- the two last bytes of a call of a method of an interface: the words of its arguments, and 0
abbrev pub padding_bytes : Option Form → (desc : List ℕ) → List ℕ
padding_bytes (Some forms.Interface) desc = u1 (argument_words desc) ++ 0 ∷ []
padding_bytes _ desc = []

-- the bytes of an operand, of an instruction at pc in a method whose labels stand there
abbrev pub operand_bytes : Pool → (List ℕ → Option ℕ) → ℕ → Option Form → Operand → List ℕ
operand_bytes pool labels pc form Nothing = []
operand_bytes pool labels pc form (Constant n) = constant_bytes form n
operand_bytes pool labels pc form (LocalAndConstant local change) = u1 local.size ++ u1 (unsigned 8 change)
operand_bytes pool labels pc form (Label name) = branch_bytes form pc (place_or_0 (labels name))
operand_bytes pool labels pc form (Quotation text) = u1 (string_index pool text)
operand_bytes pool labels pc form (ClassName name) = u2 (class_index pool name)
operand_bytes pool labels pc form (FieldName m) = u2 (member_index pool pool_tag.field m)
operand_bytes pool labels pc form (MethodName m) = u2 (member_index pool (method_tag form) m) ++ padding_bytes form m.desc
operand_bytes pool labels pc form (ArrayName name dimensions) = u2 (class_index pool name) ++ u1 dimensions.size

-- the bytes of instructions, the first of them at pc
abbrev pub instruction_bytes : Pool → (List ℕ → Option ℕ) → ℕ → List Labelled → List ℕ
instruction_bytes pool labels pc [] = []
instruction_bytes pool labels pc (i ∷ is) =
    i.opcode ∷ (operand_bytes pool labels pc (form_at i.opcode) i.operand ++ instruction_bytes pool labels (pc + size_of_opcode i.opcode) is)

-- ---- fields and methods (4.5, 4.6, 4.7.3)

-- the index of what is caught, 0 for anything
abbrev pub catch_index : Pool → Option (List ℕ) → ℕ
catch_index pool None = 0
catch_index pool (Some name) = class_index pool name

-- an entry of the exception table
abbrev pub row_of : Pool → (List ℕ → Option ℕ) → Range → RawHandler
row_of pool labels r =
    record {
      start = place_or_0 (labels r.start);
      end = place_or_0 (labels r.end);
      handler = place_or_0 (labels r.handler);
      catch_type = catch_index pool r.catch;
    }

-- the code of a method with these instructions and this exception table
abbrev pub code_of : Pool → List Labelled → List Range → Frame → CodeAttribute
code_of pool is rs frame =
    record {
      max_stack = frame.stack.size;
      max_locals = frame.locals.size;
      code = instruction_bytes pool (place_of_label 0 is) 0 is;
      exception_table = map (row_of pool (place_of_label 0 is)) rs;
      attributes = [];
    }

-- the attribute of a code with these instructions and this exception table, where there is a frame
abbrev pub attributes_of : Pool → List Labelled → List Range → Option Frame → List AttributeInfo
attributes_of pool is rs None = []
attributes_of pool is rs (Some frame) = record { attribute_name_index = text_index pool (codes "Code"); info = code_bytes (code_of pool is rs frame) } ∷ []

-- a field or a method with these attributes
abbrev pub member_info : Pool → Member → List AttributeInfo → MemberInfo
member_info pool m attributes =
    record { access_flags = m.flags.size; name_index = text_index pool m.name; descriptor_index = text_index pool m.desc; attributes = attributes }

abbrev pub field_info : Pool → Member → MemberInfo
field_info pool m = member_info pool m []

abbrev pub method_info : Pool → Body → MemberInfo
method_info pool body = member_info pool body.member (attributes_of pool body.instructions body.ranges body.frame)

-- ---- the class file (4.1)

-- the pool of a listed class
abbrev pub pool_for : Listed → Pool
pool_for c = record { strings = pool_strings (items_of_class c); keys = pool_keys c.head (items_of_class c) }

-- the class file of a listed class, where this is its pool
abbrev pub file_in : Pool → Listed → ClassFile
file_in pool c =
    record {
      minor_version = 0;
      major_version = 52;
      constant_pool = entries_of pool;
      access_flags = c.head.flags.size;
      this_class = class_index pool c.head.name;
      super_class = class_index pool c.head.superclass;
      interfaces = [];
      fields = map (field_info pool) (fields (items_of_class c));
      methods = map (method_info pool) (methods (items_of_class c));
      attributes = [];
    }

-- the class file of a listed class
abbrev pub file_of : Listed → ClassFile
file_of c = file_in (pool_for c) c
