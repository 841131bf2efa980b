-- Class files of the first form (JVM specification, 4.1 to 4.7.3): what they are, how they are spelled, and which method they hold.
use Rattle.std.specs.Prelude.{◌≡◌, ◌≢◌, ℕ, ◌+◌, ◌^◌, ◌<◌, ◌≤◌, List, [], ◌∷◌, ◌++◌, length, codes, bit_and, nat_eq, Some, false}
use Rattle.std.specs.List.{flat_map, starts_with}
use Rattle.std.specs.Int.{w16, w32, to_be_bytes}
use Rattle.ja_base.specs.AccessFlags.{acc_interface, acc_abstract}
use Rattle.ja_class.specs.Pool.{PoolEntry, Utf8, Class, String, Methodref, NameAndType, entry_at, IsClassNamed, IsPool}
use Rattle.ja_class.specs.Instruction.{Instruction, bytes_of, IsCodeFrom}
use Rattle.ja_class.specs.Runnable.{IsRunnable}
use Rattle.ja_class.specs.declared.first.FirstMethod.{FirstMethod}
use Rattle.ja_base.specs.Tag as pool_tag

-- a Code attribute without exception table and attributes (4.7.3)
pub record CodeAttribute : Type 0 where
  pub attribute_name_index : ℕ
  pub max_stack : ℕ
  pub max_locals : ℕ
  pub code : List ℕ

-- a method whose flags are those of `public static`, and whose one attribute is its code (4.6)
pub record MethodInfo : Type 0 where
  pub name_index : ℕ
  pub descriptor_index : ℕ
  pub code : CodeAttribute

-- a class file without interfaces, fields and class attributes, and with one method (4.1)
pub record ClassFile : Type 0 where
  pub minor_version : ℕ
  pub major_version : ℕ
  pub constant_pool : List PoolEntry
  pub access_flags : ℕ
  pub this_class : ℕ
  pub super_class : ℕ
  pub method : MethodInfo

-- a number in two bytes, the high one first
abbrev pub u2 : ℕ → List ℕ
u2 n = to_be_bytes w16 n

-- a number in four bytes, the highest first
abbrev pub u4 : ℕ → List ℕ
u4 n = to_be_bytes w32 n

-- the bytes of an entry of the pool: its tag, and what it holds
abbrev pub entry_bytes : PoolEntry → List ℕ
entry_bytes (Utf8 text) = pool_tag.utf8 ∷ u2 (length text) ++ text
entry_bytes (Class name) = pool_tag.class ∷ u2 name
entry_bytes (String text) = pool_tag.string ∷ u2 text
entry_bytes (Methodref class name_and_type) = pool_tag.method ∷ u2 class ++ u2 name_and_type
entry_bytes (NameAndType name descriptor) = pool_tag.name_and_type ∷ u2 name ++ u2 descriptor

-- the content of a Code attribute: the frame, the code, no exception entry and no attribute
abbrev pub code_content : CodeAttribute → List ℕ
code_content a = u2 a.max_stack ++ (u2 a.max_locals ++ (u4 (length a.code) ++ (a.code ++ (u2 0 ++ u2 0))))

-- the bytes of a Code attribute: the index of its name, the length of its content, and the content
abbrev pub attribute_bytes : CodeAttribute → List ℕ
attribute_bytes a = u2 a.attribute_name_index ++ (u4 (length (code_content a)) ++ code_content a)

-- the bytes of a method: its flags, its name, its descriptor, and one attribute
abbrev pub method_bytes : MethodInfo → List ℕ
method_bytes m = u2 0x0009 ++ (u2 m.name_index ++ (u2 m.descriptor_index ++ (u2 1 ++ attribute_bytes m.code)))

-- the bytes of a class file: the magic number, the version, the pool, the class, no interface, no field, one method, and no attribute
abbrev pub spelling : ClassFile → List ℕ
spelling c =
    u4 0xcafebabe ++ (u2 c.minor_version ++ (u2 c.major_version
    ++ (u2 (length c.constant_pool + 1) ++ (flat_map entry_bytes c.constant_pool
    ++ (u2 c.access_flags ++ (u2 c.this_class ++ (u2 c.super_class
    ++ (u2 0 ++ (u2 0 ++ (u2 1 ++ (method_bytes c.method ++ u2 0)))))))))))

-- the class file is in the first form, and this is its method
pub record HoldsMethod (c : ClassFile) (m : FirstMethod) : Type 0 where
  pub minor : c.minor_version < 2 ^ 16
  pub major : (45 ≤ c.major_version) × (c.major_version ≤ 52)
  pub pool : IsPool c.constant_pool
  pub flags : c.access_flags < 2 ^ 16
  pub not_interface : bit_and c.access_flags acc_interface ≡ 0
  pub not_abstract : bit_and c.access_flags acc_abstract ≡ 0
  -- `this_class` names a class that is no array, not of the platform, and not that of source and sink
  pub class_name : IsClassNamed c.constant_pool c.this_class m.class
  pub not_array : starts_with nat_eq m.class (codes "[") ≡ false
  pub not_platform : starts_with nat_eq m.class (codes "java/") ≡ false
  pub not_taint : m.class ≢ codes "demo/Taint"
  pub super_name : IsClassNamed c.constant_pool c.super_class (codes "java/lang/Object")
  pub method_name : entry_at c.constant_pool c.method.name_index ≡ Some (Utf8 (codes "main"))
  pub method_descriptor : entry_at c.constant_pool c.method.descriptor_index ≡ Some (Utf8 (codes "([Ljava/lang/String;)V"))
  pub attribute_name : entry_at c.constant_pool c.method.code.attribute_name_index ≡ Some (Utf8 (codes "Code"))
  -- the code is instructions one after another, from the offset 0
  pub code_length : length c.method.code.code < 2 ^ 16
  pub instructions : List Instruction
  pub spelled : c.method.code.code ≡ flat_map bytes_of instructions
  pub code : IsCodeFrom c.constant_pool 0 instructions m.code
  pub stack : m.stack ≡ c.method.code.max_stack
  pub locals : m.locals ≡ c.method.code.max_locals
  pub runnable : IsRunnable m
  -- the file's name is not in the class file
  pub file : m.file ≡ []

-- the bytes, all of them, are a class file of the first form whose method is m
pub record IsFirstForm (bytes : List ℕ) (m : FirstMethod) : Type 0 where
  pub class_file : ClassFile
  pub method : HoldsMethod class_file m
  pub whole : bytes ≡ spelling class_file
