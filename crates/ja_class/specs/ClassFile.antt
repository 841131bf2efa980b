-- Class files of the profile (JVM specification 4.1 to 4.7): what they are, how they are spelled, and what they say.
use Rattle.std.specs.Prelude.{◌≡◌, ℕ, ◌<◌, ◌≤◌, ◌^◌, false, IsTrue, List, [], ◌∷◌, ◌++◌, length, map, codes, Option, None}
use Rattle.std.specs.Int.{w16, w32, to_be_bytes}
use Rattle.std.specs.List.{flat_map, AllByRecursion}
use Rattle.ja_bytes.specs.DescriptorText.{IsFieldDesc}
use Rattle.ja_pool.specs.Entry.{Entry, IsEntry, spelling as entry_bytes}
use Rattle.ja_pool.specs.Table.{Table, tags_of, first_wrong, tag_at, text_at, class_name_at}
use Rattle.ja_pool.specs.Pool.{table_of}
use Rattle.ja_attributes.specs.Attribute.{AttributeInfo, attributes_bytes, IsAttribute, named, SayConstant, SayCode}
use Rattle.ja_attributes.specs.declared.code.MethodCode.{MethodCode}
use Rattle.ja_ir.specs.declared.head.HeadField.{HeadField}
use Rattle.ja_ir.specs.declared.head.HeadMethod.{HeadMethod}
use Rattle.ja_class.specs.declared.class.ClassMethod.{ClassMethod}
use Rattle.ja_class.specs.Member.{utf8_tag, class_tag, HasDescriptor, is_array, is_super, IsMethodDesc}
use Rattle.ja_class.specs.Meaning.{ClassSpelled, needs_code, field_said, method_said, code_said, super_said}

-- a field or a method (4.5, 4.6)
pub record MemberInfo : Type 0 where
  pub access_flags : ℕ
  pub name_index : ℕ
  pub descriptor_index : ℕ
  pub attributes : List AttributeInfo

-- a class file (4.1)
pub record ClassFile : Type 0 where
  pub minor_version : ℕ
  pub major_version : ℕ
  pub constant_pool : List Entry
  pub access_flags : ℕ
  pub this_class : ℕ
  pub super_class : ℕ
  pub interfaces : List ℕ
  pub fields : List MemberInfo
  pub methods : List MemberInfo
  pub attributes : List AttributeInfo

-- ---- the bytes

-- a number in two bytes, the high one first
abbrev pub u2 : ℕ → List ℕ
u2 n = to_be_bytes w16 n

-- a number in four bytes, the highest first
abbrev pub u4 : ℕ → List ℕ
u4 n = to_be_bytes w32 n

-- the bytes of a field or a method
abbrev pub member_bytes : MemberInfo → List ℕ
member_bytes m = u2 m.access_flags ++ (u2 m.name_index ++ (u2 m.descriptor_index ++ attributes_bytes m.attributes))

-- the constant pool by index (4.4); its count stands behind the magic number and the version
abbrev pub pool_of : ClassFile → Table
pool_of c = table_of 8 c.constant_pool

-- the bytes of a class file
abbrev pub spelling : ClassFile → List ℕ
spelling c =
    u4 0xcafebabe ++ (u2 c.minor_version ++ (u2 c.major_version
    ++ (u2 (length (pool_of c)) ++ (flat_map entry_bytes c.constant_pool
    ++ (u2 c.access_flags ++ (u2 c.this_class ++ (u2 c.super_class
    ++ (u2 (length c.interfaces) ++ (flat_map u2 c.interfaces
    ++ (u2 (length c.fields) ++ (flat_map member_bytes c.fields
    ++ (u2 (length c.methods) ++ (flat_map member_bytes c.methods
    ++ attributes_bytes c.attributes)))))))))))))

-- ---- what has a place in the profile

-- the constant pool: its entries are right, each index names an entry of its kind, and the descriptors are right (4.4)
pub record IsPool (c : ClassFile) : Type 0 where
  pub few : length (pool_of c) < 2 ^ 16
  pub entries : AllByRecursion IsEntry c.constant_pool
  pub indices : first_wrong (tags_of (pool_of c)) (pool_of c) ≡ None
  pub descriptors : AllByRecursion (HasDescriptor (pool_of c)) (pool_of c)

-- the index of an entry with this tag
pub record IsIndex (table : Table) (tag index : ℕ) : Type 0 where
  pub fits : index < 2 ^ 16
  pub names : tag_at table index ≡ tag

-- attributes whose names are texts of the pool (4.7)
pub record AreAttributes (table : Table) (attributes : List AttributeInfo) : Type 0 where
  pub few : length attributes < 2 ^ 16
  pub each : AllByRecursion (IsAttribute table) attributes

-- what fields and methods have in common
pub record IsMember (table : Table) (m : MemberInfo) : Type 0 where
  pub flags : m.access_flags < 2 ^ 16
  pub name : IsIndex table utf8_tag m.name_index
  pub descriptor : IsIndex table utf8_tag m.descriptor_index
  pub attributes : AreAttributes table m.attributes

-- a field, and what it says (4.5)
pub record IsFieldInfo (table : Table) (m : MemberInfo) (said : HeadField) : Type 0 where
  pub member : IsMember table m
  pub descriptor : IsFieldDesc (text_at table m.descriptor_index)
  pub constant : Option ℕ
  pub say : SayConstant table (named table (codes "ConstantValue") m.attributes) constant
  pub is : said ≡ field_said table m.access_flags m.name_index m.descriptor_index constant

-- a method, and what it says, with its code (4.6)
pub record IsMethodInfo (table : Table) (m : MemberInfo) (said : HeadMethod) (code : ClassMethod) : Type 0 where
  pub member : IsMember table m
  pub descriptor : IsMethodDesc m.access_flags (text_at table m.descriptor_index)
  pub found : Option MethodCode
  pub say : SayCode table (needs_code m.access_flags) (named table (codes "Code") m.attributes) found
  pub is : said ≡ method_said table m.access_flags m.name_index m.descriptor_index
  pub code_is : code ≡ code_said found

-- fields one after another, and what they say
abbrev pub AreFields : Table → List MemberInfo → List HeadField → Type 0
AreFields table [] [] = Unit {0}
AreFields table [] (f ∷ said) = ⊥
AreFields table (m ∷ members) [] = ⊥
AreFields table (m ∷ members) (f ∷ said) = IsFieldInfo table m f × AreFields table members said

-- methods one after another, and what they say
abbrev pub AreMethods : Table → List MemberInfo → List HeadMethod → List ClassMethod → Type 0
AreMethods table [] [] [] = Unit {0}
AreMethods table [] [] (b ∷ codes) = ⊥
AreMethods table [] (h ∷ said) codes = ⊥
AreMethods table (m ∷ members) [] codes = ⊥
AreMethods table (m ∷ members) (h ∷ said) [] = ⊥
AreMethods table (m ∷ members) (h ∷ said) (b ∷ codes) = IsMethodInfo table m h b × AreMethods table members said codes

-- a class file of the profile, and the class that it says
pub record Says (c : ClassFile) (class : ClassSpelled) : Type 0 where
  pub minor : c.minor_version < 2 ^ 16
  pub major : (45 ≤ c.major_version) × (c.major_version ≤ 52)
  pub pool : IsPool c
  pub flags : c.access_flags < 2 ^ 16
  pub this_class : IsIndex (pool_of c) class_tag c.this_class
  pub not_array : is_array (class_name_at (pool_of c) c.this_class) ≡ false
  pub super_fits : c.super_class < 2 ^ 16
  pub super_class : IsTrue (is_super (pool_of c) (class_name_at (pool_of c) c.this_class) c.super_class)
  pub few_interfaces : length c.interfaces < 2 ^ 16
  pub interfaces : AllByRecursion (IsIndex (pool_of c) class_tag) c.interfaces
  pub few_fields : length c.fields < 2 ^ 16
  pub fields : AreFields (pool_of c) c.fields class.head.fields
  pub few_methods : length c.methods < 2 ^ 16
  pub methods : AreMethods (pool_of c) c.methods class.head.methods class.methods
  pub attributes : AreAttributes (pool_of c) c.attributes
  -- the names that the class says are those that the indices name
  pub name_is : class.head.name ≡ class_name_at (pool_of c) c.this_class
  pub superclass_is : class.head.superclass ≡ super_said (pool_of c) c.super_class
  pub interfaces_are : class.head.interfaces ≡ map (class_name_at (pool_of c)) c.interfaces
  pub flags_are : class.head.flags ≡ c.access_flags
  pub pool_is : class.pool ≡ pool_of c

-- the bytes, all of them, are a class file of the profile that says this class
pub record IsClass (bytes : List ℕ) (class : ClassSpelled) : Type 0 where
  pub file : ClassFile
  pub says : Says file class
  pub whole : bytes ≡ spelling file

-- some bytes are a class file of the profile that says this class
pub record IsSpelled (class : ClassSpelled) : Type 0 where
  pub bytes : List ℕ
  pub is : IsClass bytes class
