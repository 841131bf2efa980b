-- The first fault of bytes that are no class file of the profile: the parts of a class file in their order, and the checks
-- of each in theirs (JVM specification 4.1 to 4.7). Each part says what it means, for the part behind it.
use Rattle.std.specs.Prelude.{◌≡◌, ℕ, ⊤, not, List, [], ◌∷◌, ◌++◌, length, nat_le, ◌==◌, ◌&&◌, Option}
use Rattle.ja_bytes.specs.DescriptorText.{IsFieldDesc}
use Rattle.ja_pool.specs.Table.{Table, Placed, entry_place, tag_at, text_at, class_name_at}
use Rattle.ja_pool.specs.Pool.{PassesPool, IsFirstFault}
use Rattle.ja_attributes.specs.Part.{Part, value, here, check, at_end, u2, u4, ◌>>=◌, times, fold, renamed}
use Rattle.ja_attributes.specs.declared.code.MethodCode.{MethodCode}
use Rattle.ja_attributes.specs.Attribute.{PassesAny, PassesField, PassesMethod}
use Rattle.ja_attributes.specs.Faults.{IsAnyFault, IsFieldFault, IsMethodFault}
use Rattle.ja_ir.specs.declared.head.HeadField.{HeadField}
use Rattle.ja_class.specs.declared.head.ClassNames.{ClassNames}
use Rattle.ja_class.specs.declared.member.Front.{Front}
use Rattle.ja_class.specs.declared.method.OneMethod.{OneMethod}
use Rattle.ja_class.specs.declared.method.MethodLists.{MethodLists}
use Rattle.ja_class.specs.declared.fault.ClassFault.{ClassFault}
use Rattle.ja_class.specs.declared.fault.ClassFault.TheVariants.{End, BadMagic, BadVersion, BadIndex, BadDesc, Trailing}
use Rattle.ja_class.specs.Faults.{pool_fault, outside_fault, method_fault}
use Rattle.ja_class.specs.Member.{utf8_tag, class_tag, HasDescriptor, is_array, is_super, IsMethodDesc}
use Rattle.ja_class.specs.Meaning.{ClassSpelled, needs_code, field_said, method_said, code_said, super_said}

-- a statement that must hold, or else this is the fault
abbrev pub demand : Type 0 → ClassFault → Part ClassFault ⊤
demand holds wrong = record { passes = λ old _ new. holds × (new ≡ old); fault = λ old f. (holds → ⊥) × (f ≡ wrong) }

-- ---- magic number and version (4.1)

abbrev pub magic : Part ClassFault ⊤
magic = do
  number ← u4 End
  check (number == 0xcafebabe) BadMagic

abbrev pub version : Part ClassFault ⊤
version = do
  _ ← u2 End
  major ← u2 End
  check (nat_le 45 major && nat_le major 52) (BadVersion major)

-- ---- the constant pool (4.4), and the descriptors in it in the order of the entries (4.4.2)

abbrev pub pool : Part ClassFault Table
pool = renamed pool_fault (record { passes = λ old table new. PassesPool old new table; fault = IsFirstFault })

abbrev pub descriptors : Table → List (Option Placed) → Part ClassFault ⊤
descriptors table [] = value tt
descriptors table (entry ∷ entries) = do
  _ ← demand (HasDescriptor table entry) (BadDesc (entry_place entry))
  descriptors table entries

-- ---- indices

-- the index of an entry of the pool that has this tag
abbrev pub index : Table → ℕ → Part ClassFault ℕ
index table tag = do
  at ← here
  i ← u2 End
  _ ← check (tag_at table i == tag) (BadIndex at)
  value i

-- ---- the class, its superclass and its interfaces (4.1)

-- the index of a class that is no array
abbrev pub this_class : Table → Part ClassFault ℕ
this_class table = do
  at ← here
  i ← index table class_tag
  _ ← check (not (is_array (class_name_at table i))) (BadIndex at)
  value i

-- the index of a class, or 0 for that of this name
abbrev pub super_class : Table → List ℕ → Part ClassFault ℕ
super_class table name = do
  at ← here
  i ← u2 End
  _ ← check (is_super table name i) (BadIndex at)
  value i

-- so many of a part, behind their number
abbrev pub counted : {A : Type 0} → Part ClassFault A → Part ClassFault (List A)
counted part = do
  count ← u2 End
  times count part

-- the name of the class at an index
abbrev pub interface : Table → Part ClassFault (List ℕ)
interface table = do
  i ← index table class_tag
  value (class_name_at table i)

abbrev pub interfaces : Table → Part ClassFault (List (List ℕ))
interfaces table = counted (interface table)

-- flags, class, superclass and interfaces
abbrev pub names : Table → Part ClassFault ClassNames
names table = do
  flags ← u2 End
  this ← this_class table
  above ← super_class table (class_name_at table this)
  direct ← interfaces table
  value (record { flags = flags; name = class_name_at table this; superclass = super_said table above; interfaces = direct })

-- ---- fields and methods (4.5, 4.6)

-- what stands before the attributes of a field or a method
abbrev pub front : Table → Part ClassFault Front
front table = do
  flags ← u2 End
  name ← index table utf8_tag
  place ← here
  descriptor ← index table utf8_tag
  value (record { flags = flags; name = name; descriptor = descriptor; place = place })

-- the front of a field, and of a method
abbrev pub field_front : Table → Part ClassFault Front
field_front table = do
  f ← front table
  _ ← demand (IsFieldDesc (text_at table f.descriptor)) (BadDesc f.place)
  value f

abbrev pub method_front : Table → Part ClassFault Front
method_front table = do
  f ← front table
  _ ← demand (IsMethodDesc f.flags (text_at table f.descriptor)) (BadDesc f.place)
  value f

-- what the attributes of a field say: the constant with which it begins
abbrev pub field_attributes : Table → Part ClassFault (Option ℕ)
field_attributes table = renamed outside_fault (record { passes = λ old constant new. PassesField table old new constant; fault = IsFieldFault table })

abbrev pub field : Table → Part ClassFault HeadField
field table = do
  f ← field_front table
  constant ← field_attributes table
  value (field_said table f.flags f.name f.descriptor constant)

abbrev pub fields : Table → Part ClassFault (List HeadField)
fields table = counted (field table)

-- what the attributes of the method with a number say, whose flags stand at a place: its code
abbrev pub method_attributes : Table → (number flags at : ℕ) → Part ClassFault (Option MethodCode)
method_attributes table number flags at =
    renamed (method_fault number) (record { passes = λ old code new. PassesMethod table (needs_code flags) old new code; fault = IsMethodFault table (needs_code flags) at })

-- the method with a number
abbrev pub method : Table → ℕ → Part ClassFault OneMethod
method table number = do
  at ← here
  f ← method_front table
  code ← method_attributes table number f.flags at
  value (record { head = method_said table f.flags f.name f.descriptor; body = code_said code })

-- one more method
abbrev pub next_method : Table → MethodLists → Part ClassFault MethodLists
next_method table before = do
  m ← method table (length before.heads)
  value (record { heads = before.heads ++ m.head ∷ []; bodies = before.bodies ++ m.body ∷ [] })

abbrev pub methods : Table → Part ClassFault MethodLists
methods table = do
  count ← u2 End
  fold (next_method table) count (record { heads = []; bodies = [] })

-- ---- the class file (4.1)

-- attributes of the class, which are passed over unread (4.7)
abbrev pub class_attributes : Table → Part ClassFault ⊤
class_attributes table = renamed outside_fault (record { passes = λ old _ new. PassesAny table old new; fault = IsAnyFault table })

-- magic number, version and constant pool
abbrev pub start : Part ClassFault Table
start = do
  _ ← magic
  _ ← version
  table ← pool
  _ ← descriptors table table
  value table

-- the class, its fields and its methods
abbrev pub members : Table → Part ClassFault ClassSpelled
members table = do
  n ← names table
  fs ← fields table
  ms ← methods table
  value (record {
    head = record { name = n.name; superclass = n.superclass; interfaces = n.interfaces; flags = n.flags; fields = fs; methods = ms.heads };
    pool = table;
    methods = ms.bodies;
  })

-- the attributes of the class, and the end of the file
abbrev pub ending : Table → Part ClassFault ⊤
ending table = do
  _ ← class_attributes table
  at_end Trailing

-- what stands behind the constant pool
abbrev pub body : Table → Part ClassFault ClassSpelled
body table = do
  class ← members table
  _ ← ending table
  value class

abbrev pub class_file : Part ClassFault ClassSpelled
class_file = do
  table ← start
  body table

-- the first fault of bytes
abbrev pub IsFault : List ℕ → ClassFault → Type 0
IsFault bytes fault = class_file.fault (record { place = 0; rest = bytes }) fault
