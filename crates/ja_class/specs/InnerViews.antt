-- What the reader's values stand for.
use Rattle.std.specs.Prelude.{List, map}
use Rattle.ja_class.specs.Pool.{PoolEntry}
use Rattle.ja_class.specs.FirstForm as form
use Rattle.ja_class.specs.declared.first.layout.ClassFile.{ClassFile}
use Rattle.ja_class.specs.declared.first.layout.MethodInfo.{MethodInfo}
use Rattle.ja_class.specs.declared.first.layout.CodeAttribute.{CodeAttribute}
use Rattle.ja_class.specs.Pool as pool
use Rattle.ja_class.specs.declared.first.constant.Constant.{Constant}
use Rattle.ja_class.specs.declared.first.constant.Constant.TheVariants.{Utf8, Class, String, Methodref, NameAndType}

-- an entry without where it lies in memory
abbrev pub entry_view : Constant → PoolEntry
entry_view (Utf8 text) = pool.Utf8 text.now
entry_view (Class name) = pool.Class name
entry_view (String text) = pool.String text
entry_view (Methodref class name_and_type) = pool.Methodref class name_and_type
entry_view (NameAndType name descriptor) = pool.NameAndType name descriptor

-- the entries of a pool
abbrev pub entries : List Constant → List PoolEntry
entries constants = map entry_view constants

abbrev pub code_view : CodeAttribute → form.CodeAttribute
code_view a = record { attribute_name_index = a.name_index; max_stack = a.max_stack; max_locals = a.max_locals; code = a.code.now }

abbrev pub method_view : MethodInfo → form.MethodInfo
method_view m = record { name_index = m.name_index; descriptor_index = m.descriptor_index; code = code_view m.code }

abbrev pub file_view : ClassFile → form.ClassFile
file_view c = record { minor_version = c.minor_version; major_version = c.major_version; constant_pool = entries c.pool.items; access_flags = c.access_flags; this_class = c.this_class; super_class = c.super_class; method = method_view c.method }
