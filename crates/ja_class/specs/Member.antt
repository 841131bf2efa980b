-- What the indices of a class file must name, and the descriptors that it must hold (JVM specification 4.1, 4.3, 4.4.2).
use Rattle.std.specs.Prelude.{◌≡◌, ℕ, ◌+◌, ◌≤◌, Bool, IsTrue, List, [], ◌∷◌, codes, bytes_eq, ◌==◌, ◌&&◌, ◌||◌, if◌then◌else◌, false, Option, bit_and}
use Rattle.ja_base.specs.Tag as pool_tag
use Rattle.ja_base.specs.AccessFlags.{acc_static}
use Rattle.ja_base.specs.declared.java_type.JavaType.{JavaType}
use Rattle.ja_base.specs.Descriptor.{is_one_of, IsMethod, words_of_all}
use Rattle.ja_bytes.specs.DescriptorText.{IsFieldDesc, IsMethodText}
use Rattle.ja_pool.specs.Table.{Table, Placed, entry_tag, entry_second, text_at, second_at, tag_at}

-- the tags of a text, a class, and the references to fields and methods (table 4.4-A)
abbrev pub utf8_tag : ℕ
utf8_tag = pool_tag.utf8

abbrev pub class_tag : ℕ
class_tag = pool_tag.class

abbrev pub field_tag : ℕ
field_tag = pool_tag.field

abbrev pub is_method_tag : ℕ → Bool
is_method_tag = is_one_of (pool_tag.method ∷ pool_tag.interface_method ∷ [])

-- the text of the descriptor of a reference to a field or a method
abbrev pub entry_desc : Table → Option Placed → List ℕ
entry_desc table entry = text_at table (second_at table (entry_second entry))

-- where an entry refers to a field, its descriptor is that of a field, and where it refers to a method, that of a method
pub record HasDescriptor (table : Table) (entry : Option Placed) : Type 0 where
  pub field : entry_tag entry ≡ field_tag → IsFieldDesc (entry_desc table entry)
  pub method : IsTrue (is_method_tag (entry_tag entry)) → IsMethodText (entry_desc table entry)

-- the name begins with '[', as those of array classes do
abbrev pub is_array : List ℕ → Bool
is_array [] = false
is_array (b ∷ bytes) = b == 91

-- the index is that of a class, or it is 0 and this is the name of the one class without a superclass
abbrev pub is_super : Table → (name : List ℕ) → ℕ → Bool
is_super table name i = tag_at table i == class_tag || (i == 0 && bytes_eq name (codes "java/lang/Object"))

-- the words of the receiver of a method with these flags: a static method has none (table 4.6-A)
abbrev pub receiver_words : ℕ → ℕ
receiver_words flags = if bit_and flags acc_static == 0 then 1 else 0

-- the text is the descriptor of a method with these flags: its parameters, with the receiver, take at most 255 words
pub record IsMethodDesc (flags : ℕ) (text : List ℕ) : Type 0 where
  pub params : List JavaType
  pub result : Option JavaType
  pub method : IsMethod text params result
  pub words : words_of_all params + receiver_words flags ≤ 255
