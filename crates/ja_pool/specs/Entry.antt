-- The entries of a constant pool, and how each is spelled (JVM specification 4.4).
use Rattle.std.specs.Prelude.{ℕ, ◌<◌, ◌^◌, Bool, IsTrue, List, [], ◌∷◌, ◌++◌, length}
use Rattle.std.specs.Int.{w16, w32, w64, to_be_bytes}
use Rattle.ja_base.specs.Tag as pool_tag
use Rattle.ja_base.specs.Descriptor.{is_one_of}
use Rattle.ja_bytes.specs.Text.{IsModifiedUtf8}

-- an entry: a text; a number of four or of eight bytes; one index; two of two bytes each; a method handle
pub data Entry : Type 0 where
  utf8 : (bytes : List ℕ) → Entry
  number : (tag bits : ℕ) → Entry
  wide : (tag bits : ℕ) → Entry
  single : (tag index : ℕ) → Entry
  pair : (tag first second : ℕ) → Entry
  handle : (kind index : ℕ) → Entry

-- Integer, Float
abbrev pub is_number_tag : ℕ → Bool
is_number_tag = is_one_of (pool_tag.integer ∷ pool_tag.float ∷ [])

-- Long, Double
abbrev pub is_wide_tag : ℕ → Bool
is_wide_tag = is_one_of (pool_tag.long ∷ pool_tag.double ∷ [])

-- Class, String, MethodType
abbrev pub is_single_tag : ℕ → Bool
is_single_tag = is_one_of (pool_tag.class ∷ pool_tag.string ∷ pool_tag.method_type ∷ [])

-- Fieldref, Methodref, InterfaceMethodref, NameAndType, InvokeDynamic
abbrev pub is_pair_tag : ℕ → Bool
is_pair_tag = is_one_of (pool_tag.field ∷ pool_tag.method ∷ pool_tag.interface_method ∷ pool_tag.name_and_type ∷ pool_tag.invoke_dynamic ∷ [])

-- the tag of an entry
abbrev pub tag_of : Entry → ℕ
tag_of (utf8 bytes) = pool_tag.utf8
tag_of (number tag bits) = tag
tag_of (wide tag bits) = tag
tag_of (single tag index) = tag
tag_of (pair tag first second) = tag
tag_of (handle kind index) = pool_tag.method_handle

-- the bytes of an entry behind its tag
abbrev pub payload : Entry → List ℕ
payload (utf8 bytes) = to_be_bytes w16 (length bytes) ++ bytes
payload (number tag bits) = to_be_bytes w32 bits
payload (wide tag bits) = to_be_bytes w64 bits
payload (single tag index) = to_be_bytes w16 index
payload (pair tag first second) = to_be_bytes w16 first ++ to_be_bytes w16 second
payload (handle kind index) = kind ∷ to_be_bytes w16 index

-- the bytes of an entry
abbrev pub spelling : Entry → List ℕ
spelling e = tag_of e ∷ payload e

-- what has a spelling: a tag of its form, a text that is modified UTF-8, and numbers that fit their fields
abbrev pub IsEntry : Entry → Type 0
IsEntry (utf8 bytes) = (length bytes < 2 ^ 16) × IsModifiedUtf8 bytes
IsEntry (number tag bits) = IsTrue (is_number_tag tag) × (bits < 2 ^ 32)
IsEntry (wide tag bits) = IsTrue (is_wide_tag tag) × (bits < 2 ^ 64)
IsEntry (single tag index) = IsTrue (is_single_tag tag) × (index < 2 ^ 16)
IsEntry (pair tag first second) = IsTrue (is_pair_tag tag) × (first < 2 ^ 16) × (second < 2 ^ 16)
IsEntry (handle kind index) = (kind < 2 ^ 8) × (index < 2 ^ 16)
