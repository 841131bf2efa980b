-- The constant pool of a class file of the first form (JVM specification, 4.4).
use Rattle.std.specs.Prelude.{◌≡◌, ℕ, zero, suc, ◌+◌, ◌^◌, ◌<◌, ◌≤◌, ◌⊎◌, List, [], ◌∷◌, length, slice_get, codes, Option, Some, None}
use Rattle.std.specs.List.{flat_map, AllByRecursion}

-- an entry: bytes of text, or indices of other entries
pub data PoolEntry : Type 0 where
  Utf8 : (text : List ℕ) → PoolEntry
  Class : (name : ℕ) → PoolEntry
  String : (text : ℕ) → PoolEntry
  Methodref : (class name_and_type : ℕ) → PoolEntry
  NameAndType : (name descriptor : ℕ) → PoolEntry

-- the entry with an index; the first has index 1
abbrev pub entry_at : List PoolEntry → ℕ → Option PoolEntry
entry_at pool zero = None
entry_at pool (suc i) = slice_get pool i

-- a byte of a character after the first
abbrev pub IsContinuation : ℕ → Type 0
IsContinuation b = (0x80 ≤ b) × (b ≤ 0xbf)

-- a character of modified UTF-8 (4.4.7): one, two or three bytes
abbrev pub IsCharacter : List ℕ → Type 0
IsCharacter [] = ⊥
IsCharacter (a ∷ []) = (0x01 ≤ a) × (a ≤ 0x7f)
IsCharacter (a ∷ b ∷ []) = (0xc0 ≤ a) × (a ≤ 0xdf) × IsContinuation b
IsCharacter (a ∷ b ∷ c ∷ []) = (0xe0 ≤ a) × (a ≤ 0xef) × IsContinuation b × IsContinuation c
IsCharacter (a ∷ b ∷ c ∷ d ∷ rest) = ⊥

-- characters, one after another
abbrev pub IsModifiedUtf8 : List ℕ → Type 0
IsModifiedUtf8 text = (characters : List (List ℕ)) × AllByRecursion IsCharacter characters × (text ≡ flat_map (λ c. c) characters)

-- the index is that of a text
abbrev pub IsText : List PoolEntry → ℕ → Type 0
IsText pool i = (text : List ℕ) × (entry_at pool i ≡ Some (Utf8 text))

-- the index is that of a class with this name (4.4.1)
pub record IsClassNamed (pool : List PoolEntry) (i : ℕ) (name : List ℕ) : Type 0 where
  pub name_index : ℕ
  pub entry : entry_at pool i ≡ Some (Class name_index)
  pub name_entry : entry_at pool name_index ≡ Some (Utf8 name)

-- the index is that of a name and a descriptor (4.4.6)
pub record IsNameAndType (pool : List PoolEntry) (i : ℕ) (name descriptor : List ℕ) : Type 0 where
  pub name_index : ℕ
  pub descriptor_index : ℕ
  pub entry : entry_at pool i ≡ Some (NameAndType name_index descriptor_index)
  pub name_entry : entry_at pool name_index ≡ Some (Utf8 name)
  pub descriptor_entry : entry_at pool descriptor_index ≡ Some (Utf8 descriptor)

-- a class's index and a name and type's index name this method of `demo/Taint`
abbrev pub IsTaintMethod : List PoolEntry → (class name_and_type : ℕ) → (name descriptor : List ℕ) → Type 0
IsTaintMethod pool class name_and_type name descriptor =
    IsClassNamed pool class (codes "demo/Taint") × IsNameAndType pool name_and_type name descriptor

-- they name `demo/Taint.source()`, which returns a text
abbrev pub IsSource : List PoolEntry → (class name_and_type : ℕ) → Type 0
IsSource pool class name_and_type = IsTaintMethod pool class name_and_type (codes "source") (codes "()Ljava/lang/String;")

-- they name `demo/Taint.sink`, which takes a text
abbrev pub IsSink : List PoolEntry → (class name_and_type : ℕ) → Type 0
IsSink pool class name_and_type = IsTaintMethod pool class name_and_type (codes "sink") (codes "(Ljava/lang/String;)V")

-- an entry that the first form allows in this pool, whether it is used or not: a text is well formed,
-- each index names an entry of the kind that it must, and each method is the source or the sink
abbrev pub IsEntryOf : List PoolEntry → PoolEntry → Type 0
IsEntryOf pool (Utf8 text) = (length text < 2 ^ 16) × IsModifiedUtf8 text
IsEntryOf pool (Class name) = IsText pool name
IsEntryOf pool (String text) = IsText pool text
IsEntryOf pool (Methodref class name_and_type) = IsSource pool class name_and_type ⊎ IsSink pool class name_and_type
IsEntryOf pool (NameAndType name descriptor) = IsText pool name × IsText pool descriptor

-- the entries of a pool of the first form, whose count fits its field
pub record IsPool (pool : List PoolEntry) : Type 0 where
  pub count : length pool + 1 < 2 ^ 16
  pub entries : AllByRecursion (IsEntryOf pool) pool
