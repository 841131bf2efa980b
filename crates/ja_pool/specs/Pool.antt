-- The grammar of the constant pool (JVM specification 4.4), and the first fault of bytes that do not spell one.
use Rattle.std.specs.Prelude.{◌≡◌, ℕ, ◌+◌, ◌<◌, ◌≤◌, ◌^◌, ◌⊎◌, Bool, false, IsTrue, List, [], ◌∷◌, ◌++◌, length, take, drop, Some, None, ◌==◌, ◌||◌, if◌then◌else◌}
use Rattle.std.specs.Int.{w16, to_be_bytes, from_be_bytes}
use Rattle.std.specs.List.{flat_map, AllByRecursion}
use Rattle.ja_base.specs.Tag as pool_tag
use Rattle.ja_bytes.specs.Reading.{Reading}
use Rattle.ja_bytes.specs.Text.{IsFirstWrong}
use Rattle.ja_pool.specs.declared.fault.PoolFault.{PoolFault}
use Rattle.ja_pool.specs.declared.fault.PoolFault.TheVariants.{End, BadTag, PoolWidth, BadText, BadIndex, Memory}
use Rattle.ja_pool.specs.Entry.{Entry, is_number_tag, is_wide_tag, is_single_tag, is_pair_tag, spelling, IsEntry}
use Rattle.ja_pool.specs.Table.{Table, entries_from, tags_of, IndexField, first_wrong}

-- the table of entries behind the count, which stands at a place
abbrev pub table_of : ℕ → List Entry → Table
table_of place es = None ∷ entries_from (place + 2) es

-- a reader passes a count and these entries, each of which has a spelling
pub record PassesEntries (old new : Reading) (count : ℕ) (es : List Entry) : Type 0 where
  pub some : 1 ≤ count
  pub fits : count < 2 ^ 16
  pub each : AllByRecursion IsEntry es
  pub parts : old.rest ≡ to_be_bytes w16 count ++ (flat_map spelling es ++ new.rest)
  pub place : new.place ≡ old.place + 2 + length (flat_map spelling es)

-- a reader passes a constant pool: the count, entries for the indices below it, and every index field names an entry of
-- the kind that it must name
pub record PassesPool (old new : Reading) (table : Table) : Type 0 where
  pub entries : List Entry
  pub passes : PassesEntries old new (length table) entries
  pub is : table ≡ table_of old.place entries
  pub right : first_wrong (tags_of table) table ≡ None

-- ---- faults

-- a tag of some entry
abbrev pub is_tag : ℕ → Bool
is_tag tag = tag == pool_tag.utf8 || (is_number_tag tag || (is_wide_tag tag || (is_single_tag tag || (is_pair_tag tag || tag == pool_tag.method_handle))))

-- the lengths of the fields behind a tag, where these bytes stand behind it: a text's length is in its first field, and
-- the eight bytes of a Long or Double are one field
abbrev pub fields_behind : ℕ → List ℕ → List ℕ
fields_behind tag bytes =
    if tag == pool_tag.utf8 then 2 ∷ from_be_bytes w16 (take 2 bytes) ∷ []
    else if is_number_tag tag then 4 ∷ []
    else if is_wide_tag tag then 8 ∷ []
    else if is_single_tag tag then 2 ∷ []
    else if is_pair_tag tag then 2 ∷ 2 ∷ []
    else 1 ∷ 2 ∷ []

-- the bytes, which begin at a place, end inside the field of these lengths that begins at this place
abbrev pub EndsInside : List ℕ → ℕ → List ℕ → ℕ → Type 0
EndsInside [] place bytes at = ⊥
EndsInside (len ∷ lens) place bytes at = ((length bytes < len) × (at ≡ place)) ⊎ ((len ≤ length bytes) × EndsInside lens (place + len) (drop len bytes) at)

-- the fault of the bytes, which begin at a place, where an entry must stand; `last` says whether one index is left
abbrev pub IsEntryFault : (place : ℕ) (last : Bool) (bytes : List ℕ) → PoolFault → Type 0
IsEntryFault place last [] (End at) = at ≡ place
IsEntryFault place last [] (BadTag at tag) = ⊥
IsEntryFault place last [] (PoolWidth at) = ⊥
IsEntryFault place last [] (BadText at) = ⊥
IsEntryFault place last [] (BadIndex at) = ⊥
IsEntryFault place last [] Memory = ⊥
IsEntryFault place last (tag ∷ bytes) (End at) = IsTrue (is_tag tag) × (IsTrue last → is_wide_tag tag ≡ false) × EndsInside (fields_behind tag bytes) (place + 1) bytes at
IsEntryFault place last (tag ∷ bytes) (BadTag at found) = (at ≡ place) × (found ≡ tag) × (is_tag tag ≡ false)
IsEntryFault place last (tag ∷ bytes) (PoolWidth at) = (at ≡ place) × IsTrue last × IsTrue (is_wide_tag tag)
IsEntryFault place last (tag ∷ bytes) (BadText at) =
    (tag ≡ pool_tag.utf8) × (text : List ℕ) × (more : List ℕ) × (wrong : ℕ) × (length text < 2 ^ 16) × (bytes ≡ to_be_bytes w16 (length text) ++ (text ++ more))
    × IsFirstWrong text wrong × (at ≡ place + 3 + wrong)
IsEntryFault place last (tag ∷ bytes) (BadIndex at) = ⊥
IsEntryFault place last (tag ∷ bytes) Memory = ⊥

-- the count is cut off, or 0
abbrev pub IsCountFault : Reading → PoolFault → Type 0
IsCountFault old fault =
    ((length old.rest < 2) × (fault ≡ End old.place)) ⊎ ((more : List ℕ) × (old.rest ≡ 0 ∷ 0 ∷ more) × (fault ≡ BadIndex old.place))

-- behind entries that have a spelling, an index is left, and the entry that must stand there has a fault
pub record IsFaultInEntries (old : Reading) (fault : PoolFault) : Type 0 where
  pub count : ℕ
  pub entries : List Entry
  pub at : Reading
  pub passes : PassesEntries old at count entries
  pub left : length (table_of old.place entries) < count
  pub fault_is : IsEntryFault at.place (length (table_of old.place entries) + 1 == count) at.rest fault

-- all entries have a spelling, and the first wrong index field is at fault
pub record IsFaultInIndices (old : Reading) (fault : PoolFault) : Type 0 where
  pub count : ℕ
  pub entries : List Entry
  pub at : Reading
  pub passes : PassesEntries old at count entries
  pub full : length (table_of old.place entries) ≡ count
  pub field : IndexField
  pub wrong : first_wrong (tags_of (table_of old.place entries)) (table_of old.place entries) ≡ Some field
  pub fault_is : fault ≡ BadIndex field.place

-- the first fault of bytes that do not spell a pool: of the count, of the entries in their order, or of the index fields in
-- their order
abbrev pub IsFirstFault : Reading → PoolFault → Type 0
IsFirstFault old fault = IsCountFault old fault ⊎ IsFaultInEntries old fault ⊎ IsFaultInIndices old fault
