-- The steps of reading: an entry, the entries, the table behind the count. Only private functions speak of them.
use Rattle.std.specs.Prelude.{◌≡◌, ℕ, ◌+◌, ◌-◌, ◌<◌, ◌^◌, Bool, true, false, IsTrue, List, [], ◌∷◌, ◌++◌, length, ◌==◌, ◌⊎◌, Some, None}
use Rattle.std.specs.Int.{w16, to_be_bytes}
use Rattle.std.specs.List.{flat_map, AllByRecursion}
use Rattle.ja_base.specs.Tag as pool_tag
use Rattle.ja_bytes.specs.Reading.{Reading, Passes}
use Rattle.ja_bytes.specs.Text.{IsFirstWrong}
use Rattle.ja_pool.specs.declared.fault.PoolFault.{PoolFault}
use Rattle.ja_pool.specs.declared.fault.PoolFault.TheVariants.{End, BadTag, PoolWidth, BadText, BadIndex, Memory}
use Rattle.ja_pool.specs.declared.shape.Shape.{Shape}
use Rattle.ja_pool.specs.declared.shape.Shape.TheVariants.{Utf8, Number, Wide, Single, Pair, Handle}
use Rattle.ja_pool.specs.declared.slot.Form.{Form}
use Rattle.ja_pool.specs.declared.slot.Slot.{Slot}
use Rattle.ja_pool.specs.Entry.{Entry, is_number_tag, is_wide_tag, is_single_tag, is_pair_tag, tag_of, payload, spelling, IsEntry}
use Rattle.ja_pool.specs.Table.{Table, entries_from, tags_of, IndexField, first_wrong}
use Rattle.ja_pool.specs.Pool.{EndsInside, fields_behind, IsEntryFault}
use Rattle.ja_pool.specs.InnerSlot.{form_of, slot_of, nothing, pad_slots, slots_from}

-- the tag is one of this form
abbrev pub HasShape : ℕ → Shape → Type 0
HasShape tag Utf8 = tag ≡ pool_tag.utf8
HasShape tag Number = IsTrue (is_number_tag tag)
HasShape tag Wide = IsTrue (is_wide_tag tag)
HasShape tag Single = IsTrue (is_single_tag tag)
HasShape tag Pair = IsTrue (is_pair_tag tag)
HasShape tag Handle = tag ≡ pool_tag.method_handle

-- a reader passes what stands behind the tag of an entry, and holds it in this form
pub record ReadsPayload (old new : Reading) (tag base : ℕ) (form : Form) : Type 0 where
  pub entry : Entry
  pub is_entry : IsEntry entry
  pub tag_is : tag_of entry ≡ tag
  pub form_is : form ≡ form_of (old.place - base - 1) entry
  pub passes : Passes old new (payload entry)

-- the fault of the bytes, which begin at a place, behind a tag
abbrev pub IsPayloadFault : (place tag : ℕ) → List ℕ → PoolFault → Type 0
IsPayloadFault place tag bytes (End at) = EndsInside (fields_behind tag bytes) place bytes at
IsPayloadFault place tag bytes (BadTag at found) = ⊥
IsPayloadFault place tag bytes (PoolWidth at) = ⊥
IsPayloadFault place tag bytes (BadText at) =
    (tag ≡ pool_tag.utf8) × (text : List ℕ) × (more : List ℕ) × (wrong : ℕ) × (length text < 2 ^ 16) × (bytes ≡ to_be_bytes w16 (length text) ++ (text ++ more))
    × IsFirstWrong text wrong × (at ≡ place + 2 + wrong)
IsPayloadFault place tag bytes (BadIndex at) = ⊥
IsPayloadFault place tag bytes Memory = ⊥

-- a reader passes an entry, and holds it in this slot; an entry that takes two indices is not read where one is left
pub record ReadsEntry (old new : Reading) (base : ℕ) (last : Bool) (slot : Slot) : Type 0 where
  pub entry : Entry
  pub is_entry : IsEntry entry
  pub slot_is : slot ≡ slot_of base (old.place - base) entry
  pub passes : Passes old new (spelling entry)
  pub narrow : IsTrue last → pad_slots entry [] ≡ []

-- whether the entries of a form are numbers of eight bytes
abbrev pub is_wide_shape : Shape → Bool
is_wide_shape Utf8 = false
is_wide_shape Number = false
is_wide_shape Wide = true
is_wide_shape Single = false
is_wide_shape Pair = false
is_wide_shape Handle = false

-- a reader passes entries, which stand one after another, and holds them in these slots, the first of which is index 0
pub record ReadsEntries (old new : Reading) (slots : List Slot) : Type 0 where
  pub entries : List Entry
  pub each : AllByRecursion IsEntry entries
  pub parts : old.rest ≡ flat_map spelling entries ++ new.rest
  pub place : new.place ≡ old.place + length (flat_map spelling entries)
  pub slots_are : slots ≡ nothing ∷ slots_from old.place 0 entries

-- behind entries that have a spelling, of which there are too few for the count, the next has a fault
pub record StopsAtEntry (old : Reading) (count : ℕ) (fault : PoolFault) : Type 0 where
  pub at : Reading
  pub slots : List Slot
  pub reads : ReadsEntries old at slots
  pub left : length slots < count
  pub fault_is : IsEntryFault at.place (length slots + 1 == count) at.rest fault

-- the fault is want of memory, or it is such
abbrev pub OrMemory : (PoolFault → Type 0) → PoolFault → Type 0
OrMemory P (End at) = P (End at)
OrMemory P (BadTag at tag) = P (BadTag at tag)
OrMemory P (PoolWidth at) = P (PoolWidth at)
OrMemory P (BadText at) = P (BadText at)
OrMemory P (BadIndex at) = P (BadIndex at)
OrMemory P Memory = Unit {0}

-- a reader passes entries for the indices below the count, whose index fields are right
pub record ReadsTable (old new : Reading) (count : ℕ) (table : Table) : Type 0 where
  pub entries : List Entry
  pub each : AllByRecursion IsEntry entries
  pub parts : old.rest ≡ flat_map spelling entries ++ new.rest
  pub place : new.place ≡ old.place + length (flat_map spelling entries)
  pub table_is : table ≡ None ∷ entries_from old.place entries
  pub full : length table ≡ count
  pub right : first_wrong (tags_of table) table ≡ None

-- behind entries for the indices below the count, the first wrong index field
pub record StopsAtIndex (old : Reading) (count : ℕ) (fault : PoolFault) : Type 0 where
  pub entries : List Entry
  pub at : Reading
  pub each : AllByRecursion IsEntry entries
  pub parts : old.rest ≡ flat_map spelling entries ++ at.rest
  pub place : at.place ≡ old.place + length (flat_map spelling entries)
  pub table : Table
  pub table_is : table ≡ None ∷ entries_from old.place entries
  pub full : length table ≡ count
  pub field : IndexField
  pub wrong : first_wrong (tags_of table) table ≡ Some field
  pub fault_is : fault ≡ BadIndex field.place

-- the fault of what stands behind a count
abbrev pub IsFaultBehind : Reading → ℕ → PoolFault → Type 0
IsFaultBehind old count fault = StopsAtEntry old count fault ⊎ StopsAtIndex old count fault
