-- The constant pool as a table, and what its indices name.
use Rattle.std.specs.Prelude.{◌≡◌, ℕ, ◌+◌, Bool, List, [], ◌∷◌, length, slice_index_or, take, map, not, Option, Some, None, ◌==◌, if◌then◌else◌}
use Rattle.std.specs.List.{find, flat_map, take_while}
use Rattle.ja_base.specs.Tag as pool_tag
use Rattle.ja_base.specs.Descriptor.{is_one_of}
use Rattle.ja_pool.specs.Entry.{Entry, utf8, number, wide, single, pair, handle, tag_of, spelling}

-- an entry, and the place of its tag in the file
pub record Placed : Type 0 where
  pub place : ℕ
  pub entry : Entry

-- the entries by index; nothing stands at index 0, and behind a Long or Double
abbrev pub Table : Type 0
Table = List (Option Placed)

-- nothing stands at the index behind a Long or Double
abbrev pub pad : Entry → Table → Table
pad (utf8 bytes) table = table
pad (number tag bits) table = table
pad (wide tag bits) table = None ∷ table
pad (single tag index) table = table
pad (pair tag first second) table = table
pad (handle kind index) table = table

-- the entries that stand one after another from a place on
abbrev pub entries_from : ℕ → List Entry → Table
entries_from place [] = []
entries_from place (e ∷ es) = Some (record { place = place; entry = e }) ∷ pad e (entries_from (place + length (spelling e)) es)

-- ---- what stands at an index

abbrev pub entry_tag : Option Placed → ℕ
entry_tag None = 0
entry_tag (Some p) = tag_of p.entry

-- the tags by index, 0 where nothing stands
abbrev pub tags_of : Table → List ℕ
tags_of table = map entry_tag table

-- the tag at an index, 0 where nothing stands
abbrev pub tag_at : Table → ℕ → ℕ
tag_at table i = slice_index_or (tags_of table) i 0

abbrev pub entry_place : Option Placed → ℕ
entry_place None = 0
entry_place (Some p) = p.place

-- the place of the entry at an index
abbrev pub place_at : Table → ℕ → ℕ
place_at table i = entry_place (slice_index_or table i None)

abbrev pub text_in : Entry → List ℕ
text_in (utf8 bytes) = bytes
text_in (number tag bits) = []
text_in (wide tag bits) = []
text_in (single tag index) = []
text_in (pair tag first second) = []
text_in (handle kind index) = []

abbrev pub entry_text : Option Placed → List ℕ
entry_text None = []
entry_text (Some p) = text_in p.entry

-- the text at an index
abbrev pub text_at : Table → ℕ → List ℕ
text_at table i = entry_text (slice_index_or table i None)

abbrev pub first_in : Entry → ℕ
first_in (utf8 bytes) = 0
first_in (number tag bits) = 0
first_in (wide tag bits) = 0
first_in (single tag index) = index
first_in (pair tag first second) = first
first_in (handle kind index) = index

abbrev pub second_in : Entry → ℕ
second_in (utf8 bytes) = 0
second_in (number tag bits) = 0
second_in (wide tag bits) = 0
second_in (single tag index) = 0
second_in (pair tag first second) = second
second_in (handle kind index) = 0

abbrev pub entry_first : Option Placed → ℕ
entry_first None = 0
entry_first (Some p) = first_in p.entry

abbrev pub entry_second : Option Placed → ℕ
entry_second None = 0
entry_second (Some p) = second_in p.entry

-- the index that an entry names, or its first
abbrev pub first_at : Table → ℕ → ℕ
first_at table i = entry_first (slice_index_or table i None)

-- the second index that an entry names
abbrev pub second_at : Table → ℕ → ℕ
second_at table i = entry_second (slice_index_or table i None)

-- the name of the class at an index
abbrev pub class_name_at : Table → ℕ → List ℕ
class_name_at table i = text_at table (first_at table i)

abbrev pub is_bracket : ℕ → Bool
is_bracket b = b == 91

-- the brackets with which a text begins, at most 255
abbrev pub brackets_of : List ℕ → ℕ
brackets_of text = length (take_while is_bracket (take 255 text))

abbrev pub dims_in : Table → Option Placed → ℕ
dims_in table entry = if entry_tag entry == pool_tag.class then brackets_of (text_at table (entry_first entry)) else 0

-- by index, the brackets with which the name of a class begins, and 0 at what is no class
abbrev pub dims_of : Table → List ℕ
dims_of table = map (dims_in table) table

-- ---- index fields

-- an index field: its place in the file, the index, and the tag that must stand there, if it is not any
pub record IndexField : Type 0 where
  pub place : ℕ
  pub index : ℕ
  pub wants : Option ℕ

-- the tag stands at the index, or any does
abbrev pub is_wanted : Option ℕ → ℕ → Bool
is_wanted None tag = not (tag == 0)
is_wanted (Some wanted) tag = tag == wanted

abbrev pub is_wrong : List ℕ → IndexField → Bool
is_wrong tags f = not (is_wanted f.wants (slice_index_or tags f.index 0))

-- the index fields of two indices behind the tag: a class and a name with its type; a name and a type; or, behind two
-- bytes of any value, a name with its type
abbrev pub pair_fields : (place tag first second : ℕ) → List IndexField
pair_fields place tag first second =
    if tag == pool_tag.name_and_type then record { place = place + 1; index = first; wants = Some pool_tag.utf8 } ∷ record { place = place + 3; index = second; wants = Some pool_tag.utf8 } ∷ []
    else if tag == pool_tag.invoke_dynamic then record { place = place + 3; index = second; wants = Some pool_tag.name_and_type } ∷ []
    else record { place = place + 1; index = first; wants = Some pool_tag.class } ∷ record { place = place + 3; index = second; wants = Some pool_tag.name_and_type } ∷ []

-- the index fields of an entry, in their order
abbrev pub fields_in : ℕ → Entry → List IndexField
fields_in place (utf8 bytes) = []
fields_in place (number tag bits) = []
fields_in place (wide tag bits) = []
fields_in place (single tag index) = record { place = place + 1; index = index; wants = Some pool_tag.utf8 } ∷ []
fields_in place (pair tag first second) = pair_fields place tag first second
fields_in place (handle kind index) = record { place = place + 2; index = index; wants = None } ∷ []

abbrev pub entry_fields : Option Placed → List IndexField
entry_fields None = []
entry_fields (Some p) = fields_in p.place p.entry

-- the first index field, in the order of the entries, that names no entry of the kind that it must name
abbrev pub first_wrong : List ℕ → Table → Option IndexField
first_wrong tags table = find (is_wrong tags) (flat_map entry_fields table)

-- ---- members and constants

-- the names of a member: its class, and in its name and type the name and the descriptor
abbrev pub member_class_at : Table → ℕ → List ℕ
member_class_at table i = class_name_at table (first_at table i)

abbrev pub member_name_at : Table → ℕ → List ℕ
member_name_at table i = text_at table (first_at table (second_at table i))

abbrev pub member_desc_at : Table → ℕ → List ℕ
member_desc_at table i = text_at table (second_at table (second_at table i))

-- the entry at an index is this one
abbrev pub IsAt : Table → ℕ → Entry → Type 0
IsAt table i e = (place : ℕ) × (slice_index_or table i None ≡ Some (record { place = place; entry = e }))

-- a constant whose tag is one of Integer, Float, Long, Double, Class and String
abbrev pub is_constant_tag : ℕ → Bool
is_constant_tag = is_one_of (pool_tag.integer ∷ pool_tag.float ∷ pool_tag.long ∷ pool_tag.double ∷ pool_tag.class ∷ pool_tag.string ∷ [])

-- a field, a method or a method of an interface
abbrev pub is_member_tag : ℕ → Bool
is_member_tag = is_one_of (pool_tag.field ∷ pool_tag.method ∷ pool_tag.interface_method ∷ [])
