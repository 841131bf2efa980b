-- How the pool is held: what stands at each index, and the bytes of the texts. Only private functions speak of it.
use Rattle.std.specs.Prelude.{ℕ, ◌+◌, ◌≤◌, List, [], ◌∷◌, length, take, drop, map, All, IsTrue, Option, Some, None, option_map}
use Rattle.std.specs.List.{find}
use Rattle.ja_base.specs.Tag as pool_tag
use Rattle.ja_pool.specs.declared.slot.Form.{Form}
use Rattle.ja_pool.specs.declared.slot.Form.TheVariants.{Unusable, Utf8, Number, Wide, Single, Pair, Handle}
use Rattle.ja_pool.specs.declared.slot.Slot.{Slot}
use Rattle.ja_pool.specs.Entry.{Entry, utf8, number, wide, single, pair, handle, spelling, is_number_tag, is_wide_tag, is_single_tag, is_pair_tag}
use Rattle.ja_pool.specs.Table.{Placed, IndexField, entry_fields, is_wrong}

abbrev pub form_tag : Form → ℕ
form_tag Unusable = 0
form_tag (Utf8 from len) = pool_tag.utf8
form_tag (Number tag bits) = tag
form_tag (Wide tag bits) = tag
form_tag (Single tag index) = tag
form_tag (Pair tag first second) = tag
form_tag (Handle kind index) = pool_tag.method_handle

-- what stands at an index, where these are the pool's bytes
abbrev pub seen_form : List ℕ → ℕ → Form → Option Placed
seen_form bytes place Unusable = None
seen_form bytes place (Utf8 from len) = Some (record { place = place; entry = utf8 (take len (drop from bytes)) })
seen_form bytes place (Number tag bits) = Some (record { place = place; entry = number tag bits })
seen_form bytes place (Wide tag bits) = Some (record { place = place; entry = wide tag bits })
seen_form bytes place (Single tag index) = Some (record { place = place; entry = single tag index })
seen_form bytes place (Pair tag first second) = Some (record { place = place; entry = pair tag first second })
seen_form bytes place (Handle kind index) = Some (record { place = place; entry = handle kind index })

abbrev pub seen : List ℕ → Slot → Option Placed
seen bytes slot = seen_form bytes slot.place slot.form

-- the form that holds an entry, which begins this many bytes behind the first of the pool's bytes
abbrev pub form_of : ℕ → Entry → Form
form_of offset (utf8 bytes) = Utf8 (offset + 3) (length bytes)
form_of offset (number tag bits) = Number tag bits
form_of offset (wide tag bits) = Wide tag bits
form_of offset (single tag index) = Single tag index
form_of offset (pair tag first second) = Pair tag first second
form_of offset (handle kind index) = Handle kind index

abbrev pub slot_of : ℕ → ℕ → Entry → Slot
slot_of base offset e = record { place = base + offset; form = form_of offset e }

-- an index at which nothing stands
abbrev pub nothing : Slot
nothing = record { place = 0; form = Unusable }

abbrev pub pad_slots : Entry → List Slot → List Slot
pad_slots (utf8 bytes) slots = slots
pad_slots (number tag bits) slots = slots
pad_slots (wide tag bits) slots = nothing ∷ slots
pad_slots (single tag index) slots = slots
pad_slots (pair tag first second) slots = slots
pad_slots (handle kind index) slots = slots

-- the slots of entries that stand one after another
abbrev pub slots_from : (base offset : ℕ) → List Entry → List Slot
slots_from base offset [] = []
slots_from base offset (e ∷ es) = slot_of base offset e ∷ pad_slots e (slots_from base (offset + length (spelling e)) es)

-- what stands behind the slot of an entry, by its form
abbrev pub form_pad : Form → List Slot
form_pad Unusable = []
form_pad (Utf8 from len) = []
form_pad (Number tag bits) = []
form_pad (Wide tag bits) = nothing ∷ []
form_pad (Single tag index) = []
form_pad (Pair tag first second) = []
form_pad (Handle kind index) = []

-- the tags by index
abbrev pub slot_tags : List Slot → List ℕ
slot_tags slots = map (λ slot. form_tag slot.form) slots

-- the index fields of what stands at an index
abbrev pub slot_fields : Slot → List IndexField
slot_fields slot = entry_fields (seen [] slot)

-- the place of the first wrong index field
abbrev pub wrong_place : List ℕ → List IndexField → Option ℕ
wrong_place tags fields = option_map (λ field. field.place) (find (is_wrong tags) fields)

-- the indices that a form holds
abbrev pub form_first : Form → ℕ
form_first Unusable = 0
form_first (Utf8 from len) = 0
form_first (Number tag bits) = 0
form_first (Wide tag bits) = 0
form_first (Single tag index) = index
form_first (Pair tag first second) = first
form_first (Handle kind index) = index

abbrev pub form_second : Form → ℕ
form_second Unusable = 0
form_second (Utf8 from len) = 0
form_second (Number tag bits) = 0
form_second (Wide tag bits) = 0
form_second (Single tag index) = 0
form_second (Pair tag first second) = second
form_second (Handle kind index) = 0

-- where the text of a form ends among the pool's bytes
abbrev pub text_end : Form → ℕ
text_end Unusable = 0
text_end (Utf8 from len) = from + len
text_end (Number tag bits) = 0
text_end (Wide tag bits) = 0
text_end (Single tag index) = 0
text_end (Pair tag first second) = 0
text_end (Handle kind index) = 0

-- each text is among the pool's bytes
abbrev pub AreInside : List ℕ → List Slot → Type 0
AreInside bytes slots = All (λ slot. text_end slot.form ≤ length bytes) slots

-- the tag of a form is one of its own
abbrev pub IsTagged : Form → Type 0
IsTagged Unusable = Unit {0}
IsTagged (Utf8 from len) = Unit {0}
IsTagged (Number tag bits) = IsTrue (is_number_tag tag)
IsTagged (Wide tag bits) = IsTrue (is_wide_tag tag)
IsTagged (Single tag index) = IsTrue (is_single_tag tag)
IsTagged (Pair tag first second) = IsTrue (is_pair_tag tag)
IsTagged (Handle kind index) = Unit {0}

-- each tag is one of its form
abbrev pub AreTagged : List Slot → Type 0
AreTagged slots = All (λ slot. IsTagged slot.form) slots
