-- Slots and the table that they hold.
use Rattle.std.proofs.Common.{◌≡◌, ℕ, zero, suc, ◌+◌, ◌<◌, ◌≤◌, Bool, true, List, [], ◌∷◌, ◌++◌, length, get_or, take, drop, map, Option, Some, None, refl, sym, ap, ◌∙◌, append_assoc, arith, length-append, cond}
use Rattle.std.specs.Prelude.{option_map, ◌==◌}
use Rattle.std.specs.Int.{w16, to_be_bytes}
use Rattle.std.specs.List.{flat_map, find, All, AllByRecursion}
use Rattle.std.proofs.lemmas.List.{take_at, drop_at}
use Rattle.std.proofs.lemmas.List.Elements.{All-from_recursion}
use Rattle.ja_pool.specs.declared.slot.Form.{Form}
use Rattle.ja_pool.specs.declared.slot.Form.TheVariants as forms
use Rattle.ja_pool.specs.declared.slot.Slot.{Slot}
use Rattle.ja_pool.specs.Entry.{Entry, utf8, number, wide, single, pair, handle, spelling, IsEntry}
use Rattle.ja_pool.specs.Table.{Placed, Table, pad, entries_from, entry_tag, entry_text, entry_first, entry_second, IndexField, is_wrong, entry_fields, text_at, tag_at, first_at, second_at, dims_in, brackets_of, IsAt}
use Rattle.ja_pool.specs.InnerKept.{table_in}
use Rattle.ja_pool.specs.InnerSlot.{form_tag, seen_form, seen, form_of, nothing, pad_slots, slots_from, slot_tags, slot_fields, wrong_place, form_first, form_second, text_end, AreInside, IsTagged, AreTagged}
use Rattle.ja_pool.specs.declared.constant.Constant.{Constant}
use Rattle.ja_pool.specs.declared.constant.Constant.TheVariants as constants
use Rattle.ja_pool.specs.Constant.{IsConstant, IsConstantAt}

-- ---- what a form holds does not hang on the bytes

pub seen_tag : (bytes : List ℕ) (place : ℕ) (form : Form) → entry_tag (seen_form bytes place form) ≡ form_tag form
seen_tag bytes place forms.Unusable = refl
seen_tag bytes place (forms.Utf8 from len) = refl
seen_tag bytes place (forms.Number tag bits) = refl
seen_tag bytes place (forms.Wide tag bits) = refl
seen_tag bytes place (forms.Single tag index) = refl
seen_tag bytes place (forms.Pair tag first second) = refl
seen_tag bytes place (forms.Handle kind index) = refl

pub seen_first : (bytes : List ℕ) (place : ℕ) (form : Form) → entry_first (seen_form bytes place form) ≡ form_first form
seen_first bytes place forms.Unusable = refl
seen_first bytes place (forms.Utf8 from len) = refl
seen_first bytes place (forms.Number tag bits) = refl
seen_first bytes place (forms.Wide tag bits) = refl
seen_first bytes place (forms.Single tag index) = refl
seen_first bytes place (forms.Pair tag first second) = refl
seen_first bytes place (forms.Handle kind index) = refl

pub seen_second : (bytes : List ℕ) (place : ℕ) (form : Form) → entry_second (seen_form bytes place form) ≡ form_second form
seen_second bytes place forms.Unusable = refl
seen_second bytes place (forms.Utf8 from len) = refl
seen_second bytes place (forms.Number tag bits) = refl
seen_second bytes place (forms.Wide tag bits) = refl
seen_second bytes place (forms.Single tag index) = refl
seen_second bytes place (forms.Pair tag first second) = refl
seen_second bytes place (forms.Handle kind index) = refl

seen_fields : (bytes : List ℕ) (place : ℕ) (form : Form) → entry_fields (seen_form bytes place form) ≡ entry_fields (seen_form [] place form)
seen_fields bytes place forms.Unusable = refl
seen_fields bytes place (forms.Utf8 from len) = refl
seen_fields bytes place (forms.Number tag bits) = refl
seen_fields bytes place (forms.Wide tag bits) = refl
seen_fields bytes place (forms.Single tag index) = refl
seen_fields bytes place (forms.Pair tag first second) = refl
seen_fields bytes place (forms.Handle kind index) = refl

pub tags_are : (bytes : List ℕ) (slots : List Slot) → map entry_tag (map (seen bytes) slots) ≡ slot_tags slots
tags_are bytes [] = refl
tags_are bytes (slot ∷ slots) = ap (λ (t : ℕ). t ∷ map entry_tag (map (seen bytes) slots)) (seen_tag bytes slot.place slot.form) ∙ ap (λ (t : List ℕ). form_tag slot.form ∷ t) (tags_are bytes slots)

pub fields_are : (bytes : List ℕ) (slots : List Slot) → flat_map entry_fields (map (seen bytes) slots) ≡ flat_map slot_fields slots
fields_are bytes [] = refl
fields_are bytes (slot ∷ slots) =
    ap (λ (t : List IndexField). t ++ flat_map entry_fields (map (seen bytes) slots)) (seen_fields bytes slot.place slot.form) ∙ ap (λ (t : List IndexField). slot_fields slot ++ t) (fields_are bytes slots)

-- ---- the slots of entries hold the entries

map_pad : (bytes : List ℕ) (e : Entry) (slots : List Slot) → map (seen bytes) (pad_slots e slots) ≡ pad e (map (seen bytes) slots)
map_pad bytes (utf8 text) slots = refl
map_pad bytes (number tag bits) slots = refl
map_pad bytes (wide tag bits) slots = refl
map_pad bytes (single tag index) slots = refl
map_pad bytes (pair tag first second) slots = refl
map_pad bytes (handle kind index) slots = refl

-- the entry that is spelled behind the front is seen there
seen_one : (bytes front rest : List ℕ) (place offset : ℕ) (e : Entry) → bytes ≡ front ++ (spelling e ++ rest) → length front ≡ offset
    → seen_form bytes place (form_of offset e) ≡ Some (record { place = place; entry = e })
seen_one bytes front rest place offset (number tag bits) parts size = refl
seen_one bytes front rest place offset (wide tag bits) parts size = refl
seen_one bytes front rest place offset (single tag index) parts size = refl
seen_one bytes front rest place offset (pair tag first second) parts size = refl
seen_one bytes front rest place offset (handle kind index) parts size = refl
seen_one bytes front rest place offset (utf8 text) parts size =
    let head : List ℕ = front ++ (1 ∷ to_be_bytes w16 (length text)) in
    let regrouped : bytes ≡ head ++ (text ++ rest) =
    parts ∙ ap (λ (t : List ℕ). front ++ (1 ∷ t)) (append_assoc (to_be_bytes w16 (length text)) text rest) ∙ sym (append_assoc front (1 ∷ to_be_bytes w16 (length text)) (text ++ rest)) in
    let at : length head ≡ offset + 3 = length-append front (1 ∷ to_be_bytes w16 (length text)) ∙ omega (arith, size) in
    let behind : drop (offset + 3) bytes ≡ text ++ rest = ap (drop (offset + 3)) regrouped ∙ drop_at head (text ++ rest) (offset + 3) at in
    let is : take (length text) (drop (offset + 3) bytes) ≡ text = ap (take (length text)) behind ∙ take_at text rest (length text) refl in
    let placed : List ℕ → Option Placed = λ t. Some (record { place = place; entry = utf8 t }) in
    ap placed is

pub seen_all : (bytes front tail : List ℕ) (base offset : ℕ) (es : List Entry) → bytes ≡ front ++ (flat_map spelling es ++ tail) → length front ≡ offset
    → map (seen bytes) (slots_from base offset es) ≡ entries_from (base + offset) es
seen_all bytes front tail base offset [] parts size = refl
seen_all bytes front tail base offset (e ∷ es) parts size =
    let split : bytes ≡ front ++ (spelling e ++ (flat_map spelling es ++ tail)) = parts ∙ ap (λ (t : List ℕ). front ++ t) (append_assoc (spelling e) (flat_map spelling es) tail) in
    let one = seen_one bytes front (flat_map spelling es ++ tail) (base + offset) offset e split size in
    let next : bytes ≡ (front ++ spelling e) ++ (flat_map spelling es ++ tail) = split ∙ sym (append_assoc front (spelling e) (flat_map spelling es ++ tail)) in
    let more = seen_all bytes (front ++ spelling e) tail base (offset + length (spelling e)) es next (omega (arith, size, length-append front (spelling e))) in
    let place : base + (offset + length (spelling e)) ≡ base + offset + length (spelling e) = omega arith in
    ap (λ (t : Option Placed). t ∷ map (seen bytes) (pad_slots e (slots_from base (offset + length (spelling e)) es))) one
    ∙ ap (λ (t : Table). Some (record { place = base + offset; entry = e }) ∷ t) (map_pad bytes e (slots_from base (offset + length (spelling e)) es) ∙ ap (pad e) (more ∙ ap (λ (p : ℕ). entries_from p es) place))

-- ---- places and texts are within bounds

all_pad : (P : Slot → Type 0) (e : Entry) (slots : List Slot) → P nothing → AllByRecursion P slots → AllByRecursion P (pad_slots e slots)
all_pad P (utf8 text) slots none all = all
all_pad P (number tag bits) slots none all = all
all_pad P (wide tag bits) slots none all = (none, all)
all_pad P (single tag index) slots none all = all
all_pad P (pair tag first second) slots none all = all
all_pad P (handle kind index) slots none all = all

spelling-length : (e : Entry) → 3 ≤ length (spelling e)
spelling-length (utf8 text) = omega (arith, length-append (to_be_bytes w16 (length text)) text)
spelling-length (number tag bits) = omega arith
spelling-length (wide tag bits) = omega arith
spelling-length (single tag index) = omega arith
spelling-length (pair tag first second) = omega arith
spelling-length (handle kind index) = omega arith

places_fit : (base offset limit : ℕ) (es : List Entry) → base + offset + length (flat_map spelling es) < limit → AllByRecursion (λ slot. slot.place + 3 < limit) (slots_from base offset es)
places_fit base offset limit [] h = tt
places_fit base offset limit (e ∷ es) h =
    let size = length-append (spelling e) (flat_map spelling es) in (
      omega (arith, h, size, spelling-length e),
      all_pad (λ slot. slot.place + 3 < limit) e (slots_from base (offset + length (spelling e)) es) (omega (arith, h, size, spelling-length e)) (places_fit base (offset + length (spelling e)) limit es (omega (arith, h, size))),
    )

pub places_are : (base limit : ℕ) (es : List Entry) → 3 < limit → base + length (flat_map spelling es) < limit → All (λ slot. slot.place + 3 < limit) (nothing ∷ slots_from base 0 es)
places_are base limit es some h = All-from_recursion (λ slot. slot.place + 3 < limit) (nothing ∷ slots_from base 0 es) (omega (arith, some), places_fit base 0 limit es (omega (arith, h)))

text_inside : (offset limit : ℕ) (e : Entry) → offset + length (spelling e) ≤ limit → text_end (form_of offset e) ≤ limit
text_inside offset limit (utf8 text) h = omega (arith, h, length-append (to_be_bytes w16 (length text)) text)
text_inside offset limit (number tag bits) h = omega arith
text_inside offset limit (wide tag bits) h = omega arith
text_inside offset limit (single tag index) h = omega arith
text_inside offset limit (pair tag first second) h = omega arith
text_inside offset limit (handle kind index) h = omega arith

texts_fit : (base offset limit : ℕ) (es : List Entry) → offset + length (flat_map spelling es) ≤ limit → AllByRecursion (λ slot. text_end slot.form ≤ limit) (slots_from base offset es)
texts_fit base offset limit [] h = tt
texts_fit base offset limit (e ∷ es) h =
    let size = length-append (spelling e) (flat_map spelling es) in (
      text_inside offset limit e (omega (arith, h, size)),
      all_pad (λ slot. text_end slot.form ≤ limit) e (slots_from base (offset + length (spelling e)) es) (omega arith) (texts_fit base (offset + length (spelling e)) limit es (omega (arith, h, size))),
    )

pub texts_are : (base : ℕ) (bytes : List ℕ) (es : List Entry) → length (flat_map spelling es) ≤ length bytes → AreInside bytes (nothing ∷ slots_from base 0 es)
texts_are base bytes es h = All-from_recursion (λ slot. text_end slot.form ≤ length bytes) (nothing ∷ slots_from base 0 es) (omega arith, texts_fit base 0 (length bytes) es (omega (arith, h)))

-- ---- the index fields one after another

pub wrong_none : (tags : List ℕ) (fields : List IndexField) → wrong_place tags fields ≡ None → find (is_wrong tags) fields ≡ None
wrong_none tags fields h = none (find (is_wrong tags) fields) h
  where
    none : (o : Option IndexField) → option_map (λ field. field.place) o ≡ None → o ≡ None
    none None e = refl
    none (Some f) e = absurd cc

pub wrong_some : (tags : List ℕ) (fields : List IndexField) (at : ℕ) → wrong_place tags fields ≡ Some at → (field : IndexField) × (find (is_wrong tags) fields ≡ Some field) × (at ≡ field.place)
wrong_some tags fields at h = some (find (is_wrong tags) fields) h
  where
    some : (o : Option IndexField) → option_map (λ field. field.place) o ≡ Some at → (field : IndexField) × (o ≡ Some field) × (at ≡ field.place)
    some None e = absurd cc
    some (Some f) e = (f, refl, cc)

-- ---- looking at an index

pub look : (bytes : List ℕ) (slots : List Slot) (i : ℕ) → get_or (map (seen bytes) slots) i None ≡ seen bytes (get_or slots i nothing)
look bytes [] i = refl
look bytes (slot ∷ slots) zero = refl
look bytes (slot ∷ slots) (suc i) = look bytes slots i

pub look_tag : (bytes : List ℕ) (slots : List Slot) (i : ℕ) → get_or (slot_tags slots) i 0 ≡ form_tag (get_or slots i nothing).form
look_tag bytes [] i = refl
look_tag bytes (slot ∷ slots) zero = refl
look_tag bytes (slot ∷ slots) (suc i) = look_tag bytes slots i

pub map-map : (g : Option Placed → ℕ) (bytes : List ℕ) (slots : List Slot) → map g (map (seen bytes) slots) ≡ map (λ slot. g (seen bytes slot)) slots
map-map g bytes [] = refl
map-map g bytes (slot ∷ slots) = ap (λ (t : List ℕ). g (seen bytes slot) ∷ t) (map-map g bytes slots)

pub text_is : (bytes : List ℕ) (slots : List Slot) (i : ℕ) → text_at (table_in bytes slots) i ≡ entry_text (seen bytes (get_or slots i nothing))
text_is bytes slots i = ap entry_text (look bytes slots i)

pub first_is : (bytes : List ℕ) (slots : List Slot) (i : ℕ) → first_at (table_in bytes slots) i ≡ form_first (get_or slots i nothing).form
first_is bytes slots i = ap entry_first (look bytes slots i) ∙ seen_first bytes (get_or slots i nothing).place (get_or slots i nothing).form

pub second_is : (bytes : List ℕ) (slots : List Slot) (i : ℕ) → second_at (table_in bytes slots) i ≡ form_second (get_or slots i nothing).form
second_is bytes slots i = ap entry_second (look bytes slots i) ∙ seen_second bytes (get_or slots i nothing).place (get_or slots i nothing).form

-- the brackets of a class
pub class_dims : (bytes : List ℕ) (slots : List Slot) (slot : Slot) → form_tag slot.form ≡ 7
    → dims_in (table_in bytes slots) (seen bytes slot) ≡ brackets_of (entry_text (seen bytes (get_or slots (form_first slot.form) nothing)))
class_dims bytes slots slot class =
    let table = table_in bytes slots in
    let entry = seen bytes slot in
    let test : (entry_tag entry == 7) ≡ true = ap (λ (n : ℕ). n == 7) (seen_tag bytes slot.place slot.form ∙ class) in
    ap (λ (b : Bool). cond b (brackets_of (text_at table (entry_first entry))) 0) test
    ∙ ap (λ (n : ℕ). brackets_of (text_at table n)) (seen_first bytes slot.place slot.form)
    ∙ ap brackets_of (text_is bytes slots (form_first slot.form))

-- ---- constants

pub constant_at : (bytes : List ℕ) (slots : List Slot) (i : ℕ) (constant : Constant) → IsConstant (get_or slots i nothing).form constant → IsConstantAt (table_in bytes slots) i constant
constant_at bytes slots i constant h = at constant h
  where
    here : (form : Form) (e : Entry) → (get_or slots i nothing).form ≡ form → seen_form bytes (get_or slots i nothing).place form ≡ Some (record { place = (get_or slots i nothing).place; entry = e }) → IsAt (table_in bytes slots) i e
    here form e f s = ((get_or slots i nothing).place, look bytes slots i ∙ ap (seen_form bytes (get_or slots i nothing).place) f ∙ s)

    at : (constant : Constant) → IsConstant (get_or slots i nothing).form constant → IsConstantAt (table_in bytes slots) i constant
    at (constants.Integer bits) f = here (forms.Number 3 bits) (number 3 bits) f refl
    at (constants.Float bits) f = here (forms.Number 4 bits) (number 4 bits) f refl
    at (constants.Long bits) f = here (forms.Wide 5 bits) (wide 5 bits) f refl
    at (constants.Double bits) f = here (forms.Wide 6 bits) (wide 6 bits) f refl
    at (constants.Text index) f = here (forms.Single 8 index) (single 8 index) f refl
    at (constants.Class index) f = here (forms.Single 7 index) (single 7 index) f refl

tagged_one : (offset : ℕ) (e : Entry) → IsEntry e → IsTagged (form_of offset e)
tagged_one offset (utf8 bytes) h = tt
tagged_one offset (number tag bits) h = h.0
tagged_one offset (wide tag bits) h = h.0
tagged_one offset (single tag index) h = h.0
tagged_one offset (pair tag first second) h = h.0
tagged_one offset (handle kind index) h = tt

tagged_all : (base offset : ℕ) (es : List Entry) → AllByRecursion IsEntry es → AllByRecursion (λ slot. IsTagged slot.form) (slots_from base offset es)
tagged_all base offset [] h = tt
tagged_all base offset (e ∷ es) h =
    (tagged_one offset e h.0, all_pad (λ slot. IsTagged slot.form) e (slots_from base (offset + length (spelling e)) es) tt (tagged_all base (offset + length (spelling e)) es h.1))

pub tags_stand : (base : ℕ) (es : List Entry) → AllByRecursion IsEntry es → AreTagged (nothing ∷ slots_from base 0 es)
tags_stand base es h = All-from_recursion (λ slot. IsTagged slot.form) (nothing ∷ slots_from base 0 es) (tt, tagged_all base 0 es h)

pub tag_is : (bytes : List ℕ) (slots : List Slot) (i : ℕ) → tag_at (table_in bytes slots) i ≡ form_tag (get_or slots i nothing).form
tag_is bytes slots i = ap (λ (t : List ℕ). get_or t i 0) (tags_are bytes slots) ∙ look_tag bytes slots i
