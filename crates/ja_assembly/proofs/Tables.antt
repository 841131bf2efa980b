-- The table of entries none of which takes two indices: the entry at an index is the one before that place of the list.
use Rattle.std.proofs.Common.{◌≡◌, ℕ, zero, suc, ◌+◌, Bool, false, List, [], ◌∷◌, ◌++◌, length, get_or, slice_get, Option, Some, None, refl, ap, ◌∙◌}
use Rattle.std.specs.Prelude.{slice_index}
use Rattle.std.specs.List.{find, flat_map, AllByRecursion}
use Rattle.std.proofs.Math.ListN.{get_or-map}
use Rattle.std.proofs.lemmas.Option.{none-some, same_Some}
use Rattle.ja_pool.specs.Entry.{Entry, utf8, number, wide, single, pair, handle, spelling, tag_of}
use Rattle.ja_pool.specs.Table.{Placed, Table, pad, entries_from, entry_tag, tag_at, entry_text, text_in, text_at, entry_first, first_in, first_at, entry_second, second_in, second_at, dims_in, dims_of, brackets_of, IsAt, IndexField, is_wrong, entry_fields, first_wrong}
use Rattle.ja_pool.specs.Pool.{table_of}

-- an entry that takes one index
abbrev pub IsNarrow : Entry → Type 0
IsNarrow (utf8 bytes) = Unit {0}
IsNarrow (number tag bits) = Unit {0}
IsNarrow (wide tag bits) = ⊥
IsNarrow (single tag index) = Unit {0}
IsNarrow (pair tag first second) = Unit {0}
IsNarrow (handle kind index) = Unit {0}

pad_narrow : (e : Entry) (table : Table) → IsNarrow e → pad e table ≡ table
pad_narrow (utf8 bytes) table h = refl
pad_narrow (number tag bits) table h = refl
pad_narrow (wide tag bits) table h = absurd h
pad_narrow (single tag index) table h = refl
pad_narrow (pair tag first second) table h = refl
pad_narrow (handle kind index) table h = refl

-- one entry, and those behind it
abbrev at_place : ℕ → Entry → Option Placed
at_place place e = Some (record { place = place; entry = e })

entries_narrow : (place : ℕ) (e : Entry) (es : List Entry) → IsNarrow e → entries_from place (e ∷ es) ≡ at_place place e ∷ entries_from (place + length (spelling e)) es
entries_narrow place e es h = ap (λ (t : Table). at_place place e ∷ t) (pad_narrow e (entries_from (place + length (spelling e)) es) h)

-- ---- where an entry stands

entry_at : (place : ℕ) (es : List Entry) → AllByRecursion IsNarrow es → (k : ℕ) (e : Entry) → slice_get es k ≡ Some e
    → (at : ℕ) × (get_or (entries_from place es) k None ≡ at_place at e)
entry_at place [] narrow k e h = absurd (none-some e h)
entry_at place (x ∷ es) narrow zero e h = (place, ap (at_place place) (same_Some x e h))
entry_at place (x ∷ es) narrow (suc k) e h = rw (entries_narrow place x es narrow.0) (entry_at (place + length (spelling x)) es narrow.1 k e h)

pub stands_at : (place : ℕ) (es : List Entry) → AllByRecursion IsNarrow es → (k : ℕ) (e : Entry) → slice_get es k ≡ Some e → IsAt (table_of place es) (suc k) e
stands_at place es narrow k e h = entry_at (place + 2) es narrow k e h

at_entry : (place : ℕ) (es : List Entry) → AllByRecursion IsNarrow es → (k at : ℕ) (e : Entry) → get_or (entries_from place es) k None ≡ at_place at e
    → slice_get es k ≡ Some e
at_entry place [] narrow zero at e h = absurd (none-some _ h)
at_entry place [] narrow (suc k) at e h = absurd (none-some _ h)
at_entry place (x ∷ es) narrow zero at e h = ap (λ (p : Placed). Some p.entry) (same_Some _ _ h)
at_entry place (x ∷ es) narrow (suc k) at e h = at_entry (place + length (spelling x)) es narrow.1 k at e (rw (entries_narrow place x es narrow.0) at h)

pub came_from : (place : ℕ) (es : List Entry) → AllByRecursion IsNarrow es → (i : ℕ) (e : Entry) → IsAt (table_of place es) i e
    → (k : ℕ) × (i ≡ suc k) × (slice_get es k ≡ Some e)
came_from place es narrow zero e h = absurd (none-some _ h.1)
came_from place es narrow (suc k) e h = (k, refl, at_entry (place + 2) es narrow k h.0 e h.1)

-- ---- what the table says there

pub tag_there : (table : Table) (i : ℕ) (e : Entry) → IsAt table i e → tag_at table i ≡ tag_of e
tag_there table i e h = get_or-map entry_tag table i None ∙ ap entry_tag h.1

pub text_there : (table : Table) (i : ℕ) (e : Entry) → IsAt table i e → text_at table i ≡ text_in e
text_there table i e h = ap entry_text h.1

pub first_there : (table : Table) (i : ℕ) (e : Entry) → IsAt table i e → first_at table i ≡ first_in e
first_there table i e h = ap entry_first h.1

pub second_there : (table : Table) (i : ℕ) (e : Entry) → IsAt table i e → second_at table i ≡ second_in e
second_there table i e h = ap entry_second h.1

pub dims_there : (table : Table) (i index : ℕ) → IsAt table i (single 7 index) → slice_index (dims_of table) i ≡ brackets_of (text_at table index)
dims_there table i index h = get_or-map (dims_in table) table i None ∙ ap (dims_in table) h.1

-- ---- the whole table

pub count : (place : ℕ) (es : List Entry) → AllByRecursion IsNarrow es → length (table_of place es) ≡ suc (length es)
count place es narrow = ap suc (by (place + 2) es narrow)
  where
    by : (place : ℕ) (es : List Entry) → AllByRecursion IsNarrow es → length (entries_from place es) ≡ length es
    by place [] narrow = refl
    by place (e ∷ es) narrow = rw (pad_narrow e (entries_from (place + length (spelling e)) es) narrow.0) (ap suc (by (place + length (spelling e)) es narrow.1))

-- what holds of each entry at any place holds of the whole table
pub all_there : (P : Option Placed → Type 0) → P None → (place : ℕ) (es : List Entry) → AllByRecursion IsNarrow es
    → AllByRecursion (λ e. (at : ℕ) → P (Some (record { place = at; entry = e }))) es → AllByRecursion P (table_of place es)
all_there P none place es narrow each = (none, by (place + 2) es narrow each)
  where
    by : (place : ℕ) (es : List Entry) → AllByRecursion IsNarrow es → AllByRecursion (λ e. (at : ℕ) → P (Some (record { place = at; entry = e }))) es → AllByRecursion P (entries_from place es)
    by place [] narrow each = tt
    by place (e ∷ es) narrow each = rw (pad_narrow e (entries_from (place + length (spelling e)) es) narrow.0) (each.0 place, by (place + length (spelling e)) es narrow.1 each.1)

-- ---- index fields

-- index fields none of which is wrong
abbrev pub AreRightFields : List ℕ → Option Placed → Type 0
AreRightFields tags entry = AllByRecursion (λ f. is_wrong tags f ≡ false) (entry_fields entry)

none_in : (test : IndexField → Bool) (xs ys : List IndexField) → AllByRecursion (λ f. test f ≡ false) xs → find test ys ≡ None → find test (xs ++ ys) ≡ None
none_in test [] ys all h = h
none_in test (x ∷ xs) ys all h = rw (all.0) (none_in test xs ys all.1 h)

pub none_wrong : (tags : List ℕ) (table : Table) → AllByRecursion (AreRightFields tags) table → first_wrong tags table ≡ None
none_wrong tags [] all = refl
none_wrong tags (entry ∷ table) all = none_in (is_wrong tags) (entry_fields entry) (flat_map entry_fields table) all.0 (none_wrong tags table all.1)
