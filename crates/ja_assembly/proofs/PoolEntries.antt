-- Such a pool has a place in a class file: its entries are right, each index names an entry of its kind, and each member has a
-- descriptor of its kind.
use Rattle.std.proofs.Common.{◌≡◌, ℕ, ◌+◌, ◌<◌, ◌^◌, inl, inr, not, List, length, map, Option, Some, None, refl, sym, ap, subst, ◌∙◌, arith}
use Rattle.std.specs.Prelude.{◌==◌, ◌⊎◌, false, IsTrue}
use Rattle.std.specs.List.{AllByRecursion}
use Rattle.std.proofs.lemmas.Bool.{cases_lt, false≢true}
use Rattle.std.proofs.lemmas.List.{length-map, length-append}
use Rattle.ja_bytes.specs.Text.{IsModifiedUtf8}
use Rattle.ja_bytes.specs.DescriptorText.{IsFieldDesc, IsMethodText}
use Rattle.ja_bytes.proofs.TextParts.{wrong_is_no_text}
use Rattle.ja_bytes.proofs.Exact.{text_or_wrong}
use Rattle.ja_pool.specs.Entry.{Entry, utf8, single, pair, is_pair_tag, IsEntry}
use Rattle.ja_pool.specs.Table.{Placed, Table, entry_tag, tags_of, text_at, second_at, IndexField, is_wrong, pair_fields, first_wrong}
use Rattle.ja_pool.specs.Pool.{table_of}
use Rattle.ja_class.specs.Member.{HasDescriptor, is_method_tag}
use Rattle.ja_assembly.specs.declared.key.Key.{Key}
use Rattle.ja_assembly.specs.declared.key.Key.TheVariants.{Text, Class, NameAndType, Member}
use Rattle.ja_assembly.specs.Unwritable.{IsNoText}
use Rattle.ja_assembly.specs.Assembled.{Pool, key_index, text_index, class_index, string_entry, key_entry, entries_of}
use Rattle.ja_assembly.specs.Right.{IsIn, IsDescOf, IsRightKey}
use Rattle.ja_assembly.proofs.Different.{all_at}
use Rattle.ja_assembly.proofs.Tables.{count, all_there, AreRightFields, none_wrong}
use Rattle.ja_assembly.proofs.Pools.{IsGoodPool, table_in, pair_index, each_entry, narrow, text_tag, class_tag_is, pair_tag_is, desc_told, has_parts, has_text, key_fits}

right_text : (text : List ℕ) → (IsNoText text → ⊥) → (length text < 2 ^ 16) × IsModifiedUtf8 text
right_text text right = (
  short,
  elim (text_or_wrong text) [
    | inl is-text ↦ is-text
    | inr wrong ↦ absurd (right (inr (λ h. wrong_is_no_text text wrong.0 wrong.1 h)))
  ],
)
  where
    short : length text < 2 ^ 16
    short = elim (cases_lt 65535 (length text)) [
      | inl long ↦ absurd (right (inl long))
      | inr le ↦ omega (arith, le)
    ]

-- what holds of each of the three tags of members holds of that of one
pub member_tag : (P : ℕ → Type 0) → P 9 → P 10 → P 11 → (tag : ℕ) (desc : List ℕ) → IsDescOf tag desc → P tag
member_tag P field method interface tag desc (inl h) = subst P (sym h.0) field
member_tag P field method interface tag desc (inr h) = elim (h.0) [
  | inl e ↦ subst P (sym e) method
  | inr e ↦ subst P (sym e) interface
]

-- an entry that is no member
no_member : (table : Table) (entry : Option Placed) → (entry_tag entry ≡ 9 → ⊥) → is_method_tag (entry_tag entry) ≡ false → HasDescriptor table entry
no_member table entry field method = record { field = λ e. absurd (field e); method = λ e. absurd (false≢true (sym method ∙ e)) }

member_desc : (table : Table) (at tag first second : ℕ) (desc : List ℕ) → text_at table (second_at table second) ≡ desc → IsDescOf tag desc
    → HasDescriptor table (Some (record { place = at; entry = pair tag first second }))
member_desc table at tag first second desc is (inl h) =
    record { field = λ e. subst IsFieldDesc (sym is) h.1; method = λ e. absurd (false≢true (sym (ap is_method_tag h.0) ∙ e)) }
member_desc table at tag first second desc is (inr h) =
    record { field = λ e. absurd (no_field h.0 e); method = λ e. subst IsMethodText (sym is) h.1 }
  where
    no_field : (tag ≡ 10) ⊎ (tag ≡ 11) → tag ≡ 9 → ⊥
    no_field (inl g) e = omega (arith, g, e)
    no_field (inr g) e = omega (arith, g, e)

-- an index field that names an entry of its kind
abbrev IsRightField : Pool → IndexField → Type 0
IsRightField pool f = is_wrong (tags_of (table_in pool)) f ≡ false

-- the same of those of an entry, at any place
abbrev HasRightFields : Pool → Entry → Type 0
HasRightFields pool e = (at : ℕ) → AreRightFields (tags_of (table_in pool)) (Some (record { place = at; entry = e }))

abbrev HasRightDesc : Pool → Entry → Type 0
HasRightDesc pool e = (at : ℕ) → HasDescriptor (table_in pool) (Some (record { place = at; entry = e }))

-- entries that make a pool of a class file
pub record AreEntries (es : List Entry) : Type 0 where
  pub few : length (table_of 8 es) < 2 ^ 16
  pub entries : AllByRecursion IsEntry es
  pub indices : first_wrong (tags_of (table_of 8 es)) (table_of 8 es) ≡ None
  pub descriptors : AllByRecursion (HasDescriptor (table_of 8 es)) (table_of 8 es)

module _ (pool : Pool) (good : IsGoodPool pool) where
  pub is_right : (key : Key) → IsIn key pool.keys → IsRightKey key
  is_right key h = all_at IsRightKey pool.keys key good.right h

  fits : (key : Key) → IsIn key pool.keys → key_index pool key < 2 ^ 16
  fits = key_fits pool good

  -- ---- each entry is right

  key_is_entry : (key : Key) → IsIn key pool.keys → IsEntry (key_entry pool key)
  key_is_entry (Text text) h = right_text text (is_right (Text text) h)
  key_is_entry (Class name) h = (refl, fits (Text name) (has_parts pool good (Class name) h).0)
  key_is_entry (NameAndType name desc) h =
      let p = has_parts pool good (NameAndType name desc) h in
      (refl, fits (Text name) p.0, fits (Text desc) p.1.0)
  key_is_entry (Member tag class name desc) h =
      let p = has_parts pool good (Member tag class name desc) h in
      let tagged = member_tag (λ t. IsTrue (is_pair_tag t)) refl refl refl tag desc (is_right (Member tag class name desc) h) in
      (tagged, fits (Class class) p.0, fits (NameAndType name desc) p.1.0)

  string_is_entry : (text : List ℕ) → IsIn text pool.strings → IsEntry (string_entry pool text)
  string_is_entry text h = (refl, fits (Text text) (has_text pool good text h))

  -- ---- each index names an entry of its kind

  names_text : (place : ℕ) (text : List ℕ) → IsIn (Text text) pool.keys → IsRightField pool (record { place = place; index = text_index pool text; wants = Some 1 })
  names_text place text h = ap (λ (n : ℕ). not (n == 1)) (text_tag pool text h)

  names_class : (place : ℕ) (name : List ℕ) → IsIn (Class name) pool.keys → IsRightField pool (record { place = place; index = class_index pool name; wants = Some 7 })
  names_class place name h = ap (λ (n : ℕ). not (n == 7)) (class_tag_is pool name h)

  names_pair : (place : ℕ) (name desc : List ℕ) → IsIn (NameAndType name desc) pool.keys
      → IsRightField pool (record { place = place; index = pair_index pool name desc; wants = Some 12 })
  names_pair place name desc h = ap (λ (n : ℕ). not (n == 12)) (pair_tag_is pool name desc h)

  key_fields : (key : Key) → IsIn key pool.keys → HasRightFields pool (key_entry pool key)
  key_fields (Text text) h at = tt
  key_fields (Class name) h at = (names_text (at + 1) name (has_parts pool good (Class name) h).0, tt)
  key_fields (NameAndType name desc) h at =
      let p = has_parts pool good (NameAndType name desc) h in
      (names_text (at + 1) name p.0, (names_text (at + 3) desc p.1.0, tt))
  key_fields (Member tag class name desc) h at =
      let p = has_parts pool good (Member tag class name desc) h in
      let first = names_class (at + 1) class p.0 in
      let second = names_pair (at + 3) name desc p.1.0 in
      member_tag (λ t. AllByRecursion (IsRightField pool) (pair_fields at t (class_index pool class) (pair_index pool name desc)))
      (first, (second, tt)) (first, (second, tt)) (first, (second, tt)) tag desc (is_right (Member tag class name desc) h)

  string_fields : (text : List ℕ) → IsIn text pool.strings → HasRightFields pool (string_entry pool text)
  string_fields text h at = (names_text (at + 1) text (has_text pool good text h), tt)

  -- ---- each member has a descriptor of its kind

  key_desc : (key : Key) → IsIn key pool.keys → HasRightDesc pool (key_entry pool key)
  key_desc (Text text) h at = no_member (table_in pool) (Some (record { place = at; entry = utf8 text })) (λ e. omega (arith, e)) refl
  key_desc (Class name) h at = no_member (table_in pool) (Some (record { place = at; entry = single 7 (text_index pool name) })) (λ e. omega (arith, e)) refl
  key_desc (NameAndType name desc) h at =
      no_member (table_in pool) (Some (record { place = at; entry = pair 12 (text_index pool name) (text_index pool desc) })) (λ e. omega (arith, e)) refl
  key_desc (Member tag class name desc) h at =
      let both = (has_parts pool good (Member tag class name desc) h).1.0 in
      let desc_is = desc_told pool name desc (has_parts pool good (NameAndType name desc) both).1.0 both in
      member_desc (table_in pool) at tag (class_index pool class) (pair_index pool name desc) desc desc_is (is_right (Member tag class name desc) h)

  string_desc : (text : List ℕ) → HasRightDesc pool (string_entry pool text)
  string_desc text at = no_member (table_in pool) (Some (record { place = at; entry = string_entry pool text })) (λ e. omega (arith, e)) refl

  -- ---- all of it

  size : length (entries_of pool) ≡ length pool.strings + length pool.keys
  size =
      let both : length (entries_of pool) ≡ length (map (string_entry pool) pool.strings) + length (map (key_entry pool) pool.keys) = length-append (map (string_entry pool) pool.strings) (map (key_entry pool) pool.keys) in
      omega (arith, both, length-map pool.strings (string_entry pool), length-map pool.keys (key_entry pool))

  pub are_entries : AreEntries (entries_of pool)
  are_entries =
      let es = entries_of pool in
      let table = table_in pool in
      let fields = each_entry pool (HasRightFields pool) string_fields key_fields in
      let descs = each_entry pool (HasRightDesc pool) (λ t h. string_desc t) key_desc in
      record {
        few = omega (arith, count 8 es (narrow pool), size, good.few);
        entries = each_entry pool IsEntry string_is_entry key_is_entry;
        indices = none_wrong (tags_of table) table (all_there (AreRightFields (tags_of table)) tt 8 es (narrow pool) fields);
        descriptors = all_there (HasDescriptor table) (no_member table None (λ e. omega (arith, e)) refl) 8 es (narrow pool) descs;
      }
