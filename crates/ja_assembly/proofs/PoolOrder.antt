-- Such a pool has each entry once, and the strings first.
use Rattle.std.proofs.Common.{◌≡◌, ℕ, suc, ◌+◌, List, [], map, slice_get, Some, refl, sym, ap, subst, ◌∙◌, arith, add-one}
use Rattle.std.specs.Prelude.{◌==◌, if◌then◌else◌}
use Rattle.ja_pool.specs.Entry.{Entry, utf8, number, wide, single, pair, handle, tag_of}
use Rattle.ja_pool.specs.Table.{Table, text_at, first_in, first_at, second_at, class_name_at, IsAt}
use Rattle.ja_assembly.specs.declared.key.Key.{Key}
use Rattle.ja_assembly.specs.declared.key.Key.TheVariants.{Text, Class, NameAndType, Member}
use Rattle.ja_assembly.specs.Assembled.{Pool, text_index, class_index, string_entry, key_entry, entries_of}
use Rattle.ja_assembly.specs.Written.{NamesText, IsOrdered}
use Rattle.ja_assembly.specs.Right.{IsIn}
use Rattle.ja_assembly.proofs.Different.{IsOnce, once_append, once_mapped, in_mapped}
use Rattle.ja_assembly.proofs.Tables.{came_from, tag_there, first_there}
use Rattle.ja_assembly.proofs.Pools.{IsGoodPool, table_in, pair_index, narrow, string_at, text_told, class_told, name_told, desc_told, has_parts, has_text}
use Rattle.ja_assembly.proofs.PoolEntries.{member_tag, is_right}

-- what an entry says, by the table
told : Table → Entry → Key
told table (utf8 bytes) = Text bytes
told table (number tag bits) = Text []
told table (wide tag bits) = Text []
told table (single tag index) = Class (text_at table index)
told table (pair tag first second) =
    if tag == 12 then NameAndType (text_at table first) (text_at table second)
    else Member tag (class_name_at table first) (text_at table (first_at table second)) (text_at table (second_at table second))
told table (handle kind index) = Text []

module _ (pool : Pool) (good : IsGoodPool pool) where
  key_told : (key : Key) → IsIn key pool.keys → told (table_in pool) (key_entry pool key) ≡ key
  unfolding told
  key_told (Text text) h = refl
  key_told (Class name) h = ap Class (text_told pool name (has_parts pool good (Class name) h).0)
  key_told (NameAndType name desc) h =
      let p = has_parts pool good (NameAndType name desc) h in
      ap (λ (x : List ℕ). NameAndType x (text_at (table_in pool) (text_index pool desc))) (text_told pool name p.0) ∙ ap (NameAndType name) (text_told pool desc p.1.0)
  key_told (Member tag class name desc) h =
      let table = table_in pool in
      let p = has_parts pool good (Member tag class name desc) h in
      let q = has_parts pool good (NameAndType name desc) p.1.0 in
      let c = class_index pool class in
      let i = pair_index pool name desc in
      member_tag (λ t. told table (pair t c i) ≡ Member t (class_name_at table c) (text_at table (first_at table i)) (text_at table (second_at table i)))
      refl refl refl tag desc (is_right pool good (Member tag class name desc) h)
      ∙ ap (λ (x : List ℕ). Member tag x (text_at table (first_at table i)) (text_at table (second_at table i))) (class_told pool class (has_parts pool good (Class class) p.0).0 p.0)
      ∙ ap (λ (x : List ℕ). Member tag class x (text_at table (second_at table i))) (name_told pool name desc q.0 p.1.0)
      ∙ ap (Member tag class name) (desc_told pool name desc q.1.0 p.1.0)

  -- no key is a string
  no_string : (key : Key) → IsIn key pool.keys → tag_of (key_entry pool key) ≡ 8 → ⊥
  no_string (Text text) h e = omega (arith, e)
  no_string (Class name) h e = omega (arith, e)
  no_string (NameAndType name desc) h e = omega (arith, e)
  no_string (Member tag class name desc) h e =
      member_tag (λ t. t ≡ 8 → ⊥) (λ g. omega (arith, g)) (λ g. omega (arith, g)) (λ g. omega (arith, g)) tag desc (is_right pool good (Member tag class name desc) h) e

  apart : (e : Entry) → IsIn e (map (string_entry pool) pool.strings) → IsIn e (map (key_entry pool) pool.keys) → ⊥
  apart e front back =
      let s = in_mapped (string_entry pool) pool.strings front.0 e front.1 in
      let k = in_mapped (key_entry pool) pool.keys back.0 e back.1 in
      no_string k.0 (back.0, k.1) (ap tag_of (k.2 ∙ sym s.2))

  entries_once : IsOnce (entries_of pool)
  entries_once =
      let table = table_in pool in
      once_append (map (string_entry pool) pool.strings) (map (key_entry pool) pool.keys)
      (once_mapped (string_entry pool) (λ e. text_at table (first_in e)) pool.strings (λ t h. text_told pool t (has_text pool good t h)) good.strings_once)
      (once_mapped (key_entry pool) (told table) pool.keys key_told good.keys_once) apart

  once_there : (i j : ℕ) (e : Entry) → IsAt (table_in pool) i e → IsAt (table_in pool) j e → i ≡ j
  once_there i j e h g =
      let a = came_from 8 (entries_of pool) (narrow pool) i e h in
      let b = came_from 8 (entries_of pool) (narrow pool) j e g in
      a.1 ∙ ap suc (entries_once a.0 b.0 e a.2 b.2) ∙ sym b.1

  strings_first : (i : ℕ) (text : List ℕ) → slice_get pool.strings i ≡ Some text → NamesText (table_in pool) (i + 1) text
  strings_first i text h =
      let table = table_in pool in
      let e = string_entry pool text in
      let at : IsAt table (i + 1) e = subst (λ (n : ℕ). IsAt table n e) (sym (add-one i)) (string_at pool i text h) in
      record { tag = tag_there table (i + 1) e at; text_is = ap (text_at table) (first_there table (i + 1) e at) ∙ text_told pool text (has_text pool good text (i, h)) }

  pub in_order : IsOrdered (table_in pool) pool.strings
  in_order = record { once = once_there; first = strings_first }
