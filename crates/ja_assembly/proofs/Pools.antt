-- A pool whose entries are right, have what they refer to, and stand once each: what its indices tell.
use Rattle.std.proofs.Common.{◌≡◌, ℕ, suc, ◌+◌, ◌<◌, ◌≤◌, ◌^◌, List, length, map, slice_get, Some, bytes_eq, sym, ap, subst, ◌∙◌, arith}
use Rattle.std.specs.Prelude.{option_map}
use Rattle.std.specs.List.{AllByRecursion}
use Rattle.std.proofs.lemmas.List.{length-map}
use Rattle.std.proofs.lemmas.Option.{slice_get_within, slice_get-map}
use Rattle.ja_pool.specs.Entry.{Entry, utf8, single, pair}
use Rattle.ja_pool.specs.Table.{Table, tag_at, text_at, first_at, second_at, class_name_at, brackets_of, IsAt}
use Rattle.ja_pool.specs.Pool.{table_of}
use Rattle.ja_listing.specs.declared.item.MemberName.{MemberName}
use Rattle.ja_assembly.specs.declared.key.Key.{Key}
use Rattle.ja_assembly.specs.declared.key.Key.TheVariants.{Text, Class, NameAndType, Member}
use Rattle.ja_assembly.specs.Wanted.{same_key, class_keys, member_keys}
use Rattle.ja_assembly.specs.Assembled.{Pool, index_from, string_index, key_index, text_index, class_index, member_index, string_entry, key_entry, entries_of}
use Rattle.ja_assembly.specs.Right.{IsIn, AreIn, IsRightKey, TellsText, TellsClass, TellsString, TellsMember, IsRightPool}
use Rattle.ja_assembly.proofs.Different.{get_front, get_back, all_at, all_from, all_append, all_of_mapped, bytes_found, key_found, position_of, IsOnce}
use Rattle.ja_assembly.proofs.Closed.{parts, HasParts, IsClosed}
use Rattle.ja_assembly.proofs.Tables.{IsNarrow, stands_at, tag_there, text_there, first_there, second_there, dims_there}

pub record IsGoodPool (pool : Pool) : Type 0 where
  pub closed : IsClosed pool.keys
  pub texts : AllByRecursion (λ t. IsIn (Text t) pool.keys) pool.strings
  pub right : AllByRecursion IsRightKey pool.keys
  pub strings_once : IsOnce pool.strings
  pub keys_once : IsOnce pool.keys
  pub few_strings : length pool.strings ≤ 255
  pub few : length pool.strings + length pool.keys ≤ 65534

-- the table of a pool in a class file
abbrev pub table_in : Pool → Table
table_in pool = table_of 8 (entries_of pool)

-- the entry at an index of a table, of a name and a descriptor
abbrev pub pair_index : Pool → (name desc : List ℕ) → ℕ
pair_index pool name desc = key_index pool (NameAndType name desc)

-- the place of an entry among the keys
pub record Stands (pool : Pool) (key : Key) : Type 0 where
  pub place : ℕ
  pub index : key_index pool key ≡ suc (length pool.strings + place)
  pub there : slice_get pool.keys place ≡ Some key

mapped_at : {A B : Type 0} (f : A → B) (xs : List A) (i : ℕ) (x : A) → slice_get xs i ≡ Some x → slice_get (map f xs) i ≡ Some (f x)
mapped_at f xs i x h = slice_get-map f xs i ∙ ap (option_map f) h

module _ (pool : Pool) where
  -- what holds of the entries of all strings and of all keys holds of all
  pub each_entry : (P : Entry → Type 0) → ((text : List ℕ) → IsIn text pool.strings → P (string_entry pool text))
      → ((key : Key) → IsIn key pool.keys → P (key_entry pool key)) → AllByRecursion P (entries_of pool)
  each_entry P strings keys =
      all_append P (map (string_entry pool) pool.strings) (map (key_entry pool) pool.keys)
      (all_of_mapped P (string_entry pool) pool.strings (all_from (λ t. P (string_entry pool t)) pool.strings strings))
      (all_of_mapped P (key_entry pool) pool.keys (all_from (λ k. P (key_entry pool k)) pool.keys keys))

  key_narrow : (key : Key) → IsNarrow (key_entry pool key)
  key_narrow (Text text) = tt
  key_narrow (Class name) = tt
  key_narrow (NameAndType name desc) = tt
  key_narrow (Member tag class name desc) = tt

  -- each takes one index
  pub narrow : AllByRecursion IsNarrow (entries_of pool)
  narrow = each_entry IsNarrow (λ t h. tt) (λ k h. key_narrow k)

  -- ---- where the entries stand

  pub string_at : (i : ℕ) (text : List ℕ) → slice_get pool.strings i ≡ Some text → IsAt (table_in pool) (suc i) (string_entry pool text)
  string_at i text h =
      stands_at 8 (entries_of pool) narrow i (string_entry pool text)
      (get_front (map (string_entry pool) pool.strings) (map (key_entry pool) pool.keys) i (string_entry pool text) (mapped_at (string_entry pool) pool.strings i text h))

  key_at : (i : ℕ) (key : Key) → slice_get pool.keys i ≡ Some key → IsAt (table_in pool) (suc (length pool.strings + i)) (key_entry pool key)
  key_at i key h =
      let there = get_back (map (string_entry pool) pool.strings) (map (key_entry pool) pool.keys) i (key_entry pool key) (mapped_at (key_entry pool) pool.keys i key h) in
      stands_at 8 (entries_of pool) narrow (length pool.strings + i) (key_entry pool key)
      (subst (λ (n : ℕ). slice_get (entries_of pool) (n + i) ≡ Some (key_entry pool key)) (length-map pool.strings (string_entry pool)) there)

  stands : (key : Key) → IsIn key pool.keys → Stands pool key
  stands key h =
      let p = position_of same_key key_found pool.keys key h in
      let first : key_index pool key ≡ length pool.strings + 1 + p.0 = ap (index_from (length pool.strings + 1)) p.1 in
      record { place = p.0; index = omega (arith, first); there = p.2 }

  key_stands : (key : Key) → IsIn key pool.keys → IsAt (table_in pool) (key_index pool key) (key_entry pool key)
  key_stands key h =
      let s = stands key h in
      subst (λ (i : ℕ). IsAt (table_in pool) i (key_entry pool key)) (sym s.index) (key_at s.place key s.there)

  -- ---- what they tell

  pub text_told : (text : List ℕ) → IsIn (Text text) pool.keys → text_at (table_in pool) (text_index pool text) ≡ text
  text_told text h = text_there (table_in pool) (text_index pool text) (utf8 text) (key_stands (Text text) h)

  pub text_tag : (text : List ℕ) → IsIn (Text text) pool.keys → tag_at (table_in pool) (text_index pool text) ≡ 1
  text_tag text h = tag_there (table_in pool) (text_index pool text) (utf8 text) (key_stands (Text text) h)

  pub class_told : (name : List ℕ) → IsIn (Text name) pool.keys → IsIn (Class name) pool.keys → class_name_at (table_in pool) (class_index pool name) ≡ name
  class_told name text class =
      ap (text_at (table_in pool)) (first_there (table_in pool) (class_index pool name) (single 7 (text_index pool name)) (key_stands (Class name) class)) ∙ text_told name text

  pub class_tag_is : (name : List ℕ) → IsIn (Class name) pool.keys → tag_at (table_in pool) (class_index pool name) ≡ 7
  class_tag_is name h = tag_there (table_in pool) (class_index pool name) (single 7 (text_index pool name)) (key_stands (Class name) h)

  pair_at : (name desc : List ℕ) → IsIn (NameAndType name desc) pool.keys → IsAt (table_in pool) (pair_index pool name desc) (pair 12 (text_index pool name) (text_index pool desc))
  pair_at name desc h = key_stands (NameAndType name desc) h

  pub name_told : (name desc : List ℕ) → IsIn (Text name) pool.keys → IsIn (NameAndType name desc) pool.keys
      → text_at (table_in pool) (first_at (table_in pool) (pair_index pool name desc)) ≡ name
  name_told name desc text both =
      ap (text_at (table_in pool)) (first_there (table_in pool) (pair_index pool name desc) (pair 12 (text_index pool name) (text_index pool desc)) (pair_at name desc both))
      ∙ text_told name text

  pub desc_told : (name desc : List ℕ) → IsIn (Text desc) pool.keys → IsIn (NameAndType name desc) pool.keys
      → text_at (table_in pool) (second_at (table_in pool) (pair_index pool name desc)) ≡ desc
  desc_told name desc text both =
      ap (text_at (table_in pool)) (second_there (table_in pool) (pair_index pool name desc) (pair 12 (text_index pool name) (text_index pool desc)) (pair_at name desc both))
      ∙ text_told desc text

  pub pair_tag_is : (name desc : List ℕ) → IsIn (NameAndType name desc) pool.keys → tag_at (table_in pool) (pair_index pool name desc) ≡ 12
  pair_tag_is name desc h = tag_there (table_in pool) (pair_index pool name desc) (pair 12 (text_index pool name) (text_index pool desc)) (pair_at name desc h)

module _ (pool : Pool) (good : IsGoodPool pool) where
  -- what an entry refers to is there
  pub has_parts : (key : Key) → IsIn key pool.keys → AreIn (parts key) pool.keys
  has_parts key h = all_at (HasParts pool.keys) pool.keys key good.closed h

  pub has_text : (text : List ℕ) → IsIn text pool.strings → IsIn (Text text) pool.keys
  has_text text h = all_at (λ t. IsIn (Text t) pool.keys) pool.strings text good.texts h

  pub key_fits : (key : Key) → IsIn key pool.keys → key_index pool key < 2 ^ 16
  key_fits key h =
      let s = stands pool key h in
      let within : s.place < length pool.keys = slice_get_within pool.keys s.place key s.there in
      omega (arith, s.index, within, good.few)

  tells_text : (text : List ℕ) → IsIn (Text text) pool.keys → TellsText pool (table_in pool) text
  tells_text text h = record { fits = key_fits (Text text) h; tag = text_tag pool text h; text_is = text_told pool text h }

  tells_class : (name : List ℕ) → AreIn (class_keys name) pool.keys → TellsClass pool (table_in pool) name
  tells_class name h =
      let table = table_in pool in
      let class = h.1.0 in
      let s = stands pool (Class name) class in
      record {
        fits = key_fits (Class name) class;
        some = omega (arith, s.index);
        names = record { tag = class_tag_is pool name class; name_is = class_told pool name h.0 class };
        dims = dims_there table (class_index pool name) (text_index pool name) (key_stands pool (Class name) class) ∙ ap brackets_of (text_told pool name h.0);
      }

  tells_string : (text : List ℕ) → IsIn text pool.strings → IsIn (Text text) pool.keys → TellsString pool (table_in pool) text
  tells_string text string h =
      let table = table_in pool in
      let i = string_index pool text in
      let e = string_entry pool text in
      let p = position_of bytes_eq bytes_found pool.strings text string in
      let first : i ≡ 1 + p.0 = ap (index_from 1) p.1 in
      let index : i ≡ suc p.0 = omega (arith, first) in
      let within : p.0 < length pool.strings = slice_get_within pool.strings p.0 text p.2 in
      let at : IsAt table i e = subst (λ (n : ℕ). IsAt table n e) (sym index) (string_at pool p.0 text p.2) in
      record {
        fits = omega (arith, index, within, good.few_strings);
        names = record { tag = tag_there table i e at; text_is = ap (text_at table) (first_there table i e at) ∙ text_told pool text h };
      }

  tells_member : (tag : ℕ) (m : MemberName) → AreIn (member_keys tag m) pool.keys → TellsMember pool (table_in pool) tag m
  tells_member tag m h =
      let class = h.1.0 in
      let both = h.1.1.1.1.0 in
      let member = h.1.1.1.1.1.0 in
      let table = table_in pool in
      let i = member_index pool tag m in
      let e = pair tag (class_index pool m.class) (pair_index pool m.name m.desc) in
      let at : IsAt table i e = key_stands pool (Member tag m.class m.name m.desc) member in
      let second = second_there table i e at in
      record {
        fits = key_fits (Member tag m.class m.name m.desc) member;
        names = record {
          tag_is = tag_there table i e at;
          class_is = ap (class_name_at table) (first_there table i e at) ∙ class_told pool m.class h.0 class;
          name_is = ap (λ (k : ℕ). text_at table (first_at table k)) second ∙ name_told pool m.name m.desc h.1.1.0 both;
          desc_is = ap (λ (k : ℕ). text_at table (second_at table k)) second ∙ desc_told pool m.name m.desc h.1.1.1.0 both;
        };
      }

  pub right_pool : IsRightPool pool (table_in pool)
  right_pool = record { texts = tells_text; classes = tells_class; strings = tells_string; members = tells_member }
