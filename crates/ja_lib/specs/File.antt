-- What a table file says: the rules for its keys, over the document that TOML reads in its bytes.
use Rattle.std.specs.Prelude.{◌≡◌, ℕ, zero, suc, nat_lt, ℤ, pos, negsuc, Bool, true, false, ◌&&◌, ◌||◌, IsTrue, List, [], ◌∷◌, ◌++◌, Option, Some, None, option_and_then, option_map, bytes_eq, codes, length, map, nat_le, if◌then◌else◌, ◌==◌, IsUtf8}
use Rattle.std.specs.List.{list_all, list_any}
use Rattle.std.specs.List as lists
use Rattle.toml.specs.Data.{Data, Items, no_items, item, Members, no_members, member, get_member, as_str, as_bool, as_integer, as_array, as_table}
use Rattle.toml.specs.Parse.{parse_document}
use Rattle.ja_bytes.specs.DescriptorText.{IsMethodText}
use Rattle.ja_ir.specs.declared.row.LibRow.{LibRow}
use Rattle.ja_ir.specs.declared.row.RowFlow.{RowFlow}
use Rattle.ja_ir.specs.declared.row.RowFlow.TheVariants.{Always, Never, Args}
use Rattle.ja_ir.specs.declared.row.RowEffect.{RowEffect}
use Rattle.ja_ir.specs.declared.row.RowEffect.TheVariants.{Quiet, Absorb, Blend}
use Rattle.ja_ir.specs.declared.row.RowResult.{RowResult}
use Rattle.ja_ir.specs.declared.row.RowResult.TheVariants.{Fresh, Argument, Member, Any}
use Rattle.ja_lib.specs.declared.row.TableRow.{TableRow}
use Rattle.ja_lib.specs.declared.entry.EntryRow.{EntryRow}
use Rattle.ja_lib.specs.declared.fault.TableFault.{TableFault}
use Rattle.ja_lib.specs.declared.fault.TableFault.TheVariants.{Text, UnknownKey, BadCategory, BadRow, BadEntry, Memory}
use Rattle.ja_lib.specs.Content.{Content, all_marks}
use Rattle.ja_base.specs.Limit.{max_categories}

-- the bytes are a text in TOML of this document
abbrev pub IsDocument : List ℕ → Members → Type 0
IsDocument bytes document = IsUtf8 bytes × (parse_document bytes ≡ Some document)

-- each key of a table is one of these
abbrev pub keys_among : List (List ℕ) → Members → Bool
keys_among names no_members = true
keys_among names (member key value rest) = list_any (bytes_eq key) names && keys_among names rest

-- the things that the items stand for, behind those seen: each is read from its item and from the things before it
abbrev pub read_items : {A : Type 0} → (List A → Data → Option A) → List A → Items → Option (List A)
read_items next seen no_items = Some seen
read_items next seen (item value rest) = option_and_then (λ thing. read_items next (seen ++ thing ∷ []) rest) (next seen value)

-- the list, if it is not empty
abbrev pub if_filled : {A : Type 0} → List A → Option (List A)
if_filled [] = None
if_filled (x ∷ xs) = Some (x ∷ xs)

-- a text
abbrev pub any_text : Option Data → Option (List ℕ)
any_text value = option_and_then as_str value

-- a text that is not empty
abbrev pub filled_text : Option Data → Option (List ℕ)
filled_text value = option_and_then if_filled (any_text value)

-- the texts of an array of texts alone
abbrev pub texts_in : Items → Option (List (List ℕ))
texts_in items = read_items (λ seen. as_str) [] items

-- the texts of such an array that is not empty
abbrev pub filled_texts : Option Data → Option (List (List ℕ))
filled_texts value = option_and_then if_filled (option_and_then texts_in (option_and_then as_array value))

-- a truth value, false where it is missing
abbrev pub truth_at : Option Data → Option Bool
truth_at None = Some false
truth_at (Some value) = as_bool value

-- a number from 0 to 254
abbrev pub position : ℤ → Option ℕ
position (pos n) = if nat_lt n 255 then Some n else None
position (negsuc n) = None

-- a number that is not among those seen
abbrev pub unseen : List ℕ → ℕ → Option ℕ
unseen seen n = if list_any (λ s. s == n) seen then None else Some n

-- a value that is a number from 0 to 254, and not among those seen
abbrev pub new_position : List ℕ → Data → Option ℕ
new_position seen value = option_and_then (unseen seen) (option_and_then position (as_integer value))

-- the positions of an array: distinct numbers from 0 to 254
abbrev pub positions_in : Items → Option (List ℕ)
positions_in items = read_items new_position [] items

-- the positions at a key, none where it is missing
abbrev pub positions_at : Option Data → Option (List ℕ)
positions_at None = Some []
positions_at (Some value) = option_and_then positions_in (as_array value)

-- when a call makes tainted things, by the file's word
abbrev pub flow_word : List ℕ → Option RowFlow
flow_word word =
    if bytes_eq word (codes "always") then Some Always
    else if bytes_eq word (codes "none") then Some Never
    else if bytes_eq word (codes "args") then Some Args
    else None

-- where it is missing, tainted arguments make tainted things
abbrev pub flow_at : Option Data → Option RowFlow
flow_at None = Some Args
flow_at (Some value) = option_and_then flow_word (as_str value)

-- which objects a call may change, by the file's word
abbrev pub effect_word : List ℕ → Option RowEffect
effect_word word =
    if bytes_eq word (codes "none") then Some Quiet
    else if bytes_eq word (codes "absorb") then Some Absorb
    else if bytes_eq word (codes "blend") then Some Blend
    else None

-- where it is missing, a call may change all that its arguments reach
abbrev pub effect_at : Option Data → Option RowEffect
effect_at None = Some Blend
effect_at (Some value) = option_and_then effect_word (as_str value)

-- what a call answers, by the file's word
abbrev pub result_word : List ℕ → Option RowResult
result_word word =
    if bytes_eq word (codes "fresh") then Some Fresh
    else if bytes_eq word (codes "self") then Some Argument
    else if bytes_eq word (codes "member") then Some Member
    else if bytes_eq word (codes "any") then Some Any
    else None

-- where it is missing, a call may answer anything
abbrev pub result_at : Option Data → Option RowResult
result_at None = Some Any
result_at (Some value) = option_and_then result_word (as_str value)

-- a value that is a text, and this method descriptor (JVM specification 4.3.3)
abbrev pub IsDesc : Option Data → List ℕ → Type 0
IsDesc value desc = (any_text value ≡ Some desc) × IsMethodText desc

-- a method descriptor, or no value at all
abbrev pub MayBeDesc : Option Data → Option (List ℕ) → Type 0
MayBeDesc None desc = desc ≡ None
MayBeDesc (Some value) None = ⊥
MayBeDesc (Some value) (Some desc) = IsDesc (Some value) desc

-- the value at a key of a table
abbrev pub at : Members → List ℕ → Option Data
at members key = get_member key members

-- a byte of the name of a category of marks: from a to z, from 0 to 9, or _
abbrev pub is_category_byte : ℕ → Bool
is_category_byte b = (nat_le 97 b && nat_le b 122) || ((nat_le 48 b && nat_le b 57) || (b == 95))

-- the name of a category may have so many bytes
abbrev pub is_name_length : ℕ → Bool
is_name_length n = nat_le 1 n && nat_le n 32

-- the text may be the name of a category: it has 1 to 32 such bytes
abbrev pub is_category : List ℕ → Bool
is_category text = is_name_length (length text) && list_all is_category_byte text

-- the text, if it passes the test
abbrev pub if_passes : (List ℕ → Bool) → List ℕ → Option (List ℕ)
if_passes test text = if test text then Some text else None

-- the text, if it is not among those seen
abbrev pub unseen_text : List (List ℕ) → List ℕ → Option (List ℕ)
unseen_text seen text = if list_any (bytes_eq text) seen then None else Some text

-- a value that is the name of a category, and not among those seen
abbrev pub new_category : List (List ℕ) → Data → Option (List ℕ)
new_category seen value = option_and_then (unseen_text seen) (option_and_then (if_passes is_category) (as_str value))

-- the categories of an array of their names alone
abbrev pub categories_in : Items → Option (List (List ℕ))
categories_in items = read_items new_category [] items

-- the list, if it has 1 to 8 items
abbrev pub if_few : List (List ℕ) → Option (List (List ℕ))
if_few names = if nat_le 1 (length names) && nat_le (length names) max_categories then Some names else None

-- the categories at a key: 1 to 8 distinct names, and none where it is missing
abbrev pub categories_at : Option Data → Option (List (List ℕ))
categories_at None = Some []
categories_at (Some value) = option_and_then if_few (option_and_then categories_in (as_array value))

-- a value that is one of these categories, and not among those seen
abbrev pub new_mark : (names : List (List ℕ)) → List (List ℕ) → Data → Option (List ℕ)
new_mark names seen value = option_and_then (unseen_text seen) (option_and_then (if_passes (λ text. list_any (bytes_eq text) names)) (as_str value))

-- the categories that an array of some of them chooses
abbrev pub chosen_in : (names : List (List ℕ)) → Items → Option (List (List ℕ))
chosen_in names items = read_items (new_mark names) [] items

-- of each category, whether it is among those chosen
abbrev pub marks_of : (names chosen : List (List ℕ)) → List Bool
marks_of names chosen = map (λ name. list_any (bytes_eq name) chosen) names

-- of each category, whether it is among those at a key, distinct ones and at least one; all of them where it is missing
abbrev pub marks_at : (names : List (List ℕ)) → Option Data → Option (List Bool)
marks_at names None = Some (all_marks names)
marks_at names (Some value) =
    option_map (marks_of names) (option_and_then if_filled (option_and_then (chosen_in names) (as_array value)))

-- the place of a name among the categories
abbrev pub place_among : (names : List (List ℕ)) → List ℕ → Option ℕ
place_among names text = lists.position (bytes_eq text) names

-- the category at a key, the first where it is missing
abbrev pub category_at : (names : List (List ℕ)) → Option Data → Option ℕ
category_at names None = Some 0
category_at names (Some value) = option_and_then (place_among names) (as_str value)

-- the keys of a row, and of an entry
abbrev pub row_keys : List (List ℕ)
row_keys = codes "class" ∷ codes "method" ∷ codes "desc" ∷ codes "flow" ∷ codes "effect" ∷ codes "result" ∷ codes "sink" ∷ codes "marks" ∷ codes "category" ∷ []

abbrev pub entry_keys : List (List ℕ)
entry_keys = codes "class" ∷ codes "method" ∷ codes "desc" ∷ codes "static" ∷ codes "marked" ∷ codes "marks" ∷ []

-- the members of a table of the file say that a call does this, where these are the categories
pub record SpellsMeaning (names : List (List ℕ)) (members : Members) (meaning : LibRow) : Type 0 where
  pub flow : flow_at (at members (codes "flow")) ≡ Some meaning.flow
  pub effect : effect_at (at members (codes "effect")) ≡ Some meaning.effect
  pub result : result_at (at members (codes "result")) ≡ Some meaning.result
  pub sinks : positions_at (at members (codes "sink")) ≡ Some meaning.sinks
  pub marks : marks_at names (at members (codes "marks")) ≡ Some meaning.marks
  pub category : category_at names (at members (codes "category")) ≡ Some meaning.category

-- the members of a table of the file spell this row
pub record SpellsRow (names : List (List ℕ)) (members : Members) (row : TableRow) : Type 0 where
  pub keys : IsTrue (keys_among row_keys members)
  pub classes : filled_texts (at members (codes "class")) ≡ Some row.classes
  pub method : filled_text (at members (codes "method")) ≡ Some row.method
  pub desc : MayBeDesc (at members (codes "desc")) row.desc
  pub meaning : SpellsMeaning names members row.meaning

-- the members of a table of the file spell this entry; only static methods may be of every class
pub record SpellsEntry (names : List (List ℕ)) (members : Members) (entry : EntryRow) : Type 0 where
  pub keys : IsTrue (keys_among entry_keys members)
  pub class : any_text (at members (codes "class")) ≡ Some entry.class
  pub method : filled_text (at members (codes "method")) ≡ Some entry.method
  pub desc : IsDesc (at members (codes "desc")) entry.desc
  pub is_static : truth_at (at members (codes "static")) ≡ Some entry.is_static
  pub marked : positions_at (at members (codes "marked")) ≡ Some entry.marked
  pub marks : marks_at names (at members (codes "marks")) ≡ Some entry.marks
  pub every_class : entry.class ≡ codes "*" → entry.is_static ≡ true

-- the tables of an array of tables alone
abbrev pub tables_in : Items → Option (List Members)
tables_in items = read_items (λ seen. as_table) [] items

-- the tables at a key, none where it is missing
abbrev pub tables_at : Option Data → Option (List Members)
tables_at None = Some []
tables_at (Some value) = option_and_then tables_in (as_array value)

-- the keys of the document
abbrev pub top_keys : List (List ℕ)
top_keys = codes "row" ∷ codes "entry" ∷ codes "category" ∷ []

-- the document has no key but those of rows, entries and categories, and these tables there
pub record HasTables (document : Members) (rows entries : List Members) : Type 0 where
  pub keys : IsTrue (keys_among top_keys document)
  pub are_rows : tables_at (at document (codes "row")) ≡ Some rows
  pub are_entries : tables_at (at document (codes "entry")) ≡ Some entries

-- the document has these categories of marks
abbrev pub HasCategories : (document : Members) (names : List (List ℕ)) → Type 0
HasCategories document names = categories_at (at document (codes "category")) ≡ Some names

-- each table spells the thing at its place
abbrev pub SpellAll : {A : Type 0} → (Members → A → Type 0) → List Members → List A → Type 0
SpellAll Spells [] [] = Unit {0}
SpellAll Spells (t ∷ tables) (x ∷ things) = Spells t x × SpellAll Spells tables things
SpellAll Spells _ _ = ⊥

-- the table at this place is the first that spells nothing
abbrev pub IsFirstWrong : {A : Type 0} → (Members → A → Type 0) → List Members → ℕ → Type 0
IsFirstWrong Spells [] n = ⊥
IsFirstWrong {A} Spells (t ∷ tables) zero = (x : A) → Spells t x → ⊥
IsFirstWrong {A} Spells (t ∷ tables) (suc n) = (x : A) × Spells t x × IsFirstWrong Spells tables n

-- the document is a table of this content
pub record SpellsContent (document : Members) (content : Content) : Type 0 where
  pub rows : List Members
  pub entries : List Members
  pub tables : HasTables document rows entries
  pub categories : HasCategories document content.categories
  pub all_rows : SpellAll (SpellsRow content.categories) rows content.rows
  pub all_entries : SpellAll (SpellsEntry content.categories) entries content.entries

-- the document has tables, and at the key of categories something else than these
pub record HasWrongCategories (document : Members) : Type 0 where
  pub rows : List Members
  pub entries : List Members
  pub tables : HasTables document rows entries
  pub wrong : (names : List (List ℕ)) → HasCategories document names → ⊥

-- the document has tables and categories that are right, and the first wrong row of its tables of rows stands at this place
pub record HasWrongRow (document : Members) (place : ℕ) : Type 0 where
  pub rows : List Members
  pub entries : List Members
  pub tables : HasTables document rows entries
  pub names : List (List ℕ)
  pub categories : HasCategories document names
  pub wrong : IsFirstWrong (SpellsRow names) rows place

-- the document has tables, categories and rows that are right, and the first wrong one of its tables of entries stands at this place
pub record HasWrongEntry (document : Members) (place : ℕ) : Type 0 where
  pub rows : List Members
  pub entries : List Members
  pub tables : HasTables document rows entries
  pub names : List (List ℕ)
  pub categories : HasCategories document names
  pub spelled : List TableRow
  pub all_rows : SpellAll (SpellsRow names) rows spelled
  pub wrong : IsFirstWrong (SpellsEntry names) entries place

-- what is wrong with a document, the first fault by the order: the keys, the categories, the rows, the entries; want of memory may always be
abbrev pub IsFaultIn : Members → TableFault → Type 0
IsFaultIn document Text = ⊥
IsFaultIn document UnknownKey = (rows : List Members) (entries : List Members) → HasTables document rows entries → ⊥
IsFaultIn document BadCategory = HasWrongCategories document
IsFaultIn document (BadRow n) = HasWrongRow document n
IsFaultIn document (BadEntry n) = HasWrongEntry document n
IsFaultIn document Memory = Unit {0}

-- the bytes are a table file of this content
abbrev pub IsTableFile : List ℕ → Content → Type 0
IsTableFile bytes content = (document : Members) × IsDocument bytes document × SpellsContent document content

-- what is wrong with bytes: no text in TOML, or the first fault in its document; want of memory may always be
abbrev pub IsFaultOf : List ℕ → TableFault → Type 0
IsFaultOf bytes Text = (document : Members) → IsDocument bytes document → ⊥
IsFaultOf bytes Memory = Unit {0}
IsFaultOf bytes fault = (document : Members) × IsDocument bytes document × IsFaultIn document fault
