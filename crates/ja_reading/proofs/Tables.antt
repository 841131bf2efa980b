-- The table among files that are read one after another.
use Rattle.std.proofs.Common.{◌≡◌, ℕ, zero, suc, ◌<◌, inl, inr, Bool, true, false, ◌||◌, List, [], ◌∷◌, ◌++◌, get_or, Some, Contains, refl, ap, sym, ◌∙◌, arith}
use Rattle.std.specs.Prelude.{bytes_eq}
use Rattle.std.proofs.lemmas.List.Elements.{Contains-append_cases, Contains-append_left, Contains-append_right}
use Rattle.std.proofs.lemmas.Slice.Eq.{bytes_eq-Decides}
use Rattle.ja_base.specs.declared.file.File.{File}
use Rattle.ja_base.specs.declared.refusal.Refusal.{Refusal}
use Rattle.ja_lib.specs.Content.{Content}
use Rattle.ja_lib.specs.Defaults.{default_content}
use Rattle.ja_lib.specs.File.{IsTableFile, IsFaultOf}
use Rattle.ja_lib.specs.declared.fault.TableFault.{TableFault}
use Rattle.ja_lower.specs.Accept.{HasTable, own, default, IsTableIn, IsTableRefused}
use Rattle.ja_lower.specs.Folder.{is_class_file, is_read, read_files, table_name}
use Rattle.ja_lower.specs.Refusals.{table_refusal}
use Rattle.ja_reading.specs.Judged.{IsTableRead}
use Rattle.ja_reading.specs.declared.judged.TableRead.{TableRead}
use Rattle.ja_reading.specs.declared.judged.TableRead.TheVariants.{Absent, Own, Wrong}
use Rattle.ja_reading.proofs.Places.{passed, passes}

-- the one item of a list
only_item : {X : Type 0} (x y : X) → Contains (x ∷ []) y → x ≡ y
only_item {X} x y held = at held.0 held.1 held.2
  where
    at : (k : ℕ) → k < 1 → get_or (x ∷ []) k y ≡ y → x ≡ y
    at zero below e = e
    at (suc k) below e = absurd (omega arith)

-- a table stays one whatever follows
table_more : (xs ys : List File) (file : File) → IsTableIn xs file → IsTableIn (xs ++ ys) file
table_more xs ys file is = record { held = Contains-append_left xs ys file is.held; named = is.named }

-- what was read of the table stays as it is behind a file that is not the table
pub behind_other : (xs : List File) (f : File) (read : TableRead) → (f.name ≡ table_name → ⊥) → IsTableRead xs read → IsTableRead (xs ++ f ∷ []) read
behind_other xs f Absent other none = λ file is. elim (Contains-append_cases xs (f ∷ []) file is.held) [
  | inl there ↦ none file (record { held = there; named = is.named })
  | inr here ↦ other (ap (λ (x : File). x.name) (only_item f file here) ∙ is.named)
]
behind_other xs f (Own content) other read = (read.0, table_more xs (f ∷ []) read.0 read.1, read.2)
behind_other xs f (Wrong refusal) other read =
    record { file = read.file; table = table_more xs (f ∷ []) read.file read.table; fault = read.fault; wrong = read.wrong; is = read.is }

-- the last file is the table
last_table : (xs : List File) (f : File) → f.name ≡ table_name → IsTableIn (xs ++ f ∷ []) f
last_table xs f named = record { held = Contains-append_right xs (f ∷ []) f (0, omega arith, refl); named = named }

pub own_table : (xs : List File) (f : File) (content : Content) → f.name ≡ table_name → IsTableFile f.bytes content → IsTableRead (xs ++ f ∷ []) (Own content)
own_table xs f content named is = (f, last_table xs f named, is)

pub wrong_table : (xs : List File) (f : File) (fault : TableFault) (refusal : Refusal) → f.name ≡ table_name → IsFaultOf f.bytes fault → table_refusal fault ≡ Some refusal
    → IsTableRead (xs ++ f ∷ []) (Wrong refusal)
wrong_table xs f fault refusal named wrong is = record { file = f; table = last_table xs f named; fault = fault; wrong = wrong; is = is }

-- a file that is read and is no class file is the table
pub named_table : (name : List ℕ) → is_read name ≡ true → is_class_file name ≡ false → name ≡ table_name
named_table name read other = (bytes_eq-Decides name table_name).0 (by (is_class_file name) (bytes_eq name table_name) read other)
  where
    by : (a b : Bool) → (a || b) ≡ true → a ≡ false → b ≡ true
    by true b either other = cc
    by false b either other = either

-- a class file is not the table
pub other_name : (name : List ℕ) → is_class_file name ≡ true → name ≡ table_name → ⊥
other_name name class table = let plain : is_class_file table_name ≡ false = refl in let both : is_class_file table_name ≡ true = ap is_class_file (sym table) ∙ class in cc

-- the table among the files that are read is that of the folder
table_of_read : (files : List File) (file : File) → IsTableIn (read_files files) file → IsTableIn files file
table_of_read files file is = record { held = passed (λ (x : File). is_read x.name) files file is.held; named = is.named }

-- the folder's table, where it was read or there is none
pub table_found : (files : List File) (content : Content) → IsTableRead (read_files files) (Own content) → HasTable files content
table_found files content read = own read.0 (table_of_read files read.0 read.1) read.2

pub table_absent : (files : List File) → IsTableRead (read_files files) Absent → HasTable files default_content
table_absent files none = default (λ file is. none file (record {
  held = passes (λ (x : File). is_read x.name) files file (ap is_read is.named) is.held;
  named = is.named;
}))

pub table_refused : (files : List File) (refusal : Refusal) → IsTableRead (read_files files) (Wrong refusal) → IsTableRefused files refusal
table_refused files refusal read =
    record { file = read.file; table = table_of_read files read.file read.table; fault = read.fault; wrong = read.wrong; is = read.is }
