-- Which files of a folder are read, and which folders are refused by the names and lengths of their files alone.
use Rattle.std.specs.Prelude.{◌≡◌, ℕ, suc, ◌<◌, ◌≤◌, ◌⊎◌, ◌||◌, Bool, true, List, [], ◌∷◌, Some, IsPermutation, IsSorted, bytes_eq, codes, filter, length, map, nat_eq, slice_get, sum_by, take}
use Rattle.std.specs.List.{IsDistinct, ends_with, list_any}
use Rattle.std.specs.Ordering.{nat_cmp}
use Rattle.std.specs.Cmp.Lexicographic.{slice_cmp}
use Rattle.ja_base.specs.Limit.{max_class_files, max_file_bytes, max_total_bytes}
use Rattle.ja_base.specs.declared.file.File.{File}
use Rattle.ja_base.specs.declared.refusal.Refusal.{Refusal}
use Rattle.ja_base.specs.declared.refusal.Refusal.TheVariants.{Archive, TooManyFiles, FileTooLong, TotalTooLong}
use Rattle.ja_supertypes.specs.Faults.{IsFirst, IsNowhere}

-- the files' names, in order
abbrev pub names_of : List File → List (List ℕ)
names_of files = map (λ (file : File). file.name) files

-- no two files have one name, as in every folder
abbrev pub AreNamedApart : List File → Type 0
AreNamedApart files = IsDistinct bytes_eq (names_of files)

-- the files in the order of their names, which is that of their bytes
pub record AreInOrder (files ordered : List File) : Type 0 where
  pub each : IsPermutation files ordered
  pub sorted : IsSorted (slice_cmp nat_cmp) (names_of ordered)

-- the suffixes of archives
abbrev pub archive_suffixes : List (List ℕ)
archive_suffixes = codes ".jar" ∷ codes ".war" ∷ codes ".ear" ∷ codes ".zip" ∷ []

-- the name is that of an archive
abbrev pub is_archive : (name : List ℕ) → Bool
is_archive name = list_any (λ suffix. ends_with nat_eq name suffix) archive_suffixes

-- the name is that of a class file
abbrev pub is_class_file : (name : List ℕ) → Bool
is_class_file name = ends_with nat_eq name (codes ".class")

-- the name of the file that has the table of sources and sinks
abbrev pub table_name : List ℕ
table_name = codes "julia.toml"

-- a file of this name is read
abbrev pub is_read : (name : List ℕ) → Bool
is_read name = is_class_file name || bytes_eq name table_name

-- the class files among the files
abbrev pub class_files : List File → List File
class_files files = filter (λ (file : File). is_class_file file.name) files

-- the files that are read; the others are passed over
abbrev pub read_files : List File → List File
read_files files = filter (λ (file : File). is_read file.name) files

-- the file in place k is an archive
pub record IsArchiveAt (files : List File) (k : ℕ) : Type 0 where
  pub file : File
  pub at : slice_get files k ≡ Some file
  pub archive : is_archive file.name ≡ true

-- the file has more than 4 MiB
abbrev pub IsTooLong : File → Type 0
IsTooLong file = max_file_bytes < length file.bytes

-- the files up to this place and the one there have more than 64 MiB together
abbrev pub IsTooMuch : List File → (k : ℕ) → Type 0
IsTooMuch files k = max_total_bytes < sum_by (λ (file : File). length file.bytes) (take (suc k) files)

-- with the file in place k, one file is too long, or all so far are too long together
pub record IsOver (files : List File) (k : ℕ) : Type 0 where
  pub file : File
  pub at : slice_get files k ≡ Some file
  pub over : IsTooLong file ⊎ IsTooMuch files k

-- the first file with which it is too much, of the files that are read; where it is too long itself, that is said
pub data IsLengthRefusal (files : List File) : Refusal → Type 0 where
  file_too_long : (k : ℕ) (file : File) → IsFirst (IsOver files) k → slice_get files k ≡ Some file → IsTooLong file → IsLengthRefusal files (FileTooLong file.name)
  total_too_long : (k : ℕ) (file : File) → IsFirst (IsOver files) k → slice_get files k ≡ Some file → (IsTooLong file → ⊥) → IsLengthRefusal files (TotalTooLong file.name)

-- the folder is refused before what its files hold is judged: for the first archive, for the number of its class files, for lengths.
-- The files are in order
pub data IsRefusedUnread (files : List File) : Refusal → Type 0 where
  archive : (k : ℕ) (file : File) → IsFirst (IsArchiveAt files) k → slice_get files k ≡ Some file → IsRefusedUnread files (Archive file.name)
  too_many_files : IsNowhere (IsArchiveAt files) → max_class_files < length (class_files files) → IsRefusedUnread files (TooManyFiles (length (class_files files)))
  too_long : {refusal : Refusal} → IsNowhere (IsArchiveAt files) → length (class_files files) ≤ max_class_files → IsLengthRefusal (read_files files) refusal → IsRefusedUnread files refusal

-- the folder is not
pub record IsReadable (files : List File) : Type 0 where
  pub no_archive : IsNowhere (IsArchiveAt files)
  pub few : length (class_files files) ≤ max_class_files
  pub short : IsNowhere (IsOver (read_files files))
