-- What the names of files alone say.
use Rattle.std.specs.Prelude.{ℕ, ◌<◌, ◌≤◌, ◌⊎◌, List, Option, Some, None, count_by, length}
use Rattle.ja_base.specs.Limit.{max_class_files}
use Rattle.ja_base.specs.declared.file.File.{File}
use Rattle.ja_base.specs.declared.refusal.Refusal.{Refusal}
use Rattle.ja_lower.specs.Folder.{IsArchiveAt, IsRefusedUnread, class_files, is_archive, is_class_file}
use Rattle.ja_supertypes.specs.Faults.{IsNowhere}

-- no file is an archive, and there are few class files
pub record AreReadable (files : List File) : Type 0 where
  pub no_archive : IsNowhere (IsArchiveAt files)
  pub few : length (class_files files) ≤ max_class_files

-- the files are refused by their names, or are not
abbrev pub IsByName : (files : List File) → Option Refusal → Type 0
IsByName files None = AreReadable files
IsByName files (Some refusal) = IsRefusedUnread files refusal

-- names of files for which alone a folder is refused: one is that of an archive, or too many are those of class files
abbrev pub AreRefused : (names : List (List ℕ)) → Type 0
AreRefused names = (0 < count_by is_archive names) ⊎ (max_class_files < count_by is_class_file names)
