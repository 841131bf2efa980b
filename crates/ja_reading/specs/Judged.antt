-- What the files that were read so far come to. Only private functions cite this.
use Rattle.std.specs.Prelude.{◌≡◌, ℕ, ◌+◌, ◌<◌, ◌≤◌, ◌⊎◌, List, Option, Some, None, Result, Ok, Err, length, sum_by}
use Rattle.ja_base.specs.Limit.{max_file_bytes, max_total_bytes}
use Rattle.ja_base.specs.declared.file.File.{File}
use Rattle.ja_base.specs.declared.refusal.Refusal.{Refusal}
use Rattle.ja_base.specs.declared.refusal.Refusal.TheVariants.{FileTooLong, TotalTooLong}
use Rattle.ja_class.specs.Meaning.{ClassSpelled}
use Rattle.ja_lib.specs.File.{IsTableFile}
use Rattle.ja_lower.specs.Accept.{AreClassesOf, IsFaulty, IsFileRefused, IsTableIn, IsTableRefused}
use Rattle.ja_lower.specs.Folder.{IsLengthRefusal, IsOver, class_files, names_of}
use Rattle.ja_reading.specs.declared.judged.TableRead.{TableRead}
use Rattle.ja_reading.specs.declared.judged.TableRead.TheVariants.{Absent, Own, Wrong}
use Rattle.ja_reading.specs.declared.judged.ClassesRead.{ClassesRead}
use Rattle.ja_reading.specs.declared.judged.Judged.{Judged}
use Rattle.ja_supertypes.specs.Faults.{IsFirst, IsNowhere}

-- what was read of the table among these files
abbrev pub IsTableRead : (files : List File) → TableRead → Type 0
IsTableRead files Absent = (file : File) → IsTableIn files file → ⊥
IsTableRead files (Own content) = (file : File) × IsTableIn files file × IsTableFile file.bytes content
IsTableRead files (Wrong refusal) = IsTableRefused files refusal

-- these class files are read as these classes, or this is said of the first that is refused
abbrev pub AreRead : (files : List File) (names : List (List ℕ)) (classes : List ClassSpelled) → Option Refusal → Type 0
AreRead files names classes None = (names ≡ names_of files) × AreClassesOf files classes
AreRead files names classes (Some refusal) = (c : ℕ) × IsFirst (IsFaulty files) c × IsFileRefused files c refusal

abbrev pub AreClassesRead : (files : List File) → ClassesRead → Type 0
AreClassesRead files read = AreRead files read.names read.classes.items read.refusal

-- the bytes of all of these files
abbrev pub bytes_of : (files : List File) → ℕ
bytes_of files = sum_by (λ (file : File). length file.bytes) files

-- these files, of which none is too long, come to this
pub record AreJudged (files : List File) (judged : Judged) : Type 0 where
  pub total : judged.total ≡ bytes_of files
  pub short : IsNowhere (IsOver files)
  pub table : IsTableRead files judged.table
  pub classes : AreClassesRead (class_files files) judged.classes

-- why a file of this name with `count` bytes is too long behind files of `total` bytes
abbrev pub IsTooLongBehind : (total : ℕ) (name : List ℕ) (count : ℕ) → Refusal → Type 0
IsTooLongBehind total name count refusal =
    ((refusal ≡ FileTooLong name) × (max_file_bytes < count)) ⊎ ((refusal ≡ TotalTooLong name) × (count ≤ max_file_bytes) × (max_total_bytes < total + count))

-- these files come to this, or the last of them is too long
abbrev pub AreJudgedOrLong : (files : List File) → Result Judged Refusal → Type 0
AreJudgedOrLong files (Ok judged) = AreJudged files judged
AreJudgedOrLong files (Err refusal) = IsLengthRefusal files refusal
