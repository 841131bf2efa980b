-- What a run comes to: the text that is due, and the status with which it is due.
use Rattle.std.specs.Prelude.{◌≡◌, ◌≢◌, ℕ, ◌≤◌, ◌⊎◌, Bool, List, [], ◌∷◌, ◌++◌, length, codes, Option, Some, IfSome, IsSomeAnd, slice_get, IsPermutation, IsSorted}
use Rattle.std.specs.Ordering.{nat_cmp}
use Rattle.std.specs.Cmp.Lexicographic.{slice_cmp}
use Rattle.std.specs.Io.KnownBytes.{Appends}
use Rattle.ja_base.specs.Limit.{max_file_bytes}
use Rattle.ja_base.specs.Cause.{Rose}
use Rattle.ja_base.specs.declared.file.File.{File}
use Rattle.ja_io.specs.Contents.{Contents, names_of}
use Rattle.ja_class.specs.declared.first.FirstMethod.{FirstMethod}
use Rattle.ja_class.specs.FirstForm.{IsFirstForm}
use Rattle.ja_plain.specs.Verdict.{AreVerdicts}
use Rattle.ja_plain.specs.Covers.{AreClean}
use Rattle.ja_run.specs.Words.{IsAnalyse, AreWrong}
use Rattle.ja_run.specs.Writing.{IsCut}
use Rattle.ja_run.specs.Report.{empty_report, report_of, status_of, unbuilt_line, usage_lines}

-- a file's name is that of a class file
abbrev pub IsClassFileName : List ℕ → Type 0
IsClassFileName name = (stem : List ℕ) × (name ≡ stem ++ codes ".class")

-- the file is a class file of the first form of at most 4 MiB, and this is its method, which keeps the file's name
pub record IsFirstFile (file : File) (m : FirstMethod) : Type 0 where
  pub named : IsClassFileName file.name
  pub short : length file.bytes ≤ max_file_bytes
  pub read : FirstMethod
  pub form : IsFirstForm file.bytes read
  pub method : m ≡ record read { file = file.name }

-- the file is no class file of the first form
abbrev pub IsUnbuilt : File → Type 0
IsUnbuilt file = (m : FirstMethod) → IsFirstFile file m → ⊥

-- of the files' names in the order of their bytes this is the second
pub record IsSecondName (files : List File) (name : List ℕ) : Type 0 where
  pub names : List (List ℕ)
  pub each : IsPermutation (names_of files) names
  pub ordered : IsSorted (slice_cmp nat_cmp) names
  pub second : slice_get names 1 ≡ Some name

-- the status and the text of a report on this method: those of the least solution, and no marked run passes a tainted
-- value to a sink call that is said to be clean
pub record IsAnalysis (m : FirstMethod) (status : ℕ) (text : List ℕ) : Type 0 where
  pub flags : List Bool
  pub verdicts : AreVerdicts m flags
  pub clean : AreClean m flags
  pub numbered : status ≡ status_of flags
  pub spelled : text ≡ report_of m flags

-- files come to this status and this text
pub data ComesTo (files : List File) : (status : ℕ) → (text : List ℕ) → Type 0 where
  -- no file: the empty report
  without_files : files ≡ [] → ComesTo files 0 empty_report
  -- two files or more: the second is not taken
  too_many : (name : List ℕ) → IsSecondName files name → ComesTo files 3 (unbuilt_line name)
  -- one file that is not in the first form
  not_first : (file : File) → files ≡ file ∷ [] → IsUnbuilt file → ComesTo files 3 (unbuilt_line file.name)
  -- one class of the first form: the report of the least solution
  analysed : (file : File) (m : FirstMethod) (status : ℕ) (text : List ℕ) → files ≡ file ∷ [] → IsFirstFile file m → IsAnalysis m status text
      → ComesTo files status text

-- a status that a folder's content comes to: clean, warned or refused
abbrev pub IsVerdictStatus : ℕ → Type 0
IsVerdictStatus status = (status ≤ 3) × (status ≢ 2)

-- what is due, by the words and by what a folder tells, where no call of the folder failed
pub data IsDue (words : List (List ℕ)) (told : Option Contents) : (status : ℕ) → (text : List ℕ) → Type 0 where
  usage : AreWrong words → IsDue words told 2 usage_lines
  answered : (dir : List ℕ) (status : ℕ) (text : List ℕ) → IsAnalyse words dir
      → IfSome told (λ held. (held.dir ≡ dir) × ComesTo held.files status text) → IsVerdictStatus status
      → IsDue words told status text

-- a call of the folder failed, or the folder tells another directory than the words
pub record HasFailed (words : List (List ℕ)) (told : Option Contents) (faults_before faults_after : ℕ) : Type 0 where
  pub dir : List ℕ
  pub right : IsAnalyse words dir
  pub cause : Rose faults_before faults_after ⊎ IsSomeAnd told (λ held. held.dir ≢ dir)

-- how a run ends where these statuses and texts are due: by what the sink tells before and after it, and by what failed
pub data Ends (Due : (status : ℕ) → (text : List ℕ) → Type 0) (before after : Option (List ℕ)) (FolderFailed SinkFailed : Type 0) : (status : ℕ) → Type 0 where
  -- the text was written whole
  whole : (status : ℕ) (text : List ℕ) → Due status text → Appends before after text → Ends Due before after FolderFailed SinkFailed status
  -- writing failed after a proper prefix of the text
  cut : (status : ℕ) (text : List ℕ) → Due status text → IsCut before after text → SinkFailed → Ends Due before after FolderFailed SinkFailed 5
  -- the folder failed, and nothing was written
  no_folder : FolderFailed → after ≡ before → Ends Due before after FolderFailed SinkFailed 4
  -- memory ran out, and nothing was written
  no_memory : after ≡ before → Ends Due before after FolderFailed SinkFailed 7

-- the words name a directory, and the text that its files come to with this status was written whole
pub record IsAnswered (words : List (List ℕ)) (told : Option Contents) (before after : Option (List ℕ)) (status : ℕ) : Type 0 where
  pub dir : List ℕ
  pub right : IsAnalyse words dir
  pub text : List ℕ
  pub due : IfSome told (λ held. (held.dir ≡ dir) × ComesTo held.files status text)
  pub written : Appends before after text

-- the words are wrong, and the usage lines were written whole
pub record IsUsage (words : List (List ℕ)) (before after : Option (List ℕ)) : Type 0 where
  pub wrong : AreWrong words
  pub written : Appends before after usage_lines

-- the text is a report in which no sink call is wrongly said to be clean: no run of the marked machine, over any list of
-- the environment's actions, passes a tainted value to a sink call whose line says clean
pub data IsSoundReport (files : List File) (text : List ℕ) : Type 0 where
  without_sinks : files ≡ [] → text ≡ empty_report → IsSoundReport files text
  sound : (file : File) (m : FirstMethod) (flags : List Bool) → files ≡ file ∷ [] → IsFirstFile file m → text ≡ report_of m flags
      → AreVerdicts m flags → AreClean m flags → IsSoundReport files text

-- where the folder tells its files, the text that was written is such a report on them
pub record IsSound (told : Option Contents) (before after : Option (List ℕ)) : Type 0 where
  pub text : List ℕ
  pub written : Appends before after text
  pub report : IfSome told (λ held. IsSoundReport held.files text)
