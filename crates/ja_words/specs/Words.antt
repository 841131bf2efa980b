-- The words of a call, after the program's name.
use Rattle.std.specs.Prelude.{◌≡◌, ◌≢◌, ℕ, List, [], ◌∷◌, Some, slice_get, codes, IsUtf8}
use Rattle.ja_base.specs.declared.limit.TheConstants.{MAX_GENERATED_CLASSES, MAX_SLOTS, MAX_WORKERS, MIN_SLOTS}
use Rattle.ja_words.specs.declared.command.Command.{Command}
use Rattle.ja_words.specs.declared.command.Command.TheVariants.{Analyse, Generate}
use Rattle.ja_words.specs.Options.{limit_option, plain_words, values_of, workers_option}
use Rattle.ja_words.specs.Numbers.{IsGiven, IsNumberIn}

-- what may stand for a directory: UTF-8 that is not empty and does not begin with `-`
pub record IsDirectory (word : List ℕ) : Type 0 where
  pub not_empty : word ≢ []
  pub no_option : slice_get word 0 ≢ Some 45
  pub utf8 : IsUtf8 word

-- how many workers the words ask for: 1 to 64, and 4 where they do not say
abbrev pub IsWorkers : (words : List (List ℕ)) → (workers : ℕ) → Type 0
IsWorkers words workers = IsGiven 4 1 MAX_WORKERS (values_of workers_option words) workers

-- how many slots the words allow: 16 to 16,777,216, and as many where they do not say
abbrev pub IsLimit : (words : List (List ℕ)) → (limit : ℕ) → Type 0
IsLimit words limit = IsGiven MAX_SLOTS MIN_SLOTS MAX_SLOTS (values_of limit_option words) limit

-- the words behind `analyse`: a directory and options, in any order
pub record AsksAnalysis (words : List (List ℕ)) (dir : List ℕ) (workers limit : ℕ) : Type 0 where
  pub only : plain_words words ≡ dir ∷ []
  pub directory : IsDirectory dir
  pub workers_given : IsWorkers words workers
  pub limit_given : IsLimit words limit

-- the words that are neither options nor their values are a number and a number of classes
pub record AreNumbers (words : List (List ℕ)) (number classes : ℕ) : Type 0 where
  pub first : List ℕ
  pub second : List ℕ
  pub only : plain_words words ≡ first ∷ second ∷ []
  pub is_number : IsNumberIn 0 4294967295 first number
  pub is_classes : IsNumberIn 1 MAX_GENERATED_CLASSES second classes

-- the words behind `generate`: a number, a number of classes, and the option of workers anywhere among them
pub record AsksMade (words : List (List ℕ)) (number classes workers : ℕ) : Type 0 where
  pub numbers : AreNumbers words number classes
  pub workers_given : IsWorkers words workers
  pub no_limit : values_of limit_option words ≡ []

-- the words ask to analyse a directory
pub record IsAnalyse (words : List (List ℕ)) (dir : List ℕ) (workers limit : ℕ) : Type 0 where
  pub rest : List (List ℕ)
  pub spelled : words ≡ codes "analyse" ∷ rest
  pub asks : AsksAnalysis rest dir workers limit

-- the words ask to make classes and analyse them
pub record IsGenerate (words : List (List ℕ)) (number classes workers : ℕ) : Type 0 where
  pub rest : List (List ℕ)
  pub spelled : words ≡ codes "generate" ∷ rest
  pub asks : AsksMade rest number classes workers

-- the words ask for this
abbrev pub IsCommand : (words : List (List ℕ)) → Command → Type 0
IsCommand words (Analyse dir workers limit) = IsAnalyse words dir.now workers limit
IsCommand words (Generate number classes workers) = IsGenerate words number classes workers

-- the words are wrong: they ask for nothing
pub record AreWrong (words : List (List ℕ)) : Type 0 where
  pub no_analysis : (dir : List ℕ) (workers limit : ℕ) → IsAnalyse words dir workers limit → ⊥
  pub no_made : (number classes workers : ℕ) → IsGenerate words number classes workers → ⊥
