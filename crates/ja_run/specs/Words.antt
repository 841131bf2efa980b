-- The words of the command line, after the program's name.
use Rattle.std.specs.Prelude.{◌≡◌, ◌≢◌, ℕ, List, [], ◌∷◌, Some, slice_get, codes, IsUtf8}

-- what may stand for a directory: UTF-8 that is not empty and does not begin with `-`
pub record IsDirectory (word : List ℕ) : Type 0 where
  pub not_empty : word ≢ []
  pub no_option : slice_get word 0 ≢ Some 45
  pub utf8 : IsUtf8 word

-- the words are `analyse` and a directory
pub record IsAnalyse (words : List (List ℕ)) (dir : List ℕ) : Type 0 where
  pub spelled : words ≡ codes "analyse" ∷ dir ∷ []
  pub directory : IsDirectory dir

-- the words are not `analyse` and a directory
abbrev pub AreWrong : List (List ℕ) → Type 0
AreWrong words = (dir : List ℕ) → IsAnalyse words dir → ⊥
