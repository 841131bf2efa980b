-- What a folder holds.
use Rattle.std.specs.Prelude.{◌≢◌, ℕ, List, map, AllPairs}
use Rattle.ja_base.specs.declared.file.File.{File}

-- the name of a directory, and its files
pub record Contents : Type 0 where
  pub dir : List ℕ
  pub files : List File

-- the files' names, in order
abbrev pub names_of : List File → List (List ℕ)
names_of files = map (λ file. file.name) files

-- no two files have one name
abbrev pub HasDistinctNames : List File → Type 0
HasDistinctNames files = AllPairs (λ a b. a.name ≢ b.name) files
