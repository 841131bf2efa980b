-- What a walk through a directory keeps of its entries.
use Rattle.std.specs.Prelude.{ℕ, List, [], ◌∷◌, ◌++◌, codes}
use Rattle.ja_io.specs.declared.walk.Entry.{Entry}
use Rattle.ja_io.specs.declared.walk.EntryKind.{EntryKind}
use Rattle.ja_io.specs.declared.walk.EntryKind.TheVariants.{Directory, File, Other}

-- the paths that are still to be visited of an entry of this kind: its own where it is a directory, with a slash at its end
abbrev pub directories_by : EntryKind → (path : List ℕ) → List (List ℕ)
directories_by Directory path = (path ++ codes "/") ∷ []
directories_by File path = []
directories_by Other path = []

-- the names of files that an entry of this kind gives: its own where it is a file
abbrev pub files_by : EntryKind → (path : List ℕ) → List (List ℕ)
files_by Directory path = []
files_by File path = path ∷ []
files_by Other path = []

-- what an entry of the directory `below` gives
abbrev pub directories_of : (below : List ℕ) → Entry → List (List ℕ)
directories_of below entry = directories_by entry.kind (below ++ entry.name)

abbrev pub files_of : (below : List ℕ) → Entry → List (List ℕ)
files_of below entry = files_by entry.kind (below ++ entry.name)
