-- Tables of truth values as sets of pairs: of a row and of a column.
use Rattle.std.specs.Prelude.{◌≡◌, ◌⊎◌, ◌↔◌, ℕ, ◌<◌, Bool, List, [], length, slice_index_or}
use Rattle.ja_sets.specs.Sets.{Has, Lacks, HasPair}

-- there are so many rows, each with so many columns
pub record IsTable (rows columns : ℕ) (table : List (List Bool)) : Type 0 where
  pub count : length table ≡ rows
  pub each : (a : ℕ) → a < rows → length (slice_index_or table a []) ≡ columns

-- each table of the first shape has the second too
abbrev pub KeepsShape : (old new : List (List Bool)) → Type 0
KeepsShape old new = (rows columns : ℕ) → IsTable rows columns old → IsTable rows columns new

-- the new table has these pairs beside those of the old one
abbrev pub Gains : (old new : List (List Bool)) → (ℕ → ℕ → Type 0) → Type 0
Gains old new Q = (a b : ℕ) → HasPair new a b ↔ (HasPair old a b ⊎ Q a b)

-- some number of two sets is not in a third
abbrev pub AddsKept : (other kept set : List Bool) → Type 0
AddsKept other kept set = (x : ℕ) × Has other x × Has kept x × Lacks set x
