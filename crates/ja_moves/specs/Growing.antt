-- Tables that grow, and how much is lacking in them.
use Rattle.std.specs.Prelude.{◌≡◌, ℕ, ◌+◌, ◌<◌, Bool, true, false, List, [], ◌∷◌}
use Rattle.ja_matrix.specs.Matrices.{IsTable, Gains}

-- how many columns are false in a row
abbrev pub lacking_in : List Bool → ℕ
lacking_in [] = 0
lacking_in (true ∷ row) = lacking_in row
lacking_in (false ∷ row) = 1 + lacking_in row

-- and in the rows of a table
abbrev pub lacking : List (List Bool) → ℕ
lacking [] = 0
lacking (row ∷ rows) = lacking_in row + lacking rows

-- the new table, of so many rows and columns, has these pairs beside those of the old one; and whether something is new
pub record Grows (rows columns : ℕ) (old new : List (List Bool)) (changed : Bool) (Q : ℕ → ℕ → Type 0) : Type 0 where
  pub gains : Gains old new Q
  pub shape : IsTable rows columns new
  pub idle : changed ≡ false → new ≡ old
  pub falls : changed ≡ true → lacking new < lacking old
