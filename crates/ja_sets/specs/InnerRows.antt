-- A square of bits, row by row.
use Rattle.std.specs.Prelude.{◌≡◌, ℕ, zero, suc, ◌*◌, ◌^◌, ◌<◌, Bool, List, [], ◌∷◌, length, take, drop}

-- so many rows of the given width, one after another
abbrev pub cut : ℕ → ℕ → List Bool → List (List Bool)
cut width zero bits = []
cut width (suc count) bits = take width bits ∷ cut width count (drop width bits)

-- the rows of a square
unfoldable pub rows : ℕ → List Bool → List (List Bool)
rows n bits = cut n n bits

-- the bits fill the square
pub record IsSquare (n : ℕ) (bits : List Bool) : Type 0 where
  pub bound : n < 2 ^ 32
  pub filled : length bits ≡ n * n
