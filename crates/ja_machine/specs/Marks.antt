-- Sets of categories of marks, as numbers: a category is in a set where the bit of its number is one.
use Rattle.std.specs.Prelude.{ℕ, ◌+◌, ◌*◌, ◌==◌, Bool, true, false, List, [], ◌∷◌, bit_or}
use Rattle.std.specs.Int.{bit_at}

-- the category is in the set
abbrev pub has : (set category : ℕ) → Bool
has set category = bit_at set category == 1

-- the set without a category
abbrev pub none : ℕ
none = 0

-- the categories of both sets
abbrev pub union : (a b : ℕ) → ℕ
union a b = bit_or a b

-- each category of the first set is in the second
abbrev pub is_within : (a b : ℕ) → Bool
is_within a b = bit_or a b == b

-- the categories whose flags are set
abbrev pub set_of : (flags : List Bool) → ℕ
set_of [] = 0
set_of (true ∷ flags) = 1 + 2 * set_of flags
set_of (false ∷ flags) = 2 * set_of flags
