-- Sets of numbers below a bound, as one truth value for each number, and sets of pairs of such numbers, as one row for each first number.
use Rattle.std.specs.Prelude.{◌≡◌, ℕ, ◌<◌, ◌≤◌, length, Bool, true, false, ◌||◌, List, [], ◌∷◌, slice_index_or, slice_set}

-- the number is in the set
abbrev pub Has : List Bool → ℕ → Type 0
Has set x = slice_index_or set x false ≡ true

-- the number is not in the set
abbrev pub Lacks : List Bool → ℕ → Type 0
Lacks set x = slice_index_or set x false ≡ false

-- what is in one of two sets below one bound
abbrev pub union : List Bool → List Bool → List Bool
union [] ys = []
union (x ∷ xs) [] = x ∷ xs
union (x ∷ xs) (y ∷ ys) = (x || y) ∷ union xs ys

-- some number of the one set is not in the other
abbrev pub Adds : List Bool → List Bool → Type 0
Adds other set = (x : ℕ) × Has other x × Lacks set x

-- the number is the least of the set from a place on
pub record IsNext (set : List Bool) (from x : ℕ) : Type 0 where
  pub above : from ≤ x
  pub below : x < length set
  pub member : Has set x
  pub first : (y : ℕ) → from ≤ y → y < x → Lacks set y

-- no number of the set is at or above a place
abbrev pub HasNoneFrom : List Bool → ℕ → Type 0
HasNoneFrom set from = (y : ℕ) → from ≤ y → Lacks set y

-- there is one row for each number below the bound, each with one truth value for each such number
abbrev pub AreSquare : List (List Bool) → Type 0
AreSquare set = (a : ℕ) → a < length set → length (slice_index_or set a []) ≡ length set

-- the pair is in the set
abbrev pub HasPair : List (List Bool) → ℕ → ℕ → Type 0
HasPair set a b = Has (slice_index_or set a []) b

-- the pair is not in the set
abbrev pub LacksPair : List (List Bool) → ℕ → ℕ → Type 0
LacksPair set a b = Lacks (slice_index_or set a []) b

-- the set with this pair
abbrev pub with_pair : List (List Bool) → ℕ → ℕ → List (List Bool)
with_pair set a b = slice_set set a (slice_set (slice_index_or set a []) b true)

-- the pairs that are in one of two sets below one bound
abbrev pub union_pairs : List (List Bool) → List (List Bool) → List (List Bool)
union_pairs [] others = []
union_pairs (row ∷ rows) [] = row ∷ rows
union_pairs (row ∷ rows) (other ∷ others) = union row other ∷ union_pairs rows others

-- some pair of the one set is not in the other
abbrev pub AddsPair : List (List Bool) → List (List Bool) → Type 0
AddsPair other set = (a : ℕ) × (b : ℕ) × HasPair other a b × LacksPair set a b
