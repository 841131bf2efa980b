-- Lists of numbers, one for each key.
use Rattle.std.specs.Prelude.{◌≡◌, ℕ, ◌<◌, ◌⊎◌, ◌↔◌, List, [], Contains, length, slice_index_or}

-- the list of the key has the number
abbrev pub InList : List (List ℕ) → ℕ → ℕ → Type 0
InList lists k x = Contains (slice_index_or lists k []) x

-- there is a list for each key below the count, and it has exactly the numbers that are related to its key
pub record IsIndex (count : ℕ) (lists : List (List ℕ)) (R : ℕ → ℕ → Type 0) : Type 0 where
  pub counted : length lists ≡ count
  pub exact : (k x : ℕ) → k < count → InList lists k x ↔ R k x

-- the second lists have what the first have, and what is related
pub record IsNoted (old new : List (List ℕ)) (R : ℕ → ℕ → Type 0) : Type 0 where
  pub counted : length new ≡ length old
  pub exact : (k x : ℕ) → k < length old → InList new k x ↔ (InList old k x ⊎ R k x)
