-- Permutations, with their inverses.
use Rattle.std.specs.Prelude.{◌≡◌, ℕ, ◌<◌, List, length, slice_index}

-- each of so many numbers stands at a place of its own: the first list has the place of each number, the second the number at each place
pub record IsOrder (size : ℕ) (places slots : List ℕ) : Type 0 where
  pub places_count : length places ≡ size
  pub slots_count : length slots ≡ size
  pub place_within : (n : ℕ) → n < size → slice_index places n < size
  pub slot_within : (j : ℕ) → j < size → slice_index slots j < size
  pub place_of_slot : (j : ℕ) → j < size → slice_index places (slice_index slots j) ≡ j
  pub slot_of_place : (n : ℕ) → n < size → slice_index slots (slice_index places n) ≡ n
