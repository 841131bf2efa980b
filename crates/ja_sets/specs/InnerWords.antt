-- How the bits of words are read.
use Rattle.std.specs.Prelude.{◌≡◌, ℕ, zero, suc, ◌+◌, ◌/◌, ◌%◌, ◌^◌, ◌<◌, ◌≤◌, Bool, ◌==◌, List, [], ◌∷◌, length, slice_index, bit_or}
use Rattle.std.specs.Int.{bit_at}

-- bit i of the words, of which each has sixty-four
abbrev pub bit_of : List ℕ → ℕ → ℕ
bit_of words i = bit_at (slice_index words (i / 64)) (i % 64)

-- so many truth values from some number on, as a test gives them
abbrev pub values_from : (ℕ → Bool) → ℕ → ℕ → List Bool
values_from test from zero = []
values_from test from (suc count) = test from ∷ values_from test (suc from) count

-- the first bits of the words, as truth values
unfoldable pub flags : ℕ → List ℕ → List Bool
flags len words = values_from (λ i. bit_of words i == 1) 0 len

-- there are as many words as are needed, and no bit past the last one is set
pub record IsTidy (len : ℕ) (words : List ℕ) : Type 0 where
  pub bound : len < 2 ^ 64
  pub enough : length words ≡ (len + 63) / 64
  pub fits : (k : ℕ) → slice_index words k < 2 ^ 64
  pub clear : (i : ℕ) → len ≤ i → bit_of words i ≡ 0

-- each word of the new list has the bits of both old ones
pub record JoinsWords (old others new : List ℕ) : Type 0 where
  pub same_length : length new ≡ length old
  pub each : (k : ℕ) → k < length old → slice_index new k ≡ bit_or (slice_index old k) (slice_index others k)

-- some word has changed
abbrev pub GainsBits : List ℕ → List ℕ → Type 0
GainsBits old new = (k : ℕ) × (k < length old) × (slice_index new k ≡ slice_index old k → ⊥)
