-- How the rows of a table lie in words, one after another.
use Rattle.std.specs.Prelude.{◌≡◌, ℕ, zero, suc, ◌+◌, ◌*◌, ◌/◌, ◌^◌, ◌<◌, ◌≤◌, Bool, List, [], ◌∷◌, length, slice_index, take, drop, bit_or, bit_and}
use Rattle.ja_sets.specs.InnerWords.{flags, IsTidy}

-- the number of words that hold so many bits
abbrev pub width : (columns : ℕ) → ℕ
width columns = (columns + 63) / 64

-- the words of row a, where each row has so many
abbrev pub chunk : (count a : ℕ) → List ℕ → List ℕ
chunk count a words = take count (drop (a * count) words)

-- so many rows, from row a on
abbrev pub rows_from : (columns a count : ℕ) → List ℕ → List (List Bool)
rows_from columns a zero words = []
rows_from columns a (suc count) words = flags columns (chunk (width columns) a words) ∷ rows_from columns (suc a) count words

-- the rows of a table
unfoldable pub table : (rows columns : ℕ) → List ℕ → List (List Bool)
table rows columns words = rows_from columns 0 rows words

-- the words hold so many rows, and in none of them a bit past the last column
pub record IsStored (rows columns : ℕ) (words : List ℕ) : Type 0 where
  pub few_rows : rows < 2 ^ 32
  pub few_columns : columns < 2 ^ 32
  pub filled : length words ≡ rows * width columns
  pub tidy : (a : ℕ) → a < rows → IsTidy columns (chunk (width columns) a words)

-- the words past a piece and before it are as they were
pub record IsOutside (old : List ℕ) (at count : ℕ) (new : List ℕ) : Type 0 where
  pub same_length : length new ≡ length old
  pub before : (k : ℕ) → k < at → slice_index new k ≡ slice_index old k
  pub after : (k : ℕ) → at + count ≤ k → slice_index new k ≡ slice_index old k

-- each word of a piece has the bits of the old one and of a word of another list
pub record JoinsPiece (old : List ℕ) (at : ℕ) (others : List ℕ) (from count : ℕ) (new : List ℕ) : Type 0 where
  pub outside : IsOutside old at count new
  pub inside : (k : ℕ) → k < count → slice_index new (at + k) ≡ bit_or (slice_index old (at + k)) (slice_index others (from + k))

-- the same with those bits that are set in a third list
pub record KeepsPiece (old : List ℕ) (at : ℕ) (others : List ℕ) (from : ℕ) (kept : List ℕ) (count : ℕ) (new : List ℕ) : Type 0 where
  pub outside : IsOutside old at count new
  pub inside : (k : ℕ) → k < count → slice_index new (at + k) ≡ bit_or (slice_index old (at + k)) (bit_and (slice_index others (from + k)) (slice_index kept k))

-- some word of a piece has changed
abbrev pub ChangesPiece : (old : List ℕ) (at count : ℕ) (new : List ℕ) → Type 0
ChangesPiece old at count new = (k : ℕ) × (k < count) × (slice_index new (at + k) ≡ slice_index old (at + k) → ⊥)
