-- Tables of lists.
use Rattle.std.specs.Prelude.{ℕ, List, [], slice_index_or, slice_set}

-- item k of those that a table lists at a row and a column, and another one where it lists none
abbrev pub listed_at : {A : Type 0} → List (List (List A)) → (row column k : ℕ) → (none : A) → A
listed_at table row column k none = slice_index_or (slice_index_or (slice_index_or table row []) column []) k none

-- the rows with item k of a row replaced
abbrev pub with_listed_in : {A : Type 0} → List (List A) → (row k : ℕ) → A → List (List A)
with_listed_in rows row k item = slice_set rows row (slice_set (slice_index_or rows row []) k item)
