-- Which blocks are marked to be looked at again.
use Rattle.std.specs.Prelude.{◌≡◌, ◌⊎◌, ℕ, ◌<◌, true, Bool, List, [], Contains, length, slice_index_or}
use Rattle.ja_ir.specs.declared.entry.Entry.{Entry}
use Rattle.ja_blocks.specs.declared.layout.Layout.{Layout}
use Rattle.ja_blocks.specs.Index.{InList}
use Rattle.ja_solution.specs.declared.cells.CellName.{CellName}
use Rattle.ja_solution.specs.declared.cells.CellName.TheVariants.{Called, Returned, Thrown, Before}
use Rattle.ja_solution.specs.Nodes.{is_dirty}

-- each block of which this holds is marked, and none loses its mark
pub record AreMarked (old new : List Bool) (P : ℕ → Type 0) : Type 0 where
  pub counted : length new ≡ length old
  pub kept : (k : ℕ) → is_dirty old k ≡ true → is_dirty new k ≡ true
  pub marked : (k : ℕ) → k < length old → P k → is_dirty new k ≡ true

-- the layout has the block among the readers of the cell
abbrev pub ReadsCell : Layout → CellName → ℕ → Type 0
ReadsCell layout (Called m) k = InList layout.beginners m k
ReadsCell layout (Returned m) k = InList layout.callers m k
ReadsCell layout (Thrown m) k = InList layout.callers m k
ReadsCell layout (Before n) k = k ≡ n

-- one of these fields is read by the block
abbrev pub ReadsOneOf : List (List ℕ) → List ℕ → ℕ → Type 0
ReadsOneOf readers fields k = (f : ℕ) × Contains fields f × InList readers f k

-- the block begins the method of one of these entries
abbrev pub BeginsOneOf : Layout → List Entry → ℕ → Type 0
BeginsOneOf layout entries k = (entry : Entry) × Contains entries entry × InList layout.beginners entry.method.0 k

-- the layout has the block among the readers of the field or bag of this number: it reads a field that may hold what was stored there, or begins
-- the method of an entry
abbrev pub ReadsStored : Layout → List Entry → (n k : ℕ) → Type 0
ReadsStored layout entries n k = ReadsOneOf layout.readers (slice_index_or layout.holders n []) k ⊎ BeginsOneOf layout entries k
