-- How large the sets of a table of what is held are, and which fields class sets speak of.
use Rattle.std.specs.Prelude.{◌≡◌, ℕ, ◌<◌, Bool, List, [], length, slice_index_or}
use Rattle.ja_ir.specs.declared.program.Parts.{Parts}
use Rattle.ja_sets.specs.Sets.{Has}
use Rattle.ja_facts.specs.ClassTables.{ClassTable, field_set, token_count}
use Rattle.ja_facts.specs.FactTables.{HeldTable, cell_count}

-- so many sets of numbers below n
pub record AreSets (count n : ℕ) (rows : List (List Bool)) : Type 0 where
  pub counted : length rows ≡ count
  pub each : (i : ℕ) → i < count → length (slice_index_or rows i []) ≡ n

-- there is a set of the program's cells for each of its tokens, and one for each of its fields
pub record HasSets (p : Parts) (held : HeldTable) : Type 0 where
  pub tokens : AreSets (token_count p) (cell_count p) held.tokens
  pub fields : AreSets (length p.fields) (cell_count p) held.fields

-- only fields of the program have tokens
abbrev pub HasOnlyItsFields : Parts → ClassTable → Type 0
HasOnlyItsFields p sets = (f t : ℕ) → Has (field_set sets f) t → f < length p.fields
