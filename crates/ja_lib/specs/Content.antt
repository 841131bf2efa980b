-- What a table says.
use Rattle.std.specs.Prelude.{◌≡◌, ℕ, ◌<◌, ◌≤◌, true, Bool, List, All, length, replicate}
use Rattle.ja_ir.specs.declared.row.LibRow.{LibRow}
use Rattle.ja_ir.specs.Categories.{count_of_names}
use Rattle.ja_lib.specs.declared.row.TableRow.{TableRow}
use Rattle.ja_lib.specs.declared.entry.EntryRow.{EntryRow}
use Rattle.ja_base.specs.Limit.{max_categories}

-- the names of a table's categories of marks, its rows and its entries, each in order; there are no names where there is one category, which
-- has none
pub record Content : Type 0 where
  pub categories : List (List ℕ)
  pub rows : List TableRow
  pub entries : List EntryRow

-- marks of every category, where these are their names
abbrev pub all_marks : List (List ℕ) → List Bool
all_marks names = replicate (count_of_names names) true

-- what is said of a call is about these categories: it says of each whether marks of it are made, and its sinks are about one of them
pub record IsMeaningAbout (names : List (List ℕ)) (meaning : LibRow) : Type 0 where
  pub marks : length meaning.marks ≡ count_of_names names
  pub category : meaning.category < count_of_names names

-- a table has few categories, and its rows and entries are about them
pub record IsCategorized (content : Content) : Type 0 where
  pub few : length content.categories ≤ max_categories
  pub rows : All (λ row. IsMeaningAbout content.categories row.meaning) content.rows
  pub entries : All (λ entry. length entry.marks ≡ count_of_names content.categories) content.entries
