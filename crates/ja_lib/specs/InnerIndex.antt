-- The places of a table's rows by the classes that they list, so that a look-up need not go over all rows.
use Rattle.std.specs.Prelude.{◌≡◌, ℕ, suc, ◌&&◌, List, [], ◌∷◌, ◌++◌, Option, Some, None, if◌then◌else◌}
use Rattle.std.specs.List.{slice_get}
use Rattle.ja_base.specs.declared.index.NumbersByName.{NumbersByName}
use Rattle.ja_base.specs.Index.{numbers_at, number_if}
use Rattle.ja_ir.specs.declared.row.LibRow.{LibRow}
use Rattle.ja_lib.specs.declared.row.TableRow.{TableRow}
use Rattle.ja_lib.specs.Rows.{is_for_method, is_for_desc}

-- the place, as often as the class is listed
abbrev pub place_for_each : ℕ → (listed : List (List ℕ)) → (class : List ℕ) → List ℕ
place_for_each place [] class = []
place_for_each place (listed ∷ more) class = number_if place listed class ++ place_for_each place more class

-- the places of the rows that list the class, the first row standing at this place
abbrev pub places_from : ℕ → List TableRow → (class : List ℕ) → List ℕ
places_from first [] class = []
places_from first (row ∷ rows) class = place_for_each first row.classes class ++ places_from (suc first) rows class

-- the index has for each class the places of the rows that list it, in table order
abbrev pub IsIndexOf : List TableRow → NumbersByName → Type 0
IsIndexOf rows index = (class : List ℕ) → numbers_at index class ≡ places_from 0 rows class

-- what the row says, if it is there and is for this method, and else the other answer
abbrev pub said_by : (method desc : List ℕ) → Option TableRow → Option LibRow → Option LibRow
said_by method desc None otherwise = otherwise
said_by method desc (Some row) otherwise = if is_for_method method row && is_for_desc desc row then Some row.meaning else otherwise

-- what the first of the rows at these places that is for this method says
abbrev pub first_at : List TableRow → (method desc : List ℕ) → (places : List ℕ) → Option LibRow
first_at rows method desc [] = None
first_at rows method desc (place ∷ places) = said_by method desc (slice_get rows place) (first_at rows method desc places)
