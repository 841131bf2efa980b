-- Which row of a table speaks of a call.
use Rattle.std.specs.Prelude.{ℕ, Bool, true, ◌&&◌, ◌||◌, List, Option, Some, None, bytes_eq, codes, option_map}
use Rattle.std.specs.List.{list_any, find}
use Rattle.ja_ir.specs.declared.row.LibRow.{LibRow}
use Rattle.ja_lib.specs.declared.row.TableRow.{TableRow}

-- the name of all methods
abbrev pub all_methods : List ℕ
all_methods = codes "*"

-- the row lists the class
abbrev pub is_for_class : (class : List ℕ) → TableRow → Bool
is_for_class class row = list_any (λ listed. bytes_eq listed class) row.classes

-- the row is for methods of this name, or for all
abbrev pub is_for_method : (method : List ℕ) → TableRow → Bool
is_for_method method row = bytes_eq row.method all_methods || bytes_eq row.method method

-- the descriptor is that one, or none is given
abbrev pub is_given : (desc : List ℕ) → Option (List ℕ) → Bool
is_given desc None = true
is_given desc (Some given) = bytes_eq given desc

-- the row is for methods of this descriptor, or for all
abbrev pub is_for_desc : (desc : List ℕ) → TableRow → Bool
is_for_desc desc row = is_given desc row.desc

-- the row speaks of this method of this class
abbrev pub fits : (class method desc : List ℕ) → TableRow → Bool
fits class method desc row = is_for_class class row && is_for_method method row && is_for_desc desc row

-- what the first row that fits says
abbrev pub row_for : List TableRow → (class method desc : List ℕ) → Option LibRow
row_for rows class method desc = option_map (λ (row : TableRow). row.meaning) (find (fits class method desc) rows)
