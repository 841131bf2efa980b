-- The numbers that an index has for each name.
use Rattle.std.specs.Prelude.{ℕ, List, [], ◌∷◌, bytes_eq, unwrap_or, if◌then◌else◌}
use Rattle.std.specs.Ordering.{nat_cmp}
use Rattle.std.specs.Cmp.Lexicographic.{slice_cmp}
use Rattle.std.specs.BTreeMap.{get}
use Rattle.ja_base.specs.declared.index.NumbersByName.{NumbersByName}

-- the numbers of a name, in the order in which they were noted
abbrev pub numbers_at : NumbersByName → (name : List ℕ) → List ℕ
numbers_at index name = unwrap_or (get (slice_cmp nat_cmp) index.lists name) []

-- the number, if both are one name
abbrev pub number_if : ℕ → (noted name : List ℕ) → List ℕ
number_if number noted name = if bytes_eq noted name then number ∷ [] else []
