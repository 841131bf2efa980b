-- Assignments and renamings as functions of variables.
use Rattle.std.specs.Prelude.{ℕ, false, slice_index, slice_index_or}
use Rattle.ja_node_core.specs.Tree.{Assignment}
use Rattle.ja_bdd.specs.declared.assign.Assign.{Assign}
use Rattle.ja_bdd.specs.declared.renaming.Renaming.{Renaming}

-- the assignment's values, and false where it has none
abbrev pub values_of : Assign → Assignment
values_of a v = slice_index_or a.values.items v false

-- what each variable becomes
abbrev pub partner_of : Renaming → ℕ → ℕ
partner_of m v = slice_index m.partners v
