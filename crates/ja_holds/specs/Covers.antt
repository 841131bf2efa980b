-- What is kept while the members of a set are gone through.
use Rattle.std.specs.Prelude.{◌≡◌, ℕ, ◌<◌, Bool, List, length}
use Rattle.ja_ir.specs.declared.program.Parts.{Parts}
use Rattle.ja_sets.specs.Sets.{Has}
use Rattle.ja_facts.specs.ClassTables.{ClassTable, token_count}
use Rattle.ja_facts.specs.FactTables.{cell_count}
use Rattle.ja_holds.specs.declared.fields.Cover.{Cover}
use Rattle.ja_holds.specs.Inner.{MayReach, IsReachedFrom}

-- cells that members of a set reach are held: all of those that are covered, and each member below some number is
pub record IsCover (p : Parts) (sets : ClassTable) (set : List Bool) (from : ℕ) (cover : Cover) : Type 0 where
  pub covered_size : length cover.covered ≡ token_count p
  pub held_size : length cover.held ≡ cell_count p
  pub reached : (x : ℕ) → Has cover.held x → IsReachedFrom p sets set x
  pub covers : (t x : ℕ) → Has cover.covered t → MayReach p sets t x → Has cover.held x
  pub all : (t : ℕ) → Has set t → t < from → t < token_count p → Has cover.covered t
