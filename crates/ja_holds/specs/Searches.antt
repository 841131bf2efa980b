-- What a search from a token keeps, and what is done.
use Rattle.std.specs.Prelude.{◌≡◌, ◌↔◌, ℕ, ◌+◌, ◌<◌, ◌≤◌, Bool, List, length}
use Rattle.ja_ir.specs.declared.program.Parts.{Parts}
use Rattle.ja_sets.specs.Sets.{Has}
use Rattle.ja_facts.specs.ClassTables.{ClassTable, field_set, token_count}
use Rattle.ja_facts.specs.FactTables.{cell_count}
use Rattle.ja_facts.specs.Told.{LeadsBy}
use Rattle.ja_holds.specs.declared.search.Search.{Search}
use Rattle.ja_holds.specs.Sized.{AreSets}
use Rattle.ja_holds.specs.Inner.{row, Follows, Owns, MayReach, IsReachedFrom}

-- what a search keeps: what it found is there, and what comes at once from the tokens that were handled is found
pub record IsSearch (p : Parts) (sets : ClassTable) (s : Search) : Type 0 where
  pub span_size : length s.span ≡ token_count p
  pub handled_size : length s.handled ≡ token_count p
  pub held_size : length s.held ≡ cell_count p
  pub starts : Has s.span s.start
  pub leads : (v : ℕ) → Has s.span v → LeadsBy p sets s.start v
  pub reaches : (x : ℕ) → Has s.held x → MayReach p sets s.start x
  pub follows : (u v : ℕ) → Has s.handled u → Follows p sets u v → v < token_count p → Has s.span v
  pub owns : (u x : ℕ) → Has s.handled u → Owns p u x → Has s.held x

-- the token leads to these tokens, and its objects hold these cells
pub record IsDone (p : Parts) (sets : ClassTable) (u : ℕ) (tokens cells : List Bool) : Type 0 where
  pub span : (v : ℕ) → Has tokens v ↔ (LeadsBy p sets u v × (v < token_count p))
  pub held : (x : ℕ) → Has cells x ↔ MayReach p sets u x

-- a search found all from a token
pub record Finds (p : Parts) (sets : ClassTable) (t : ℕ) (s : Search) : Type 0 where
  pub span_size : length s.span ≡ token_count p
  pub held_size : length s.held ≡ cell_count p
  pub done : IsDone p sets t s.span s.held

-- all tokens from one on are done
pub record AreDone (p : Parts) (sets : ClassTable) (spans held : List (List Bool)) (from : ℕ) : Type 0 where
  pub span_sets : AreSets (token_count p) (token_count p) spans
  pub held_sets : AreSets (token_count p) (cell_count p) held
  pub each : (u : ℕ) → from ≤ u → u < token_count p → IsDone p sets u (row spans u) (row held u)

-- what the first so many fields refer to reaches the cells of their sets
pub record AreFields (p : Parts) (sets : ClassTable) (count : ℕ) (held : List (List Bool)) : Type 0 where
  pub held_sets : AreSets (length p.fields) (cell_count p) held
  pub each : (f x : ℕ) → f < count → Has (row held f) x ↔ IsReachedFrom p sets (field_set sets f) x
