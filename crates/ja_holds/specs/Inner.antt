-- Words of the private functions: what an object of a token has itself, and where it leads at once.
use Rattle.std.specs.Prelude.{◌≡◌, ◌⊎◌, ◌↔◌, ℕ, ◌+◌, ◌<◌, Bool, true, false, List, [], ◌∷◌, Some, Contains, length, slice_get, slice_index_or}
use Rattle.ja_base.specs.declared.id.ClassId.{ClassId}
use Rattle.ja_ir.specs.declared.program.Parts.{Parts}
use Rattle.ja_ir.specs.declared.class.ClassInfo.{ClassInfo}
use Rattle.ja_ir.specs.declared.class.Field.{Field}
use Rattle.ja_ir.specs.Lookup.{is_member}
use Rattle.ja_ir.specs.Tokens.{absorbs}
use Rattle.ja_sets.specs.Sets.{Has}
use Rattle.ja_facts.specs.ClassSets.{HasField}
use Rattle.ja_facts.specs.ClassTables.{ClassTable, field_set, bag_set, token_count}
use Rattle.ja_facts.specs.FactTables.{cell_count}
use Rattle.ja_facts.specs.Told.{LeadsBy}
use Rattle.ja_holds.specs.declared.classes.Classes.{Classes}
use Rattle.ja_holds.specs.Sized.{AreSets}

-- set i of several; the empty one past the last
abbrev pub row : List (List Bool) → ℕ → List Bool
row rows i = slice_index_or rows i []

-- an object of token u may refer to one of token v, by a field or a bag
pub data Follows (p : Parts) (sets : ClassTable) (u v : ℕ) : Type 0 where
  by_field : (f : ℕ) → HasField p u f → Has (field_set sets f) v → Follows p sets u v
  by_bag : absorbs p u ≡ true → Has (bag_set sets u) v → Follows p sets u v

-- an object of token u has the cell of this number itself
pub data Owns (p : Parts) (u x : ℕ) : Type 0 where
  owns_field : HasField p u x → Owns p u x
  owns_bag : absorbs p u ≡ true → x ≡ length p.fields + u → Owns p u x

-- an object of token t may reach the cell of this number
pub record MayReach (p : Parts) (sets : ClassTable) (t x : ℕ) : Type 0 where
  pub u : ℕ
  pub leads : LeadsBy p sets t u
  pub owns : Owns p u x

-- what one of these tokens may reach
pub record IsReachedFrom (p : Parts) (sets : ClassTable) (set : List Bool) (x : ℕ) : Type 0 where
  pub t : ℕ
  pub member : Has set t
  pub reaches : MayReach p sets t x

-- one of several sets gained these numbers
pub record Gains (i : ℕ) (S : ℕ → Type 0) (old new : List (List Bool)) : Type 0 where
  pub here : (x : ℕ) → Has (row new i) x ↔ (Has (row old i) x ⊎ S x)
  pub elsewhere : (j : ℕ) → (j ≡ i → ⊥) → row new j ≡ row old j

-- field f, one of the first so many, is one of objects and declared by class c
pub record IsDeclared (p : Parts) (count c f : ℕ) : Type 0 where
  pub field : Field
  pub found : slice_get p.fields f ≡ Some field
  pub member : is_member field.flags ≡ true
  pub class : field.class.0 ≡ c
  pub below : f < count

-- one of these fields may refer to an object of the token
pub record IsReferred (p : Parts) (sets : ClassTable) (count c v : ℕ) : Type 0 where
  pub f : ℕ
  pub declared : IsDeclared p count c f
  pub member : Has (field_set sets f) v
  pub below : v < token_count p

-- each class has its fields among the first so many
pub record HasCells (p : Parts) (count : ℕ) (rows : List (List Bool)) : Type 0 where
  pub sized : AreSets (length p.classes) (cell_count p) rows
  pub each : (c f : ℕ) → Has (row rows c) f ↔ IsDeclared p count c f

-- each class has what these refer to
pub record HasTokens (p : Parts) (sets : ClassTable) (count : ℕ) (rows : List (List Bool)) : Type 0 where
  pub sized : AreSets (length p.classes) (token_count p) rows
  pub each : (c v : ℕ) → Has (row rows c) v ↔ IsReferred p sets count c v

-- each class has its fields, and what they refer to
pub record AreDeclared (p : Parts) (sets : ClassTable) (classes : Classes) : Type 0 where
  pub cells : HasCells p (length p.fields) classes.cells
  pub tokens : HasTokens p sets (length p.fields) classes.tokens

-- the number is in the set of one of the first so many of these classes
pub record InSets (rows : List (List Bool)) (classes : List ClassId) (count x : ℕ) : Type 0 where
  pub j : ℕ
  pub below : j < count
  pub class : ClassId
  pub found : slice_get classes j ≡ Some class
  pub member : Has (row rows class.0) x

-- the number is in the set of a class at or above the token
pub record ByClass (p : Parts) (rows : List (List Bool)) (token x : ℕ) : Type 0 where
  pub class : ClassInfo
  pub found : slice_get p.classes token ≡ Some class
  pub above : InSets rows class.supers (length class.supers) x

-- how many numbers are not in the set
abbrev pub lacking : List Bool → ℕ
lacking [] = 0
lacking (true ∷ set) = lacking set
lacking (false ∷ set) = 1 + lacking set
