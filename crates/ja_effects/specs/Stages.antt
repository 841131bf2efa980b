-- What each step towards the least effects keeps.
use Rattle.std.specs.Prelude.{◌≡◌, ℕ, ◌<◌, ◌≤◌, Bool, true, false, List}
use Rattle.ja_ir.specs.declared.program.Parts.{Parts}
use Rattle.ja_facts.specs.FactTables.{GraphTable}
use Rattle.ja_facts.specs.Sharing.{Root, Arg, StaticFields, Old, root_name}
use Rattle.ja_facts.specs.Told.{PairHas, EffectHas}
use Rattle.ja_names.specs.Tables.{HasFlags}
use Rattle.ja_effects.specs.Inner.{Pairs, IsSound, IsKept, lacking}

-- a step, and whether something was new in it
pub record Step (p : Parts) (graph : GraphTable) (pairs : Pairs) (old new : List (List Bool)) (changed : Bool) : Type 0 where
  pub flags : HasFlags p new
  pub sound : IsSound p graph pairs new
  pub kept : IsKept p old new
  pub idle : changed ≡ false → new ≡ old
  pub falls : changed ≡ true → lacking new < lacking old

-- several of them
pub record Stage (p : Parts) (graph : GraphTable) (pairs : Pairs) (old new : List (List Bool)) (changed : Bool) : Type 0 where
  pub flags : HasFlags p new
  pub sound : IsSound p graph pairs new
  pub kept : IsKept p old new
  pub idle : changed ≡ false → new ≡ old
  pub steady : lacking new ≤ lacking old
  pub falls : changed ≡ true → lacking new < lacking old

-- what an instruction changes by this effect of a method that it enters is in the table
abbrev pub IsPassedBy : Parts → Pairs → List (List Bool) → (m i n under : ℕ) → Root → Type 0
IsPassedBy p pairs table m i n under e = (r : Root) → EffectHas p table n e → PairHas p pairs m i (root_name under e) (Old r) → EffectHas p table m r

-- several steps, after which what is passed by the effect on the static fields, and on the first so many arguments, is in the table where nothing was new
pub record Passes (p : Parts) (graph : GraphTable) (pairs : Pairs) (m i n under count : ℕ) (old new : List (List Bool)) (changed : Bool) : Type 0 where
  pub stage : Stage p graph pairs old new changed
  pub statics : changed ≡ false → IsPassedBy p pairs new m i n under StaticFields
  pub arguments : changed ≡ false → (k : ℕ) → k < count → IsPassedBy p pairs new m i n under (Arg k)
