-- What is noted of the events that happen.
use Rattle.std.specs.Prelude.{◌≡◌, ◌⊎◌, ◌↔◌, ℕ, suc, true, List, [], ◌∷◌, ◌++◌, Some, Contains, length, slice_get, slice_index_or}
use Rattle.std.specs.List.Sorted.{IsNonDecreasing}
use Rattle.ja_ir.specs.declared.program.Parts.{Parts}
use Rattle.ja_ir.specs.Lookup.{code_of}
use Rattle.ja_facts.specs.declared.targets.Targets.{Targets}
use Rattle.ja_facts.specs.ClassTables.{token_count, no_members}
use Rattle.ja_facts.specs.FactTables.{is_reached, no_targets}
use Rattle.ja_network.specs.declared.cell.Event.{Event}
use Rattle.ja_network.specs.declared.cell.Event.TheVariants.{Reached, Calls, CallsAbstract, CallsLibrary}
use Rattle.ja_class_tables.specs.declared.notes.Notes.{Notes}
use Rattle.ja_class_tables.specs.Reads.{IsInstr}

-- the item of instruction i of method m, and another one where there is none
abbrev pub item_at : {A : Type 0} → List (List A) → (m i : ℕ) → A → A
item_at rows m i none = slice_index_or (slice_index_or rows m []) i none

-- the number of instructions of a method
abbrev pub code_size : Parts → (m : ℕ) → ℕ
code_size p m = length (code_of (slice_get p.methods m))

-- there is an item for each instruction of each method
abbrev pub HasItems : {A : Type 0} → Parts → List (List A) → Type 0
HasItems p rows = (m : ℕ) → length (slice_index_or rows m []) ≡ code_size p m

-- where a call of the instruction goes
abbrev pub noted_at : Notes → (m i : ℕ) → Targets
noted_at notes m i = item_at notes.targets m i no_targets

-- the targets with one method more
abbrev pub with_method : Targets → ℕ → Targets
with_method targets n = record { methods = targets.methods ++ n ∷ []; library = targets.library }

-- the targets with the library
abbrev pub with_library : Targets → Targets
with_library targets = record { methods = targets.methods; library = true }

-- the notes have an item for each instruction
pub record HasRoom (p : Parts) (notes : Notes) : Type 0 where
  pub reached : HasItems p notes.graph.reached
  pub targets : HasItems p notes.targets
  pub none : notes.graph.none ≡ no_members (token_count p)

-- these events are noted, and nothing else
pub record IsNoted (p : Parts) (events : List Event) (notes : Notes) : Type 0 where
  pub room : HasRoom p notes
  pub reached : (m i : ℕ) → (is_reached notes.graph m i ≡ true) ↔ (IsInstr p m i × Contains events (Reached m i))
  pub methods : (m i n : ℕ) → Contains (noted_at notes m i).methods n ↔ (IsInstr p m i × (Contains events (Calls m i n) ⊎ Contains events (CallsAbstract m i n)))
  pub library : (m i : ℕ) → ((noted_at notes m i).library ≡ true) ↔ (IsInstr p m i × Contains events (CallsLibrary m i))

-- the same targets, in ascending order
pub record IsInOrder (old new : Targets) : Type 0 where
  pub methods : (n : ℕ) → Contains new.methods n ↔ Contains old.methods n
  pub ascending : IsNonDecreasing new.methods
  pub library : new.library ≡ old.library

-- the number says the targets, from a pool, in ascending order: one more than their place, or 0 where there are none
pub data IsSaid (pool : List Targets) (noted : Targets) (number : ℕ) : Type 0 where
  nowhere : number ≡ 0 → IsInOrder noted no_targets → IsSaid pool noted number
  somewhere : (place : ℕ) (targets : Targets) → number ≡ suc place → slice_get pool place ≡ Some targets → IsInOrder noted targets → IsSaid pool noted number

-- the numbers of a method say its targets
pub record AreTargets (pool : List Targets) (noted : List Targets) (row : List ℕ) : Type 0 where
  pub each : (i : ℕ) → IsSaid pool (slice_index_or noted i no_targets) (slice_index_or row i 0)

-- the numbers of all methods say their targets
pub record AreAllTargets (pool : List Targets) (noted : List (List Targets)) (table : List (List ℕ)) : Type 0 where
  pub each : (m : ℕ) → AreTargets pool (slice_index_or noted m []) (slice_index_or table m [])
