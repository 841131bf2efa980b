-- Names for the sets of cells.
use Rattle.std.specs.Prelude.{◌≡◌, ℕ, suc, ◌<◌, ◌^◌, Bool, true, false, List, [], Option, Some, None, length, slice_get, slice_index_or, if◌then◌else◌}
use Rattle.std.specs.List.{AllZip}
use Rattle.std.specs.HashMap.{get}
use Rattle.ja_ir.specs.declared.method.Instr.{Instr}
use Rattle.ja_ir.specs.declared.program.Parts.{Parts}
use Rattle.ja_ir.specs.declared.op.Op.{Op}
use Rattle.ja_ir.specs.declared.op.Op.TheVariants.{Call}
use Rattle.ja_ir.specs.Lookup.{instr_at}
use Rattle.ja_facts.specs.FactTables.{GraphTable, is_reached}
use Rattle.ja_network.specs.declared.cell.Cell.{Cell}
use Rattle.ja_network.specs.declared.cell.Cell.TheVariants.{Thrown, Takers}
use Rattle.ja_network.specs.declared.network.Network.{Network}
use Rattle.ja_network.specs.Facts.{HasToken, Tells, same_cell}
use Rattle.ja_cells.specs.Names.{Names, row_at}
use Rattle.ja_class_tables.specs.declared.pool.Pool.{Pool}
use Rattle.ja_class_tables.specs.declared.numbers.Part.{Part}
use Rattle.ja_class_tables.specs.declared.numbers.Part.TheVariants.{OfThrown, OfTakers}
use Rattle.ja_class_tables.specs.Reads.{HasExactly}

-- the set has the tokens of the cell
abbrev pub IsSetOf : Network → Cell → List Bool → Type 0
IsSetOf net cell set = HasExactly net.tokens (λ t. Tells net (HasToken cell t)) set

-- the set of this name has the tokens of the cell
pub record IsNamed (net : Network) (sets : List (List Bool)) (cell : Cell) (name : ℕ) : Type 0 where
  pub set : List Bool
  pub found : slice_get sets name ≡ Some set
  pub exact : IsSetOf net cell set

-- each item stays at its place
pub record Grows {A : Type 0} (old new : List A) : Type 0 where
  pub kept : (k : ℕ) (item : A) → slice_get old k ≡ Some item → slice_get new k ≡ Some item

-- there are few sets, all of tokens of the network
pub record AreSets (net : Network) (sets : List (List Bool)) : Type 0 where
  pub few : length sets < 2 ^ 32
  pub size : (k : ℕ) (set : List Bool) → slice_get sets k ≡ Some set → length set ≡ net.tokens

-- and the names that are kept for cells are those of their sets
pub record IsPool (net : Network) (pool : Pool) : Type 0 where
  pub sets : AreSets net pool.sets
  pub cells : (cell : Cell) (name : ℕ) → get same_cell pool.by_cell cell ≡ Some name → IsNamed net pool.sets cell name

-- the names are those of the sets of the cells
abbrev pub AreNamed : Network → (sets : List (List Bool)) → List Cell → List ℕ → Type 0
AreNamed net sets cells row = AllZip (IsNamed net sets) cells row

-- the cells of the slots before an instruction that is reached
abbrev pub cells_before : Names → GraphTable → (m i : ℕ) → List Cell
cells_before names graph m i = if is_reached graph m i then row_at names m i else []

-- row i of a list of rows
abbrev pub row_of : {A : Type 0} → List (List A) → ℕ → List A
row_of rows i = slice_index_or rows i []

-- the names in the rows of a method are those of the sets of its slots
pub record AreRowsNamed (net : Network) (names : Names) (graph : GraphTable) (sets : List (List Bool)) (m : ℕ) (rows : List (List ℕ)) : Type 0 where
  pub each : (i : ℕ) → AreNamed net sets (cells_before names graph m i) (row_of rows i)

-- the names in all rows are those of the sets of the slots
pub record AreSlotsNamed (net : Network) (names : Names) (graph : GraphTable) (sets : List (List Bool)) (table : List (List (List ℕ))) : Type 0 where
  pub each : (m : ℕ) → AreRowsNamed net names graph sets m (row_of table m)

-- the number says the name of the set of the cell, if there is one: one more than the name, or 0
abbrev pub IsNumber : Network → (sets : List (List Bool)) → Option Cell → ℕ → Type 0
IsNumber net sets None number = number ≡ 0
IsNumber net sets (Some cell) number = (name : ℕ) × (number ≡ suc name) × IsNamed net sets cell name

-- the operation, if there is one, is a call
abbrev pub is_call : Op → Bool
is_call (Call _) = true
is_call _ = false

-- what is at an instruction of such a part, if there is something
abbrev pub part_of : Part → GraphTable → (m i : ℕ) → Option Instr → Option Cell
part_of OfThrown graph m i instr = if is_reached graph m i then Some (Thrown m i) else None
part_of OfTakers graph m i None = None
part_of OfTakers graph m i (Some instr) = if is_call instr.op then Some (Takers m i) else None

-- the numbers of a method are those of the sets of its instructions
pub record AreNumbers (p : Parts) (net : Network) (part : Part) (graph : GraphTable) (sets : List (List Bool)) (m : ℕ) (row : List ℕ) : Type 0 where
  pub each : (i : ℕ) → IsNumber net sets (part_of part graph m i (instr_at p m i)) (slice_index_or row i 0)

-- the numbers of all methods are
pub record AreAllNumbers (p : Parts) (net : Network) (part : Part) (graph : GraphTable) (sets : List (List Bool)) (table : List (List ℕ)) : Type 0 where
  pub each : (m : ℕ) → AreNumbers p net part graph sets m (row_of table m)
