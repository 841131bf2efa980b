-- Tables that say what a network tells.
use Rattle.std.specs.Prelude.{◌≡◌, ◌⊎◌, ◌↔◌, ℕ, ◌<◌, Bool, true, List, Some, Contains, length, slice_get}
use Rattle.std.specs.List.Sorted.{IsNonDecreasing}
use Rattle.ja_ir.specs.declared.program.Parts.{Parts}
use Rattle.ja_ir.specs.declared.method.Method.{Method}
use Rattle.ja_ir.specs.declared.method.Instr.{Instr}
use Rattle.ja_ir.specs.Lookup.{instr_at}
use Rattle.ja_ir.specs.Params.{param_count}
use Rattle.ja_sets.specs.Sets.{Has}
use Rattle.ja_facts.specs.ClassTables.{ClassTable, token_count, slot_set, thrown_set, param_set, result_set, out_set, field_set, bag_set}
use Rattle.ja_facts.specs.FactTables.{GraphTable, is_reached, targets_at, takers_at}
use Rattle.ja_facts.specs.Told.{IsCallAt}
use Rattle.ja_network.specs.declared.cell.Cell.TheVariants.{Field, Bag, Param, Answer, Out, Thrown, Takers}
use Rattle.ja_network.specs.declared.cell.Event.TheVariants.{Reached, Calls, CallsAbstract, CallsLibrary}
use Rattle.ja_network.specs.declared.network.Network.{Network}
use Rattle.ja_network.specs.Facts.{HasToken, Happens, Tells}
use Rattle.ja_cells.specs.Rows.{cell_in}
use Rattle.ja_cells.specs.Names.{Names, row_at}

-- the set of numbers below n has exactly these
pub record HasExactly (n : ℕ) (S : ℕ → Type 0) (set : List Bool) : Type 0 where
  pub size : length set ≡ n
  pub each : (t : ℕ) → Has set t ↔ S t

-- there is an instruction i of method m
abbrev pub IsInstr : Parts → (m i : ℕ) → Type 0
IsInstr p m i = (instr : Instr) × (instr_at p m i ≡ Some instr)

-- instruction i of method m may run
abbrev pub MayRun : Parts → Network → (m i : ℕ) → Type 0
MayRun p net m i = IsInstr p m i × Tells net (Happens (Reached m i))

-- method m has a parameter k
abbrev pub IsParam : Parts → (m k : ℕ) → Type 0
IsParam p m k = (method : Method) × (slice_get p.methods m ≡ Some method) × (k < param_count method)

-- the token is in the cell of slot z before instruction i of method m, which may run
pub record IsBefore (p : Parts) (names : Names) (net : Network) (m i z t : ℕ) : Type 0 where
  pub runs : MayRun p net m i
  pub within : z < length (row_at names m i)
  pub told : Tells net (HasToken (cell_in (row_at names m i) z) t)

-- each set has the tokens of its cell: that of a slot before an instruction those of the cell that the slot is a name for
pub record ReadsSets (p : Parts) (names : Names) (net : Network) (sets : ClassTable) : Type 0 where
  pub slots : (m i z : ℕ) → HasExactly (token_count p) (IsBefore p names net m i z) (slot_set sets m i z)
  pub thrown : (m i : ℕ) → HasExactly (token_count p) (λ t. MayRun p net m i × Tells net (HasToken (Thrown m i) t)) (thrown_set sets m i)
  pub params : (m k : ℕ) → HasExactly (token_count p) (λ t. IsParam p m k × Tells net (HasToken (Param m k) t)) (param_set sets m k)
  pub results : (m : ℕ) → HasExactly (token_count p) (λ t. (m < length p.methods) × Tells net (HasToken (Answer m) t)) (result_set sets m)
  pub outs : (m : ℕ) → HasExactly (token_count p) (λ t. (m < length p.methods) × Tells net (HasToken (Out m) t)) (out_set sets m)
  pub fields : (f : ℕ) → HasExactly (token_count p) (λ t. (f < length p.fields) × Tells net (HasToken (Field f) t)) (field_set sets f)
  pub bags : (b : ℕ) → HasExactly (token_count p) (λ t. (b < token_count p) × Tells net (HasToken (Bag b) t)) (bag_set sets b)

-- a call may go to method n, which has code, or which has none
abbrev pub MayCall : Network → (m i n : ℕ) → Type 0
MayCall net m i n = Tells net (Happens (Calls m i n)) ⊎ Tells net (Happens (CallsAbstract m i n))

-- what is reached is what the network tells of the program's instructions
abbrev pub ReadsReached : Parts → Network → GraphTable → Type 0
ReadsReached p net graph = (m i : ℕ) → (is_reached graph m i ≡ true) ↔ MayRun p net m i

-- what is reached, where calls go, and what takes their arguments is what the network tells of the program's instructions
pub record ReadsGraph (p : Parts) (net : Network) (graph : GraphTable) : Type 0 where
  pub reached : ReadsReached p net graph
  pub targets : (m i n : ℕ) → Contains (targets_at graph m i).methods n ↔ (IsInstr p m i × MayCall net m i n)
  pub ascending : (m i : ℕ) → IsNonDecreasing (targets_at graph m i).methods
  pub library : (m i : ℕ) → ((targets_at graph m i).library ≡ true) ↔ (IsInstr p m i × Tells net (Happens (CallsLibrary m i)))
  pub takers : (m i : ℕ) → HasExactly (token_count p) (λ t. IsCallAt p m i × Tells net (HasToken (Takers m i) t)) (takers_at graph m i)
