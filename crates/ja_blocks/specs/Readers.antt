-- Which blocks read what: the rules of their instructions go by how other methods end, and by what was stored.
use Rattle.std.specs.Prelude.{◌≡◌, ℕ, ◌<◌, ◌≤◌, ◌⊎◌, List, [], Some, Contains, slice_get, slice_index_or}
use Rattle.ja_ir.specs.declared.program.Parts.{Parts}
use Rattle.ja_ir.specs.declared.method.Instr.{Instr}
use Rattle.ja_ir.specs.declared.op.Op.{Op}
use Rattle.ja_ir.specs.declared.op.Op.TheVariants.{GetField, GetStatic}
use Rattle.ja_ir.specs.Lookup.{instr_at}
use Rattle.ja_ir.specs.Initializing.{InitAt}
use Rattle.ja_sets.specs.Sets.{Has}
use Rattle.ja_facts.specs.FactTables.{GraphTable, targets_at, HeldTable}
use Rattle.ja_facts.specs.Told.{cell_number}
use Rattle.ja_facts.specs.Equations.{Fact, Context, At, Normal, Threw, Stored}
use Rattle.ja_blocks.specs.declared.blocks.ProgramBlock.{ProgramBlock}

-- a rule of instruction i of method m goes by how method n ends: it may call it, or run it before its operation
abbrev pub ReadsEnd : Parts → GraphTable → (m i n : ℕ) → Type 0
ReadsEnd p graph m i n = Contains (targets_at graph m i).methods n ⊎ InitAt p m i n

-- the operation reads the field
abbrev pub Gets : Op → ℕ → Type 0
Gets (GetField field) f = f ≡ field.0
Gets (GetStatic field) f = f ≡ field.0
Gets _ f = ⊥

-- instruction i of method m reads the field
pub record GetsAt (p : Parts) (m i f : ℕ) : Type 0 where
  pub instr : Instr
  pub found : instr_at p m i ≡ Some instr
  pub gets : Gets instr.op f

-- the block has an instruction of which this holds
pub record HasInstr (block : ProgramBlock) (P : (m i : ℕ) → Type 0) : Type 0 where
  pub i : ℕ
  pub from : block.first ≤ i
  pub to : i ≤ block.last
  pub holds : P block.method.0 i

-- this holds of block b of these
pub record IsBlockWith (blocks : List ProgramBlock) (b : ℕ) (P : ProgramBlock → Type 0) : Type 0 where
  pub block : ProgramBlock
  pub at : slice_get blocks b ≡ Some block
  pub holds : P block

-- block b of these goes by how method n ends
abbrev pub BlockReadsEnd : Parts → GraphTable → List ProgramBlock → (n b : ℕ) → Type 0
BlockReadsEnd p graph blocks n b = IsBlockWith blocks b (λ block. HasInstr block (λ m i. ReadsEnd p graph m i n))

-- it reads field f
abbrev pub BlockGets : Parts → List ProgramBlock → (f b : ℕ) → Type 0
BlockGets p blocks f b = IsBlockWith blocks b (λ block. HasInstr block (λ m i. GetsAt p m i f))

-- it begins method m, and so goes by what the method may be called with
abbrev pub BlockBegins : List ProgramBlock → (m b : ℕ) → Type 0
BlockBegins blocks m b = IsBlockWith blocks b (λ block. (block.method.0 ≡ m) × (block.first ≡ 0))

-- by what was stored into the cell of this number, field f may hold something tainted: it is the field, or what the field refers to may reach it
abbrev pub MayHold : HeldTable → (fields c f : ℕ) → Type 0
MayHold held fields c f = (f < fields) × ((c ≡ f) ⊎ Has (slice_index_or held.fields f []) c)

-- a rule of instruction i of method m may go by this fact: it is one before the instruction itself, an end of a method, or what was stored where a
-- field may hold it that the instruction reads
abbrev pub IsRead : Parts → GraphTable → HeldTable → (m i : ℕ) → Fact → Type 0
IsRead p graph held m i (Context n a) = ⊥
IsRead p graph held m i (At n j a b) = (n ≡ m) × (j ≡ i)
IsRead p graph held m i (Normal n a s) = ReadsEnd p graph m i n
IsRead p graph held m i (Threw n a s) = ReadsEnd p graph m i n
IsRead p graph held m i (Stored c) = (f : ℕ) × GetsAt p m i f × ((cell_number p c ≡ f) ⊎ Has (slice_index_or held.fields f []) (cell_number p c))
