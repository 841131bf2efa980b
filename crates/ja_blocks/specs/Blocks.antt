-- The blocks of a program.
use Rattle.std.specs.Prelude.{◌≡◌, ℕ, suc, ◌<◌, ◌≤◌, ◌⊎◌, List, Some, AllPairs, Contains, length, slice_get}
use Rattle.ja_ir.specs.declared.program.Parts.{Parts}
use Rattle.ja_ir.specs.declared.method.Method.{Method}
use Rattle.ja_ir.specs.declared.method.Instr.{Instr}
use Rattle.ja_ir.specs.declared.block.Block.{Block}
use Rattle.ja_ir.specs.Blocks.{IsLeader}
use Rattle.ja_blocks.specs.declared.blocks.ProgramBlock.{ProgramBlock}

-- the instructions from first to last are a run: behind the first of them no block has to begin, and only the instruction before leads to
-- each
pub record IsRun (method : Method) (first last : ℕ) : Type 0 where
  pub ordered : first ≤ last
  pub inside : last < length method.code
  pub straight : (j : ℕ) → first < j → j ≤ last → IsLeader method j → ⊥
  pub entered : (i j : ℕ) (instr : Instr) → first < j → j ≤ last → slice_get method.code i ≡ Some instr → Contains instr.next j → j ≡ suc i

-- one of the blocks has the instruction
pub record IsAmong (blocks : List Block) (i : ℕ) : Type 0 where
  pub block : Block
  pub listed : Contains blocks block
  pub from : block.first ≤ i
  pub to : i ≤ block.last

-- the blocks are runs that have all instructions of the method, in the order of the code
pub record AreRuns (method : Method) (blocks : List Block) : Type 0 where
  pub each : (block : Block) → Contains blocks block → IsRun method block.first block.last
  pub all : (i : ℕ) → i < length method.code → IsAmong blocks i
  pub sorted : AllPairs (λ a b. a.last < b.first) blocks

-- a block of the method of this number
abbrev pub in_method : ℕ → Block → ProgramBlock
in_method m block = record { method = record { 0 = m }; first = block.first; last = block.last }

-- the block is a run of a method of the program
pub record IsBlockIn (p : Parts) (block : ProgramBlock) : Type 0 where
  pub method : Method
  pub found : slice_get p.methods block.method.0 ≡ Some method
  pub is : IsRun method block.first block.last

-- the block has instruction i of method m
abbrev pub HasPlace : ProgramBlock → (m i : ℕ) → Type 0
HasPlace block m i = (block.method.0 ≡ m) × (block.first ≤ i) × (i ≤ block.last)

-- the first is of an earlier method, or stands before the second in their method
abbrev pub Precedes : ProgramBlock → ProgramBlock → Type 0
Precedes a b = (a.method.0 < b.method.0) ⊎ ((a.method.0 ≡ b.method.0) × (a.last < b.first))

-- one of the blocks has instruction i of method m
pub record IsInSome (blocks : List ProgramBlock) (m i : ℕ) : Type 0 where
  pub block : ProgramBlock
  pub listed : Contains blocks block
  pub has : HasPlace block m i

-- the blocks are runs that have all instructions of the program, in the order of the methods and of their code
pub record AreProgramBlocks (p : Parts) (blocks : List ProgramBlock) : Type 0 where
  pub each : (block : ProgramBlock) → Contains blocks block → IsBlockIn p block
  pub all : (m i : ℕ) (method : Method) → slice_get p.methods m ≡ Some method → i < length method.code → IsInSome blocks m i
  pub sorted : AllPairs Precedes blocks
