-- How far the private functions have come.
use Rattle.std.specs.Prelude.{◌≡◌, ℕ, suc, ◌<◌, ◌≤◌, false, List, Some, Contains, length, slice_get}
use Rattle.ja_ir.specs.declared.method.Instr.{Instr}
use Rattle.ja_ir.specs.declared.block.Block.{Block}
use Rattle.ja_ir.specs.Blocks.{is_branch}
use Rattle.ja_blocks.specs.declared.blocks.ProgramBlock.{ProgramBlock}

-- the instruction at a place leads nowhere but to the next, if it is no branch
abbrev pub GoesOn : ℕ → Instr → Type 0
GoesOn place instr = is_branch instr.op ≡ false → (j : ℕ) → Contains instr.next j → j ≡ suc place

abbrev pub GoStraight : List Instr → Type 0
GoStraight code = (i : ℕ) (instr : Instr) → slice_get code i ≡ Some instr → GoesOn i instr

-- one block for each of so many instructions
abbrev pub AreSingles : ℕ → List Block → Type 0
AreSingles count row = (length row ≡ count) × ((k : ℕ) (block : Block) → slice_get row k ≡ Some block → (block.first ≡ k) × (block.last ≡ k))

-- the block has an instruction before this one of which this holds
abbrev pub HasInstrBelow : ProgramBlock → ℕ → ((m i : ℕ) → Type 0) → Type 0
HasInstrBelow block end P = (i : ℕ) × (block.first ≤ i) × (i < end) × P block.method.0 i

-- the number is one of the first so many, and related to the key
abbrev pub UpTo : (count : ℕ) → (ℕ → ℕ → Type 0) → (k x : ℕ) → Type 0
UpTo count R k x = (x < count) × R k x
