-- What the rules of a block go by.
use Rattle.std.specs.Prelude.{◌≡◌, ◌⊎◌, ℕ, true, Bool, Contains}
use Rattle.ja_ir.specs.declared.entry.Entry.{Entry}
use Rattle.ja_join.specs.Steps.{IsBelow}
use Rattle.ja_facts.specs.Equations.{Fact, Context, At, Normal, Threw, Stored}
use Rattle.ja_solution.specs.declared.cells.CellName.{CellName}
use Rattle.ja_blocks.specs.declared.blocks.ProgramBlock.{ProgramBlock}
use Rattle.ja_blocks.specs.Readers.{HasInstr, IsRead}
use Rattle.ja_solution.specs.Problem.{Problem}
use Rattle.ja_solution.specs.Cells.{Values, InCells}

-- the block begins the method of an entry
pub record BeginsEntry (x : Problem) (block : ProgramBlock) : Type 0 where
  pub entry : Entry
  pub listed : Contains x.program.entries entry
  pub is_method : block.method.0 ≡ entry.method.0
  pub is_first : block.first ≡ 0

-- a fact by which the rules of the block may go: what is before it, or what a rule of one of its instructions reads; where the block begins a
-- method, what that is called with; and where an entry's, whatever is stored
abbrev pub BlockReads : Problem → ProgramBlock → Fact → Type 0
BlockReads x block (At m i a b) = (block.method.0 ≡ m) × (block.first ≡ i)
BlockReads x block (Context m a) = (block.method.0 ≡ m) × (block.first ≡ 0)
BlockReads x block (Normal n a s) = HasInstr block (λ m i. IsRead x.program x.facts.graph x.facts.holds m i (Normal n a s))
BlockReads x block (Threw n a s) = HasInstr block (λ m i. IsRead x.program x.facts.graph x.facts.holds m i (Threw n a s))
BlockReads x block (Stored c) = HasInstr block (λ m i. IsRead x.program x.facts.graph x.facts.holds m i (Stored c)) ⊎ BeginsEntry x block

-- of what the block reads, the second cells say no more than the first
abbrev pub ReadsNoMore : Problem → ProgramBlock → (from to : Values) → Type 0
ReadsNoMore x block from to = (f : Fact) → BlockReads x block f → InCells x to f → InCells x from f

-- the first flag is set only where the second is
abbrev pub Implied : Bool → Bool → Type 0
Implied a b = a ≡ true → b ≡ true

-- the second cells say all that the first say
pub record Grow (from to : Values) : Type 0 where
  pub cells : (name : CellName) → IsBelow (from.at name) (to.at name)
  pub stored : (n : ℕ) → Implied (from.stored n) (to.stored n)
  pub warned : (k : ℕ) → Implied (from.warned k) (to.warned k)
