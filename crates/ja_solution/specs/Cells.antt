-- The cells of a solver, and the facts that they say.
use Rattle.std.specs.Prelude.{◌≡◌, ℕ, ◌&&◌, nat_eq, Bool, true, false, List, [], Some, slice_get}
use Rattle.std.specs.List.{list_any}
use Rattle.ja_ir.specs.declared.method.Method.{Method}
use Rattle.ja_node_core.specs.Tree.{Assignment as Variables}
use Rattle.ja_bdd.specs.Functions.{Function}
use Rattle.ja_facts.specs.Least.{Least}
use Rattle.ja_facts.specs.Told.{cell_number, IsCell}
use Rattle.ja_facts.specs.Formulas.{Assignment}
use Rattle.ja_facts.specs.Equations.{Fact, Context, At, Normal, Threw, Stored}
use Rattle.ja_work.specs.declared.frame.Frame.{Frame}
use Rattle.ja_work.specs.Frames.{read}
use Rattle.ja_work.specs.Ends.{summary_of}
use Rattle.ja_work.specs.Work.{IsMethod, TellsSummary, entry_of}
use Rattle.ja_solution.specs.declared.cells.CellName.{CellName}
use Rattle.ja_solution.specs.declared.cells.CellName.TheVariants.{Called, Returned, Thrown, Before}
use Rattle.ja_blocks.specs.declared.blocks.ProgramBlock.{ProgramBlock}
use Rattle.ja_solution.specs.Problem.{Problem, known, Gives}

-- what the cells mean: each one with a diagram, as a function of variables; whether something tainted may have been stored into the field or bag
-- of this number; and whether the site is warned
pub record Values : Type 0 where
  pub at : CellName → Function
  pub stored : ℕ → Bool
  pub warned : ℕ → Bool

-- the function of variables of method m is true for these parameters at the entry, and for something at present of which this holds
pub record Shows (x : Problem) (m : ℕ) (φ : Function) (a : Assignment) (Now : Assignment → Type 0) : Type 0 where
  pub method : Method
  pub frame : Frame
  pub is : IsMethod x.program (known x) x.frames m method frame
  pub variables : Variables
  pub holds : φ variables ≡ true
  pub entry : entry_of method frame variables ≡ a
  pub present : Now (read frame 1 variables)

-- the cell of a block that begins at instruction i of method m says this of what is before it
pub record ShowsBefore (x : Problem) (v : Values) (m i : ℕ) (a b : Assignment) : Type 0 where
  pub number : ℕ
  pub block : ProgramBlock
  pub at : slice_get x.blocks number ≡ Some block
  pub is_method : block.method.0 ≡ m
  pub is_first : block.first ≡ i
  pub shows : Shows x m (v.at (Before number)) a (λ now. now ≡ b)

-- a cell says the fact
abbrev pub InCells : Problem → Values → Fact → Type 0
InCells x v (Context m a) = Shows x m (v.at (Called m)) a (λ now. Unit {0})
InCells x v (At m i a b) = ShowsBefore x v m i a b
InCells x v (Normal m a s) = Shows x m (v.at (Returned m)) a (λ now. TellsSummary now × (summary_of now ≡ s))
InCells x v (Threw m a s) = Shows x m (v.at (Thrown m)) a (λ now. TellsSummary now × (summary_of now ≡ s))
InCells x v (Stored c) = IsCell x.program c × (v.stored (cell_number x.program c) ≡ true)

-- the block begins at instruction i of method m
abbrev pub begins_at : (m i : ℕ) → ProgramBlock → Bool
begins_at m i block = nat_eq block.method.0 m && nat_eq block.first i

-- there is a cell for such facts: there is none for what is before an instruction inside a block
abbrev pub has_cell : Problem → Fact → Bool
has_cell x (At m i a b) = list_any (begins_at m i) x.blocks
has_cell x (Context m a) = true
has_cell x (Normal m a s) = true
has_cell x (Threw m a s) = true
has_cell x (Stored c) = true

-- what cells say is said; and of an instruction inside a block, what a rule gives from what is said
pub data SaidBy (x : Problem) (v : Values) : List Fact → Fact → Type 0 where
  by_cell : {f : Fact} → InCells x v f → SaidBy x v [] f
  by_rule : {ps : List Fact} {f : Fact} → has_cell x f ≡ false → Gives x ps f → SaidBy x v ps f

-- what cells say of all instructions
abbrev pub Said : Problem → Values → Fact → Type 0
Said x v = Least (SaidBy x v)
