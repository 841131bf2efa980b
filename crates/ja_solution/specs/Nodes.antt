-- The cells of a solver as nodes of a table, and what is kept of them.
use Rattle.std.specs.Prelude.{◌≡◌, ℕ, ◌<◌, nat_eq, Bool, false, List, Option, Some, None, length, replicate, slice_get, slice_index_or}
use Rattle.ja_ir.specs.declared.method.Method.{Method}
use Rattle.ja_ir.specs.Whole.{IsWhole}
use Rattle.ja_node_core.specs.Tree.{Tree}
use Rattle.ja_node_core.specs.declared.word.Node.{Node}
use Rattle.ja_node_core.specs.Node.{Words, Knows}
use Rattle.ja_bdd.specs.Meaning.{meaning}
use Rattle.ja_facts.specs.FactTables.{cell_count}
use Rattle.ja_facts.specs.Held.{Cell}
use Rattle.ja_facts.specs.Told.{cell_number, IsCell}
use Rattle.ja_facts.specs.Equations.{Stored}
use Rattle.ja_work.specs.declared.frame.Frame.{Frame}
use Rattle.ja_work.specs.Work.{IsMethod, IsWorkTree}
use Rattle.ja_blocks.specs.Layouts.{IsLayout}
use Rattle.ja_solution.specs.declared.cells.CellName.{CellName}
use Rattle.ja_solution.specs.declared.cells.CellName.TheVariants.{Called, Returned, Thrown, Before}
use Rattle.ja_solution.specs.declared.cells.Cells.{Cells}
use Rattle.ja_solution.specs.declared.cells.Counts.{Counts}
use Rattle.ja_solution.specs.declared.given.Given.{Given}
use Rattle.ja_solution.specs.declared.state.State.{State}
use Rattle.ja_solution.specs.Problem.{Problem, known, Solution}
use Rattle.ja_solution.specs.Cells.{Values}
use Rattle.ja_solution.specs.Solved.{AreBelow}
use Rattle.ja_solution.specs.Settled.{AreSettled}

-- the number of a node that may be there; that of the constant false where it is not
abbrev pub number_if : Option Node → ℕ
number_if None = 0
number_if (Some n) = n.number

-- the nodes among which the cell is, and its place there
abbrev pub row : Cells → CellName → List Node
row cells (Called m) = cells.called.items
row cells (Returned m) = cells.returned.items
row cells (Thrown m) = cells.thrown.items
row cells (Before k) = cells.before.items

abbrev pub place : CellName → ℕ
place (Called m) = m
place (Returned m) = m
place (Thrown m) = m
place (Before k) = k

-- the number of the cell's node
abbrev pub number_at : Cells → CellName → ℕ
number_at cells name = number_if (slice_get (row cells name) (place name))

-- what the cells mean
abbrev pub values_of : Words → Cells → Values
values_of k cells = record {
  at = λ name. meaning k (number_at cells name);
  stored = λ n. slice_index_or cells.stored.items n false;
  warned = λ s. slice_index_or cells.warned.items s false;
}

-- both are one cell
abbrev pub same_cell : CellName → CellName → Bool
same_cell (Called m) (Called n) = nat_eq m n
same_cell (Returned m) (Returned n) = nat_eq m n
same_cell (Thrown m) (Thrown n) = nat_eq m n
same_cell (Before k) (Before l) = nat_eq k l
same_cell (Called m) (Returned n) = false
same_cell (Called m) (Thrown n) = false
same_cell (Called m) (Before l) = false
same_cell (Returned m) (Called n) = false
same_cell (Returned m) (Thrown n) = false
same_cell (Returned m) (Before l) = false
same_cell (Thrown m) (Called n) = false
same_cell (Thrown m) (Returned n) = false
same_cell (Thrown m) (Before l) = false
same_cell (Before k) (Called n) = false
same_cell (Before k) (Returned n) = false
same_cell (Before k) (Thrown n) = false

-- so many cells that say nothing
pub record AreNothing (counts : Counts) (cells : Cells) : Type 0 where
  pub at : (name : CellName) → number_at cells name ≡ 0
  pub called : length cells.called.items ≡ counts.methods
  pub returned : length cells.returned.items ≡ counts.methods
  pub thrown : length cells.thrown.items ≡ counts.methods
  pub before : length cells.before.items ≡ counts.blocks
  pub stored : cells.stored.items ≡ replicate counts.stored false
  pub warned : cells.warned.items ≡ replicate counts.sites false

-- the problem that is given
abbrev pub problem_of : Given → Problem
problem_of given = record { program = given.program.now; facts = given.facts.now; frames = given.frames.now; blocks = given.layout.now.blocks }

-- the program is whole, the layout is that of it, and each method has a frame
pub record IsGiven (given : Given) : Type 0 where
  pub whole : IsWhole given.program.now
  pub layout : IsLayout given.program.now given.facts.now.graph given.facts.now.holds given.layout.now
  pub frames : (m : ℕ) (method : Method) → slice_get given.program.now.methods m ≡ Some method → (frame : Frame) × IsMethod given.program.now (known (problem_of given)) given.frames.now m method frame

-- work of the problem is of the aim
abbrev pub IsForWork : Problem → (Tree → Type 0) → Type 0
IsForWork x aim = (t : Tree) → IsWorkTree x.program (known x) x.frames t → aim t

-- how many cells of this kind there are
abbrev pub count_of : Problem → CellName → ℕ
count_of x (Called m) = length x.program.methods
count_of x (Returned m) = length x.program.methods
count_of x (Thrown m) = length x.program.methods
count_of x (Before k) = length x.blocks

-- there is such a cell
abbrev pub IsCellName : Problem → CellName → Type 0
IsCellName x name = place name < count_of x name

-- in the least solution something tainted may have been stored into the field or bag of this number
abbrev pub IsStored : Problem → ℕ → Type 0
IsStored x n = (c : Cell) → IsCell x.program c → cell_number x.program c ≡ n → Solution x (Stored c)

-- the cells and flags are those of the problem
pub record AreSized (x : Problem) (state : State) : Type 0 where
  pub rows : (name : CellName) → length (row state.cells name) ≡ count_of x name
  pub stored : length state.cells.stored.items ≡ cell_count x.program
  pub warned : length state.cells.warned.items ≡ length x.program.sites
  pub dirty : length state.dirty.items ≡ length x.blocks

-- the block of this number is to be looked at again
abbrev pub is_dirty : List Bool → ℕ → Bool
is_dirty dirty k = slice_index_or dirty k false

-- what is kept from round to round: each cell's node is known and lies below the least solution, and the rules of each block that is not to be
-- looked at again hold
pub record IsState (x : Problem) (k : Words) (state : State) : Type 0 where
  pub sized : AreSized x state
  pub known : (name : CellName) → Knows k (number_at state.cells name)
  pub below : AreBelow x (values_of k state.cells)
  pub settled : AreSettled x (λ b. is_dirty state.dirty.items b ≡ false) (values_of k state.cells)
