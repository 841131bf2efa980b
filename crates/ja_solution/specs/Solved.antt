-- When the cells of a solver mean the least solution.
use Rattle.std.specs.Prelude.{◌≡◌, ◌↔◌, ℕ, ◌%◌, true, List, Some, slice_get}
use Rattle.ja_ir.specs.declared.method.Method.{Method}
use Rattle.ja_ir.specs.declared.entry.Site.{Site}
use Rattle.ja_node_core.specs.Tree.{Assignment as Variables}
use Rattle.ja_bdd.specs.Functions.{Function, IsFree}
use Rattle.ja_join.specs.Steps.{IsLow}
use Rattle.ja_facts.specs.Least.{Each}
use Rattle.ja_facts.specs.Held.{Cell}
use Rattle.ja_facts.specs.Told.{cell_number, IsCell}
use Rattle.ja_facts.specs.Equations.{Fact, Context, At, Normal, Threw, Stored, IsWarned}
use Rattle.ja_work.specs.declared.frame.Frame.{Frame}
use Rattle.ja_work.specs.Frames.{read}
use Rattle.ja_work.specs.Ends.{summary_of}
use Rattle.ja_work.specs.Work.{IsMethod, IsSet, TellsSummary, entry_of, Saying, Says, before, of_context, of_return, of_throw}
use Rattle.ja_solution.specs.declared.cells.CellName.{CellName}
use Rattle.ja_solution.specs.declared.cells.CellName.TheVariants.{Called, Returned, Thrown, Before}
use Rattle.ja_blocks.specs.declared.blocks.ProgramBlock.{ProgramBlock}
use Rattle.ja_solution.specs.Problem.{Problem, known, Gives, Solution}
use Rattle.ja_solution.specs.Cells.{Values, InCells, has_cell, Said}

-- the cell of method m is true only for what is so said in the least solution, and looks at variables of facts alone
pub record IsPartOf (x : Problem) (m : ℕ) (saying : Saying x.program (known x)) (φ : Function) : Type 0 where
  pub set : (method : Method) (frame : Frame) → IsMethod x.program (known x) x.frames m method frame → IsSet method frame (Says x.program (known x) m saying) φ
  pub low : IsLow φ

-- the function is a part of what this cell is for; a context looks at the copy at the entry alone
abbrev pub IsOfCell : Problem → CellName → Function → Type 0
IsOfCell x (Called m) φ = IsPartOf x m of_context φ × ((u : ℕ) → u % 4 ≡ 1 → IsFree u φ)
IsOfCell x (Returned m) φ = IsPartOf x m of_return φ
IsOfCell x (Thrown m) φ = IsPartOf x m of_throw φ
IsOfCell x (Before k) φ = (block : ProgramBlock) → slice_get x.blocks k ≡ Some block → IsPartOf x block.method.0 (before block.first) φ

-- each cell lies below the least solution
pub record AreBelow (x : Problem) (v : Values) : Type 0 where
  pub cells : (name : CellName) → IsOfCell x name (v.at name)
  pub stored : (c : Cell) → IsCell x.program c → v.stored (cell_number x.program c) ≡ true → Solution x (Stored c)
  pub warned : (k : ℕ) (site : Site) → slice_get x.program.sites k ≡ Some site → v.warned k ≡ true → IsWarned x.program (Solution x) site

-- each fact that a rule gives from what the cells say is said by its cell, and so is each site that is warned
pub record IsClosed (x : Problem) (v : Values) : Type 0 where
  pub rules : (ps : List Fact) (f : Fact) → Gives x ps f → Each (Said x v) ps → has_cell x f ≡ true → InCells x v f
  pub sites : (k : ℕ) (site : Site) → slice_get x.program.sites k ≡ Some site → IsWarned x.program (Said x v) site → v.warned k ≡ true

-- each cell means the least solution: it is true exactly for its facts
pub record AreExact (x : Problem) (v : Values) : Type 0 where
  pub contexts : (m : ℕ) (method : Method) (frame : Frame) → IsMethod x.program (known x) x.frames m method frame → (u : Variables)
      → (v.at (Called m) u ≡ true) ↔ Solution x (Context m (entry_of method frame u))
  pub returns : (m : ℕ) (method : Method) (frame : Frame) → IsMethod x.program (known x) x.frames m method frame → (u : Variables)
      → (v.at (Returned m) u ≡ true) ↔ (Solution x (Normal m (entry_of method frame u) (summary_of (read frame 1 u))) × TellsSummary (read frame 1 u))
  pub throws : (m : ℕ) (method : Method) (frame : Frame) → IsMethod x.program (known x) x.frames m method frame → (u : Variables)
      → (v.at (Thrown m) u ≡ true) ↔ (Solution x (Threw m (entry_of method frame u) (summary_of (read frame 1 u))) × TellsSummary (read frame 1 u))
  pub befores : (k : ℕ) (block : ProgramBlock) (method : Method) (frame : Frame) → slice_get x.blocks k ≡ Some block → IsMethod x.program (known x) x.frames block.method.0 method frame → (u : Variables)
      → (v.at (Before k) u ≡ true) ↔ Solution x (At block.method.0 block.first (entry_of method frame u) (read frame 1 u))
  pub stored : (c : Cell) → IsCell x.program c → (v.stored (cell_number x.program c) ≡ true) ↔ Solution x (Stored c)
  pub warned : (k : ℕ) (site : Site) → slice_get x.program.sites k ≡ Some site → (v.warned k ≡ true) ↔ IsWarned x.program (Solution x) site
