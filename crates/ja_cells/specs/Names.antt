-- Which cell has the tokens of which slot. Before an instruction to which several ways lead each slot has a cell of its own. Before an
-- instruction to which the one before it alone goes on, a slot is a name for a cell: that from which its value was moved there, or that of
-- what was pushed.
use Rattle.std.specs.Prelude.{◌≡◌, ℕ, suc, ◌+◌, ◌≤◌, true, List, [], Option, Some, None, Contains, length, slice_get, slice_index_or}
use Rattle.ja_ir.specs.declared.program.Parts.{Parts}
use Rattle.ja_ir.specs.declared.method.Method.{Method}
use Rattle.ja_ir.specs.declared.method.Instr.{Instr}
use Rattle.ja_ir.specs.declared.method.Handler.{Handler}
use Rattle.ja_ir.specs.Lookup.{Leads}
use Rattle.ja_facts.specs.Slots.{Slot, Local, OnStack}
use Rattle.ja_network.specs.declared.cell.Cell.{Cell}
use Rattle.ja_cells.specs.Rows.{cell_in, next_row, own_row}

-- for each method and each instruction the cells of its slots: those of the locals, and then those of the values on the stack, from the bottom
abbrev pub Names : Type 0
Names = List (List (List Cell))

-- the cells of the slots before an instruction
abbrev pub row_at : Names → (m i : ℕ) → List Cell
row_at names m i = slice_index_or (slice_index_or names m []) i []

-- the number of locals of a method, if there is one
abbrev pub locals_of : Option Method → ℕ
locals_of None = 0
locals_of (Some method) = method.locals

-- the number of a slot among those of a method
abbrev pub slot_number : Parts → (m : ℕ) → Slot → ℕ
slot_number p m (Local l) = l
slot_number p m (OnStack k) = locals_of (slice_get p.methods m) + k

-- the cell of a slot before an instruction
abbrev pub name_of : Parts → Names → (m i : ℕ) → Slot → Cell
name_of p names m i z = cell_in (row_at names m i) (slot_number p m z)

-- control comes to instruction j of method m from the normal end of instruction i alone
pub record IsOnlyWay (p : Parts) (m : ℕ) (method : Method) (i j : ℕ) : Type 0 where
  pub leads : Leads p m i j
  pub only : (k : ℕ) → Leads p m k j → k ≡ i
  pub unhandled : (handler : Handler) → Contains method.handlers handler → handler.target ≡ j → ⊥

-- a row of cells is right for the slots before instruction j of method m, where the rows before its instructions are these
pub data IsRow (p : Parts) (m : ℕ) (method : Method) (rows : List (List Cell)) (j : ℕ) (instr : Instr) (row : List Cell) : Type 0 where
  -- each slot has a cell of its own
  own : row ≡ own_row m j 0 (method.locals + instr.height) → IsRow p m method rows j instr row
  -- the slots are names for cells
  shared : (i : ℕ) (before : Instr) → suc i ≡ j → slice_get method.code i ≡ Some before → before.reached ≡ true → IsOnlyWay p m method i j
      → row ≡ next_row p m i before.op (slice_index_or rows i []) → IsRow p m method rows j instr row

-- the rows before the first so many instructions of method m are right, where those are reached
pub record AreRows (p : Parts) (m : ℕ) (method : Method) (count : ℕ) (rows : List (List Cell)) : Type 0 where
  pub each : (j : ℕ) (instr : Instr) → suc j ≤ count → slice_get method.code j ≡ Some instr → instr.reached ≡ true → IsRow p m method rows j instr (slice_index_or rows j [])

-- the rows of the first so many methods are right
pub record AreNamesBelow (p : Parts) (count : ℕ) (names : Names) : Type 0 where
  pub each : (m : ℕ) (method : Method) → suc m ≤ count → slice_get p.methods m ≡ Some method → AreRows p m method (length method.code) (slice_index_or names m [])

-- the cells of all slots are right before each instruction that is reached
abbrev pub AreNames : Parts → Names → Type 0
AreNames p names = AreNamesBelow p (length p.methods) names
