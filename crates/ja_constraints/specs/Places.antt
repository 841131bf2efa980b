-- Cells of values on the stack.
use Rattle.std.specs.Prelude.{ℕ, zero, suc, ◌+◌, ◌-◌, ◌<◌, ◌^◌, List}
use Rattle.ja_ir.specs.declared.op.CallOp.{CallOp}
use Rattle.ja_ir.specs.declared.op.Op.{Op}
use Rattle.ja_ir.specs.declared.op.Op.TheVariants.{Call}
use Rattle.ja_ir.specs.Operations.{arguments}
use Rattle.ja_network.specs.declared.cell.Cell.{Cell}
use Rattle.ja_network.specs.declared.cell.Cell.TheVariants.{Nothing}
use Rattle.ja_cells.specs.Rows.{cell_in}

-- the cell of the topmost value of so many on the stack, over so many locals
abbrev pub top_cell : (row : List Cell) (locals height : ℕ) → Cell
top_cell row locals zero = Nothing
top_cell row locals (suc under) = cell_in row (locals + under)

-- the cell of argument k of a call before which so many values are on the stack
abbrev pub argument_cell : (row : List Cell) (locals height : ℕ) → CallOp → (k : ℕ) → Cell
argument_cell row locals height call k = cell_in row (locals + ((height - arguments call) + k))

-- the operation, if it is a call, has few arguments
abbrev pub HasFew : Op → Type 0
HasFew (Call call) = arguments call < 2 ^ 32
HasFew op = Unit {0}
