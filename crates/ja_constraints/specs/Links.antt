-- What is told of cells: lists of constraints.
use Rattle.std.specs.Prelude.{ℕ, zero, suc, List, [], ◌∷◌, ◌++◌}
use Rattle.ja_network.specs.declared.cell.Cell.{Cell}
use Rattle.ja_network.specs.declared.cell.Cell.TheVariants.{Nothing, Thrown}
use Rattle.ja_network.specs.declared.cell.Action.{Action}
use Rattle.ja_network.specs.declared.cell.Action.TheVariants.{Copy}
use Rattle.ja_network.specs.declared.cell.Event.TheVariants.{Reached, Linked}
use Rattle.ja_ir.specs.declared.program.Parts.{Parts}
use Rattle.ja_ir.specs.Tokens.{lib_token}
use Rattle.ja_constraints.specs.declared.constraint.Constraint.{Constraint}
use Rattle.ja_constraints.specs.declared.constraint.Constraint.TheVariants.{Has, Happens}

-- something is done with each token of the cell; of a cell that never has one nothing is told
abbrev pub link : (from : Cell) → Action → List Constraint
link Nothing action = []
link from action = Happens (Linked from action) ∷ []

-- the tokens of a cell go to another
abbrev pub copy : (from to : Cell) → List Constraint
copy from to = link from (Copy to)

-- instruction i of method m may run
abbrev pub reach : (m i : ℕ) → List Constraint
reach m i = Happens (Reached m i) ∷ []

-- the cell has the token
abbrev pub gets : Cell → (token : ℕ) → List Constraint
gets cell token = Has cell token ∷ []

-- a library object is thrown by instruction i of method m
abbrev pub throws_library : Parts → (m i : ℕ) → List Constraint
throws_library p m i = gets (Thrown m i) (lib_token p)

-- what is told of so many numbers, one after the other, from k on
abbrev pub over : (ℕ → List Constraint) → (k count : ℕ) → List Constraint
over f k zero = []
over f k (suc count) = f k ++ over f (suc k) count
