-- What is told where an event happens.
use Rattle.std.specs.Prelude.{ℕ, ◌==◌, List, [], ◌++◌, Option, Some, None, slice_get, if◌then◌else◌}
use Rattle.ja_ir.specs.declared.program.Parts.{Parts}
use Rattle.ja_ir.specs.declared.method.Method.{Method}
use Rattle.ja_ir.specs.declared.method.Instr.{Instr}
use Rattle.ja_ir.specs.Initializing.{inits_of}
use Rattle.ja_network.specs.declared.cell.Cell.TheVariants.{Span}
use Rattle.ja_network.specs.declared.cell.Action.TheVariants.{Expand}
use Rattle.ja_network.specs.declared.cell.Event.{Event}
use Rattle.ja_network.specs.declared.cell.Event.TheVariants.{Reached, Calls, CallsAbstract, CallsLibrary, Spanned, Linked}
use Rattle.ja_cells.specs.Rows.{next_row}
use Rattle.ja_cells.specs.Names.{Names, row_at}
use Rattle.ja_constraints.specs.declared.constraint.Constraint.{Constraint}
use Rattle.ja_constraints.specs.Links.{link, gets, throws_library}
use Rattle.ja_constraints.specs.Places.{top_cell}
use Rattle.ja_constraints.specs.Flows.{goes_on, begin_each, enters}
use Rattle.ja_constraints.specs.Operations.{does, raises}
use Rattle.ja_constraints.specs.Calls.{targets, passes, begins}
use Rattle.ja_constraints.specs.LibraryCalls.{does_there, goes_there}

-- what is told of an instruction of a method, if there is one
abbrev pub of_instr : (Method → Instr → List Constraint) → Method → Option Instr → List Constraint
of_instr f method None = []
of_instr f method (Some instr) = f method instr

-- what is told of instruction i of a method, if there is one
abbrev pub of_method : (Method → Instr → List Constraint) → (i : ℕ) → Option Method → List Constraint
of_method f i None = []
of_method f i (Some method) = of_instr f method (slice_get method.code i)

-- what is told of instruction i of method m, if there is one
abbrev pub of_code : Parts → (m i : ℕ) → (Method → Instr → List Constraint) → List Constraint
of_code p m i f = of_method f i (slice_get p.methods m)

-- the parameters of a method come to its locals where it begins
abbrev pub enters_at : (m i : ℕ) → Method → List Constraint
enters_at m i method = if i == 0 then enters m method else []

-- where control goes from an instruction that may run: to the next ones, to class initialisers, and into its method
abbrev pub leads_on : Parts → Names → (m i : ℕ) → Method → Instr → List Constraint
leads_on p names m i method instr =
    goes_on names m (next_row p m i instr.op (row_at names m i)) instr.next ++ begin_each (inits_of p instr.op) ++ enters_at m i method

-- what an instruction that may run does: what it throws, what it makes, where it takes things, and what it calls
abbrev pub acts : Parts → Names → (m i : ℕ) → Method → Instr → List Constraint
acts p names m i method instr =
    raises p m i instr.op ++ does p m i (top_cell (row_at names m i) method.locals instr.height) instr.op
    ++ targets p m i (row_at names m i) method.locals instr.height instr.op

-- what follows where an instruction may run
abbrev pub runs : Parts → Names → (m i : ℕ) → Method → Instr → List Constraint
runs p names m i method instr = leads_on p names m i method instr ++ acts p names m i method instr

-- what follows where instruction i of method m may run
abbrev pub reached : Parts → Names → (m i : ℕ) → List Constraint
reached p names m i = of_code p m i (runs p names m i)

-- the arguments of a call go to the parameters of method n, and its results come back
abbrev pub passed : Parts → Names → (m i n : ℕ) → List Constraint
passed p names m i n = of_code p m i (λ method instr. passes m i n (row_at names m i) method.locals instr.height instr.op)

-- what follows where a call goes to a method with code
abbrev pub called : Parts → Names → (m i n : ℕ) → List Constraint
called p names m i n = begins m i n ++ passed p names m i n

-- what a call does in the library
abbrev pub done_there : Parts → Names → (m i : ℕ) → List Constraint
done_there p names m i = of_code p m i (λ method instr. does_there p m i (row_at names m i) method.locals instr.height instr.op)

-- what follows where a call goes to the library
abbrev pub called_library : Parts → Names → (m i : ℕ) → List Constraint
called_library p names m i = goes_there p m i ++ done_there p names m i

-- an object is what it leads to, and leads to what that has
abbrev pub spanned : (token : ℕ) → List Constraint
spanned token = gets (Span token) token ++ link (Span token) (Expand token)

-- what follows where an event happens; of a link nothing follows but by tokens
abbrev pub follows : Parts → Names → Event → List Constraint
follows p names (Reached m i) = reached p names m i
follows p names (Calls m i n) = called p names m i n
follows p names (CallsAbstract m i n) = throws_library p m i
follows p names (CallsLibrary m i) = called_library p names m i
follows p names (Spanned token) = spanned token
follows p names (Linked from action) = []
