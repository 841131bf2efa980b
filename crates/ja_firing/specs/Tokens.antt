-- What comes of a token of a cell for which something is done.
use Rattle.std.specs.Prelude.{ℕ, suc, ◌==◌, ◌||◌, ◌&&◌, not, Bool, List, [], ◌∷◌, ◌++◌, Option, Some, None, slice_get, if◌then◌else◌}
use Rattle.ja_base.specs.declared.java_type.JavaType.{JavaType}
use Rattle.ja_ir.specs.declared.program.Parts.{Parts}
use Rattle.ja_ir.specs.declared.class.ClassInfo.{ClassInfo}
use Rattle.ja_ir.specs.declared.class.Field.{Field as FieldInfo}
use Rattle.ja_ir.specs.declared.class.MethodAt.{MethodAt}
use Rattle.ja_ir.specs.declared.class.MethodAt.TheVariants.{Program, Abstract, Library}
use Rattle.ja_ir.specs.declared.method.Method.{Method}
use Rattle.ja_ir.specs.declared.op.CallOp.{CallOp}
use Rattle.ja_ir.specs.declared.op.Op.{Op}
use Rattle.ja_ir.specs.declared.op.Op.TheVariants.{Call, Cast}
use Rattle.ja_ir.specs.Lookup.{selection_among, is_member, is_instance_field}
use Rattle.ja_ir.specs.Operations.{arguments}
use Rattle.ja_ir.specs.Params.{type_among, param_types}
use Rattle.ja_ir.specs.Tokens.{Shape, lib_token, rarr_token, parr_token, shape_of, fits_shape, is_in_program, absorbs}
use Rattle.ja_ir.specs.Handlers.{Place, Inside, Outside, dest_among}
use Rattle.ja_network.specs.declared.cell.Cell.{Cell}
use Rattle.ja_network.specs.declared.cell.Cell.TheVariants.{Environment, Field, Bag, Span, Param, Out, Takers, Pushed, Before}
use Rattle.ja_network.specs.declared.cell.Action.{Action}
use Rattle.ja_network.specs.declared.cell.Action.TheVariants.{Copy, Check, Enter, Return, Dispatch, Throw, Source, Take, Fill, Lead, Expand, Stock}
use Rattle.ja_network.specs.declared.cell.Event.TheVariants.{Spanned}
use Rattle.ja_cells.specs.Rows.{cell_in}
use Rattle.ja_cells.specs.Names.{Names, row_at}
use Rattle.ja_constraints.specs.declared.constraint.Constraint.{Constraint}
use Rattle.ja_constraints.specs.declared.constraint.Constraint.TheVariants.{Happens}
use Rattle.ja_constraints.specs.Links.{link, copy, gets, reach, over}
use Rattle.ja_constraints.specs.Places.{argument_cell}
use Rattle.ja_constraints.specs.Calls.{calls, calls_abstract, calls_library}
use Rattle.ja_constraints.specs.LibraryCalls.{has_reference}
use Rattle.ja_constraints.specs.Events.{of_code}

-- a token goes to a cell where it fits a type of the shape
abbrev pub fits_into : Parts → Cell → (token : ℕ) → Shape → List Constraint
fits_into p to token shape = if fits_shape p token shape then gets to token else []

-- a token goes to a cell where it fits the reference type of a name
abbrev pub passes_to : Parts → Cell → (token : ℕ) → (name : List ℕ) → List Constraint
passes_to p to token name = fits_into p to token (shape_of p name)

-- a token passes an operation, if it is a cast to whose type it fits
abbrev pub passes_cast : Parts → (m i token : ℕ) → Op → List Constraint
passes_cast p m i token (Cast name) = passes_to p (Pushed m i) token name
passes_cast p m i token op = []

-- a token goes to parameter k of method m, where it fits its type
abbrev pub fits_param : Parts → (m k token : ℕ) → Option JavaType → List Constraint
fits_param p m k token None = []
fits_param p m k token (Some type) = passes_to p (Param m k) token type.name

-- a token goes to parameter k of method m, if there is one that has a type in the method's descriptor
abbrev pub enters_param : Parts → (m k token : ℕ) → Option Method → List Constraint
enters_param p m k token None = []
enters_param p m k token (Some method) = fits_param p m k token (type_among (is_member method.flags) (param_types method) k)

-- a token is answered by a call, where its result has a reference type and the token fits it
abbrev pub fits_result : Parts → (m i token : ℕ) → Option JavaType → List Constraint
fits_result p m i token None = []
fits_result p m i token (Some type) = if has_reference (Some type) then passes_to p (Pushed m i) token type.name else []

-- a token is answered by an operation, if it is a call
abbrev pub answers : Parts → (m i token : ℕ) → Op → List Constraint
answers p m i token (Call call) = fits_result p m i token call.result
answers p m i token op = []

-- where a virtual or interface call on an object of the token goes, whose named class has this shape, by the class of the token
abbrev pub dispatched_by : CallOp → (named : Bool) (fitting : Bool) → Option ClassInfo → Option MethodAt
dispatched_by call named fitting (Some class) = if named && not fitting then None else Some (selection_among call.name call.desc class.selections)
dispatched_by call named fitting None = if named then None else Some Library

-- where a virtual or interface call on an object of the token goes, if anywhere
abbrev pub dispatched : Parts → CallOp → (token : ℕ) → Option MethodAt
dispatched p call token =
    dispatched_by call (is_in_program (shape_of p call.class)) (fits_shape p token (shape_of p call.class)) (slice_get p.classes token)

-- a call goes there, and a receiver of the token with it
abbrev pub goes_to : (m i token : ℕ) → Option MethodAt → List Constraint
goes_to m i token None = []
goes_to m i token (Some (Program n)) = calls m i n.0 ++ gets (Param n.0 0) token
goes_to m i token (Some (Abstract n)) = calls_abstract m i n.0
goes_to m i token (Some Library) = calls_library m i

-- where an operation on a receiver of the token goes, if it is a call
abbrev pub dispatches : Parts → (m i token : ℕ) → Op → List Constraint
dispatches p m i token (Call call) = goes_to m i token (dispatched p call token)
dispatches p m i token op = []

-- the locals are kept for handler j
abbrev pub keeps : (m j : ℕ) (row : List Cell) (locals : ℕ) → List Constraint
keeps m j row locals = over (λ l. copy (cell_in row l) (Before m j l)) 0 locals

-- an exception of the token goes to a place
abbrev pub goes_out : (m token : ℕ) (row : List Cell) (locals : ℕ) → Place → List Constraint
goes_out m token row locals Outside = gets (Out m) token
goes_out m token row locals (Inside j) = reach m j ++ gets (Before m j locals) token ++ keeps m j row locals

-- an exception of the token goes to places
abbrev pub goes_each : (m token : ℕ) (row : List Cell) (locals : ℕ) → List Place → List Constraint
goes_each m token row locals [] = []
goes_each m token row locals (place ∷ places) = goes_out m token row locals place ++ goes_each m token row locals places

-- where an exception of the token goes that instruction i of method m throws, if there is such a method
abbrev pub thrown : Parts → (m i token : ℕ) (row : List Cell) → Option Method → List Constraint
thrown p m i token row None = []
thrown p m i token row (Some method) = goes_each m token row method.locals (dest_among p i token method.handlers)

-- what an object of the token leads to is asked for
abbrev pub asks : (token : ℕ) → List Constraint
asks token = Happens (Spanned token) ∷ []

-- what a source of the token leads to takes the arguments
abbrev pub sources : (m i token : ℕ) → List Constraint
sources m i token = asks token ++ link (Span token) (Take m i)

-- what an argument of the token leads to may be answered
abbrev pub leads : (m i token : ℕ) → List Constraint
leads m i token = asks token ++ link (Span token) (Return m i)

-- an absorbing token takes the arguments
abbrev pub takes : Parts → (m i token : ℕ) → List Constraint
takes p m i token = if absorbs p token then gets (Takers m i) token else []

-- the bags of the token take the arguments of a call
abbrev pub fills_from : (row : List Cell) (locals height token : ℕ) → CallOp → List Constraint
fills_from row locals height token call = over (λ k. copy (argument_cell row locals height call k) (Bag token)) 0 (arguments call)

-- the bags of the token take the arguments of an operation, if it is a call
abbrev pub fills_bag : (row : List Cell) (locals height token : ℕ) → Op → List Constraint
fills_bag row locals height token (Call call) = fills_from row locals height token call
fills_bag row locals height token op = []

-- what is in field f leads on from an object of the token, if that has it
abbrev pub field_leads : Parts → (start token f : ℕ) → FieldInfo → List Constraint
field_leads p start token f field = if is_instance_field p token field then copy (Field f) (Span start) else []

-- the same for fields of which the first has number f
abbrev pub fields_lead : Parts → (start token f : ℕ) → List FieldInfo → List Constraint
fields_lead p start token f [] = []
fields_lead p start token f (field ∷ fields) = field_leads p start token f field ++ fields_lead p start token (suc f) fields

-- what is in the bags of an object of the token leads on, if it has any
abbrev pub bag_leads : Parts → (start token : ℕ) → List Constraint
bag_leads p start token = if absorbs p token then copy (Bag token) (Span start) else []

-- what leads to an object of the token leads to what that has
abbrev pub expands : Parts → (start token : ℕ) → List Constraint
expands p start token = fields_lead p start token 0 p.fields ++ bag_leads p start token

-- the token is one of the three that absorb and are no program class
abbrev pub is_library_bag : Parts → (token : ℕ) → Bool
is_library_bag p token = (token == lib_token p) || ((token == rarr_token p) || (token == parr_token p))

-- the environment puts all that it makes into the bags of the token
abbrev pub stocks : Parts → (token : ℕ) → List Constraint
stocks p token = if is_library_bag p token then copy Environment (Bag token) else []

-- the same of the instruction of these numbers, if there is one: a token passes a cast, is answered, is a receiver, is a taker
abbrev pub checked : Parts → (m i token : ℕ) → List Constraint
checked p m i token = of_code p m i (λ method instr. passes_cast p m i token instr.op)

abbrev pub answered : Parts → (m i token : ℕ) → List Constraint
answered p m i token = of_code p m i (λ method instr. answers p m i token instr.op)

abbrev pub received : Parts → (m i token : ℕ) → List Constraint
received p m i token = of_code p m i (λ method instr. dispatches p m i token instr.op)

abbrev pub filled : Parts → Names → (m i token : ℕ) → List Constraint
filled p names m i token = of_code p m i (λ method instr. fills_bag (row_at names m i) method.locals instr.height token instr.op)

-- what comes of a token where it is in a cell for which this is done
abbrev pub fires : Parts → Names → (token : ℕ) → Action → List Constraint
fires p names token (Copy to) = gets to token
fires p names token (Check m i) = checked p m i token
fires p names token (Enter m k) = enters_param p m k token (slice_get p.methods m)
fires p names token (Return m i) = answered p m i token
fires p names token (Dispatch m i) = received p m i token
fires p names token (Throw m i) = thrown p m i token (row_at names m i) (slice_get p.methods m)
fires p names token (Source m i) = sources m i token
fires p names token (Take m i) = takes p m i token
fires p names token (Fill m i) = filled p names m i token
fires p names token (Lead m i) = leads m i token
fires p names token (Expand start) = expands p start token
fires p names token Stock = stocks p token
