-- Where a call goes, what is handed over, and what comes back.
use Rattle.std.specs.Prelude.{ℕ, ◌-◌, Bool, false, List, [], ◌∷◌, ◌++◌, Option, Some, None, slice_get, if◌then◌else◌}
use Rattle.ja_ir.specs.declared.program.Parts.{Parts}
use Rattle.ja_ir.specs.declared.class.MethodAt.{MethodAt}
use Rattle.ja_ir.specs.declared.class.MethodAt.TheVariants.{Program, Abstract, Library}
use Rattle.ja_ir.specs.declared.method.Method.{Method}
use Rattle.ja_ir.specs.declared.op.CallOp.{CallOp}
use Rattle.ja_ir.specs.declared.op.CallKind.{CallKind}
use Rattle.ja_ir.specs.declared.op.CallKind.TheVariants.{Virtual, Special, Static, Interface, StaticField, MemberField}
use Rattle.ja_ir.specs.declared.op.Op.{Op}
use Rattle.ja_ir.specs.declared.op.Op.TheVariants.{Call}
use Rattle.ja_ir.specs.Lookup.{is_static, is_member}
use Rattle.ja_ir.specs.Operations.{arguments, has_receiver, is_dispatched}
use Rattle.ja_network.specs.declared.cell.Cell.{Cell}
use Rattle.ja_network.specs.declared.cell.Cell.TheVariants.{Param, Answer, Out, Thrown, Pushed}
use Rattle.ja_network.specs.declared.cell.Action.TheVariants.{Dispatch}
use Rattle.ja_network.specs.declared.cell.Event.TheVariants.{Calls, CallsAbstract, CallsLibrary}
use Rattle.ja_constraints.specs.declared.constraint.Constraint.{Constraint}
use Rattle.ja_constraints.specs.declared.constraint.Constraint.TheVariants.{Happens}
use Rattle.ja_constraints.specs.Links.{link, copy, reach, throws_library, over}
use Rattle.ja_constraints.specs.Places.{argument_cell}

-- a method, if there is one, can be called by a call of this kind: by a static call a static one, by a special call one that is not
abbrev pub can_be_called : CallKind → Option Method → Bool
can_be_called kind None = false
can_be_called Static (Some method) = is_static method.flags
can_be_called Special (Some method) = is_member method.flags
can_be_called _ (Some method) = false

-- instruction i of method m calls a method with code; one without code; the library
abbrev pub calls : (m i n : ℕ) → List Constraint
calls m i n = Happens (Calls m i n) ∷ []

abbrev pub calls_abstract : (m i n : ℕ) → List Constraint
calls_abstract m i n = Happens (CallsAbstract m i n) ∷ []

abbrev pub calls_library : (m i : ℕ) → List Constraint
calls_library m i = Happens (CallsLibrary m i) ∷ []

-- a call of this kind goes to what it found, where that can be called by it
abbrev pub goes_to_found : Parts → (m i : ℕ) → CallKind → Option MethodAt → List Constraint
goes_to_found p m i kind None = []
goes_to_found p m i kind (Some (Program n)) = if can_be_called kind (slice_get p.methods n.0) then calls m i n.0 else []
goes_to_found p m i kind (Some (Abstract n)) = if can_be_called kind (slice_get p.methods n.0) then calls_abstract m i n.0 else []
goes_to_found p m i kind (Some Library) = calls_library m i

-- where a call of this kind goes: a virtual or interface call where the receivers in a cell say, an access of a library field to the library
abbrev pub goes_by_kind : Parts → (m i : ℕ) (receiver : Cell) → Option MethodAt → CallKind → List Constraint
goes_by_kind p m i receiver found Virtual = link receiver (Dispatch m i)
goes_by_kind p m i receiver found Interface = link receiver (Dispatch m i)
goes_by_kind p m i receiver found Special = goes_to_found p m i Special found
goes_by_kind p m i receiver found Static = goes_to_found p m i Static found
goes_by_kind p m i receiver found StaticField = calls_library m i
goes_by_kind p m i receiver found MemberField = calls_library m i

-- a call on null throws a library object
abbrev pub null_receiver : Parts → (m i : ℕ) → CallKind → List Constraint
null_receiver p m i kind = if has_receiver kind then throws_library p m i else []

-- where a call that may run goes, whose receiver is in a cell
abbrev pub goes_where : Parts → (m i : ℕ) (receiver : Cell) → CallOp → List Constraint
goes_where p m i receiver call = null_receiver p m i call.kind ++ goes_by_kind p m i receiver call.found call.kind

-- where an operation that may run goes, if it is a call
abbrev pub targets : Parts → (m i : ℕ) (row : List Cell) (locals height : ℕ) → Op → List Constraint
targets p m i row locals height (Call call) = goes_where p m i (argument_cell row locals height call 0) call
targets p m i row locals height op = []

-- the first argument that goes to a method with all that are in its cell: a receiver by which the target was chosen goes where it is chosen
abbrev pub first_handed : CallKind → ℕ
first_handed kind = if is_dispatched kind then 1 else 0

-- the arguments of a call go to the parameters of method n
abbrev pub hands : (row : List Cell) (locals height : ℕ) → CallOp → (n : ℕ) → List Constraint
hands row locals height call n = over (λ k. copy (argument_cell row locals height call k) (Param n k)) (first_handed call.kind) (arguments call - first_handed call.kind)

-- the arguments of an operation go to the parameters of method n, and its result comes back, if it is a call
abbrev pub passes : (m i n : ℕ) (row : List Cell) (locals height : ℕ) → Op → List Constraint
passes m i n row locals height (Call call) = hands row locals height call n ++ copy (Answer n) (Pushed m i)
passes m i n row locals height op = []

-- method n may begin, and what it throws out the call throws
abbrev pub begins : (m i n : ℕ) → List Constraint
begins m i n = reach n 0 ++ copy (Out n) (Thrown m i)
