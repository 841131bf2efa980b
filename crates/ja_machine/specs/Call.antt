-- Calls: which method or library row they go to (JVM specification 6.5).
use Rattle.std.specs.Prelude.{ℕ, ◌||◌, ◌&&◌, Bool, true, false, not, List, Option, Some, None, length, slice_get, nat_lt, if◌then◌else◌}
use Rattle.ja_ir.specs.declared.program.Parts.{Parts}
use Rattle.ja_ir.specs.declared.class.MethodAt.{MethodAt}
use Rattle.ja_ir.specs.declared.class.MethodAt.TheVariants.{Program, Abstract, Library}
use Rattle.ja_ir.specs.declared.method.Method.{Method}
use Rattle.ja_ir.specs.declared.op.CallOp.{CallOp}
use Rattle.ja_ir.specs.declared.op.CallKind.{CallKind}
use Rattle.ja_ir.specs.declared.op.CallKind.TheVariants.{Virtual, Special, Static, Interface, StaticField, MemberField}
use Rattle.ja_ir.specs.Lookup.{is_static, is_member, select}
use Rattle.ja_ir.specs.Operations.{arguments, has_receiver}
use Rattle.ja_ir.specs.Tokens.{fits, names_program}
use Rattle.ja_machine.specs.declared.heap.Value.{Value}
use Rattle.ja_machine.specs.declared.heap.Value.TheVariants.{Prim, Null, Ref}
use Rattle.ja_machine.specs.declared.heap.Object.{Object}
use Rattle.ja_machine.specs.Marks.{none}
use Rattle.ja_machine.specs.State.{Frame, World, Next, Enters, NoRule}
use Rattle.ja_machine.specs.Step.{throws_new, with_popped}
use Rattle.ja_machine.specs.Library.{library, first_of}

-- where a call goes.
-- OnNull: its receiver is null.
-- Nowhere: no rule allows it.
-- To: to a method or to the library.
pub data Target : Type 0 where
  OnNull : Target
  Nowhere : Target
  To : (target : MethodAt) → Target

-- the target for an object of this token: a program token selects, where it fits a named program class; another token is one of the
-- library, where no program class is named
abbrev pub target_for : Parts → CallOp → (token : ℕ) → Target
target_for p call token =
    if nat_lt token (length p.classes)
    then if not (names_program p call.class) || fits p token call.class then To (select p token call.name call.desc) else Nowhere
    else if names_program p call.class then Nowhere else To Library

-- the target for an object, where there is one
abbrev pub target_for_object : Parts → CallOp → Option Object → Target
target_for_object p call None = Nowhere
target_for_object p call (Some object) = target_for p call object.token.0

-- the target of a virtual or interface call on its receiver
abbrev pub target_on : Parts → CallOp → List Object → (receiver : Value) → Target
target_on p call heap (Prim mark) = Nowhere
target_on p call heap Null = OnNull
target_on p call heap (Ref place) = target_for_object p call (slice_get heap place)

-- the method, if there is one, is static or not as asked
abbrev pub has_flags_for : (static : Bool) → Option Method → Bool
has_flags_for static None = false
has_flags_for true (Some method) = is_static method.flags
has_flags_for false (Some method) = is_member method.flags

-- what was found is static exactly where the call is
abbrev pub agrees : Parts → (static : Bool) → MethodAt → Bool
agrees p static (Program m) = has_flags_for static (slice_get p.methods m.0)
agrees p static (Abstract m) = has_flags_for static (slice_get p.methods m.0)
agrees p static Library = true

-- the target of a static or special call is what was found
abbrev pub target_found : Parts → (static : Bool) → Option MethodAt → Target
target_found p static None = Nowhere
target_found p static (Some target) = if agrees p static target then To target else Nowhere

-- the target of a call of a kind; a call that is made of a field access is always one of the library
abbrev pub target_of_kind : Parts → CallOp → CallKind → (args : List Value) → List Object → Target
target_of_kind p call Virtual args heap = target_on p call heap (first_of args)
target_of_kind p call Interface args heap = target_on p call heap (first_of args)
target_of_kind p call Special args heap = target_found p false call.found
target_of_kind p call Static args heap = target_found p true call.found
target_of_kind p call StaticField args heap = To Library
target_of_kind p call MemberField args heap = To Library

-- the value is null
abbrev pub is_null : Value → Bool
is_null Null = true
is_null _ = false

-- where a call with these arguments goes
abbrev pub target_of : Parts → CallOp → (args : List Value) → List Object → Target
target_of p call args heap =
    if has_receiver call.kind && is_null (first_of args) then OnNull else target_of_kind p call call.kind args heap

-- a call with these arguments goes to its target: a null receiver throws, a method with code is called, one without throws, and the
-- library does its row
abbrev pub goes_to : Parts → CallOp → (args : List Value) → Frame → World → Target → Next
goes_to p call args frame world OnNull = throws_new p none frame world
goes_to p call args frame world Nowhere = NoRule
goes_to p call args frame world (To (Program m)) = Enters m.0 args frame world
goes_to p call args frame world (To (Abstract m)) = throws_new p none frame world
goes_to p call args frame world (To Library) = library p call args frame world

-- a call with these arguments
abbrev pub calls : Parts → CallOp → (args : List Value) → Frame → World → Next
calls p call args frame world = goes_to p call args frame world (target_of p call args world.store.heap)

-- Call: the arguments are popped
abbrev pub step_call : Parts → CallOp → Frame → World → Next
step_call p call frame world = with_popped (arguments call) frame (λ args rest. calls p call args rest world)
