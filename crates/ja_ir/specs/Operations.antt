-- What operations take from the stack and put on it.
use Rattle.std.specs.Prelude.{ℕ, ◌+◌, ◌-◌, ◌<◌, ◌≤◌, Bool, true, false, Option, Some, None, All, length}
use Rattle.ja_ir.specs.declared.op.CallOp.{CallOp}
use Rattle.ja_ir.specs.declared.op.CallKind.{CallKind}
use Rattle.ja_ir.specs.declared.op.CallKind.TheVariants.{Virtual, Special, Static, Interface, StaticField, MemberField}
use Rattle.ja_ir.specs.declared.op.Op.{Op}
use Rattle.ja_ir.specs.declared.op.Op.TheVariants.{Nop, Const, Text, New, Load, Store, ArrLoad, ArrStore, Shuffle, Mix, Branch, Return, GetStatic, PutStatic, GetField, PutField, Call, NewArray, ArrLen, Throw, Cast, InstanceOf, Monitor}

-- a call of this kind has a receiver
abbrev pub has_receiver : CallKind → Bool
has_receiver Virtual = true
has_receiver Special = true
has_receiver Static = false
has_receiver Interface = true
has_receiver StaticField = false
has_receiver MemberField = true

-- a call of this kind chooses its target by its receiver
abbrev pub is_dispatched : CallKind → Bool
is_dispatched Virtual = true
is_dispatched Special = false
is_dispatched Static = false
is_dispatched Interface = true
is_dispatched StaticField = false
is_dispatched MemberField = false

-- 1 for a receiver, 0 for none
abbrev pub count_of : Bool → ℕ
count_of true = 1
count_of false = 0

-- the number of arguments of a call, a receiver among them
abbrev pub arguments : CallOp → ℕ
arguments call = count_of (has_receiver call.kind) + length call.params

-- the number of values of a result
abbrev pub result_count : {A : Type 0} → Option A → ℕ
result_count None = 0
result_count (Some _) = 1

-- how many values an operation takes from the stack
abbrev pub pops : Op → ℕ
pops Nop = 0
pops (Const _) = 0
pops Text = 0
pops (New _) = 0
pops (Load _ _) = 0
pops (Store _ _) = 1
pops (ArrLoad _) = 2
pops (ArrStore _) = 3
pops (Shuffle n _) = n
pops (Mix n _ _) = n
pops (Branch n) = n
pops (Return kind) = result_count kind
pops (GetStatic _) = 0
pops (PutStatic _) = 1
pops (GetField _) = 1
pops (PutField _) = 2
pops (Call call) = arguments call
pops (NewArray _ dimensions) = dimensions
pops ArrLen = 1
pops Throw = 1
pops (Cast _) = 1
pops InstanceOf = 1
pops Monitor = 1

-- how many values an operation puts on the stack at its normal end
abbrev pub pushes : Op → ℕ
pushes Nop = 0
pushes (Const _) = 1
pushes Text = 1
pushes (New _) = 1
pushes (Load _ _) = 1
pushes (Store _ _) = 0
pushes (ArrLoad _) = 1
pushes (ArrStore _) = 0
pushes (Shuffle _ pushed) = length pushed
pushes (Mix _ _ _) = 1
pushes (Branch _) = 0
pushes (Return _) = 0
pushes (GetStatic _) = 1
pushes (PutStatic _) = 0
pushes (GetField _) = 1
pushes (PutField _) = 0
pushes (Call call) = result_count call.result
pushes (NewArray _ _) = 1
pushes ArrLen = 1
pushes Throw = 0
pushes (Cast _) = 1
pushes InstanceOf = 1
pushes Monitor = 0

-- the number of values on the stack after an operation
abbrev pub height_after : Op → ℕ → ℕ
height_after op height = (height - pops op) + pushes op

-- what an operation takes is there, and a shuffle pushes only what it took
abbrev pub FindsOperands : Op → ℕ → Type 0
FindsOperands (Shuffle n pushed) height = (n ≤ height) × All (λ k. k < n) pushed
FindsOperands op height = pops op ≤ height

-- the local that an operation uses is one of the frame
abbrev pub UsesLocals : Op → (locals : ℕ) → Type 0
UsesLocals (Load _ local) locals = local < locals
UsesLocals (Store _ local) locals = local < locals
UsesLocals _ locals = Unit {0}

-- no instruction comes after the operation
abbrev pub ends_method : Op → Bool
ends_method (Return _) = true
ends_method Throw = true
ends_method _ = false

-- the operation may throw a new library object by choice; calls and Throw have rules of their own
abbrev pub may_throw : Op → Bool
may_throw (New _) = true
may_throw (ArrLoad _) = true
may_throw (ArrStore _) = true
may_throw (Mix _ _ throws) = throws
may_throw (GetField _) = true
may_throw (PutField _) = true
may_throw (NewArray _ _) = true
may_throw ArrLen = true
may_throw (Cast _) = true
may_throw Monitor = true
may_throw _ = false
