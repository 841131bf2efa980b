-- What an instruction does: one of 23 operations, by its opcode and what it names (JVM specification 6.5).
use Rattle.std.specs.Prelude.{◌≡◌, ℕ, ◌==◌, false, List, length, min, Option, Some, if◌then◌else◌}
use Rattle.ja_base.specs.Tag as pool_tag
use Rattle.ja_base.specs.declared.java_type.Kind.TheVariants.{P1}
use Rattle.ja_base.specs.Descriptor.{IsMethod}
use Rattle.ja_pool.specs.Table.{Table}
use Rattle.ja_code.specs.declared.instr.RawInstr.{RawInstr}
use Rattle.ja_ir.specs.declared.head.ClassHead.{ClassHead}
use Rattle.ja_ir.specs.declared.op.Op.{Op}
use Rattle.ja_ir.specs.declared.op.Op.TheVariants as ops
use Rattle.ja_ir.specs.declared.op.CallOp.{CallOp}
use Rattle.ja_ir.specs.declared.op.CallKind.{CallKind}
use Rattle.ja_lib.specs.Content.{Content}
use Rattle.ja_kinds.specs.declared.state.KindState.{KindState}
use Rattle.ja_code.specs.declared.behaviour.Source.{Source}
use Rattle.ja_code.specs.declared.behaviour.FieldAccess.{FieldAccess}
use Rattle.ja_code.specs.declared.behaviour.FieldAccess.TheVariants.{GetStatic, PutStatic, GetField, PutField}
use Rattle.ja_code.specs.declared.behaviour.Behaviour.{Behaviour}
use Rattle.ja_code.specs.declared.behaviour.Behaviour.TheVariants.{Nothing, Constant, Loaded, Load, Store, Increment, ArrayLoad, ArrayStore, Rearrange, Compute, Test, Jump, Switch, Return, Access, Invoke, New, NewArray, NewArrays, ArrayLength, Throw, Cast, InstanceOf, Monitor}
use Rattle.ja_code.specs.Behaviour.{behaviour_at}
use Rattle.ja_kinds.specs.Effect.{kinds_of, place_of, tag_named}
use Rattle.ja_code.specs.Grammar.{operand_at}
use Rattle.ja_operations.specs.declared.member.MemberRef.{MemberRef}
use Rattle.ja_operations.specs.Names.{class_in, member_in}
use Rattle.ja_operations.specs.Tokens.{library_token, token_of_class, token_of_array, token_of_innermost}
use Rattle.ja_operations.specs.Shuffles.{move_after, shuffle_of}
use Rattle.ja_operations.specs.Fields.{Accesses, WritesStatic, static_read, member_read, member_write}
use Rattle.ja_operations.specs.Rows.{IsRow}
use Rattle.ja_operations.specs.Targets.{call_kind, IsFound}
use Rattle.ja_operations.specs.Refused.{is_reflective, StartsThread}

-- what loads a constant with this tag: a text, a class object, or else a number
abbrev pub loaded : List ClassHead → (tag : ℕ) → Op
loaded heads tag = if tag == pool_tag.string then ops.Text else if tag == pool_tag.class then ops.New (library_token heads) else ops.Const P1

-- the local that an instruction uses; its place is spelled in at most two bytes
abbrev pub local_of : Source → RawInstr → ℕ
local_of source i = min (place_of source i) 65535

-- a call of this kind in class c of the method that is named, which is refused for nothing
pub record IsCall (heads : List ClassHead) (table : Content) (c : ℕ) (kind : CallKind) (member : MemberRef) (call : CallOp) : Type 0 where
  pub kind_is : call.kind ≡ kind
  pub class_is : call.class ≡ member.class
  pub name_is : call.name ≡ member.name
  pub desc_is : call.desc ≡ member.desc
  pub types : IsMethod member.desc call.params call.result
  pub row : IsRow heads table member call.row
  pub found : IsFound heads c member call.kind call.found
  pub no_reflection : is_reflective member ≡ false
  pub no_thread : StartsThread heads c kind member → ⊥

-- the operation is such a call
pub record Calls (heads : List ClassHead) (table : Content) (c : ℕ) (kind : CallKind) (member : MemberRef) (op : Op) : Type 0 where
  pub call : CallOp
  pub is : op ≡ ops.Call call
  pub made : IsCall heads table c kind member call

-- an access of a field does this
abbrev pub DoesAccess : List ClassHead → (categories : List (List ℕ)) → MemberRef → FieldAccess → Op → Type 0
DoesAccess heads categories member GetStatic op = Accesses heads member ops.GetStatic (static_read categories member) op
DoesAccess heads categories member PutStatic op = WritesStatic heads member ops.PutStatic op
DoesAccess heads categories member GetField op = Accesses heads member ops.GetField (member_read categories member) op
DoesAccess heads categories member PutField op = Accesses heads member ops.PutField (member_write categories member) op

-- an instruction of this behaviour in class c does this, by what is known before it
abbrev pub OperatesAs : List ClassHead → Content → (c : ℕ) → Table → RawInstr → (before : Option KindState) → Behaviour → Op → Type 0
OperatesAs heads table c pool i before Nothing op = op ≡ ops.Nop
OperatesAs heads table c pool i before (Constant kind) op = op ≡ ops.Const kind
OperatesAs heads table c pool i before Loaded op = op ≡ loaded heads (tag_named pool i)
OperatesAs heads table c pool i before (Load kind source) op = op ≡ ops.Load kind (local_of source i)
OperatesAs heads table c pool i before (Store kind source) op = op ≡ ops.Store kind (local_of source i)
OperatesAs heads table c pool i before Increment op = op ≡ ops.Nop
OperatesAs heads table c pool i before (ArrayLoad kind) op = op ≡ ops.ArrLoad kind
OperatesAs heads table c pool i before (ArrayStore kind) op = op ≡ ops.ArrStore kind
OperatesAs heads table c pool i before (Rearrange how) op = op ≡ shuffle_of (move_after how before)
OperatesAs heads table c pool i before (Compute operands kind throws) op = op ≡ ops.Mix (length (kinds_of operands)) kind throws
OperatesAs heads table c pool i before (Test operands) op = op ≡ ops.Branch (length (kinds_of operands))
OperatesAs heads table c pool i before Jump op = op ≡ ops.Branch 0
OperatesAs heads table c pool i before Switch op = op ≡ ops.Branch 1
OperatesAs heads table c pool i before (Return kind) op = op ≡ ops.Return kind
OperatesAs heads table c pool i before (Access how) op = DoesAccess heads table.categories (member_in pool i) how op
OperatesAs heads table c pool i before (Invoke how) op = Calls heads table c (call_kind how) (member_in pool i) op
OperatesAs heads table c pool i before New op = op ≡ ops.New (token_of_class heads (class_in pool i))
OperatesAs heads table c pool i before (NewArray elements) op = op ≡ ops.NewArray (token_of_array heads elements) 1
OperatesAs heads table c pool i before NewArrays op = op ≡ ops.NewArray (token_of_innermost heads (class_in pool i) (operand_at i 1)) (operand_at i 1)
OperatesAs heads table c pool i before ArrayLength op = op ≡ ops.ArrLen
OperatesAs heads table c pool i before Throw op = op ≡ ops.Throw
OperatesAs heads table c pool i before Cast op = op ≡ ops.Cast (class_in pool i)
OperatesAs heads table c pool i before InstanceOf op = op ≡ ops.InstanceOf
OperatesAs heads table c pool i before Monitor op = op ≡ ops.Monitor

-- the operation of an instruction of class c, by what is known before it
pub record IsOperation (heads : List ClassHead) (table : Content) (c : ℕ) (pool : Table) (i : RawInstr) (before : Option KindState) (op : Op) : Type 0 where
  pub behaviour : Behaviour
  pub opcode : behaviour_at i.opcode ≡ Some behaviour
  pub operates : OperatesAs heads table c pool i before behaviour op
