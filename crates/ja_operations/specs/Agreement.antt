-- Operations agree with what the kinds say of their instructions.
use Rattle.std.specs.Prelude.{◌≡◌, ℕ, ◌+◌, ◌<◌, ◌||◌, true, not, List, Option, Some, length}
use Rattle.ja_base.specs.declared.java_type.Kind.{Kind}
use Rattle.ja_pool.specs.Table.{Table}
use Rattle.ja_code.specs.declared.instr.RawInstr.{RawInstr}
use Rattle.ja_ir.specs.declared.head.ClassHead.{ClassHead}
use Rattle.ja_ir.specs.declared.class.MethodAt.{MethodAt}
use Rattle.ja_ir.specs.declared.op.Op.{Op}
use Rattle.ja_ir.specs.declared.op.Op.TheVariants as ops
use Rattle.ja_ir.specs.declared.op.Op.TheVariants.{New, NewArray, Call}
use Rattle.ja_ir.specs.Operations.{FindsOperands, UsesLocals, height_after, ends_method}
use Rattle.ja_ir.specs.Whole.{HasTypes}
use Rattle.ja_lib.specs.Content.{Content, IsCategorized, IsMeaningAbout}
use Rattle.ja_kinds.specs.declared.state.KindState.{KindState}
use Rattle.ja_kinds.specs.declared.effect.Effect.{Effect}
use Rattle.ja_kinds.specs.declared.frame.Frame.{Frame}
use Rattle.ja_code.specs.declared.behaviour.Behaviour.{Behaviour}
use Rattle.ja_code.specs.Behaviour.{behaviour_at, goes_on, branches}
use Rattle.ja_kinds.specs.Effect.{Does, may_return}
use Rattle.ja_kinds.specs.Solution.{accepted}
use Rattle.ja_operations.specs.Targets.{FindsFrom}
use Rattle.ja_operations.specs.Operation.{IsOperation}

-- from one state to the next, an operation finds its operands and locals, and leaves as many values as there are
pub record Agrees (op : Op) (f g : KindState) : Type 0 where
  pub operands : FindsOperands op (length f.stack)
  pub locals : UsesLocals op (length f.locals)
  pub height : height_after op (length f.stack) ≡ length g.stack

-- where an instruction accepts its state, its operation agrees with the states
abbrev pub OperationsAgree : Type 0
OperationsAgree =
    (heads : List ClassHead) (table : Content) (c : ℕ) (pool : Table) (i : RawInstr) (op : Op) (behaviour : Behaviour) (effect : Effect)
    (frame : Frame) (f g : KindState) → IsOperation heads table c pool i (Some f) op → Does pool i behaviour effect
    → accepted frame effect f ≡ Some g → Agrees op f g

-- an operation ends its method exactly where its instruction leads nowhere
abbrev pub OperationsEnd : Type 0
OperationsEnd =
    (heads : List ClassHead) (table : Content) (c : ℕ) (pool : Table) (i : RawInstr) (op : Op) (behaviour : Behaviour) (before : Option KindState)
    → IsOperation heads table c pool i before op → behaviour_at i.opcode ≡ Some behaviour → ends_method op ≡ not (goes_on behaviour || branches behaviour)

-- a return that is accepted gives what the frame's method returns
abbrev pub ReturnsAgree : Type 0
ReturnsAgree =
    (heads : List ClassHead) (table : Content) (c : ℕ) (pool : Table) (i : RawInstr) (kind : Option Kind)
    (behaviour : Behaviour) (effect : Effect) (frame : Frame) (f g : KindState) → IsOperation heads table c pool i (Some f) (ops.Return kind)
    → Does pool i behaviour effect → accepted frame effect f ≡ Some g → may_return frame.returns kind ≡ true

-- what an operation names is there: a token is one of the program's, a call's types are those of its descriptor, and what it
-- found is where a look-up of its name and descriptor ends
abbrev pub IsSound : List ClassHead → Op → Type 0
IsSound heads (New token) = token.0 < length heads + 4
IsSound heads (NewArray last dimensions) = last.0 < length heads + 4
IsSound heads (Call call) =
    HasTypes call.kind call.desc call.params call.result
    × ((at : MethodAt) → call.found ≡ Some at → (class : List ℕ) × FindsFrom heads class call.name call.desc at)
IsSound heads _ = Unit {0}

-- each operation of an instruction is sound
abbrev pub OperationsAreSound : Type 0
OperationsAreSound =
    (heads : List ClassHead) (table : Content) (c : ℕ) (pool : Table) (i : RawInstr) (op : Op) (before : Option KindState)
    → IsOperation heads table c pool i before op → IsSound heads op

-- the row of a call is about these categories of marks; other operations have none
abbrev pub IsRowAbout : (categories : List (List ℕ)) → Op → Type 0
IsRowAbout categories (Call call) = IsMeaningAbout categories call.row
IsRowAbout categories _ = Unit {0}

-- the row of each call is about the categories of the table, as the table's own rows are
abbrev pub RowsAreAbout : Type 0
RowsAreAbout =
    (heads : List ClassHead) (table : Content) → IsCategorized table → (c : ℕ) (pool : Table) (i : RawInstr) (op : Op) (before : Option KindState)
    → IsOperation heads table c pool i before op → IsRowAbout table.categories op
