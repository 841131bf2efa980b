-- The clauses of each end of each operation, from what the analyses say before it.
use Rattle.std.specs.Prelude.{◌≡◌, ℕ, ◌+◌, ◌-◌, ◌||◌, ◌&&◌, ◌↔◌, min, nat_lt, nat_eq, Bool, true, false, Option, Some, None, slice_index, if◌then◌else◌}
use Rattle.ja_base.specs.declared.java_type.Kind.{Kind}
use Rattle.ja_base.specs.declared.java_type.Kind.TheVariants.{R}
use Rattle.ja_base.specs.declared.java_type.JavaType.{JavaType}
use Rattle.ja_ir.specs.declared.row.RowFlow.{RowFlow}
use Rattle.ja_ir.specs.declared.row.RowFlow.TheVariants.{Always, Never, Args}
use Rattle.ja_ir.specs.declared.row.RowEffect.{RowEffect}
use Rattle.ja_ir.specs.declared.row.RowEffect.TheVariants.{Quiet, Absorb, Blend}
use Rattle.ja_ir.specs.declared.row.RowResult.{RowResult}
use Rattle.ja_ir.specs.declared.row.RowResult.TheVariants.{Fresh, Argument, Member, Any}
use Rattle.ja_ir.specs.declared.op.CallOp.{CallOp}
use Rattle.ja_ir.specs.declared.op.Op.{Op}
use Rattle.ja_ir.specs.declared.op.Op.TheVariants.{Load, Store, ArrLoad, ArrStore, Shuffle, Mix, Return, GetStatic, PutField, GetField, Call, Throw, Cast}
use Rattle.ja_ir.specs.Operations.{arguments, has_receiver, may_throw, pops, height_after}
use Rattle.ja_facts.specs.Slots.{Slot, Local as InLocal, OnStack as InStack, argument}
use Rattle.ja_facts.specs.ClassSets.{CallsAbstract, CallsLibrary}
use Rattle.ja_facts.specs.Sharing.{PairAt, OfSlot}
use Rattle.ja_facts.specs.Reaching.{ReachAt}
use Rattle.ja_facts.specs.Analyses.{Analyses}
use Rattle.ja_facts.specs.Formulas.{Assignment, Summary, any_below, IsAffected}
use Rattle.ja_work.specs.declared.clause.Spot.{Spot}
use Rattle.ja_work.specs.declared.clause.Spot.TheVariants.{Local, OnStack, Dirt, Exc}
use Rattle.ja_work.specs.declared.clause.Clause.{Clause}
use Rattle.ja_work.specs.declared.way.Way.{Way}
use Rattle.ja_work.specs.declared.way.Way.TheVariants.{Clean, Thrown, InLibrary}
use Rattle.ja_work.specs.Clauses.{spot_of, constant, never, anything, moved, at_most}

-- what the analyses say before an instruction, as tests: whether the first slot may reach the object in the second; whether both may share;
-- and whether a call may go to a method without code, and to the library
pub record Tests : Type 0 where
  pub reaches : Slot → Slot → Bool
  pub shares : Slot → Slot → Bool
  pub abstract : Bool
  pub library : Bool

-- the tests say of instruction i of method m what the analyses say
pub record AreTests (A : Analyses) (m i : ℕ) (tests : Tests) : Type 0 where
  pub reaches : (y x : Slot) → (tests.reaches y x ≡ true) ↔ A.reach (ReachAt m i (OfSlot y) x)
  pub shares : (y x : Slot) → (tests.shares y x ≡ true) ↔ A.heaps (PairAt m i (OfSlot y) (OfSlot x))
  pub abstract : (tests.abstract ≡ true) ↔ ((n : ℕ) × A.classes (CallsAbstract m i n))
  pub library : (tests.library ≡ true) ↔ A.classes (CallsLibrary m i)

-- the slot shares with a source of a library call with this effect
abbrev pub meets_by : RowEffect → Tests → CallOp → (under : ℕ) → Slot → Bool
meets_by Quiet tests call under y = false
meets_by Absorb tests call under y = has_receiver call.kind && tests.shares y (argument under 0)
meets_by Blend tests call under y = any_below (λ k. tests.shares y (argument under k)) (arguments call)

-- whether a row makes tainted things whatever the arguments are
abbrev pub is_always : RowFlow → Bool
is_always Always = true
is_always Never = false
is_always Args = false

-- how many of so many arguments decide whether it does
abbrev pub deciding : RowFlow → (count : ℕ) → ℕ
deciding Always count = 0
deciding Never count = 0
deciding Args count = count

-- true exactly, or at most, by the flow of a library call, whose arguments lie over so many values
abbrev pub by_flow : CallOp → (under : ℕ) → Clause
by_flow call under = record { exact = false; always = is_always call.row.flow; one = None; first = under; count = deciding call.row.flow (arguments call) }

-- the spot may become true by what a library call puts into the objects that it changes
abbrev pub taking : (exact : Bool) → CallOp → (under : ℕ) → Spot → Clause
taking exact call under s = record { exact = exact; always = is_always call.row.flow; one = Some s; first = under; count = arguments call }

-- a slot that the operation leaves where it is: it may become true by a write to an object that it may reach, and by the effect of a library
-- call on what it shares
abbrev pub changed : Tests → Op → (height : ℕ) → Slot → Clause
changed tests (PutField _) height y = if tests.reaches y (InStack (height - 2)) then (record { exact = false; always = false; one = Some (spot_of y); first = height - 1; count = 1 }) else moved (spot_of y)
changed tests (ArrStore _) height y = if tests.reaches y (InStack (height - 3)) then (record { exact = false; always = false; one = Some (spot_of y); first = height - 1; count = 1 }) else moved (spot_of y)
changed tests (Call call) height y = if meets_by call.row.effect tests call (height - arguments call) y then taking false call (height - arguments call) (spot_of y) else moved (spot_of y)
changed tests _ height y = moved (spot_of y)

-- a local after the operation
abbrev pub local_after : Tests → Op → (height l : ℕ) → Clause
local_after tests (Store _ local) height l = if nat_eq l local then moved (OnStack (height - 1)) else moved (Local l)
local_after tests op height l = changed tests op height (InLocal l)

-- how many of so many arguments decide what a member of the first of them is
abbrev pub member_count : RowFlow → (count : ℕ) → ℕ
member_count Always count = 0
member_count Never count = min 1 count
member_count Args count = count

-- the reference that a library call answers
abbrev pub answer_by : RowResult → RowEffect → CallOp → (under : ℕ) → Clause
answer_by Fresh effect call under = by_flow call under
answer_by Argument Quiet call under = record { exact = false; always = false; one = None; first = under; count = min 1 (arguments call) }
answer_by Argument _ call under = record { exact = false; always = is_always call.row.flow; one = None; first = under; count = arguments call }
answer_by Member Quiet call under = record { exact = false; always = is_always call.row.flow; one = None; first = under; count = member_count call.row.flow (arguments call) }
answer_by Member _ call under = record { exact = false; always = is_always call.row.flow; one = None; first = under; count = arguments call }
answer_by Any effect call under = record { exact = false; always = is_always call.row.flow; one = None; first = under; count = arguments call }

-- what a library call answers of a kind: a primitive by its flow
abbrev pub answer_of : Kind → CallOp → (under : ℕ) → Clause
answer_of R call under = answer_by call.row.result call.row.effect call under
answer_of _ call under = by_flow call under

-- what a library call answers
abbrev pub answer : Option JavaType → CallOp → (under : ℕ) → Clause
answer None call under = never
answer (Some type) call under = answer_of type.kind call under

-- the value that the operation pushes over so many others that it pushes
abbrev pub pushed : Op → (height j : ℕ) → Clause
pushed (Load _ l) height j = moved (Local l)
pushed (Shuffle n values) height j = moved (OnStack (height - n + slice_index values j))
pushed (Cast _) height j = moved (OnStack (height - 1))
pushed (Mix n _ _) height j = record { exact = true; always = false; one = None; first = height - n; count = n }
pushed (GetField _) height j = at_most (OnStack (height - 1))
pushed (ArrLoad _) height j = at_most (OnStack (height - 2))
pushed (GetStatic _) height j = anything
pushed (Call call) height j = answer call.result call (height - arguments call)
pushed _ height j = never

-- a value on the stack after the operation: one that was left, one that was pushed, or none
abbrev pub stacked_after : (left pushed : Bool) → Tests → Op → (height k : ℕ) → Clause
stacked_after true _ tests op height k = changed tests op height (InStack k)
stacked_after false true tests op height k = pushed op height (k - (height - pops op))
stacked_after false false tests op height k = never

-- whether something tainted was stored by a library call with this effect
abbrev pub dirt_by : RowEffect → CallOp → (under : ℕ) → Clause
dirt_by Quiet call under = moved Dirt
dirt_by _ call under = taking true call under Dirt

-- whether something tainted was stored
abbrev pub dirt_after : Op → (height : ℕ) → Clause
dirt_after (PutField _) height = record { exact = true; always = false; one = Some Dirt; first = height - 1; count = 1 }
dirt_after (ArrStore _) height = record { exact = true; always = false; one = Some Dirt; first = height - 1; count = 1 }
dirt_after (Call call) height = dirt_by call.row.effect call (height - arguments call)
dirt_after _ height = moved Dirt

-- the clauses of a normal end of the operation, at a call of that of its library part
abbrev pub normal_clauses : Tests → Op → (height : ℕ) → Spot → Clause
normal_clauses tests op height (Local l) = local_after tests op height l
normal_clauses tests op height (OnStack k) = stacked_after (nat_lt k (height - pops op)) (nat_lt k (height_after op height)) tests op height k
normal_clauses tests op height Dirt = dirt_after op height
normal_clauses tests op height Exc = moved Exc

-- the operation has a normal end, at a call one of its library part
abbrev pub may_go_on : Tests → Op → Bool
may_go_on tests (Return _) = false
may_go_on tests Throw = false
may_go_on tests (Call _) = tests.library
may_go_on tests _ = true

-- the operation throws the value that it pops
abbrev pub is_throw : Op → Bool
is_throw Throw = true
is_throw _ = false

-- the call may go so
abbrev pub may_call : Op → (goes : Bool) → Bool
may_call (Call _) goes = goes
may_call _ goes = false

-- the operation is a call with a receiver
abbrev pub has_null_end : Op → Bool
has_null_end (Call call) = has_receiver call.kind
has_null_end _ = false

-- the operation has an exceptional end of this way
abbrev pub may_end : Tests → Op → Way → Bool
may_end tests op Clean = may_throw op || (has_null_end op || may_call op tests.abstract)
may_end tests op Thrown = is_throw op
may_end tests op InLibrary = may_call op tests.library

-- a local, whether something tainted was stored, and whether what is thrown is tainted, after an exceptional end in the library
abbrev pub library_local : Tests → Op → (height l : ℕ) → Clause
library_local tests (Call call) height l = changed tests (Call call) height (InLocal l)
library_local tests _ height l = moved (Local l)

abbrev pub library_exc : Op → (height : ℕ) → Clause
library_exc (Call call) height = by_flow call (height - arguments call)
library_exc _ height = never

-- the clauses of an exceptional end of this way; the stack is gone
abbrev pub exceptional_clauses : Way → Tests → Op → (height : ℕ) → Spot → Clause
exceptional_clauses Clean tests op height (Local l) = moved (Local l)
exceptional_clauses Clean tests op height (OnStack k) = never
exceptional_clauses Clean tests op height Dirt = moved Dirt
exceptional_clauses Clean tests op height Exc = never
exceptional_clauses Thrown tests op height (Local l) = moved (Local l)
exceptional_clauses Thrown tests op height (OnStack k) = never
exceptional_clauses Thrown tests op height Dirt = moved Dirt
exceptional_clauses Thrown tests op height Exc = moved (OnStack (height - 1))
exceptional_clauses InLibrary tests op height (Local l) = library_local tests op height l
exceptional_clauses InLibrary tests op height (OnStack k) = never
exceptional_clauses InLibrary tests op height Dirt = dirt_after op height
exceptional_clauses InLibrary tests op height Exc = library_exc op height

-- the test says which slots a way through method n may change, which instruction i of method m enters with so many arguments over so many values
abbrev pub AreAffected : Analyses → (m i n count under : ℕ) → (Slot → Bool) → Type 0
AreAffected A m i n count under affected = (y : Slot) → (affected y ≡ true) ↔ IsAffected A m i n count under y

-- a slot that stays where it is, after a method that may have stored something tainted
abbrev pub affected_after : (affected : Slot → Bool) → (dirt : Bool) → Slot → Clause
affected_after affected dirt y = if affected y then (record { exact = false; always = dirt; one = Some (spot_of y); first = 0; count = 0 }) else moved (spot_of y)

-- a value on the stack after a method has returned: one that was left, its result, or none
abbrev pub returned_stack : (left top : Bool) → (affected : Slot → Bool) → Summary → (k : ℕ) → Clause
returned_stack true _ affected s k = affected_after affected s.dirt (InStack k)
returned_stack false true affected s k = constant s.result
returned_stack false false affected s k = never

-- whether something tainted was stored, after a method that may have done it
abbrev pub dirt_with : (dirt : Bool) → Clause
dirt_with dirt = record { exact = true; always = dirt; one = Some Dirt; first = 0; count = 0 }

-- the clauses of a way through a method that was entered over so many values and ended normally with this summary
abbrev pub return_clauses : (affected : Slot → Bool) → (under : ℕ) → (answers : Bool) → Summary → Spot → Clause
return_clauses affected under answers s (Local l) = affected_after affected s.dirt (InLocal l)
return_clauses affected under answers s (OnStack k) = returned_stack (nat_lt k under) (answers && nat_eq k under) affected s k
return_clauses affected under answers s Dirt = dirt_with s.dirt
return_clauses affected under answers s Exc = moved Exc

-- the clauses of a way through a method that ended by an exception with this summary
abbrev pub throw_clauses : (affected : Slot → Bool) → Summary → Spot → Clause
throw_clauses affected s (Local l) = affected_after affected s.dirt (InLocal l)
throw_clauses affected s (OnStack k) = never
throw_clauses affected s Dirt = dirt_with s.dirt
throw_clauses affected s Exc = constant s.exc

-- what a handler begins with: the locals stay, and what was thrown is alone on the stack
abbrev pub caught_clauses : Spot → Clause
caught_clauses (Local l) = moved (Local l)
caught_clauses (OnStack k) = if nat_eq k 0 then moved Exc else never
caught_clauses Dirt = moved Dirt
caught_clauses Exc = never

-- the summary of an end, as an assignment whose lowest value on the stack is the result
abbrev pub summary_of : Assignment → Summary
summary_of b = record { result = b.slot (InStack 0); dirt = b.dirt; exc = b.exc }
