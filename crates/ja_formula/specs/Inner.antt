-- Words of the private functions.
use Rattle.std.specs.Prelude.{◌≡◌, ℕ, ◌+◌, ◌/◌, ◌<◌, ◌≤◌, ◌++◌, Bool, true, List, Some}
use Rattle.ja_ir.specs.declared.op.Op.{Op}
use Rattle.ja_ir.specs.declared.op.Op.TheVariants.{Throw}
use Rattle.ja_ir.specs.declared.method.Instr.{Instr}
use Rattle.ja_ir.specs.Operations.{FindsOperands}
use Rattle.ja_bdd.specs.Functions.{Function}
use Rattle.ja_work.specs.declared.clause.Clause.{Clause}
use Rattle.ja_work.specs.declared.clause.Spot.{Spot}
use Rattle.ja_work.specs.declared.frame.Frame.{Frame}
use Rattle.ja_work.specs.declared.way.Way.{Way}
use Rattle.ja_work.specs.declared.way.Way.TheVariants.{Thrown, InLibrary}
use Rattle.ja_work.specs.Ends.{Tests, normal_clauses, may_end, exceptional_clauses}
use Rattle.ja_work.specs.Frames.{size, is_inside}
use Rattle.ja_work.specs.Thrown.{HasRoom}
use Rattle.ja_work.specs.Work.{literal, gathered, stack_variables, variables_of}
use Rattle.ja_clauses.specs.Tables.{tests_by}
use Rattle.ja_formula.specs.declared.rule.End.{End}
use Rattle.ja_formula.specs.declared.rule.End.TheVariants.{Normal, Exceptional}
use Rattle.ja_formula.specs.declared.rule.Rule.{Rule}

-- a literal of a variable of the frame, or what is gathered of the last of so many values on the stack
pub data IsStackTail (frame : Frame) (first count : ℕ) (positive : Bool) : Function → Type 0 where
  one_of_stack : (v : ℕ) → v / 4 < size frame → IsStackTail frame first count positive (literal v positive)
  last_of_stack : (k n : ℕ) → k + n ≡ count → IsStackTail frame first count positive (gathered positive (stack_variables frame (first + k) n))

-- a literal of a variable of the frame, or what is gathered of the last variables that a clause looks at
pub data IsTail (frame : Frame) (clause : Clause) (positive : Bool) : Function → Type 0 where
  one_of_clause : (v : ℕ) → v / 4 < size frame → IsTail frame clause positive (literal v positive)
  last_of_clause : (before vs : List ℕ) → variables_of frame clause ≡ before ++ vs → IsTail frame clause positive (gathered positive vs)

-- a clause looks at spots of the frame alone
pub record LooksWithin (frame : Frame) (clause : Clause) : Type 0 where
  pub one : (s : Spot) → clause.one ≡ Some s → is_inside frame s ≡ true
  pub stacked : clause.first + clause.count ≤ frame.stack

-- so do the clauses of all spots of the frame
abbrev pub AllLookWithin : Frame → (Spot → Clause) → Type 0
AllLookWithin frame clauses = (s : Spot) → is_inside frame s ≡ true → LooksWithin frame (clauses s)

-- the clauses of an end
abbrev pub clauses_by : End → Tests → Op → (height : ℕ) → Spot → Clause
clauses_by Normal tests op height = normal_clauses tests op height
clauses_by (Exceptional way) tests op height = exceptional_clauses way tests op height

-- the operation has the end; the clauses of a normal end are there for each operation
abbrev pub has_end : Tests → Op → End → Bool
has_end tests op Normal = true
has_end tests op (Exceptional way) = may_end tests op way

abbrev pub clauses_of : Rule → Spot → Clause
clauses_of rule = clauses_by rule.end (tests_by rule.before.now) rule.op.now rule.height

-- the way in which an operation may end after it has begun
abbrev pub late_of : Op → Way
late_of Throw = Thrown
late_of _ = InLibrary

-- the instruction finds its operands, and the frame has room for what it does
pub record IsRoomy (frame : Frame) (instr : Instr) : Type 0 where
  pub finds : FindsOperands instr.op instr.height
  pub room : HasRoom frame instr.op instr.height
