-- Ends of instructions and of methods, with their clauses.
use Rattle.std.specs.Prelude.{◌≡◌, ℕ, ◌-◌, ◌<◌, nat_eq, Bool, true, false, Some, None, if◌then◌else◌}
use Rattle.ja_ir.specs.declared.op.Op.{Op}
use Rattle.ja_ir.specs.declared.op.Op.TheVariants.{GetField, GetStatic}
use Rattle.ja_ir.specs.Operations.{FindsOperands}
use Rattle.ja_work.specs.declared.clause.Spot.{Spot}
use Rattle.ja_work.specs.declared.clause.Spot.TheVariants.{OnStack}
use Rattle.ja_work.specs.declared.clause.Clause.{Clause}
use Rattle.ja_work.specs.declared.frame.Frame.{Frame}
use Rattle.ja_work.specs.Clauses.{never}
use Rattle.ja_work.specs.Ends.{Tests, normal_clauses, exceptional_clauses, return_clauses, throw_clauses, caught_clauses}
use Rattle.ja_work.specs.Thrown.{HasRoom}
use Rattle.ja_work.specs.Work.{end_clauses, leave_clauses}
use Rattle.ja_clauses.specs.Slots.{as_summary}
use Rattle.ja_clauses.specs.Tables.{tests_by, affected_by}
use Rattle.ja_steps.specs.declared.end.End.{End}
use Rattle.ja_steps.specs.declared.end.End.TheVariants.{Normal, Unread, Exceptional, Returned, Thrown, Caught, Answers, Leaves}

-- the operation reads a field into the spot
abbrev pub is_read : Op → (height : ℕ) → Spot → Bool
is_read (GetField _) height (OnStack k) = nat_eq k (height - 1)
is_read (GetStatic _) height (OnStack k) = nat_eq k height
is_read _ height _ = false

-- the clauses of a normal end at which nothing true is read of a field
abbrev pub unread_clauses : Tests → Op → (height : ℕ) → Spot → Clause
unread_clauses tests op height s = if is_read op height s then never else normal_clauses tests op height s

-- the clauses of an end
abbrev pub clauses_of : End → Spot → Clause
clauses_of (Normal before op height) = normal_clauses (tests_by before.now) op.now height
clauses_of (Unread before op height) = unread_clauses (tests_by before.now) op.now height
clauses_of (Exceptional way before op height) = exceptional_clauses way (tests_by before.now) op.now height
clauses_of (Returned through answers summary) = return_clauses (affected_by through.now) through.now.under answers (as_summary summary)
clauses_of (Thrown through summary) = throw_clauses (affected_by through.now) (as_summary summary)
clauses_of Caught = caught_clauses
clauses_of (Answers value) = end_clauses value
clauses_of Leaves = leave_clauses

-- an operation that ends finds its operands
abbrev pub FindsFor : End → Type 0
FindsFor (Normal before op height) = FindsOperands op.now height
FindsFor (Unread before op height) = FindsOperands op.now height
FindsFor (Exceptional way before op height) = FindsOperands op.now height
FindsFor _ = Unit {0}

-- the frame has room for what the end leaves there
abbrev pub HasRoomFor : Frame → End → Type 0
HasRoomFor frame (Normal before op height) = HasRoom frame op.now height
HasRoomFor frame (Unread before op height) = HasRoom frame op.now height
HasRoomFor frame (Exceptional way before op height) = Unit {0}
HasRoomFor frame (Returned through answers summary) = answers ≡ true → through.now.under < frame.stack
HasRoomFor frame (Thrown through summary) = Unit {0}
HasRoomFor frame Caught = 0 < frame.stack
HasRoomFor frame (Answers (Some top)) = top < frame.stack
HasRoomFor frame (Answers None) = Unit {0}
HasRoomFor frame Leaves = Unit {0}
