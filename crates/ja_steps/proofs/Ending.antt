-- In a frame that has room for an end, its clauses let what lies outside stay false.
use Rattle.std.proofs.Common.{◌≡◌, ℕ, Bool, true, false, refl}
use Rattle.std.specs.Prelude.{Some, None, if◌then◌else◌}
use Rattle.ja_ir.specs.declared.op.Op.{Op}
use Rattle.ja_work.specs.declared.frame.Frame.{Frame}
use Rattle.ja_work.specs.Clauses.{fits, never}
use Rattle.ja_work.specs.Ends.{Tests, normal_clauses}
use Rattle.ja_work.specs.Frames.{read, KeepsOutside}
use Rattle.ja_work.specs.Thrown.{HasRoom}
use Rattle.ja_work.proofs.Fitting.{constant_fits}
use Rattle.ja_work.proofs.Outside.{normal_outside, exceptional_outside, return_outside, throw_outside, caught_outside, value_outside, nothing_outside, leave_outside}
use Rattle.ja_clauses.specs.Slots.{as_summary}
use Rattle.ja_clauses.specs.Tables.{tests_by, affected_by}
use Rattle.ja_steps.specs.declared.end.End.{End}
use Rattle.ja_steps.specs.declared.end.End.TheVariants.{Normal, Unread, Exceptional, Returned, Thrown, Caught, Answers, Leaves}
use Rattle.ja_steps.specs.Ends.{is_read, unread_clauses, clauses_of, HasRoomFor}

unread_outside : (frame : Frame) (tests : Tests) (op : Op) (height : ℕ) → HasRoom frame op height → KeepsOutside frame (unread_clauses tests op height)
unread_outside frame tests op height room s a out = by_test (is_read op height s)
  where
    by_test : (c : Bool) → fits (if c then never else normal_clauses tests op height s) (read frame 1 a) false ≡ true
    by_test true = constant_fits false (read frame 1 a) false refl
    by_test false = normal_outside frame tests op height room s a out

pub end_outside : (frame : Frame) (end : End) → HasRoomFor frame end → KeepsOutside frame (clauses_of end)
end_outside frame (Normal before op height) room = normal_outside frame (tests_by before.now) op.now height room
end_outside frame (Unread before op height) room = unread_outside frame (tests_by before.now) op.now height room
end_outside frame (Exceptional way before op height) room = exceptional_outside frame way (tests_by before.now) op.now height
end_outside frame (Returned through answers summary) room = return_outside frame (affected_by through.now) through.now.under answers (as_summary summary) room
end_outside frame (Thrown through summary) room = throw_outside frame (affected_by through.now) (as_summary summary)
end_outside frame Caught room = caught_outside frame room
end_outside frame (Answers (Some top)) room = value_outside frame top room
end_outside frame (Answers None) room = nothing_outside frame
end_outside frame Leaves room = leave_outside frame
