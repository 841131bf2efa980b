-- Whole exceptional ends, and the room that an end needs in a frame.
use Rattle.std.specs.Prelude.{ℕ, ◌≤◌, ◌&&◌, ◌||◌}
use Rattle.ja_ir.specs.declared.op.Op.{Op}
use Rattle.ja_ir.specs.Operations.{height_after, UsesLocals}
use Rattle.ja_bdd.specs.Functions.{Function}
use Rattle.ja_work.specs.declared.way.Way.{Way}
use Rattle.ja_work.specs.declared.way.Way.TheVariants.{Clean, Thrown, InLibrary}
use Rattle.ja_work.specs.declared.frame.Frame.{Frame}
use Rattle.ja_work.specs.Ends.{Tests, may_end, exceptional_clauses}
use Rattle.ja_work.specs.Frames.{whole}

-- the local that the operation uses is one of the frame, and so are the values on the stack before and after it
pub record HasRoom (frame : Frame) (op : Op) (height : ℕ) : Type 0 where
  pub locals : UsesLocals op frame.locals
  pub before : height ≤ frame.stack
  pub after : height_after op height ≤ frame.stack

-- an exceptional end of this way, where the operation has it, as a function of the variables
abbrev pub ends_by : Frame → Tests → Op → (height : ℕ) → Way → Function
ends_by frame tests op height way a = may_end tests op way && whole frame (exceptional_clauses way tests op height) a

-- an exceptional end of some way
abbrev pub ends_thrown : Frame → Tests → Op → (height : ℕ) → Function
ends_thrown frame tests op height a = ends_by frame tests op height Clean a || (ends_by frame tests op height Thrown a || ends_by frame tests op height InLibrary a)
