-- Frames, by which the names of methods are numbered.
use Rattle.std.specs.Prelude.{◌≡◌, ℕ, ◌+◌, ◌≤◌}
use Rattle.ja_base.specs.Limit.{max_frame_values}
use Rattle.ja_ir.specs.declared.method.Method.{Method}
use Rattle.ja_ir.specs.Params.{param_count}
use Rattle.ja_names.specs.declared.frame.Frame.{Frame}

-- the frame of a method
pub record IsFrameOf (method : Method) (frame : Frame) : Type 0 where
  pub locals : frame.locals ≡ method.locals
  pub stack : frame.stack ≡ method.stack
  pub params : frame.params ≡ param_count method

-- it has at most 512 values and 256 parameters
pub record IsSmall (frame : Frame) : Type 0 where
  pub values : frame.locals + frame.stack ≤ max_frame_values
  pub params : frame.params ≤ 256

-- the number of the static fields
abbrev pub statics_of : Frame → ℕ
statics_of frame = frame.locals + frame.stack + 2

-- the number of what parameter k reached when the method began, or the static fields did
abbrev pub old_of : Frame → (k : ℕ) → ℕ
old_of frame k = frame.locals + frame.stack + 2 + 1 + k
