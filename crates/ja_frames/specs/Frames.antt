-- The frames of a program's methods.
use Rattle.std.specs.Prelude.{◌≡◌, List}
use Rattle.std.specs.List.{AllZip}
use Rattle.ja_ir.specs.declared.program.Parts.{Parts}
use Rattle.ja_ir.specs.declared.method.Method.{Method}
use Rattle.ja_order.specs.Order.{HasOrder}
use Rattle.ja_work.specs.declared.frame.Frame.{Frame}

-- the frame has the slots of the method, each in a place of its own, and where it has code in an order of its variables
pub record IsFrameOf (method : Method) (frame : Frame) : Type 0 where
  pub locals : frame.locals ≡ method.locals
  pub stack : frame.stack ≡ method.stack
  pub order : HasOrder method (record { places = frame.places; slots = frame.slots })

-- one for each method of a program
abbrev pub AreFrames : Parts → List Frame → Type 0
AreFrames p frames = AllZip IsFrameOf p.methods frames
