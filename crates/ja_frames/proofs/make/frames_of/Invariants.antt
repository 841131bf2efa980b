use Rattle.std.proofs.Common.{take}
use Rattle.std.specs.List.{AllZip}
use Rattle.ja_frames.specs.Frames.{IsFrameOf}
use Rattle.ja_frames.proofs.make.frames_of.Given as goal

abbrev pub invariant-loop-method : goal.invariant-loop-method
invariant-loop-method l = AllZip IsFrameOf (take l.method-index l.method-items) l.frames
