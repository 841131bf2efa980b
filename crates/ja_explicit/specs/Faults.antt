-- Why the plain solver has no answer.
use Rattle.ja_ir.specs.declared.program.Parts.{Parts}
use Rattle.ja_explicit.specs.declared.fault.PlainFault.{PlainFault}
use Rattle.ja_explicit.specs.declared.fault.PlainFault.TheVariants.{FrameTooWide, Memory}
use Rattle.ja_explicit.specs.Given.{IsFirstWide}

-- the fault is that the frame of a method is too wide, which is the first such; or it is want of memory
abbrev pub IsCause : Parts → PlainFault → Type 0
IsCause p (FrameTooWide method values) = IsFirstWide p method.0 values
IsCause p Memory = Unit {0}
