-- The kinds of objects.
use Rattle.std.specs.Prelude.{Bool, true, false}

-- what is remembered of an object's class: a string, an array of references or of primitives, or another object of the library.
-- No method of the first form makes an object of the program's class.
pub data Token : Type 0 where
  Text : Token
  Lib : Token
  ReferenceArray : Token
  PrimitiveArray : Token

-- objects of this token have a bag that library calls and array stores may fill
abbrev pub absorbs : Token → Bool
absorbs Text = false
absorbs Lib = true
absorbs ReferenceArray = true
absorbs PrimitiveArray = true
