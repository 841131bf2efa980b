-- What the code's shapes of types and places of exceptions mean, and what an index of class names keeps.
use Rattle.ja_ir.specs.Tokens.{Shape, InProgram, Primitives, References, Strings, Objects, Elsewhere}
use Rattle.ja_ir.specs.Handlers.{Place, Inside, Outside}
use Rattle.ja_tokens.specs.declared.shape.TypeShape.{TypeShape}
use Rattle.ja_tokens.specs.declared.shape.TypeShape.TheVariants as code
use Rattle.ja_tokens.specs.declared.place.ThrownTo.{ThrownTo}
use Rattle.ja_tokens.specs.declared.place.ThrownTo.TheVariants.{Handler, Caller}

-- the shape that is meant
abbrev pub shape_meant : TypeShape → Shape
shape_meant (code.Class c) = InProgram c
shape_meant code.Primitives = Primitives
shape_meant code.References = References
shape_meant code.Strings = Strings
shape_meant code.Objects = Objects
shape_meant code.Elsewhere = Elsewhere

-- the place that is meant
abbrev pub place_meant : ThrownTo → Place
place_meant (Handler target) = Inside target
place_meant Caller = Outside
