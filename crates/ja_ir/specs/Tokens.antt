-- Tokens: what kinds of objects there are, which of them fit a type, and which are made for a type.
use Rattle.std.specs.Prelude.{ℕ, ◌+◌, ◌==◌, ◌||◌, Bool, true, false, List, [], ◌∷◌, ◌++◌, Option, Some, None, bytes_eq, codes, length, slice_get, if◌then◌else◌}
use Rattle.ja_base.specs.declared.java_type.Kind.{Kind}
use Rattle.ja_base.specs.declared.java_type.Kind.TheVariants.{R}
use Rattle.ja_base.specs.declared.java_type.JavaType.{JavaType}
use Rattle.ja_base.specs.Descriptor.{is_word_letter, is_pair_letter}
use Rattle.ja_ir.specs.declared.program.Parts.{Parts}
use Rattle.ja_ir.specs.declared.class.ClassInfo.{ClassInfo}
use Rattle.ja_ir.specs.Lookup.{class_named, at_or_below}

-- the token of texts
abbrev pub text_token : Parts → ℕ
text_token p = length p.classes

-- the token of library objects
abbrev pub lib_token : Parts → ℕ
lib_token p = length p.classes + 1

-- the token of arrays of references
abbrev pub rarr_token : Parts → ℕ
rarr_token p = length p.classes + 2

-- the token of arrays of primitives
abbrev pub parr_token : Parts → ℕ
parr_token p = length p.classes + 3

-- what a reference type is: a program class, an array of primitives, another array, java/lang/String, java/lang/Object, or another library class
pub data Shape : Type 0 where
  InProgram : (c : ℕ) → Shape
  Primitives : Shape
  References : Shape
  Strings : Shape
  Objects : Shape
  Elsewhere : Shape

-- the shape of an array of elements of this descriptor
abbrev pub array_shape : (element : List ℕ) → Shape
array_shape (b ∷ []) = if is_word_letter b || is_pair_letter b then Primitives else References
array_shape _ = References

-- the shape of a library class
abbrev pub class_shape : (name : List ℕ) → Shape
class_shape name =
    if bytes_eq name (codes "java/lang/String") then Strings
    else if bytes_eq name (codes "java/lang/Object") then Objects
    else Elsewhere

-- the shape of a class, by its number where it is a program class
abbrev pub class_shape_beside : Option ℕ → (name : List ℕ) → Shape
class_shape_beside (Some c) name = InProgram c
class_shape_beside None name = class_shape name

-- the shape of the reference type of a name
abbrev pub shape_of : Parts → (name : List ℕ) → Shape
shape_of p [] = class_shape_beside (class_named p []) []
shape_of p (b ∷ bytes) = if b == 91 then array_shape bytes else class_shape_beside (class_named p (b ∷ bytes)) (b ∷ bytes)

-- objects of the token fit a type of the shape
abbrev pub fits_shape : Parts → (token : ℕ) → Shape → Bool
fits_shape p token (InProgram c) = at_or_below p token c
fits_shape p token Primitives = token == parr_token p
fits_shape p token References = token == rarr_token p
fits_shape p token Strings = (token == text_token p) || (token == lib_token p)
fits_shape p token Objects = true
fits_shape p token Elsewhere = true

-- objects of the token fit the reference type of a name
abbrev pub fits : Parts → (token : ℕ) (name : List ℕ) → Bool
fits p token name = fits_shape p token (shape_of p name)

-- the shape is that of a program class
abbrev pub is_in_program : Shape → Bool
is_in_program (InProgram c) = true
is_in_program _ = false

-- the name is that of a program class
abbrev pub names_program : Parts → (name : List ℕ) → Bool
names_program p name = is_in_program (shape_of p name)

-- a token is absorbing, where this is its class if it is one of a program class
abbrev pub absorbs_as : Parts → (token : ℕ) → Option ClassInfo → Bool
absorbs_as p token (Some class) = class.absorbing
absorbs_as p token None = (token == lib_token p) || ((token == rarr_token p) || (token == parr_token p))

-- objects of the token are absorbing: their bags may take things
abbrev pub absorbs : Parts → (token : ℕ) → Bool
absorbs p token = absorbs_as p token (slice_get p.classes token)

-- the tokens that an object may have that is made new for a type of the shape
abbrev pub made_tokens : Parts → Shape → List ℕ
made_tokens p (InProgram c) = []
made_tokens p Primitives = parr_token p ∷ []
made_tokens p References = rarr_token p ∷ []
made_tokens p Strings = text_token p ∷ []
made_tokens p Objects = lib_token p ∷ parr_token p ∷ rarr_token p ∷ []
made_tokens p Elsewhere = lib_token p ∷ []

-- the bytes before the first ';'
abbrev pub before_semicolon : List ℕ → List ℕ
before_semicolon [] = []
before_semicolon (b ∷ bytes) = if b == 59 then [] else b ∷ before_semicolon bytes

-- the tokens of all objects that are made new for an array of the shape, whose element has these
abbrev pub array_tokens : Parts → Shape → (inside : List ℕ) → List ℕ
array_tokens p References inside = rarr_token p ∷ inside
array_tokens p _ inside = parr_token p ∷ []

-- the tokens of all objects that are made new for an array's element of this descriptor
abbrev pub element_tokens : Parts → (desc : List ℕ) → List ℕ
element_tokens p [] = []
element_tokens p (b ∷ bytes) =
    if b == 91 then array_tokens p (array_shape bytes) (element_tokens p bytes)
    else if b == 76 then made_tokens p (shape_of p (before_semicolon bytes))
    else []

-- the tokens of the objects that are made new and put into bags for a type of this shape and name
abbrev pub bagged_as : Parts → Shape → (name : List ℕ) → List ℕ
bagged_as p References (b ∷ element) = element_tokens p element
bagged_as p Objects name = lib_token p ∷ []
bagged_as p _ name = []

-- the tokens of the objects that are made new and put into bags for a type of this name
abbrev pub bagged_tokens : Parts → (name : List ℕ) → List ℕ
bagged_tokens p name = bagged_as p (shape_of p name) name

-- the tokens of all objects that are made new for a type of this kind and name; for a primitive type there are none
abbrev pub tokens_for : Parts → Kind → (name : List ℕ) → List ℕ
tokens_for p R name = made_tokens p (shape_of p name) ++ bagged_tokens p name
tokens_for p _ name = []

-- the tokens of all objects that are made new for a type, those in bags among them
abbrev pub fresh_tokens : Parts → JavaType → List ℕ
fresh_tokens p type = tokens_for p type.kind type.name
