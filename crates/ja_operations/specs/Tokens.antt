-- The tokens of what instructions make, among so many program classes.
use Rattle.std.specs.Prelude.{ℕ, ◌+◌, ◌||◌, Bool, false, List, [], ◌∷◌, Option, Some, None, drop, length, if◌then◌else◌}
use Rattle.ja_ir.specs.declared.head.ClassHead.{ClassHead}
use Rattle.ja_ir.specs.declared.op.Token.{Token}
use Rattle.ja_code.specs.declared.behaviour.Elements.{Elements}
use Rattle.ja_code.specs.declared.behaviour.Elements.TheVariants.{Primitives, References}
use Rattle.ja_base.specs.Descriptor.{is_word_letter, is_pair_letter}
use Rattle.ja_supertypes.specs.Supertypes.{class_named}

-- the token of library objects
abbrev pub library_token : List ClassHead → Token
library_token heads = record { 0 = length heads + 1 }

-- the token of arrays of references
abbrev pub references_token : List ClassHead → Token
references_token heads = record { 0 = length heads + 2 }

-- the token of arrays of primitives
abbrev pub primitives_token : List ClassHead → Token
primitives_token heads = record { 0 = length heads + 3 }

-- the token of the program class of a number, and that of library objects where there is none
abbrev pub token_of_some : List ClassHead → Option ℕ → Token
token_of_some heads None = library_token heads
token_of_some heads (Some c) = record { 0 = c }

-- the token of new objects of the class of a name
abbrev pub token_of_class : List ClassHead → (name : List ℕ) → Token
token_of_class heads name = token_of_some heads (class_named heads name)

-- the letter of a primitive type
abbrev pub is_primitive_letter : ℕ → Bool
is_primitive_letter b = is_word_letter b || is_pair_letter b

-- the descriptor of an element is that of a primitive type: one letter
abbrev pub is_primitive : (element : List ℕ) → Bool
is_primitive [] = false
is_primitive (b ∷ []) = is_primitive_letter b
is_primitive (b ∷ c ∷ bytes) = false

-- the token of new arrays of one dimension, by what their elements are
abbrev pub token_of_array : List ClassHead → Elements → Token
token_of_array heads Primitives = primitives_token heads
token_of_array heads References = references_token heads

-- the token of the innermost arrays that `multianewarray` makes of an array class in so many dimensions: their elements are
-- of what is left of the class's name behind as many '['
abbrev pub token_of_innermost : List ClassHead → (name : List ℕ) → (dimensions : ℕ) → Token
token_of_innermost heads name dimensions = if is_primitive (drop dimensions name) then primitives_token heads else references_token heads
