-- The words of the arguments of a method, from its descriptor (JVM specification 4.3.3, and 6.5 at `invokeinterface`).
use Rattle.std.specs.Prelude.{ℕ, ◌+◌, Bool, false, List, [], ◌∷◌, ◌==◌, ◌||◌, if◌then◌else◌}
use Rattle.ja_base.specs.Descriptor.{is_pair_letter}
use Rattle.ja_assembly.specs.declared.argument.Part.{Part}
use Rattle.ja_assembly.specs.declared.argument.Part.TheVariants.{Plain, Array, Name}

-- the words that a byte of a descriptor brings: a type brings its words with its first byte, or the one behind its brackets
abbrev pub words_of_byte : Part → ℕ → ℕ
words_of_byte Plain b = if is_pair_letter b then 2 else if b == 40 || b == 91 then 0 else 1
words_of_byte Array b = if b == 91 then 0 else 1
words_of_byte Name b = 0

-- the part behind a type, a bracket or an 'L'
abbrev pub part_of_type : ℕ → Part
part_of_type b = if b == 91 then Array else if b == 76 then Name else Plain

-- the part behind a byte; a ';' ends a name
abbrev pub part_behind : Part → ℕ → Part
part_behind Plain b = part_of_type b
part_behind Array b = part_of_type b
part_behind Name b = if b == 59 then Plain else Name

-- whether a byte is the ')' that ends the parameters, and no byte of a name
abbrev pub is_end : Part → ℕ → Bool
is_end Plain b = b == 41
is_end Array b = b == 41
is_end Name b = false

-- the words of the parameters from a byte of this part on
abbrev pub words_from : Part → List ℕ → ℕ
words_from part [] = 0
words_from part (b ∷ bytes) = if is_end part b then 0 else words_of_byte part b + words_from (part_behind part b) bytes

-- the words of the arguments, with the receiver
abbrev pub argument_words : List ℕ → ℕ
argument_words desc = 1 + words_from Plain desc
