-- An index of class names.
use Rattle.std.specs.Prelude.{◌≡◌, ℕ, List, Option, Some, None, bytes_eq}
use Rattle.std.specs.HashMap.{get}
use Rattle.ja_ir.specs.declared.program.Parts.{Parts}
use Rattle.ja_ir.specs.Lookup.{class_named}
use Rattle.ja_tokens.specs.declared.classes.ClassNumbers.{ClassNumbers}

-- the number that the index has for a name
abbrev pub number_in : ClassNumbers → List ℕ → Option ℕ
number_in index name = get bytes_eq index.numbers name

-- the number that was noted first, if there is one, and else one that is noted later
abbrev pub or_later : Option ℕ → Option ℕ → Option ℕ
or_later (Some first) later = Some first
or_later None later = later

-- the index has for each name the number of the program class of that name
abbrev pub AreNumbers : Parts → ClassNumbers → Type 0
AreNumbers p index = (name : List ℕ) → number_in index name ≡ class_named p name
