-- Where the labels of a method stand, as a table of them tells. A reader of the public contracts need not look here.
use Rattle.std.specs.Prelude.{ℕ, List, Option, Some, None, bytes_eq, if◌then◌else◌}
use Rattle.indexmap.specs.IndexMap.{IndexMap, get}
use Rattle.ja_assembly.specs.Members.{is_label_of}

-- the labels that a table has, with their places
abbrev pub places : {S : Type 0} → IndexMap (List ℕ) ℕ S → List ℕ → Option ℕ
places labels name = get bytes_eq labels name

-- the first of two that is there
abbrev pub or_else : Option ℕ → Option ℕ → Option ℕ
or_else None place = place
or_else (Some place) other = Some place

-- the place of an instruction with a label, where it has this one
abbrev pub has_given : Option (List ℕ) → List ℕ → ℕ → Option ℕ
has_given label name pc = if is_label_of name label then Some pc else None
