-- Where the items of a listing may stand.
use Rattle.std.specs.Prelude.{ℕ, Bool, true, false, not, List, [], ◌∷◌, Option, Some, None, bytes_eq, ◌&&◌, ◌||◌}
use Rattle.ja_listing.specs.declared.item.Item.{Item}
use Rattle.ja_listing.specs.declared.item.Item.TheVariants.{Field, Method, Initializer, Try, Instruction}
use Rattle.ja_listing.specs.declared.item.Line.{Line}
use Rattle.ja_listing.specs.declared.item.Line.TheVariants as line_kinds

-- What is asked of the items that stand before another. They are listed from the last to the first.

-- whether a class was begun
abbrev pub in_class : List Line → Bool
in_class [] = false
in_class (line ∷ earlier) = true

-- whether an item begins a method
abbrev pub begins_method : Item → Bool
begins_method (Field flags name desc) = false
begins_method (Method flags name desc frame) = true
begins_method Initializer = true
begins_method (Try start end handler catch) = false
begins_method (Instruction label opcode operand) = false

-- whether the class that stands last has a method
abbrev pub in_method : List Line → Bool
in_method [] = false
in_method (line_kinds.Class head ∷ earlier) = false
in_method (line_kinds.Item item ∷ earlier) = begins_method item || in_method earlier

-- whether a label, if there is one, is this
abbrev pub is_name : List ℕ → Option (List ℕ) → Bool
is_name name None = false
is_name name (Some other) = bytes_eq other name

-- whether an item is an instruction with this label
abbrev pub bears : List ℕ → Item → Bool
bears name (Field flags other desc) = false
bears name (Method flags other desc frame) = false
bears name Initializer = false
bears name (Try start end handler catch) = false
bears name (Instruction label opcode operand) = is_name name label

-- whether the method that stands last has an instruction with this label
abbrev pub has_label : List ℕ → List Line → Bool
has_label name [] = false
has_label name (line_kinds.Class head ∷ earlier) = false
has_label name (line_kinds.Item item ∷ earlier) = not (begins_method item) && (bears name item || has_label name earlier)

-- whether a label, if there is one, stands in that method already
abbrev pub repeats : Option (List ℕ) → List Line → Bool
repeats None earlier = false
repeats (Some name) earlier = has_label name earlier

-- whether an item of a class may stand behind these: one of a method behind its method, and its label but once
abbrev pub item_stands : List Line → Item → Bool
item_stands earlier (Field flags name desc) = in_class earlier
item_stands earlier (Method flags name desc frame) = in_class earlier
item_stands earlier Initializer = in_class earlier
item_stands earlier (Try start end handler catch) = in_method earlier
item_stands earlier (Instruction label opcode operand) = in_method earlier && not (repeats label earlier)

-- whether an item may stand behind these: a class behind any, and what belongs to a class behind one
abbrev pub stands : List Line → Line → Bool
stands earlier (line_kinds.Class head) = true
stands earlier (line_kinds.Item item) = item_stands earlier item
