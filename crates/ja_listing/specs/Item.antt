-- What an item of a listing is.
use Rattle.std.specs.Prelude.{ℕ, ◌-◌, Bool, List, [], ◌∷◌, length, take, drop, slice_index, Option, Some, None, bytes_eq, codes, nat_lt, ◌==◌, ◌&&◌, if◌then◌else◌}
use Rattle.ja_code.specs.Opcode.{form_at}
use Rattle.ja_code.specs.Mnemonic.{opcode_for}
use Rattle.ja_listing.specs.declared.word.Word.{Word}
use Rattle.ja_listing.specs.declared.word.Word.TheVariants.{Bare, Text, Whole}
use Rattle.ja_listing.specs.declared.item.Frame.{Frame}
use Rattle.ja_listing.specs.declared.item.Item.{Item}
use Rattle.ja_listing.specs.declared.item.Item.TheVariants as item_kinds
use Rattle.ja_listing.specs.declared.item.Line.{Line}
use Rattle.ja_listing.specs.declared.item.Line.TheVariants as line_kinds
use Rattle.ja_listing.specs.Word.{◌>>=◌}
use Rattle.ja_listing.specs.Number.{has_code}
use Rattle.ja_listing.specs.Operand.{bare_at, number_at, of_count, operand_of}

-- behind `class`: its name, its superclass and its flags
unfoldable pub class_line : List Word → Option Line
class_line words = of_count 4 words (do
  name ← bare_at words 1
  superclass ← bare_at words 2
  flags ← number_at words 3
  Some (line_kinds.Class (record { name = name; superclass = superclass; flags = flags })))

-- behind `field`: its flags, its name and its descriptor
unfoldable pub field_item : List Word → Option Item
field_item words = of_count 4 words (do
  flags ← number_at words 1
  name ← bare_at words 2
  desc ← bare_at words 3
  Some (item_kinds.Field flags name desc))

-- behind the first words of `method`: the most values on its stack and its number of locals, where it has code, and
-- else nothing
unfoldable pub frame_of : Bool → List Word → Option (Option Frame)
frame_of code words =
    if code
    then of_count 6 words (do
      stack ← number_at words 4
      locals ← number_at words 5
      Some (Some (record { stack = stack; locals = locals })))
    else of_count 4 words (Some None)

-- behind `method`: its flags, its name, its descriptor and its frame
unfoldable pub method_item : List Word → Option Item
method_item words = do
  flags ← number_at words 1
  name ← bare_at words 2
  desc ← bare_at words 3
  frame ← frame_of (has_code flags) words
  Some (item_kinds.Method flags name desc frame)

-- what an entry of an exception table catches: the class of this name, or anything
abbrev pub caught : List ℕ → Option (List ℕ)
caught word = if bytes_eq word (codes "any") then None else Some word

-- behind `try`: the labels of the first instruction of its range, of the first behind it and of the handler, and what it
-- catches
unfoldable pub try_item : List Word → Option Item
try_item words = of_count 5 words (do
  start ← bare_at words 1
  end ← bare_at words 2
  handler ← bare_at words 3
  catch ← bare_at words 4
  Some (item_kinds.Try start end handler (caught catch)))

-- an instruction: its mnemonic and its operands
unfoldable pub instruction : Option (List ℕ) → List Word → Option Item
instruction label words = do
  mnemonic ← bare_at words 0
  opcode ← opcode_for mnemonic
  form ← form_at opcode
  operand ← operand_of form (drop 1 words)
  Some (item_kinds.Instruction label opcode operand)

-- whether a word is a label: it ends with a colon, and something stands before it
abbrev pub is_label : List ℕ → Bool
is_label word = nat_lt 1 (length word) && (slice_index word (length word - 1) == 58)

-- an instruction, with a label or without
unfoldable pub labelled : List ℕ → List Word → Option Item
labelled first words =
    if is_label first then instruction (Some (take (length first - 1) first)) (drop 1 words)
    else instruction None words

-- an item that belongs to a class
abbrev pub as_line : Option Item → Option Line
as_line None = None
as_line (Some item) = Some (line_kinds.Item item)

-- what an item of a class with this first word is
unfoldable pub item_by : List ℕ → List Word → Option Item
item_by first words =
    if bytes_eq first (codes "field") then field_item words
    else if bytes_eq first (codes "method") then method_item words
    else if bytes_eq first (codes "try") then try_item words
    else labelled first words

-- what an item with this first word is
unfoldable pub line_by : List ℕ → List Word → Option Line
line_by first words = if bytes_eq first (codes "class") then class_line words else as_line (item_by first words)

-- what an item with these words is; none where they break the notation
unfoldable pub line_of : List Word → Option Line
line_of [] = None
line_of (Bare first ∷ words) = line_by first (Bare first ∷ words)
line_of (Text text ∷ words) = None
line_of (Whole ∷ words) = of_count 1 (Whole ∷ words) (Some (line_kinds.Item item_kinds.Initializer))
