-- Listings: what a text spells, and which of its items is the first that breaks the notation.
use Rattle.std.specs.Prelude.{◌≡◌, ℕ, Bool, true, false, List, [], ◌∷◌, take, reverse, map, filter, slice_get, Option, Some, None, Result, Ok, Err}
use Rattle.ja_listing.specs.declared.glyph.Glyph.{Glyph}
use Rattle.ja_listing.specs.declared.word.Word.{Word}
use Rattle.ja_listing.specs.declared.item.Line.{Line}
use Rattle.ja_listing.specs.declared.fault.MakeFault.{MakeFault}
use Rattle.ja_listing.specs.declared.fault.MakeFault.TheVariants.{BadListing, Memory}
use Rattle.ja_listing.specs.Text.{glyphs, is_end, parted}
use Rattle.ja_listing.specs.Word.{◌>>=◌, words}
use Rattle.ja_listing.specs.Item.{line_of}
use Rattle.ja_listing.specs.Order.{stands}
use Rattle.ja_listing.specs.Listed.{Listed, lines_of, AreNumbered}

-- an item without words is passed over
abbrev pub has_words : Option (List Word) → Bool
has_words None = true
has_words (Some []) = false
has_words (Some (word ∷ words)) = true

-- the words of the items of a text, in order; none where the words of one break the notation
unfoldable pub items_in : List Glyph → List (Option (List Word))
items_in text = filter has_words (map words (parted is_end text))

abbrev pub items_of : List ℕ → List (Option (List Word))
items_of text = items_in (glyphs false text)

-- what an item is
abbrev pub meaning : Option (List Word) → Option Line
meaning item = item >>= line_of

-- behind earlier ones, from the last to the first, items mean these lines, and each may stand where it does
abbrev pub Means : List Line → List (Option (List Word)) → List Line → Type 0
Means earlier [] [] = Unit {0}
Means earlier [] (line ∷ lines) = ⊥
Means earlier (item ∷ items) [] = ⊥
Means earlier (item ∷ items) (line ∷ lines) = (meaning item ≡ Some line) × (stands earlier line ≡ true) × Means (line ∷ earlier) items lines

-- the text spells these classes
pub record Spells (text : List ℕ) (classes : List Listed) : Type 0 where
  pub items : Means [] (items_of text) (lines_of classes)
  pub numbers : AreNumbered 0 classes

-- behind earlier ones, an item breaks the notation: it means nothing, or may not stand there
abbrev pub Breaks : List Line → Option Line → Type 0
Breaks earlier None = Unit {0}
Breaks earlier (Some line) = stands earlier line ≡ false

-- n is the number of the first item of a text that breaks the notation
pub record IsFirstBroken (text : List ℕ) (n : ℕ) : Type 0 where
  pub lines : List Line
  pub before : Means [] (take n (items_of text)) lines
  pub item : Option (List Word)
  pub there : slice_get (items_of text) n ≡ Some item
  pub breaks : Breaks (reverse lines) (meaning item)

-- a fault is the first item that breaks the notation, or want of memory
abbrev pub IsCause : List ℕ → MakeFault → Type 0
IsCause text (BadListing n) = IsFirstBroken text n
IsCause text Memory = Unit {0}

-- an answer that says so, unless memory ran out
abbrev pub Answers : Result (List Listed) MakeFault → Result (List Listed) MakeFault → Type 0
Answers (Err Memory) due = Unit {0}
Answers (Err (BadListing n)) due = due ≡ Err (BadListing n)
Answers (Ok classes) due = due ≡ Ok classes
