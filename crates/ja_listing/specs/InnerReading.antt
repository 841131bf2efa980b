-- What the private functions of the reader answer. A reader of the public contracts need not look here.
use Rattle.std.specs.Prelude.{◌≡◌, ℕ, List, [], ◌∷◌, ◌++◌, length, reverse, Option, Some, None, Result, Ok, Err, ⊤, if◌then◌else◌}
use Rattle.std.specs.Borrow.{Bor}
use Rattle.ja_listing.specs.declared.fault.ItemFault.{ItemFault}
use Rattle.ja_listing.specs.declared.fault.ItemFault.TheVariants.{Broken, Memory}
use Rattle.ja_listing.specs.declared.glyph.Glyph.{Glyph}
use Rattle.ja_listing.specs.declared.glyph.Glyph.TheVariants.{End, Blank, Letter, Quoted}
use Rattle.ja_listing.specs.declared.word.Word.{Word}
use Rattle.ja_listing.specs.declared.item.Line.{Line}
use Rattle.ja_listing.specs.declared.fault.MakeFault.{MakeFault}
use Rattle.ja_listing.specs.declared.fault.MakeFault.TheVariants as faults
use Rattle.ja_listing.specs.Word.{stands_for}
use Rattle.ja_listing.specs.Order.{stands}
use Rattle.ja_listing.specs.Listed.{Listed, lines_of, AreNumbered}
use Rattle.ja_listing.specs.Notation.{has_words, meaning}

-- an error is that nothing is read, unless memory ran out
abbrev pub Fails : {Y : Type 0} → ItemFault → Option Y → Type 0
Fails Broken read = read ≡ None
Fails Memory read = Unit {0}

-- what a function returned is what is read, unless memory ran out
abbrev pub Gives : {Y : Type 0} → Result Y ItemFault → Option Y → Type 0
Gives (Ok x) read = read ≡ Some x
Gives (Err e) read = Fails e read

-- the same of a value that is lent
abbrev pub Lends : {Y : Type 0} → Result (Bor Y) ItemFault → Option Y → Type 0
Lends (Ok x) read = read ≡ Some x.now
Lends (Err e) read = Fails e read

-- what is read, with something before it
abbrev pub with_front : {A : Type 0} → List A → Option (List A) → Option (List A)
with_front front None = None
with_front front (Some xs) = Some (front ++ xs)

-- a function adds what is read, unless memory ran out
abbrev pub Adds : List Word → List Word → Result ⊤ ItemFault → Option (List Word) → Type 0
Adds old new (Ok _) read = with_front old read ≡ Some new
Adds old new (Err e) read = Fails e read

-- what the two bytes at the front stand for
abbrev pub short_at : List ℕ → Option (List ℕ)
short_at [] = None
short_at (b ∷ []) = None
short_at (b ∷ c ∷ rest) = stands_for b c

-- the letter at the front, and the byte of a quoted text at the front
abbrev pub first_letter : List Glyph → Option ℕ
first_letter [] = None
first_letter (End ∷ gs) = None
first_letter (Blank ∷ gs) = None
first_letter (Letter b ∷ gs) = Some b
first_letter (Quoted b ∷ gs) = None

abbrev pub first_quoted : List Glyph → Option ℕ
first_quoted [] = None
first_quoted (End ∷ gs) = None
first_quoted (Blank ∷ gs) = None
first_quoted (Letter b ∷ gs) = None
first_quoted (Quoted b ∷ gs) = Some b

-- ---- the items of a text, behind earlier ones, from the last to the first

-- the items up to one that breaks the notation
abbrev pub next : List Line → Option Line → Option (List Line)
next earlier None = None
next earlier (Some line) = if stands earlier line then Some (line ∷ earlier) else None

-- the same of an item that may have no words
abbrev pub step : List Line → Option (List Word) → Option (List Line)
step earlier item = if has_words item then next earlier (meaning item) else Some earlier

abbrev pub go_on : Option (List Line) → ℕ → (List Line → Result (List Line) ℕ) → Result (List Line) ℕ
go_on None number others = Err number
go_on (Some lines) number others = others lines

-- all items, or the number of the first that breaks the notation
unfoldable pub read : List Line → List (Option (List Word)) → Result (List Line) ℕ
read earlier [] = Ok (reverse earlier)
read earlier (item ∷ items) = go_on (next earlier (meaning item)) (length earlier) (λ lines. read lines items)

-- an error is the number of the first item that breaks the notation, unless memory ran out
abbrev pub FailsAt : MakeFault → Result (List Line) ℕ → Type 0
FailsAt (faults.BadListing n) found = found ≡ Err n
FailsAt faults.Memory found = Unit {0}

-- the classes with the items that were found, and their numbers
abbrev pub Lists : Result (List Listed) MakeFault → Result (List Line) ℕ → Type 0
Lists (Ok classes) found = (found ≡ Ok (lines_of classes)) × AreNumbered 0 classes
Lists (Err fault) found = FailsAt fault found
