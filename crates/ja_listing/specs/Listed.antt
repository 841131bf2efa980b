-- The classes of a listing.
use Rattle.std.specs.Prelude.{◌≡◌, ℕ, ◌+◌, List, [], ◌∷◌, length, map}
use Rattle.std.specs.List.{flat_map}
use Rattle.ja_listing.specs.declared.item.Head.{Head}
use Rattle.ja_listing.specs.declared.item.Item.{Item}
use Rattle.ja_listing.specs.declared.item.Line.{Line}
use Rattle.ja_listing.specs.declared.item.Line.TheVariants as line_kinds

-- a class of a listing: the number of the item that begins it, what that item says, and the items behind it
pub record Listed : Type 0 where
  pub number : ℕ
  pub head : Head
  pub items : List Item

-- an item of a class, among those of a listing
abbrev pub item_line : Item → Line
item_line item = line_kinds.Item item

-- the items of a class, from the one that begins it
abbrev pub lines_in : Listed → List Line
lines_in class = line_kinds.Class class.head ∷ map item_line class.items

-- the items of classes, one class after the other
abbrev pub lines_of : List Listed → List Line
lines_of classes = flat_map lines_in classes

-- these are the numbers of the items that begin classes, where the first of all items has this one
abbrev pub AreNumbered : ℕ → List Listed → Type 0
AreNumbered n [] = Unit {0}
AreNumbered n (class ∷ classes) = (class.number ≡ n) × AreNumbered (n + length (lines_in class)) classes
