-- How the reader keeps what earlier items say. A reader of the public contracts need not look here.
use Rattle.std.specs.Prelude.{◌≡◌, ℕ, Bool, true, false, not, ◌&&◌, List, [], ◌∷◌, reverse, Option, Some, None, bytes_eq}
use Rattle.indexmap.specs.IndexSet.{IndexSet, contains}
use Rattle.ja_listing.specs.declared.item.Item.{Item}
use Rattle.ja_listing.specs.declared.item.Item.TheVariants.{Field, Method, Initializer, Try, Instruction}
use Rattle.ja_listing.specs.declared.item.Line.{Line}
use Rattle.ja_listing.specs.declared.item.Line.TheVariants as line_kinds
use Rattle.ja_listing.specs.declared.scope.Scope.{Scope}
use Rattle.ja_listing.specs.Order.{in_class, in_method, has_label}
use Rattle.ja_listing.specs.Listed.{Listed, lines_of, AreNumbered}

-- whether a label is among others
abbrev pub has : {S : Type 0} → IndexSet (List ℕ) S → List ℕ → Bool
has labels name = contains bytes_eq labels name

abbrev pub has_given : {S : Type 0} → IndexSet (List ℕ) S → Option (List ℕ) → Bool
has_given labels None = false
has_given labels (Some name) = has labels name

abbrev pub allows_item : Scope → Item → Bool
allows_item scope (Field flags name desc) = scope.in_class
allows_item scope (Method flags name desc frame) = scope.in_class
allows_item scope Initializer = scope.in_class
allows_item scope (Try start end handler catch) = scope.in_method
allows_item scope (Instruction label opcode operand) = scope.in_method && not (has_given scope.labels label)

-- whether an item may stand behind those of a scope
abbrev pub allows : Scope → Line → Bool
allows scope (line_kinds.Class head) = true
allows scope (line_kinds.Item item) = allows_item scope item

-- the scope of items, from the last to the first
pub record IsScope (earlier : List Line) (scope : Scope) : Type 0 where
  pub class : scope.in_class ≡ in_class earlier
  pub method : scope.in_method ≡ in_method earlier
  pub labels : (name : List ℕ) → has scope.labels name ≡ has_label name earlier

-- the classes and the scope of items, from the last to the first
pub record IsKept (earlier : List Line) (classes : List Listed) (scope : Scope) : Type 0 where
  pub lines : lines_of classes ≡ reverse earlier
  pub scope_is : IsScope earlier scope
  pub numbers : AreNumbered 0 classes

abbrev pub listed : Option Listed → List Listed
listed None = []
listed (Some class) = class ∷ []

-- where no class goes on, none was begun
abbrev pub IsBegun : List Listed → Option Listed → Type 0
IsBegun done None = done ≡ []
IsBegun done (Some class) = Unit {0}
