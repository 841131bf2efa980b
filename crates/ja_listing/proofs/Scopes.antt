-- The scope of items, one after another.
use Rattle.std.proofs.Common.{◌≡◌, ℕ, true, false, ◌&&◌, List, ◌∷◌, Some, None, refl, ap}
use Rattle.ja_listing.specs.declared.item.Item.{Item}
use Rattle.ja_listing.specs.declared.item.Item.TheVariants.{Field, Method, Initializer, Try, Instruction}
use Rattle.ja_listing.specs.declared.item.Line.{Line}
use Rattle.ja_listing.specs.declared.item.Line.TheVariants as line_kinds
use Rattle.ja_listing.specs.declared.scope.Scope.{Scope}
use Rattle.ja_listing.specs.Order.{begins_method, item_stands, stands}
use Rattle.ja_listing.specs.InnerScope.{has, allows_item, allows, IsScope}

item_allowed : (earlier : List Line) (scope : Scope) (item : Item) → IsScope earlier scope → allows_item scope item ≡ item_stands earlier item
item_allowed earlier scope (Field flags name desc) s = s.class
item_allowed earlier scope (Method flags name desc frame) s = s.class
item_allowed earlier scope Initializer s = s.class
item_allowed earlier scope (Try start end handler catch) s = s.method
item_allowed earlier scope (Instruction None opcode operand) s = ap (λ b. b && true) s.method
item_allowed earlier scope (Instruction (Some name) opcode operand) s = rw (s.method, s.labels name) refl

-- a scope allows what may stand behind its items
pub allowed : (earlier : List Line) (scope : Scope) (line : Line) → IsScope earlier scope → allows scope line ≡ stands earlier line
allowed earlier scope (line_kinds.Class head) s = refl
allowed earlier scope (line_kinds.Item item) s = item_allowed earlier scope item s

-- behind the beginning of a method
pub method_scope : (earlier : List Line) (item : Item) (new : Scope) → begins_method item ≡ true → new.in_class ≡ true → new.in_method ≡ true → ((name : List ℕ) → has new.labels name ≡ false)
    → IsScope (line_kinds.Item item ∷ earlier) new
method_scope earlier item new i a b c = record { class = a; method = rw (b, i) refl; labels = λ name. rw i (c name) }
