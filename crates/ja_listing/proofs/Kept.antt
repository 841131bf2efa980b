-- What is kept of items, one after another.
use Rattle.std.proofs.Common.{◌≡◌, ℕ, ◌+◌, List, [], ◌∷◌, ◌++◌, length, ap, sym, ◌∙◌, subst, arith}
use Rattle.std.proofs.lemmas.List.{length-reverse}
use Rattle.std.proofs.lemmas.Grind.{reverse_onto}
use Rattle.ja_listing.specs.declared.item.Head.{Head}
use Rattle.ja_listing.specs.declared.item.Item.{Item}
use Rattle.ja_listing.specs.declared.item.Line.{Line}
use Rattle.ja_listing.specs.declared.item.Line.TheVariants as line_kinds
use Rattle.ja_listing.specs.declared.scope.Scope.{Scope}
use Rattle.ja_listing.specs.Listed.{Listed, item_line, lines_of, AreNumbered}
use Rattle.ja_listing.specs.InnerScope.{IsScope, IsKept}
use Rattle.ja_listing.proofs.Listings.{lines_begin, numbers_begin}

-- a class more
pub class_kept : (earlier : List Line) (old new : List Listed) (scope next : Scope) (number : ℕ) (head : Head) (class : Listed) → IsKept earlier old scope → number ≡ length earlier
    → class ≡ record { number = number; head = head; items = [] } → new ≡ old ++ class ∷ [] → IsScope (line_kinds.Class head ∷ earlier) next → IsKept (line_kinds.Class head ∷ earlier) new next
class_kept earlier old new scope next number head class k n e more s =
    let count : length (lines_of old) ≡ number = ap length k.lines ∙ length-reverse earlier ∙ sym n in
    let place : class.number ≡ 0 + length (lines_of old) = omega (arith, count, ap (λ (l : Listed). l.number) e) in
    record {
      lines =
          ap lines_of more ∙ lines_begin old class (ap (λ (l : Listed). l.items) e)
          ∙ ap (λ (l : Listed). lines_of old ++ line_kinds.Class l.head ∷ []) e
          ∙ ap (λ (ls : List Line). ls ++ line_kinds.Class head ∷ []) k.lines ∙ sym (reverse_onto earlier (line_kinds.Class head) []);
      scope_is = s;
      numbers = subst (AreNumbered 0) (sym more) (numbers_begin 0 old class k.numbers place);
    }

-- an item more in the last class
pub item_kept : (earlier : List Line) (old new : List Listed) (scope next : Scope) (item : Item) → IsKept earlier old scope
    → lines_of new ≡ lines_of old ++ item_line item ∷ [] → ((n : ℕ) → AreNumbered n old → AreNumbered n new) → IsScope (item_line item ∷ earlier) next → IsKept (item_line item ∷ earlier) new next
item_kept earlier old new scope next item k e more s =
    record {
      lines = e ∙ ap (λ (ls : List Line). ls ++ item_line item ∷ []) k.lines ∙ sym (reverse_onto earlier (item_line item) []);
      scope_is = s;
      numbers = more 0 k.numbers;
    }
