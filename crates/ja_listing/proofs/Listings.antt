-- Classes of a listing, and the items that they have.
use Rattle.std.proofs.Common.{◌≡◌, ℕ, ◌+◌, List, [], ◌∷◌, ◌++◌, length, map, refl, ap, sym, ◌∙◌, subst, append_assoc, length-append, arith}
use Rattle.std.proofs.lemmas.List.{append-nil, map-append}
use Rattle.ja_listing.specs.declared.item.Head.{Head}
use Rattle.ja_listing.specs.declared.item.Item.{Item}
use Rattle.ja_listing.specs.declared.item.Line.{Line}
use Rattle.ja_listing.specs.declared.item.Line.TheVariants as line_kinds
use Rattle.ja_listing.specs.Listed.{Listed, item_line, lines_in, lines_of, AreNumbered}

-- the items of classes behind others
pub lines_append : (xs ys : List Listed) → lines_of (xs ++ ys) ≡ lines_of xs ++ lines_of ys
lines_append [] ys = refl
lines_append (x ∷ xs) ys = ap (λ ls. lines_in x ++ ls) (lines_append xs ys) ∙ sym (append_assoc (lines_in x) (lines_of xs) (lines_of ys))

-- the items of one class more
pub lines_begin : (done : List Listed) (class : Listed) → class.items ≡ [] → lines_of (done ++ class ∷ []) ≡ lines_of done ++ line_kinds.Class class.head ∷ []
lines_begin done class none = lines_append done (class ∷ []) ∙ ap (λ (is : List Item). lines_of done ++ line_kinds.Class class.head ∷ (map item_line is ++ [])) none

one_extended : (old new : Listed) (item : Item) → new.head ≡ old.head → new.items ≡ old.items ++ item ∷ [] → lines_in new ++ [] ≡ (lines_in old ++ []) ++ item_line item ∷ []
one_extended old new item h i =
    append-nil (lines_in new) ∙ ap (λ (c : Head). line_kinds.Class c ∷ map item_line new.items) h
    ∙ ap (λ (is : List Item). line_kinds.Class old.head ∷ map item_line is) i
    ∙ ap (λ (ls : List Line). line_kinds.Class old.head ∷ ls) (map-append item_line old.items (item ∷ []))
    ∙ ap (λ (ls : List Line). ls ++ item_line item ∷ []) (sym (append-nil (lines_in old)))

-- the items where the last class has one more
pub lines_extend : (done : List Listed) (old new : Listed) (item : Item) → new.head ≡ old.head → new.items ≡ old.items ++ item ∷ []
    → lines_of (done ++ new ∷ []) ≡ lines_of (done ++ old ∷ []) ++ item_line item ∷ []
lines_extend done old new item h i =
    lines_append done (new ∷ []) ∙ ap (λ ls. lines_of done ++ ls) (one_extended old new item h i) ∙ sym (append_assoc (lines_of done) (lines_in old ++ []) (item_line item ∷ []))
    ∙ ap (λ ls. ls ++ item_line item ∷ []) (sym (lines_append done (old ∷ [])))

-- the number of one class more
pub numbers_begin : (n : ℕ) (done : List Listed) (class : Listed) → AreNumbered n done → class.number ≡ n + length (lines_of done) → AreNumbered n (done ++ class ∷ [])
numbers_begin n [] class h e = (omega (arith, e), tt)
numbers_begin n (d ∷ ds) class h e =
    (h.0, numbers_begin (n + length (lines_in d)) ds class h.1 (omega (arith, e, length-append (lines_in d) (lines_of ds))))

-- the numbers where the last class has one more item
pub numbers_extend : (n : ℕ) (done : List Listed) (old new : Listed) → new.number ≡ old.number → AreNumbered n (done ++ old ∷ []) → AreNumbered n (done ++ new ∷ [])
numbers_extend n [] old new e h = (e ∙ h.0, tt)
numbers_extend n (d ∷ ds) old new e h = (h.0, numbers_extend (n + length (lines_in d)) ds old new e h.1)

-- ---- one list of items is that of one list of classes

tail_of : {A : Type 0} (x y : A) (xs ys : List A) → x ∷ xs ≡ y ∷ ys → xs ≡ ys
tail_of x y xs ys h = cc

same_item : (a b : Item) (xs ys : List Line) → item_line a ∷ xs ≡ item_line b ∷ ys → a ≡ b
same_item a b xs ys h = cc

no_item : (a : Item) (ls : List Line) (classes : List Listed) → item_line a ∷ ls ≡ lines_of classes → ⊥
no_item a ls [] h = cc
no_item a ls (c ∷ cs) h = cc

record Halves (us vs : List Item) (xs ys : List Listed) : Type 0 where
  items : us ≡ vs
  others : lines_of xs ≡ lines_of ys

halves : (us vs : List Item) (xs ys : List Listed) → map item_line us ++ lines_of xs ≡ map item_line vs ++ lines_of ys → Halves us vs xs ys
halves [] [] xs ys h = record { items = refl; others = h }
halves [] (b ∷ vs) xs ys h = absurd (no_item b (map item_line vs ++ lines_of ys) xs (sym h))
halves (a ∷ us) [] xs ys h = absurd (no_item a (map item_line us ++ lines_of xs) ys h)
halves (a ∷ us) (b ∷ vs) xs ys h =
    let rest = halves us vs xs ys (tail_of _ _ _ _ h) in
    let e : a ≡ b = same_item a b _ _ h in
    record { items = ap (λ x. x ∷ us) e ∙ ap (λ is. b ∷ is) rest.items; others = rest.others }

same_listed : (x y : Listed) → x.number ≡ y.number → x.head ≡ y.head → x.items ≡ y.items → x ≡ y
same_listed x y a b c =
    ap (λ n. record { number = n; head = x.head; items = x.items }) a
    ∙ ap (λ h. record { number = y.number; head = h; items = x.items }) b
    ∙ ap (λ is. record { number = y.number; head = y.head; items = is }) c

same_head : (a b : Head) (xs ys : List Line) → line_kinds.Class a ∷ xs ≡ line_kinds.Class b ∷ ys → a ≡ b
same_head a b xs ys h = cc

pub same_classes : (n : ℕ) (xs ys : List Listed) → AreNumbered n xs → AreNumbered n ys → lines_of xs ≡ lines_of ys → xs ≡ ys
same_classes n [] [] g h e = refl
same_classes n [] (y ∷ ys) g h e = cc
same_classes n (x ∷ xs) [] g h e = cc
same_classes n (x ∷ xs) (y ∷ ys) g h e =
    let parts = halves x.items y.items xs ys (tail_of _ _ _ _ e) in
    let first : x ≡ y = same_listed x y (g.0 ∙ sym h.0) (same_head x.head y.head _ _ e) parts.items in
    let more : AreNumbered (n + length (lines_in x)) ys = subst (λ (c : Listed). AreNumbered (n + length (lines_in c)) ys) (sym first) h.1 in
    ap (λ c. c ∷ xs) first ∙ ap (λ cs. y ∷ cs) (same_classes (n + length (lines_in x)) xs ys g.1 more parts.others)
