-- What stands at the front of a text, and its first part.
use Rattle.std.proofs.Common.{◌≡◌, ℕ, suc, ◌+◌, ◌<◌, ◌≤◌, Bool, true, false, cond, List, [], ◌∷◌, length, take, drop, get_or, nat_lt, Some, None, refl, arith}
use Rattle.std.specs.List.{position, position_or_len}
use Rattle.std.proofs.lemmas.Bool.Decides.{nat_tests}
use Rattle.ja_listing.specs.declared.glyph.Glyph.{Glyph}
use Rattle.ja_listing.specs.declared.glyph.Glyph.TheVariants.{End}
use Rattle.ja_listing.specs.Text.{glyph, glyphs, opens, at_parting, grown, parted}

-- two semicolons part items
pub parting_first : (within : Bool) (text : List ℕ) → at_parting within text ≡ true → glyphs within text ≡ End ∷ glyphs false (drop 2 text)
unfolding glyphs
parting_first within [] h = cc
parting_first within (b ∷ []) h = cc
parting_first within (b ∷ c ∷ rest) h = rw h refl

pub parting_inside : (within : Bool) (text : List ℕ) → at_parting within text ≡ true → 2 ≤ length text
parting_inside within [] h = cc
parting_inside within (b ∷ []) h = cc
parting_inside within (b ∷ c ∷ rest) h = omega arith

-- any other byte is one of a text
pub byte_first : (within : Bool) (text : List ℕ) → 0 < length text → at_parting within text ≡ false
    → glyphs within text ≡ glyph within (get_or text 0 0) ∷ glyphs (opens within (get_or text 0 0)) (drop 1 text)
unfolding glyphs
byte_first within [] some h = absurd (omega arith)
byte_first within (b ∷ []) some h = refl
byte_first within (b ∷ c ∷ rest) some h = rw h refl

regroup : (parts : Glyph → Bool) (g : Glyph) (gs : List Glyph) (n : ℕ) → parted parts gs ≡ take n gs ∷ parted parts (drop (suc n) gs)
    → grown g (parted parts gs) ≡ take (1 + n) (g ∷ gs) ∷ parted parts (drop (suc (1 + n)) (g ∷ gs))
regroup parts g gs n h = let e : 1 + n ≡ suc n = omega arith in rw (h, e) refl

first_part : (parts : Glyph → Bool) (g : Glyph) (gs : List Glyph) (b : Bool) → parts g ≡ b
    → parted parts (g ∷ gs) ≡ take (position_or_len parts (g ∷ gs)) (g ∷ gs) ∷ parted parts (drop (suc (position_or_len parts (g ∷ gs))) (g ∷ gs))
unfolding parted
first_part parts g gs true e = rw e refl
first_part parts g [] false e = rw e refl
first_part parts g (h ∷ hs) false e = rw e (regroup parts g (h ∷ hs) (position_or_len parts (h ∷ hs)) (first_part parts h hs (parts h) refl))

-- the first part of a text and those behind it
pub part_at : (parts : Glyph → Bool) (text : List Glyph) → 0 < length text
    → parted parts text ≡ take (position_or_len parts text) text ∷ parted parts (drop (position_or_len parts text + 1) text)
part_at parts [] some = absurd (omega arith)
part_at parts (g ∷ gs) some =
    let e : position_or_len parts (g ∷ gs) + 1 ≡ suc (position_or_len parts (g ∷ gs)) = omega arith in
    rw e (first_part parts g gs (parts g) refl)

inside_by : (parts : Glyph → Bool) (g : Glyph) (gs : List Glyph) (b : Bool) → parts g ≡ b → position_or_len parts gs ≤ length gs → position_or_len parts (g ∷ gs) ≤ length (g ∷ gs)
inside_by parts g gs true e h = rw e (omega arith)
inside_by parts g gs false e h = rw e (omega arith)

-- no part is longer than its text
pub part_inside : (parts : Glyph → Bool) (text : List Glyph) → position_or_len parts text ≤ length text
part_inside parts [] = omega arith
part_inside parts (g ∷ gs) = inside_by parts g gs (parts g) refl (part_inside parts gs)

from_some : (b : Bool) (n m : ℕ) → cond b (Some n) None ≡ Some m → m ≡ n
from_some true n m h = cc
from_some false n m h = cc

-- a place that is found is the length of the first part
pub len_from_some : (parts : Glyph → Bool) (text : List Glyph) (n : ℕ) → position parts text ≡ Some n → n ≡ position_or_len parts text
len_from_some parts text n h = from_some (nat_lt (position_or_len parts text) (length text)) (position_or_len parts text) n h

from_none : (a b : ℕ) → a ≤ b → cond (nat_lt a b) (Some a) None ≡ None → b ≡ a
from_none a b le h = grind (arith, nat_tests)

-- where none is found, the whole text is the first part
pub len_from_none : (parts : Glyph → Bool) (text : List Glyph) → position parts text ≡ None → length text ≡ position_or_len parts text
len_from_none parts text h = from_none (position_or_len parts text) (length text) (part_inside parts text) h
