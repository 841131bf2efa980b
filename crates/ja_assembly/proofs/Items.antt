-- The items before one, and what one more brings.
use Rattle.std.proofs.Common.{◌≡◌, ℕ, zero, suc, ◌+◌, true, List, [], ◌∷◌, ◌++◌, length, take, drop, slice_get, Option, Some, None, refl, ap, add-one}
use Rattle.std.proofs.lemmas.List.{append-nil}
use Rattle.std.proofs.lemmas.Bool.{false≢true}
use Rattle.std.proofs.lemmas.Grind.{flat_map-append}
use Rattle.ja_listing.specs.declared.item.Item.{Item}
use Rattle.ja_listing.specs.Listed.{Listed}
use Rattle.ja_assembly.specs.Members.{Body, expanded, fields, methods, instructions, ranges}
use Rattle.ja_assembly.specs.Unwritable.{expansion, before, method_before, body_has_code, body_ranges, body_instructions, instructions_from}
use Rattle.ja_assembly.proofs.Methods.{fields_append, methods_append, length_more, extended_last, last_more, last_new}

-- ---- the items before one, and those from it on

pub take_step : {A : Type 0} (xs : List A) (k : ℕ) (x : A) → slice_get xs k ≡ Some x → take (suc k) xs ≡ take k xs ++ x ∷ []
take_step [] k x h = cc
take_step (y ∷ xs) zero x h = let e : y ≡ x = cc in rw e refl
take_step (y ∷ xs) (suc k) x h = ap (λ (zs : List _). y ∷ zs) (take_step xs k x h)

pub drop_step : {A : Type 0} (xs : List A) (k : ℕ) (x : A) → slice_get xs k ≡ Some x → drop k xs ≡ x ∷ drop (suc k) xs
drop_step [] k x h = cc
drop_step (y ∷ xs) zero x h = let e : y ≡ x = cc in rw e refl
drop_step (y ∷ xs) (suc k) x h = drop_step xs k x h

pub before_step : (c : Listed) (k : ℕ) (item : Item) → slice_get c.items k ≡ Some item → before c (k + 1) ≡ before c k ++ expanded c.head.superclass item
before_step c k item h =
    rw (add-one, take_step c.items k item h, flat_map-append (expanded c.head.superclass) (take k c.items) (item ∷ []), append-nil (expanded c.head.superclass item)) refl

-- the instructions from an item on
pub from_step : (c : Listed) (k : ℕ) (item : Item) → slice_get c.items k ≡ Some item
    → instructions_from c k ≡ instructions (expanded c.head.superclass item ++ expansion c (drop (k + 1) c.items))
from_step c k item h = rw (add-one, drop_step c.items k item h) refl

-- ---- an item that begins no method

-- the last method before the next item
pub last_step : (c : Listed) (k : ℕ) (item : Item) → slice_get c.items k ≡ Some item → methods (expanded c.head.superclass item) ≡ []
    → method_before c (k + 1) ≡ extended_last (method_before c k) (expanded c.head.superclass item)
last_step c k item h none =
    rw (before_step c k item h, methods_append (before c k) (expanded c.head.superclass item))
    (last_more (methods (before c k)) (expanded c.head.superclass item) none)

pub first_step : (c : Listed) (k : ℕ) (item : Item) (m : Body) → slice_get c.items k ≡ Some item → methods (expanded c.head.superclass item) ≡ m ∷ []
    → method_before c (k + 1) ≡ Some m
first_step c k item m h one =
    rw (before_step c k item h, methods_append (before c k) (expanded c.head.superclass item))
    (last_new (methods (before c k)) (expanded c.head.superclass item) m one)

pub fields_step : (c : Listed) (k : ℕ) (item : Item) → slice_get c.items k ≡ Some item
    → fields (before c (k + 1)) ≡ fields (before c k) ++ fields (expanded c.head.superclass item)
fields_step c k item h = rw (before_step c k item h) (fields_append (before c k) (expanded c.head.superclass item))

pub methods_step : (c : Listed) (k : ℕ) (item : Item) → slice_get c.items k ≡ Some item
    → length (methods (before c (k + 1))) ≡ length (methods (before c k)) + length (methods (expanded c.head.superclass item))
methods_step c k item h =
    rw (before_step c k item h, methods_append (before c k) (expanded c.head.superclass item))
    (length_more (methods (before c k)) (expanded c.head.superclass item))

-- ---- the method that goes on

pub code_kept : (old : Option Body) (ys : List Item) → body_has_code (extended_last old ys) ≡ body_has_code old
code_kept None ys = refl
code_kept (Some b) ys = refl

pub ranges_same : (old : Option Body) (ys : List Item) → ranges ys ≡ [] → body_ranges (extended_last old ys) ≡ body_ranges old
ranges_same None ys h = refl
ranges_same (Some b) ys h = rw h (append-nil b.ranges)

pub instructions_same : (old : Option Body) (ys : List Item) → instructions ys ≡ [] → body_instructions (extended_last old ys) ≡ body_instructions old
instructions_same None ys h = refl
instructions_same (Some b) ys h = rw h (append-nil b.instructions)

pub ranges_grown : (old : Option Body) (ys : List Item) → body_has_code old ≡ true → body_ranges (extended_last old ys) ≡ body_ranges old ++ ranges ys
ranges_grown None ys h = absurd (false≢true h)
ranges_grown (Some b) ys h = refl

pub instructions_grown : (old : Option Body) (ys : List Item) → body_has_code old ≡ true → body_instructions (extended_last old ys) ≡ body_instructions old ++ instructions ys
instructions_grown None ys h = absurd (false≢true h)
instructions_grown (Some b) ys h = refl
