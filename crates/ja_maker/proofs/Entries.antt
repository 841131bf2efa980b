-- The entries of a list, written one after the other.
use Rattle.std.proofs.Common.{◌≡◌, ℕ, zero, suc, ◌+◌, List, [], ◌∷◌, ◌++◌, take, map, slice_get, Some, None, refl, sym, ap, ◌∙◌, append_assoc, add-one}
use Rattle.std.specs.List.{flat_map}
use Rattle.std.proofs.lemmas.List.{append-nil, map-append}
use Rattle.std.proofs.lemmas.Grind.{flat_map-append}
use Rattle.ja_pool.specs.Entry.{Entry, spelling}
use Rattle.ja_assembly.proofs.Items.{take_step}

step : {A : Type 0} (f : A → Entry) (xs : List A) (k : ℕ) (x : A) → slice_get xs k ≡ Some x
    → flat_map spelling (map f (take (k + 1) xs)) ≡ flat_map spelling (map f (take k xs)) ++ spelling (f x)
step f xs k x h =
    rw (add-one, take_step xs k x h, map-append f (take k xs) (x ∷ []), flat_map-append spelling (map f (take k xs)) (f x ∷ []), append-nil (spelling (f x))) refl

-- one more
pub one_more : {A : Type 0} (f : A → Entry) (xs : List A) (k : ℕ) (x : A) (o before after : List ℕ) → slice_get xs k ≡ Some x
    → before ≡ o ++ flat_map spelling (map f (take k xs)) → after ≡ before ++ spelling (f x) → after ≡ o ++ flat_map spelling (map f (take (k + 1) xs))
one_more f xs k x o before after h e g =
    g ∙ ap (λ bytes. bytes ++ spelling (f x)) e ∙ append_assoc o (flat_map spelling (map f (take k xs))) (spelling (f x)) ∙ ap (λ bytes. o ++ bytes) (sym (step f xs k x h))

all_taken : {A : Type 0} (xs : List A) (k : ℕ) → slice_get xs k ≡ None → take k xs ≡ xs
all_taken [] zero h = refl
all_taken [] (suc k) h = refl
all_taken (x ∷ xs) zero h = cc
all_taken (x ∷ xs) (suc k) h = ap (λ (ys : List _). x ∷ ys) (all_taken xs k h)

-- all
pub all_written : {A : Type 0} (f : A → Entry) (xs : List A) (k : ℕ) (o out : List ℕ) → slice_get xs k ≡ None
    → out ≡ o ++ flat_map spelling (map f (take k xs)) → out ≡ o ++ flat_map spelling (map f xs)
all_written f xs k o out h e = e ∙ ap (λ (ys : List _). o ++ flat_map spelling (map f ys)) (all_taken xs k h)
