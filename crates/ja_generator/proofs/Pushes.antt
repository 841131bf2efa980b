-- Items and files that are put one behind the other.
use Rattle.std.proofs.Common.{◌≡◌, ℕ, ◌+◌, List, [], ◌∷◌, ◌++◌, ap, ap₂, ◌∙◌, append_assoc, add-one}
use Rattle.ja_base.specs.declared.file.File.{File}
use Rattle.ja_class.specs.ClassFile.{spelling}
use Rattle.ja_listing.specs.declared.item.Item.{Item}
use Rattle.ja_listing.specs.Listed.{Listed}
use Rattle.ja_assembly.specs.Assembled.{file_of}
use Rattle.ja_generator.specs.Drawn.{drawn_after, drawn, file_name}
use Rattle.ja_generator.specs.Made.{class_by, file_by, made_files}

module _ (o : List Item) where
  pub two : (p q : List Item) (a b x y : Item) → p ≡ o ++ a ∷ [] → q ≡ p ++ b ∷ [] → a ≡ x → b ≡ y → q ≡ o ++ x ∷ y ∷ []
  two p q a b x y hp hq ha hb = rw (hq, hp, ha, hb) (simp append_assoc)

  pub five : (p q r s t : List Item) (a b c d e v w x y z : Item) → p ≡ o ++ a ∷ [] → q ≡ p ++ b ∷ [] → r ≡ q ++ c ∷ [] → s ≡ r ++ d ∷ [] → t ≡ s ++ e ∷ []
      → a ≡ v → b ≡ w → c ≡ x → d ≡ y → e ≡ z → t ≡ o ++ v ∷ w ∷ x ∷ y ∷ z ∷ []
  five p q r s t a b c d e v w x y z hp hq hr hs ht ha hb hc hd he = rw (ht, hs, hr, hq, hp, ha, hb, hc, hd, he) (simp append_assoc)

-- the file of a class
pub file_is : (x i : ℕ) (class : Listed) (name bytes : List ℕ) → class ≡ class_by x i → name ≡ file_name i → bytes ≡ spelling (file_of class)
    → (let file : File = record { name = name; bytes = bytes } in file) ≡ file_by x i
file_is x i class name bytes c n b =
    ap₂ (λ (n b : List ℕ). (let file : File = record { name = n; bytes = b } in file)) n (b ∙ ap (λ (c : Listed). spelling (file_of c)) c)

-- one more class
module _ (number i : ℕ) where
  pub next_drawn : (x y : ℕ) → x ≡ drawn number i → y ≡ drawn_after x → y ≡ drawn number (i + 1)
  next_drawn x y h e = rw (add-one i) (e ∙ ap drawn_after h)

  pub more_files : (x y : ℕ) (files new : List File) (file : File) → x ≡ drawn number i → y ≡ drawn_after x → files ≡ made_files number i → file ≡ file_by y i
      → new ≡ files ++ file ∷ [] → new ≡ made_files number (i + 1)
  more_files x y files new file h e made is pushed =
      rw (add-one i) (pushed ∙ ap₂ (λ (fs : List File) (f : File). fs ++ f ∷ []) made (is ∙ ap (λ (n : ℕ). file_by n i) (e ∙ ap drawn_after h)))
