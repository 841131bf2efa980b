-- The name in the descriptor of a field.
use Rattle.std.proofs.Common.{◌≡◌, ℕ, ◌≤◌, inl, inr, zero, suc, Bool, List, [], ◌∷◌, ◌++◌, length, refl, sym, ap, ◌∙◌, arith, length-append}
use Rattle.std.specs.Prelude.{replicate}
use Rattle.std.proofs.lemmas.List.{take_at}
use Rattle.ja_base.specs.declared.java_type.Kind.{Kind}
use Rattle.ja_base.specs.declared.java_type.Kind.TheVariants.{P1, P2, R, T}
use Rattle.ja_base.specs.Descriptor.{IsClassName, IsLetter, IsArray, IsField, is_word_letter, is_pair_letter}
use Rattle.ja_bytes.specs.DescriptorText.{name_of}

letter_named : (test : ℕ → Bool) (text : List ℕ) → IsLetter test text → text ≡ name_of text
letter_named test [] letter = absurd letter
letter_named test (b ∷ []) letter = refl
letter_named test (b ∷ c ∷ bytes) letter = absurd letter

class_named : (text name : List ℕ) → IsClassName name → text ≡ 76 ∷ (name ++ 59 ∷ []) → name ≡ name_of text
class_named text [] class is = absurd class
class_named text (c ∷ name) class is =
    sym (ap name_of is ∙ take_at (c ∷ name) (59 ∷ []) (length (name ++ 59 ∷ [])) (omega (arith, length-append name (59 ∷ []))))

bracket_named : (text : List ℕ) → name_of (91 ∷ text) ≡ 91 ∷ text
bracket_named [] = refl
bracket_named (b ∷ text) = refl

brackets_named : (d : ℕ) (element : List ℕ) → 1 ≤ d → name_of (replicate d 91 ++ element) ≡ replicate d 91 ++ element
brackets_named zero element some = absurd (omega (arith, some))
brackets_named (suc d) element some = bracket_named (replicate d 91 ++ element)

array_named : (text : List ℕ) → IsArray text → text ≡ name_of text
array_named text array = array.parts ∙ sym (brackets_named array.dims array.element array.some) ∙ ap name_of (sym array.parts)

-- the name of a type is that in its descriptor
pub name_is : (text : List ℕ) (kind : Kind) (name : List ℕ) → IsField text (record { kind = kind; name = name }) → name ≡ name_of text
name_is text P1 name (inl plain) = plain.1 ∙ letter_named is_word_letter text plain.0
name_is text P2 name (inl plain) = plain.1 ∙ letter_named is_pair_letter text plain.0
name_is text R name (inl plain) = class_named text name plain.0 plain.1
name_is text T name (inl plain) = absurd plain
name_is text kind name (inr array) = array.1 ∙ array_named text array.2
