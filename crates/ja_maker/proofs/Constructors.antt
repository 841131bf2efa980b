-- The bytes of the constructor that only calls that of the superclass.
use Rattle.std.proofs.Common.{◌≡◌, ℕ, List, [], ◌∷◌, ◌++◌, Option, refl, append_assoc}
use Rattle.std.specs.Prelude.{codes}
use Rattle.std.proofs.lemmas.List.{append-nil}
use Rattle.ja_code.specs.Opcode.{form_at}
use Rattle.ja_attributes.specs.Attribute.{code_bytes, attributes_bytes}
use Rattle.ja_class.specs.ClassFile.{member_bytes}
use Rattle.ja_listing.specs.declared.item.MemberName.{MemberName}
use Rattle.ja_listing.specs.declared.item.Operand.TheVariants.{Nothing, MethodName}
use Rattle.ja_listing.specs.declared.item.Item.{Item}
use Rattle.ja_assembly.specs.Members.{Labelled, place_of_label, instructions_in, ranges_in}
use Rattle.ja_assembly.specs.Assembled.{Pool, u2, text_index, operand_bytes, instruction_bytes, code_of, method_info}
use Rattle.ja_maker.specs.InnerConstructor.{initializer_code, initializer_frame, constructor_body}

-- its code
pub constructor_is : (pool : Pool) (labels : List ℕ → Option ℕ) (superclass : List ℕ) (m : MemberName) (is : List Labelled) (o p q r s : List ℕ) → o ≡ []
    → p ≡ o ++ 42 ∷ operand_bytes pool labels 0 (form_at 42) Nothing → q ≡ p ++ 183 ∷ operand_bytes pool labels 1 (form_at 183) (MethodName m)
    → r ≡ q ++ 177 ∷ operand_bytes pool labels 4 (form_at 177) Nothing → s ≡ r ++ instruction_bytes pool labels 5 is
    → m ≡ record { class = superclass; name = codes "<init>"; desc = codes "()V" } → s ≡ instruction_bytes pool labels 0 (initializer_code superclass ++ is)
unfolding form_at
constructor_is pool labels superclass m is o p q r s ho hp hq hr hs e = rw (hs, hr, hq, hp, ho, e) (simp (append_assoc, append-nil))

-- its labels
pub constructor_labels : (superclass : List ℕ) (is : List Labelled) (name : List ℕ) → place_of_label 5 is name ≡ place_of_label 0 (initializer_code superclass ++ is) name
unfolding form_at
constructor_labels superclass is name = refl

-- the whole method
pub constructor_whole : (pool : Pool) (superclass above : List ℕ) (behind : List Item) (content o p q : List ℕ)
    → content ≡ code_bytes (code_of pool (initializer_code superclass ++ instructions_in above behind) (ranges_in above behind) initializer_frame)
    → p ≡ o ++ (u2 1 ++ (u2 (text_index pool (codes "<init>")) ++ u2 (text_index pool (codes "()V"))))
    → q ≡ p ++ attributes_bytes (record { attribute_name_index = text_index pool (codes "Code"); info = content } ∷ [])
    → q ≡ o ++ member_bytes (method_info pool (constructor_body superclass above behind))
constructor_whole pool superclass above behind content o p q c hp hq = rw (hq, hp, c) (simp append_assoc)
