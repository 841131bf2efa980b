-- Parts that are written one behind the other.
use Rattle.std.specs.Prelude.{codes}
use Rattle.std.proofs.Common.{◌≡◌, ℕ, List, [], ◌++◌, length, Option, sym, ap, ◌∙◌, append_assoc, Some, ◌∷◌}
use mathlib.Core.Path.{fun_ext}
use Rattle.std.proofs.lemmas.List.{length-map}
use Rattle.ja_attributes.specs.Attribute.{code_bytes, attributes_bytes}
use Rattle.ja_listing.specs.declared.item.Frame.{Frame}
use Rattle.ja_assembly.specs.Members.{Labelled, Range, place_of_label}
use Rattle.ja_assembly.specs.Assembled.{Pool, u2, u4, row_of, instruction_bytes, code_of, text_index, attributes_of}
use Rattle.ja_maker.specs.InnerWriting.{rows_in, content_bytes}

module _ (o a b c d e f g : List ℕ) where
  pub seven : (p q r s t u v : List ℕ) → p ≡ o ++ a → q ≡ p ++ b → r ≡ q ++ c → s ≡ r ++ d → t ≡ s ++ e → u ≡ t ++ f → v ≡ u ++ g
      → v ≡ o ++ (a ++ (b ++ (c ++ (d ++ (e ++ (f ++ g))))))
  seven p q r s t u v hp hq hr hs ht hu hv = rw (hv, hu, ht, hs, hr, hq, hp) (simp append_assoc)

-- the content of a code's attribute, where the labels are those of its instructions
pub content_is : (pool : Pool) (labels : List ℕ → Option ℕ) (is : List Labelled) (rs : List Range) (frame : Frame) (code content : List ℕ)
    → ((name : List ℕ) → labels name ≡ place_of_label 0 is name) → code ≡ instruction_bytes pool labels 0 is → content ≡ content_bytes pool labels frame code rs
    → content ≡ code_bytes (code_of pool is rs frame)
content_is pool labels is rs frame code content l c e =
    e ∙ ap (λ (bytes : List ℕ). content_bytes pool labels frame bytes rs) c
    ∙ ap (λ (ls : List ℕ → Option ℕ). content_bytes pool ls frame (instruction_bytes pool ls 0 is) rs) (fun_ext l)
    ∙ ap (λ (n : ℕ). u2 frame.stack.size ++ (u2 frame.locals.size ++ (u4 (length (instruction_bytes pool (place_of_label 0 is) 0 is)) ++ (instruction_bytes pool (place_of_label 0 is) 0 is
    ++ (u2 n ++ (rows_in pool (place_of_label 0 is) rs ++ u2 0)))))) (sym (length-map rs (row_of pool (place_of_label 0 is))))

-- a field or a method, whose attributes stand behind its front
pub front_then : (o a b c d p q : List ℕ) → p ≡ o ++ (a ++ (b ++ c)) → q ≡ p ++ d → q ≡ o ++ (a ++ (b ++ (c ++ d)))
front_then o a b c d p q hp hq = rw (hq, hp) (simp append_assoc)

-- the attributes of a method with a frame
pub attributes_are : (pool : Pool) (is : List Labelled) (rs : List Range) (frame : Option Frame) (f : Frame) (content o n : List ℕ) → frame ≡ Some f
    → content ≡ code_bytes (code_of pool is rs f) → n ≡ o ++ attributes_bytes (record { attribute_name_index = text_index pool (codes "Code"); info = content } ∷ [])
    → n ≡ o ++ attributes_bytes (attributes_of pool is rs frame)
attributes_are pool is rs frame f content o n h c e =
    e ∙ ap (λ (info : List ℕ). o ++ attributes_bytes (record { attribute_name_index = text_index pool (codes "Code"); info = info } ∷ [])) c
    ∙ ap (λ (g : Option Frame). o ++ attributes_bytes (attributes_of pool is rs g)) (sym h)
