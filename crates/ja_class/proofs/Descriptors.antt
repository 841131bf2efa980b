-- Descriptors of the entries of a pool, and of methods with their receiver.
use Rattle.std.proofs.Common.{◌≡◌, ℕ, zero, suc, ◌+◌, ◌<◌, ◌≤◌, ◌⊎◌, inl, inr, Bool, true, false, List, [], ◌∷◌, length, get_or, Option, None, refl, sym, ap, subst, ◌∙◌, arith}
use Rattle.std.specs.Prelude.{IsTrue, MatchBool, nat_le}
use Rattle.std.specs.List.{AllByRecursion}
use Rattle.std.proofs.lemmas.Bool.{false≢true, leb-true, leb-false, cases_eq, cases_lt, cases_Bool}
use Rattle.ja_base.specs.declared.java_type.JavaType.{JavaType}
use Rattle.ja_base.specs.Descriptor.{IsMethod, words_of_all}
use Rattle.ja_bytes.specs.Reading.{Reading}
use Rattle.ja_bytes.specs.DescriptorText.{IsFieldDesc, IsMethodText}
use Rattle.ja_bytes.proofs.MethodText.{method_unique}
use Rattle.ja_bytes.proofs.Exact.{Decided, field_or_wrong, method_or_wrong}
use Rattle.ja_pool.specs.Table.{Table, Placed, entry_tag, entry_place, tags_of}
use Rattle.ja_class.specs.declared.fault.ClassFault.TheVariants.{BadDesc}
use Rattle.ja_class.specs.Member.{field_tag, is_method_tag, entry_desc, HasDescriptor, receiver_words, IsMethodDesc}
use Rattle.ja_class.specs.ClassFault.{descriptors}

-- ---- methods with their receiver

module _ (flags words : ℕ) (text : List ℕ) (params : List JavaType) (result : Option JavaType) where
  too_many : IsMethod text params result → words ≡ words_of_all params → 255 < words + receiver_words flags → IsMethodDesc flags text → ⊥
  too_many method sum more desc =
      let same = method_unique text desc.params params desc.result result desc.method method in
      omega (arith, sum, more, desc.words, ap words_of_all same.0)

  -- the descriptor is right where its words are few
  pub words_decide : IsMethod text params result → words ≡ words_of_all params → MatchBool (nat_le (words + receiver_words flags) 255) (IsMethodDesc flags text) (IsMethodDesc flags text → ⊥)
  words_decide method sum = by (nat_le (words + receiver_words flags) 255) refl
    where
      by : (b : Bool) → nat_le (words + receiver_words flags) 255 ≡ b → MatchBool b (IsMethodDesc flags text) (IsMethodDesc flags text → ⊥)
      by true e = record { params = params; result = result; method = method; words = omega (arith, sum, leb-true (words + receiver_words flags) 255 e) }
      by false e = too_many method sum (leb-false (words + receiver_words flags) 255 e)

pub method_decided : (flags : ℕ) (text : List ℕ) → Decided (IsMethodDesc flags text)
method_decided flags text = elim (method_or_wrong text) [
  | inl m ↦ decided m (cases_lt 255 (words_of_all m.params + receiver_words flags))
  | inr wrong ↦ inr (λ desc. wrong.1.none (record { params = desc.params; result = desc.result; method = desc.method }))
]
  where
    decided : (m : IsMethodText text) → (255 < words_of_all m.params + receiver_words flags) ⊎ (words_of_all m.params + receiver_words flags ≤ 255) → Decided (IsMethodDesc flags text)
    decided m (inl more) = inr (too_many flags (words_of_all m.params) text m.params m.result m.method refl more)
    decided m (inr few) = inl (record { params = m.params; result = m.result; method = m.method; words = few })

pub field_decided : (text : List ℕ) → Decided (IsFieldDesc text)
field_decided text = elim (field_or_wrong text) [ inl f ↦ inl f | inr wrong ↦ inr wrong.1.none ]

text_decided : (text : List ℕ) → Decided (IsMethodText text)
text_decided text = elim (method_or_wrong text) [ inl m ↦ inl m | inr wrong ↦ inr wrong.1.none ]

-- ---- entries

pub tag_seen : (table : Table) (i : ℕ) → get_or (tags_of table) i 0 ≡ entry_tag (get_or table i None)
tag_seen [] i = refl
tag_seen (entry ∷ table) zero = refl
tag_seen (entry ∷ table) (suc i) = tag_seen table i

not_field : (tag : ℕ) → IsTrue (is_method_tag tag) → tag ≡ field_tag → ⊥
not_field tag h e = false≢true (sym (ap is_method_tag e) ∙ h)

module _ (table : Table) (entry : Option Placed) where
  -- the entry refers to a field, or to a method
  as_field : entry_tag entry ≡ field_tag → IsFieldDesc (entry_desc table entry) → HasDescriptor table entry
  as_field tag desc = record { field = λ e. desc; method = λ h. absurd (not_field (entry_tag entry) h tag) }

  as_method : IsTrue (is_method_tag (entry_tag entry)) → IsMethodText (entry_desc table entry) → HasDescriptor table entry
  as_method tag desc = record { field = λ e. absurd (not_field (entry_tag entry) tag e); method = λ h. desc }

  pub field_right : (right : Bool) (text : List ℕ) → entry_tag entry ≡ field_tag → text ≡ entry_desc table entry → MatchBool right (IsFieldDesc text) (IsFieldDesc text → ⊥)
      → MatchBool right (HasDescriptor table entry) (HasDescriptor table entry → ⊥)
  field_right true text tag e h = as_field tag (subst IsFieldDesc e h)
  field_right false text tag e h = λ has. h (subst IsFieldDesc (sym e) (has.field tag))

  pub method_right : (right : Bool) (text : List ℕ) → IsTrue (is_method_tag (entry_tag entry)) → text ≡ entry_desc table entry → MatchBool right (IsMethodText text) (IsMethodText text → ⊥)
      → MatchBool right (HasDescriptor table entry) (HasDescriptor table entry → ⊥)
  method_right true text tag e h = as_method tag (subst IsMethodText e h)
  method_right false text tag e h = λ has. h (subst IsMethodText (sym e) (has.method tag))

  -- other entries have none
  pub no_descriptor : (entry_tag entry ≡ field_tag → ⊥) → is_method_tag (entry_tag entry) ≡ false → HasDescriptor table entry
  no_descriptor field method = record { field = λ e. absurd (field e); method = λ h. absurd (false≢true (sym method ∙ h)) }

  pub entry_decided : Decided (HasDescriptor table entry)
  entry_decided = elim (cases_eq (entry_tag entry) field_tag) [
    | inl tag ↦ elim (field_decided (entry_desc table entry)) [
      | inl desc ↦ inl (as_field tag desc)
      | inr wrong ↦ inr (λ has. wrong (has.field tag))
    ]
    | inr other ↦ elim (cases_Bool (is_method_tag (entry_tag entry))) [
      | inl tag ↦ elim (text_decided (entry_desc table entry)) [
        | inl desc ↦ inl (as_method tag desc)
        | inr wrong ↦ inr (λ has. wrong (has.method tag))
      ]
      | inr also ↦ inl (no_descriptor other also)
    ]
  ]

-- ---- entries in their order

module _ (table : Table) where
  pub all_right : (old : Reading) (entries : Table) → AllByRecursion (HasDescriptor table) entries → (descriptors table entries).passes old tt old
  all_right old [] each = (refl, refl)
  all_right old (entry ∷ entries) each = (tt, old, (each.0, refl), all_right old entries each.1)

  pub right_each : (old new : Reading) (u : Unit {0}) (entries : Table) → (descriptors table entries).passes old u new → AllByRecursion (HasDescriptor table) entries × (new ≡ old)
  right_each old new u [] p = (tt, p.1)
  right_each old new u (entry ∷ entries) p =
      let more = right_each p.1 new u entries p.3 in
      ((p.2.0, more.0), more.1 ∙ p.2.1)

  pub each_right : (entries : Table) → ((k : ℕ) → k < length entries → HasDescriptor table (get_or entries k None)) → AllByRecursion (HasDescriptor table) entries
  each_right [] h = tt
  each_right (entry ∷ entries) h = (h 0 (omega arith), each_right entries (λ k lt. h (suc k) (omega (arith, lt))))

  pub first_wrong : (old : Reading) (entries : Table) (i : ℕ) → i < length entries → ((k : ℕ) → k < i → HasDescriptor table (get_or entries k None))
      → (HasDescriptor table (get_or entries i None) → ⊥) → (descriptors table entries).fault old (BadDesc (entry_place (get_or entries i None)))
  first_wrong old [] i lt before wrong = absurd (omega (arith, lt))
  first_wrong old (entry ∷ entries) zero lt before wrong = inl (wrong, refl)
  first_wrong old (entry ∷ entries) (suc i) lt before wrong =
      inr (tt, old, (before 0 (omega arith), refl), first_wrong old entries i (omega (arith, lt)) (λ k less. before (suc k) (omega (arith, less))) wrong)
