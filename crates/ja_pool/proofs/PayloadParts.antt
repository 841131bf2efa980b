-- What stands behind a tag.
use Rattle.std.proofs.Common.{◌≡◌, ℕ, ◌⊎◌, inl, inr, Bool, true, false, List, [], ◌∷◌, ◌++◌, refl, sym, ap, subst, ◌∙◌, append_assoc, arith, length-append}
use Rattle.std.specs.Prelude.{IsTrue, ◌||◌, ◌==◌}
use Rattle.std.proofs.lemmas.Bool.{false≢true, eqb-true}
use Rattle.ja_base.specs.Descriptor.{is_one_of}
use Rattle.ja_bytes.specs.Reading.{Reading, Passes}
use Rattle.ja_pool.specs.Entry.{is_number_tag, is_wide_tag, is_single_tag, is_pair_tag}
use Rattle.ja_pool.specs.Pool.{fields_behind}

-- what holds of each of the letters holds of one of them
abbrev pub ForEach : (ℕ → Type 0) → List ℕ → Type 0
ForEach P [] = Unit {0}
ForEach P (n ∷ ns) = P n × ForEach P ns

either : (p q : Bool) → (p || q) ≡ true → (p ≡ true) ⊎ (q ≡ true)
either true q e = inl refl
either false q e = inr e

pub one_of_each : (P : ℕ → Type 0) (ns : List ℕ) (n : ℕ) → IsTrue (is_one_of ns n) → ForEach P ns → P n
one_of_each P [] n h each = absurd (false≢true h)
one_of_each P (m ∷ ns) n h each =
    elim (either (n == m) (is_one_of ns n) h) [
      | inl e ↦ subst P (sym (eqb-true n m e)) each.0
      | inr g ↦ one_of_each P ns n g each.1
    ]

-- ---- the fields behind a tag of each form

pub number_fields : (tag : ℕ) (bytes : List ℕ) → IsTrue (is_number_tag tag) → fields_behind tag bytes ≡ 4 ∷ []
number_fields tag bytes h = one_of_each (λ n. fields_behind n bytes ≡ 4 ∷ []) (3 ∷ 4 ∷ []) tag h (refl, (refl, tt))

pub wide_fields : (tag : ℕ) (bytes : List ℕ) → IsTrue (is_wide_tag tag) → fields_behind tag bytes ≡ 8 ∷ []
wide_fields tag bytes h = one_of_each (λ n. fields_behind n bytes ≡ 8 ∷ []) (5 ∷ 6 ∷ []) tag h (refl, (refl, tt))

pub single_fields : (tag : ℕ) (bytes : List ℕ) → IsTrue (is_single_tag tag) → fields_behind tag bytes ≡ 2 ∷ []
single_fields tag bytes h = one_of_each (λ n. fields_behind n bytes ≡ 2 ∷ []) (7 ∷ 8 ∷ 16 ∷ []) tag h (refl, (refl, (refl, tt)))

pub pair_fields : (tag : ℕ) (bytes : List ℕ) → IsTrue (is_pair_tag tag) → fields_behind tag bytes ≡ 2 ∷ 2 ∷ []
pair_fields tag bytes h = one_of_each (λ n. fields_behind n bytes ≡ 2 ∷ 2 ∷ []) (9 ∷ 10 ∷ 11 ∷ 12 ∷ 18 ∷ []) tag h (refl, (refl, (refl, (refl, (refl, tt)))))

-- ---- fields that are cut off

-- ---- what is passed

pub passes_both : (old mid new : Reading) (a b : List ℕ) → Passes old mid a → Passes mid new b → Passes old new (a ++ b)
passes_both old mid new a b p q = record {
  parts = p.parts ∙ ap (λ (t : List ℕ). a ++ t) q.parts ∙ sym (append_assoc a b new.rest);
  place = omega (arith, p.place, q.place, length-append a b);
}

-- ---- tags

-- ---- entries
