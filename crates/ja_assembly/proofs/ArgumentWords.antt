-- The words that are counted byte by byte are those of the parameters.
use Rattle.std.proofs.Common.{◌≡◌, ◌≢◌, ℕ, zero, suc, ◌+◌, ◌≤◌, inl, inr, List, [], ◌∷◌, ◌++◌, Option, refl, sym, ap, subst, ◌∙◌, append_assoc, arith}
use Rattle.std.specs.Prelude.{IsTrue, replicate, ◌==◌}
use Rattle.std.proofs.lemmas.Bool.{cases_Bool, eqb-true, cases_eq, false≢true}
use Rattle.std.proofs.lemmas.List.Sums.{sum_by-cons}
use Rattle.ja_base.specs.declared.java_type.Kind.{Kind}
use Rattle.ja_base.specs.declared.java_type.Kind.TheVariants.{P1, P2, R, T}
use Rattle.ja_base.specs.declared.java_type.JavaType.{JavaType}
use Rattle.ja_base.specs.Kind.{words_of}
use Rattle.ja_base.specs.Descriptor.{is_one_of, is_word_letter, is_pair_letter, IsPartByte, IsClassName, IsPlain, IsField, AreFields, words_of_all, IsMethod}
use Rattle.ja_assembly.specs.declared.argument.Part.TheVariants.{Plain, Array, Name}
use Rattle.ja_assembly.specs.Arguments.{words_from, argument_words}

-- what holds of each of the letters
abbrev AllOf : (ℕ → Type 0) → List ℕ → Type 0
AllOf P [] = Unit {0}
AllOf P (l ∷ ls) = P l × AllOf P ls

one_of : (P : ℕ → Type 0) (letters : List ℕ) → AllOf P letters → (b : ℕ) → IsTrue (is_one_of letters b) → P b
one_of P [] h b t = absurd (false≢true t)
one_of P (l ∷ ls) h b t = elim (cases_eq b l) [
  | inl e ↦ subst P (sym e) h.0
  | inr other ↦ one_of P ls h.1 b (behind b l ls other t)
]
  where
    behind : (b l : ℕ) (ls : List ℕ) → b ≢ l → IsTrue (is_one_of (l ∷ ls) b) → IsTrue (is_one_of ls b)
    behind b l ls other t = elim (cases_Bool (b == l)) [ inl same ↦ absurd (other (eqb-true b l same)) | inr f ↦ rw (f) at t ]

skip : (n : ℕ) → 0 + n ≡ n
skip n = omega arith

-- the types that are one letter
word : (b : ℕ) (rest : List ℕ) → IsTrue (is_word_letter b) → words_from Plain (b ∷ rest) ≡ 1 + words_from Plain rest
word b rest h = one_of (λ (b : ℕ). words_from Plain (b ∷ rest) ≡ 1 + words_from Plain rest) (66 ∷ 67 ∷ 70 ∷ 73 ∷ 83 ∷ 90 ∷ []) (refl, (refl, (refl, (refl, (refl, (refl, tt)))))) b h

pair : (b : ℕ) (rest : List ℕ) → IsTrue (is_pair_letter b) → words_from Plain (b ∷ rest) ≡ 2 + words_from Plain rest
pair b rest h = one_of (λ (b : ℕ). words_from Plain (b ∷ rest) ≡ 2 + words_from Plain rest) (68 ∷ 74 ∷ []) (refl, (refl, tt)) b h

word_in : (b : ℕ) (rest : List ℕ) → IsTrue (is_word_letter b) → words_from Array (b ∷ rest) ≡ 1 + words_from Plain rest
word_in b rest h = one_of (λ (b : ℕ). words_from Array (b ∷ rest) ≡ 1 + words_from Plain rest) (66 ∷ 67 ∷ 70 ∷ 73 ∷ 83 ∷ 90 ∷ []) (refl, (refl, (refl, (refl, (refl, (refl, tt)))))) b h

pair_in : (b : ℕ) (rest : List ℕ) → IsTrue (is_pair_letter b) → words_from Array (b ∷ rest) ≡ 1 + words_from Plain rest
pair_in b rest h = one_of (λ (b : ℕ). words_from Array (b ∷ rest) ≡ 1 + words_from Plain rest) (68 ∷ 74 ∷ []) (refl, (refl, tt)) b h

-- a name brings none
inside : (b : ℕ) (rest : List ℕ) → IsPartByte b → words_from Name (b ∷ rest) ≡ words_from Name rest
inside b rest p = elim (cases_Bool (b == 59)) [ inl same ↦ absurd (p.2 (eqb-true b 59 same)) | inr f ↦ rw f (skip (words_from Name rest)) ]

named : (name rest : List ℕ) → IsClassName name → words_from Name (name ++ 59 ∷ rest) ≡ words_from Plain rest
named [] rest h = absurd h
named (b ∷ []) rest h = inside b (59 ∷ rest) h ∙ skip (words_from Plain rest)
named (b ∷ c ∷ name) rest (p, inl slash) = inside b (c ∷ (name ++ 59 ∷ rest)) p ∙ ap (λ (d : ℕ). words_from Name (d ∷ (name ++ 59 ∷ rest))) slash.0 ∙ skip (words_from Name (name ++ 59 ∷ rest)) ∙ named name rest slash.1
named (b ∷ c ∷ name) rest (p, inr more) = inside b (c ∷ (name ++ 59 ∷ rest)) p ∙ named (c ∷ name) rest more

-- a type that is no array
plain : (text : List ℕ) (kind : Kind) (name rest : List ℕ) → IsPlain text kind name → words_from Plain (text ++ rest) ≡ words_of kind + words_from Plain rest
plain [] P1 name rest h = absurd h.0
plain (b ∷ []) P1 name rest h = word b rest h.0
plain (b ∷ c ∷ text) P1 name rest h = absurd h.0
plain [] P2 name rest h = absurd h.0
plain (b ∷ []) P2 name rest h = pair b rest h.0
plain (b ∷ c ∷ text) P2 name rest h = absurd h.0
plain text R name rest h = rw (h.1, append_assoc name (59 ∷ []) rest, named name rest h.0) refl
plain text T name rest h = absurd h

-- one behind brackets
element : (text : List ℕ) (kind : Kind) (name rest : List ℕ) → IsPlain text kind name → words_from Array (text ++ rest) ≡ 1 + words_from Plain rest
element [] P1 name rest h = absurd h.0
element (b ∷ []) P1 name rest h = word_in b rest h.0
element (b ∷ c ∷ text) P1 name rest h = absurd h.0
element [] P2 name rest h = absurd h.0
element (b ∷ []) P2 name rest h = pair_in b rest h.0
element (b ∷ c ∷ text) P2 name rest h = absurd h.0
element text R name rest h = rw (h.1, append_assoc name (59 ∷ []) rest, named name rest h.0) refl
element text T name rest h = absurd h

brackets : (dims : ℕ) (rest : List ℕ) → words_from Array (replicate dims 91 ++ rest) ≡ words_from Array rest
brackets zero rest = refl
brackets (suc dims) rest = skip (words_from Array (replicate dims 91 ++ rest)) ∙ brackets dims rest

array : (dims : ℕ) (rest : List ℕ) → 1 ≤ dims → words_from Plain (replicate dims 91 ++ rest) ≡ words_from Array rest
array zero rest h = absurd (omega (arith, h))
array (suc dims) rest h = skip (words_from Array (replicate dims 91 ++ rest)) ∙ brackets dims rest

-- a type
one : (text : List ℕ) (type : JavaType) (rest : List ℕ) → IsField text type → words_from Plain (text ++ rest) ≡ words_of type.kind + words_from Plain rest
one text type rest (inl h) = plain text type.kind type.name rest h
one text type rest (inr h) =
    let a = h.2 in
    rw (h.0, a.parts, append_assoc (replicate a.dims 91) a.element rest, array a.dims (a.element ++ rest) a.some) (element a.element a.kind a.name rest a.plain)

-- types up to the ')'
all : (text : List ℕ) (types : List JavaType) (rest : List ℕ) → AreFields text types → words_from Plain (text ++ 41 ∷ rest) ≡ words_of_all types
all text [] rest h = rw h refl
all text (type ∷ types) rest (first, behind, parts, field, fields) =
    rw (parts, append_assoc first behind (41 ∷ rest), one first type (behind ++ 41 ∷ rest) field, all behind types rest fields, sum_by-cons (λ (type : JavaType). words_of type.kind) type types) refl

-- the words of the arguments of a method
pub words_are : (text : List ℕ) (params : List JavaType) (result : Option JavaType) → IsMethod text params result → argument_words text ≡ 1 + words_of_all params
words_are text params result h = rw h.parts (ap (λ (n : ℕ). 1 + n) (skip (words_from Plain (h.inner ++ 41 ∷ h.last)) ∙ all h.inner params h.last h.fields))
