-- Field and method descriptors (JVM specification 4.3.2, 4.3.3), as relations between bytes and types.
use Rattle.std.specs.Prelude.{◌≡◌, ◌≢◌, ℕ, ◌<◌, ◌≤◌, ◌⊎◌, Bool, List, [], ◌∷◌, ◌++◌, ◌==◌, IsTrue, Option, Some, None, codes, replicate, sum_by}
use Rattle.std.specs.List.{list_any}
use Rattle.ja_base.specs.declared.java_type.Kind.{Kind}
use Rattle.ja_base.specs.declared.java_type.Kind.TheVariants.{P1, P2, R, T}
use Rattle.ja_base.specs.declared.java_type.JavaType.{JavaType}
use Rattle.ja_base.specs.declared.java_type.Desc.{Desc}
use Rattle.ja_base.specs.Kind.{words_of}

-- one of the letters
abbrev pub is_one_of : List ℕ → ℕ → Bool
is_one_of letters b = list_any (λ letter. b == letter) letters

-- the letter of a primitive type of one word: byte, char, float, int, short, boolean
abbrev pub is_word_letter : ℕ → Bool
is_word_letter = is_one_of (codes "BCFISZ")

-- the letter of a primitive type of two words: double, long
abbrev pub is_pair_letter : ℕ → Bool
is_pair_letter = is_one_of (codes "DJ")

-- a byte of a part of a class name: none of . ; [ /
abbrev pub IsPartByte : ℕ → Type 0
IsPartByte b = (b < 256) × (b ≢ 46) × (b ≢ 59) × (b ≢ 91) × (b ≢ 47)

-- a class name: parts of one or more bytes, parted by '/'
abbrev pub IsClassName : List ℕ → Type 0
IsClassName [] = ⊥
IsClassName (b ∷ []) = IsPartByte b
IsClassName (b ∷ c ∷ bytes) = IsPartByte b × (((c ≡ 47) × IsClassName bytes) ⊎ IsClassName (c ∷ bytes))

-- one byte, which is such a letter
abbrev pub IsLetter : (ℕ → Bool) → List ℕ → Type 0
IsLetter test [] = ⊥
IsLetter test (b ∷ []) = IsTrue (test b)
IsLetter test (b ∷ c ∷ bytes) = ⊥

-- the text spells a type of this kind and name that is no array: a letter, or a class name between 'L' and ';'
abbrev pub IsPlain : List ℕ → Kind → List ℕ → Type 0
IsPlain text P1 name = IsLetter is_word_letter text × (name ≡ text)
IsPlain text P2 name = IsLetter is_pair_letter text × (name ≡ text)
IsPlain text R name = IsClassName name × (text ≡ 76 ∷ (name ++ 59 ∷ []))
IsPlain text T name = ⊥

-- the text spells an array: 1 to 255 '[', and a type that is no array
pub record IsArray (text : List ℕ) : Type 0 where
  pub dims : ℕ
  pub element : List ℕ
  pub kind : Kind
  pub name : List ℕ
  pub some : 1 ≤ dims
  pub most : dims ≤ 255
  pub plain : IsPlain element kind name
  pub parts : text ≡ replicate dims 91 ++ element

-- the text is the descriptor of a field of this type
abbrev pub IsField : List ℕ → JavaType → Type 0
IsField text type = IsPlain text type.kind type.name ⊎ ((type.kind ≡ R) × (type.name ≡ text) × IsArray text)

-- the text spells these types, one after another
abbrev pub AreFields : List ℕ → List JavaType → Type 0
AreFields text [] = text ≡ []
AreFields text (type ∷ types) = (first : List ℕ) × (rest : List ℕ) × (text ≡ first ++ rest) × IsField first type × AreFields rest types

-- the text spells a result: 'V' for none, or a type
abbrev pub IsResult : List ℕ → Option JavaType → Type 0
IsResult text None = text ≡ 86 ∷ []
IsResult text (Some type) = IsField text type

-- the words that parameters of these types take
abbrev pub words_of_all : List JavaType → ℕ
words_of_all types = sum_by (λ type. words_of type.kind) types

-- the text is the descriptor of a method of these parameters and this result: the parameters, which take at most 255
-- words, between '(' and ')', and the result
pub record IsMethod (text : List ℕ) (params : List JavaType) (result : Option JavaType) : Type 0 where
  pub inner : List ℕ
  pub last : List ℕ
  pub parts : text ≡ 40 ∷ (inner ++ 41 ∷ last)
  pub fields : AreFields inner params
  pub most : words_of_all params ≤ 255
  pub ends : IsResult last result

-- the text is the descriptor of a method of these types
pub record AreTypes (text : List ℕ) (types : Desc) : Type 0 where
  pub spelled : IsMethod text types.params types.result
  pub words : types.words ≡ words_of_all types.params
