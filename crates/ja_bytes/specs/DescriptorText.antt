-- The texts of which descriptors consist.
use Rattle.std.specs.Prelude.{◌≡◌, ℕ, ◌≤◌, List, [], ◌∷◌, ◌++◌, length, take, Option, ◌==◌, if◌then◌else◌}
use Rattle.ja_base.specs.declared.java_type.Kind.{Kind}
use Rattle.ja_base.specs.declared.java_type.JavaType.{JavaType}
use Rattle.ja_base.specs.Kind.{words_of}
use Rattle.ja_base.specs.Descriptor.{IsClassName, IsPlain, IsField, AreFields, IsResult, words_of_all, IsMethod}

-- a class name and the ';' that ends it
pub record IsClassText (text : List ℕ) : Type 0 where
  pub name : List ℕ
  pub class : IsClassName name
  pub parts : text ≡ name ++ 59 ∷ []

-- a type that is no array, of no more words than there is room for
pub record IsPlainText (room : ℕ) (text : List ℕ) : Type 0 where
  pub kind : Kind
  pub name : List ℕ
  pub plain : IsPlain text kind name
  pub fits : words_of kind ≤ room

-- a type of no more words than there is room for
pub record IsFieldText (room : ℕ) (text : List ℕ) : Type 0 where
  pub type : JavaType
  pub field : IsField text type
  pub fits : words_of type.kind ≤ room

-- a result
pub record IsResultText (text : List ℕ) : Type 0 where
  pub result : Option JavaType
  pub ends : IsResult text result

-- the descriptor of a field
pub record IsFieldDesc (text : List ℕ) : Type 0 where
  pub type : JavaType
  pub field : IsField text type

-- the descriptor of a method
pub record IsMethodText (text : List ℕ) : Type 0 where
  pub params : List JavaType
  pub result : Option JavaType
  pub method : IsMethod text params result

-- the text spells parameters of these types, which take no more words than there is room for, and the ')' behind them
pub record SpellsParams (room : ℕ) (text : List ℕ) (params : List JavaType) : Type 0 where
  pub inner : List ℕ
  pub fields : AreFields inner params
  pub most : words_of_all params ≤ room
  pub parts : text ≡ inner ++ 41 ∷ []

-- parameters of no more words than there is room for, and the ')' behind them
pub record IsParamsText (room : ℕ) (text : List ℕ) : Type 0 where
  pub params : List JavaType
  pub spells : SpellsParams room text params

-- the name in the text of a type: that of a class, or the whole text
abbrev pub name_of : List ℕ → List ℕ
name_of [] = []
name_of (b ∷ []) = b ∷ []
name_of (b ∷ c ∷ bytes) = if b == 76 then take (length bytes) (c ∷ bytes) else b ∷ c ∷ bytes
