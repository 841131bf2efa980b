-- Attributes of fields, methods and code, as bytes, and what they say (JVM specification 4.7).
use Rattle.std.specs.Prelude.{◌≡◌, ℕ, ◌<◌, ◌≤◌, ◌^◌, Bool, true, false, IsTrue, List, [], ◌∷◌, ◌++◌, length, codes, bytes_eq, Option, Some, None}
use Rattle.std.specs.Int.{w16, w32, to_be_bytes}
use Rattle.std.specs.List.{flat_map, filter, AllByRecursion}
use Rattle.ja_base.specs.Tag as pool_tag
use Rattle.ja_base.specs.Descriptor.{is_one_of}
use Rattle.ja_bytes.specs.Reading.{Reading, Passes}
use Rattle.ja_pool.specs.Table.{Table, tag_at, text_at, tags_of, dims_of}
use Rattle.ja_code.specs.declared.handler.RawHandler.{RawHandler}
use Rattle.ja_code.specs.Grammar.{Spells}
use Rattle.ja_attributes.specs.declared.code.MethodCode.{MethodCode}

-- an attribute (4.7): the pool index of its name, and its content
pub record AttributeInfo : Type 0 where
  pub attribute_name_index : ℕ
  pub info : List ℕ

-- the bytes of an attribute: the index of its name, the length of its content, and the content
abbrev pub attribute_bytes : AttributeInfo → List ℕ
attribute_bytes a = to_be_bytes w16 a.attribute_name_index ++ (to_be_bytes w32 (length a.info) ++ a.info)

-- an attribute fits its fields, and its name is a text of the pool
pub record IsAttribute (table : Table) (a : AttributeInfo) : Type 0 where
  pub index : a.attribute_name_index < 2 ^ 16
  pub size : length a.info < 2 ^ 32
  pub name : tag_at table a.attribute_name_index ≡ pool_tag.utf8

-- whether the text at an index is this name
abbrev pub is_named : Table → List ℕ → ℕ → Bool
is_named table name index = bytes_eq (text_at table index) name

-- those of the attributes that have this name
abbrev pub named : Table → List ℕ → List AttributeInfo → List AttributeInfo
named table name attributes = filter (λ a. is_named table name a.attribute_name_index) attributes

-- the bytes of attributes: their number, and one after another
abbrev pub attributes_bytes : List AttributeInfo → List ℕ
attributes_bytes attributes = to_be_bytes w16 (length attributes) ++ flat_map attribute_bytes attributes

-- a reader passes these attributes
pub record PassesAttributes (table : Table) (old new : Reading) (attributes : List AttributeInfo) : Type 0 where
  pub few : length attributes < 2 ^ 16
  pub each : AllByRecursion (IsAttribute table) attributes
  pub passes : Passes old new (attributes_bytes attributes)

-- ---- attributes that say nothing here

-- a reader passes attributes, whatever they are
pub record PassesAny (table : Table) (old new : Reading) : Type 0 where
  pub attributes : List AttributeInfo
  pub passes : PassesAttributes table old new attributes

-- ---- fields: ConstantValue (4.7.2)

-- Integer, Float, Long, Double, String
abbrev pub is_value_tag : ℕ → Bool
is_value_tag = is_one_of (pool_tag.integer ∷ pool_tag.float ∷ pool_tag.long ∷ pool_tag.double ∷ pool_tag.string ∷ [])

-- the content of a ConstantValue attribute: the pool index of the constant
pub record IsConstantValue (table : Table) (info : List ℕ) (index : ℕ) : Type 0 where
  pub fits : index < 2 ^ 16
  pub bytes : info ≡ to_be_bytes w16 index
  pub names : IsTrue (is_value_tag (tag_at table index))

-- what the ConstantValue attributes of a field say: there is none, or one that names a constant
abbrev pub SayConstant : Table → List AttributeInfo → Option ℕ → Type 0
SayConstant table [] None = Unit {0}
SayConstant table [] (Some index) = ⊥
SayConstant table (a ∷ []) None = ⊥
SayConstant table (a ∷ []) (Some index) = IsConstantValue table a.info index
SayConstant table (a ∷ b ∷ attributes) constant = ⊥

-- a reader passes the attributes of a field, which say this
pub record PassesField (table : Table) (old new : Reading) (constant : Option ℕ) : Type 0 where
  pub attributes : List AttributeInfo
  pub passes : PassesAttributes table old new attributes
  pub say : SayConstant table (named table (codes "ConstantValue") attributes) constant

-- ---- methods: Code (4.7.3)

-- the content of a Code attribute
pub record CodeAttribute : Type 0 where
  pub max_stack : ℕ
  pub max_locals : ℕ
  pub code : List ℕ
  pub exception_table : List RawHandler
  pub attributes : List AttributeInfo

-- the bytes of an entry of the exception table
abbrev pub handler_bytes : RawHandler → List ℕ
handler_bytes h = to_be_bytes w16 h.start ++ (to_be_bytes w16 h.end ++ (to_be_bytes w16 h.handler ++ to_be_bytes w16 h.catch_type))

-- an entry of the exception table fits its fields
pub record IsHandler (h : RawHandler) : Type 0 where
  pub start : h.start < 2 ^ 16
  pub end : h.end < 2 ^ 16
  pub handler : h.handler < 2 ^ 16
  pub catch_type : h.catch_type < 2 ^ 16

-- the bytes of the content: the frame's size, the code behind its length, the exception table behind its length, and the
-- attributes
abbrev pub code_bytes : CodeAttribute → List ℕ
code_bytes a =
    to_be_bytes w16 a.max_stack ++ (to_be_bytes w16 a.max_locals
    ++ (to_be_bytes w32 (length a.code) ++ (a.code
    ++ (to_be_bytes w16 (length a.exception_table) ++ (flat_map handler_bytes a.exception_table
    ++ attributes_bytes a.attributes)))))

-- the content fits its fields, its code has 1 to 65,535 bytes, and its attributes have names
pub record IsCodeAttribute (table : Table) (a : CodeAttribute) : Type 0 where
  pub stack : a.max_stack < 2 ^ 16
  pub locals : a.max_locals < 2 ^ 16
  pub some : 1 ≤ length a.code
  pub short : length a.code ≤ 65535
  pub few : length a.exception_table < 2 ^ 16
  pub handlers : AllByRecursion IsHandler a.exception_table
  pub few_attributes : length a.attributes < 2 ^ 16
  pub attributes : AllByRecursion (IsAttribute table) a.attributes

-- the content of a Code attribute, and the code that it spells
pub record IsCode (table : Table) (info : List ℕ) (spelled : MethodCode) : Type 0 where
  pub attribute : CodeAttribute
  pub is : IsCodeAttribute table attribute
  pub bytes : info ≡ code_bytes attribute
  pub spells : Spells attribute.code (tags_of table) (dims_of table) attribute.exception_table spelled.code
  pub stack : spelled.max_stack ≡ attribute.max_stack
  pub locals : spelled.max_locals ≡ attribute.max_locals

-- what the Code attributes of a method say: one gives its code where it needs one, and else there is none
abbrev pub SayCode : Table → (needs_code : Bool) → List AttributeInfo → Option MethodCode → Type 0
SayCode table false [] None = Unit {0}
SayCode table false [] (Some code) = ⊥
SayCode table false (a ∷ attributes) code = ⊥
SayCode table true [] code = ⊥
SayCode table true (a ∷ []) None = ⊥
SayCode table true (a ∷ []) (Some code) = IsCode table a.info code
SayCode table true (a ∷ b ∷ attributes) code = ⊥

-- a reader passes the attributes of a method, which say this
pub record PassesMethod (table : Table) (needs_code : Bool) (old new : Reading) (code : Option MethodCode) : Type 0 where
  pub attributes : List AttributeInfo
  pub passes : PassesAttributes table old new attributes
  pub say : SayCode table needs_code (named table (codes "Code") attributes) code
