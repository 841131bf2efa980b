-- What a class asks of its constant pool (JVM specification 4.4).
use Rattle.std.specs.Prelude.{ℕ, ◌+◌, Bool, List, [], ◌∷◌, ◌++◌, length, fold, Option, Some, None, bytes_eq, codes, if◌then◌else◌}
use Rattle.std.specs.List.{flat_map, list_any}
use Rattle.ja_code.specs.declared.form.Form.{Form}
use Rattle.ja_code.specs.declared.form.Form.TheVariants as forms
use Rattle.ja_code.specs.Opcode.{form_at}
use Rattle.ja_listing.specs.declared.item.MemberName.{MemberName}
use Rattle.ja_listing.specs.declared.item.Head.{Head}
use Rattle.ja_listing.specs.declared.item.Frame.{Frame}
use Rattle.ja_listing.specs.declared.item.Operand.{Operand}
use Rattle.ja_listing.specs.declared.item.Operand.TheVariants.{Nothing, Constant, LocalAndConstant, Label, Quotation, ClassName, FieldName, MethodName, ArrayName}
use Rattle.ja_listing.specs.declared.item.Item.{Item}
use Rattle.ja_listing.specs.declared.item.Item.TheVariants.{Field, Method, Initializer, Try, Instruction}
use Rattle.ja_assembly.specs.declared.key.Key.{Key}
use Rattle.ja_assembly.specs.declared.key.Key.TheVariants.{Text, Class, NameAndType, Member}
use Rattle.ja_assembly.specs.contracts.key.KeyPartialEq.TheImpl.{ghosts}
use Rattle.ja_base.specs.Tag as pool_tag

-- whether two entries are the same, as `==` compares them
abbrev pub same_key : Key → Key → Bool
same_key = ghosts.eq

-- one more, if none of those before is the same
abbrev pub with_one : {A : Type 0} → (A → A → Bool) → List A → A → List A
with_one same before x = if list_any (same x) before then before else before ++ x ∷ []

-- each different one, once, in the order of first use
abbrev pub different : {A : Type 0} → (A → A → Bool) → List A → List A
different same xs = fold (with_one same) [] xs

-- the entries of a class: its name, and what says that it is a class
abbrev pub class_keys : List ℕ → List Key
class_keys name = Text name ∷ Class name ∷ []

-- the tag of the entries that name the methods of an opcode: those of an interface, or of a class
abbrev pub method_tag : Option Form → ℕ
method_tag (Some forms.Interface) = pool_tag.interface_method
method_tag _ = pool_tag.method

-- the entries of a member with a tag
abbrev pub member_keys : ℕ → MemberName → List Key
member_keys tag m =
    Text m.class ∷ Class m.class ∷ Text m.name ∷ Text m.desc ∷ NameAndType m.name m.desc ∷ Member tag m.class m.name m.desc ∷ []

-- the entries that the operand of an opcode names, but for strings
abbrev pub operand_keys : ℕ → Operand → List Key
operand_keys opcode Nothing = []
operand_keys opcode (Constant n) = []
operand_keys opcode (LocalAndConstant local change) = []
operand_keys opcode (Label name) = []
operand_keys opcode (Quotation bytes) = Text bytes ∷ []
operand_keys opcode (ClassName name) = class_keys name
operand_keys opcode (FieldName m) = member_keys pool_tag.field m
operand_keys opcode (MethodName m) = member_keys (method_tag (form_at opcode)) m
operand_keys opcode (ArrayName name dimensions) = class_keys name

-- the strings that an operand names
abbrev pub operand_strings : Operand → List (List ℕ)
operand_strings Nothing = []
operand_strings (Constant n) = []
operand_strings (LocalAndConstant local change) = []
operand_strings (Label name) = []
operand_strings (Quotation bytes) = bytes ∷ []
operand_strings (ClassName name) = []
operand_strings (FieldName m) = []
operand_strings (MethodName m) = []
operand_strings (ArrayName name dimensions) = []

-- the name of the attribute of a method's code
abbrev pub frame_keys : Option Frame → List Key
frame_keys None = []
frame_keys (Some frame) = Text (codes "Code") ∷ []

-- the entries of what is caught
abbrev pub catch_keys : Option (List ℕ) → List Key
catch_keys None = []
catch_keys (Some name) = class_keys name

-- the entries that an item names, but for strings
abbrev pub item_keys : Item → List Key
item_keys (Field flags name desc) = Text name ∷ Text desc ∷ []
item_keys (Method flags name desc frame) = Text name ∷ Text desc ∷ frame_keys frame
item_keys Initializer = []
item_keys (Try start end handler catch) = catch_keys catch
item_keys (Instruction label opcode operand) = operand_keys opcode operand

-- the strings that an item names
abbrev pub item_strings : Item → List (List ℕ)
item_strings (Field flags name desc) = []
item_strings (Method flags name desc frame) = []
item_strings Initializer = []
item_strings (Try start end handler catch) = []
item_strings (Instruction label opcode operand) = operand_strings operand

-- the entries that the item that begins a class names
abbrev pub head_keys : Head → List Key
head_keys head = class_keys head.name ++ class_keys head.superclass

-- the entries that items name, but for strings
abbrev pub keys_in : List Item → List Key
keys_in items = flat_map item_keys items

-- the entries that a class with these items asks for, but for strings
abbrev pub keys_of : Head → List Item → List Key
keys_of head items = head_keys head ++ keys_in items

-- the strings that it asks for
abbrev pub strings_of : List Item → List (List ℕ)
strings_of items = flat_map item_strings items

-- the strings of its pool, each once, and the other entries
abbrev pub pool_strings : List Item → List (List ℕ)
pool_strings items = different bytes_eq (strings_of items)

abbrev pub pool_keys : Head → List Item → List Key
pool_keys head items = different same_key (keys_of head items)

-- the number of entries of a pool that has each different one once
abbrev pub entries : Head → List Item → ℕ
entries head items = length (pool_strings items) + length (pool_keys head items)
