-- What an entry of a class refers to is asked for with it.
use Rattle.std.proofs.Common.{ℕ, List, [], ◌∷◌, ◌++◌, Option, Some, None, refl}
use Rattle.std.specs.List.{AllByRecursion}
use Rattle.ja_code.specs.Opcode.{form_at}
use Rattle.ja_listing.specs.declared.item.MemberName.{MemberName}
use Rattle.ja_listing.specs.declared.item.Head.{Head}
use Rattle.ja_listing.specs.declared.item.Frame.{Frame}
use Rattle.ja_listing.specs.declared.item.Operand.{Operand}
use Rattle.ja_listing.specs.declared.item.Operand.TheVariants.{Nothing, Constant, LocalAndConstant, Label, Quotation, ClassName, FieldName, MethodName, ArrayName}
use Rattle.ja_listing.specs.declared.item.Item.{Item}
use Rattle.ja_listing.specs.declared.item.Item.TheVariants.{Field, Method, Initializer, Try, Instruction}
use Rattle.ja_assembly.specs.declared.key.Key.{Key}
use Rattle.ja_assembly.specs.declared.key.Key.TheVariants.{Text, Class, NameAndType, Member}
use Rattle.ja_assembly.specs.Wanted.{class_keys, method_tag, member_keys, operand_keys, operand_strings, frame_keys, catch_keys, item_keys, item_strings, head_keys, keys_in, keys_of, strings_of}
use Rattle.ja_assembly.specs.Right.{IsIn, AreIn}
use Rattle.ja_assembly.proofs.Different.{in_front, in_back, all_mapped, all_append}

-- the entries to which an entry refers
abbrev pub parts : Key → List Key
parts (Text text) = []
parts (Class name) = Text name ∷ []
parts (NameAndType name desc) = Text name ∷ Text desc ∷ []
parts (Member tag class name desc) = Class class ∷ NameAndType name desc ∷ []

abbrev pub HasParts : List Key → Key → Type 0
HasParts all key = AreIn (parts key) all

-- what an entry of these refers to is one of these
abbrev pub IsClosed : List Key → Type 0
IsClosed keys = AllByRecursion (HasParts keys) keys

closed_append : (xs ys : List Key) → IsClosed xs → IsClosed ys → IsClosed (xs ++ ys)
closed_append xs ys front back =
    all_append (HasParts (xs ++ ys)) xs ys
    (all_mapped (HasParts xs) (HasParts (xs ++ ys)) xs (λ k. all_mapped (λ x. IsIn x xs) (λ x. IsIn x (xs ++ ys)) (parts k) (λ x. in_front x xs ys)) front)
    (all_mapped (HasParts ys) (HasParts (xs ++ ys)) ys (λ k. all_mapped (λ x. IsIn x ys) (λ x. IsIn x (xs ++ ys)) (parts k) (λ x. in_back x xs ys)) back)

class_closed : (name : List ℕ) → IsClosed (class_keys name)
class_closed name = (tt, (((0, refl), tt), tt))

member_closed : (tag : ℕ) (m : MemberName) → IsClosed (member_keys tag m)
member_closed tag m = (tt, (((0, refl), tt), (tt, (tt, (((2, refl), ((3, refl), tt)), (((1, refl), ((4, refl), tt)), tt))))))

operand_closed : (opcode : ℕ) (operand : Operand) → IsClosed (operand_keys opcode operand)
operand_closed opcode Nothing = tt
operand_closed opcode (Constant n) = tt
operand_closed opcode (LocalAndConstant local change) = tt
operand_closed opcode (Label name) = tt
operand_closed opcode (Quotation bytes) = (tt, tt)
operand_closed opcode (ClassName name) = class_closed name
operand_closed opcode (FieldName m) = member_closed 9 m
operand_closed opcode (MethodName m) = member_closed (method_tag (form_at opcode)) m
operand_closed opcode (ArrayName name dimensions) = class_closed name

head_of_method_closed : (name desc : List ℕ) (frame : Option Frame) → IsClosed (Text name ∷ Text desc ∷ frame_keys frame)
head_of_method_closed name desc None = (tt, (tt, tt))
head_of_method_closed name desc (Some frame) = (tt, (tt, (tt, tt)))

catch_closed : (catch : Option (List ℕ)) → IsClosed (catch_keys catch)
catch_closed None = tt
catch_closed (Some name) = class_closed name

item_closed : (item : Item) → IsClosed (item_keys item)
item_closed (Field flags name desc) = (tt, (tt, tt))
item_closed (Method flags name desc frame) = head_of_method_closed name desc frame
item_closed Initializer = tt
item_closed (Try start end handler catch) = catch_closed catch
item_closed (Instruction label opcode operand) = operand_closed opcode operand

items_closed : (items : List Item) → IsClosed (keys_in items)
items_closed [] = tt
items_closed (item ∷ items) = closed_append (item_keys item) (keys_in items) (item_closed item) (items_closed items)

pub keys_closed : (head : Head) (items : List Item) → IsClosed (keys_of head items)
keys_closed head items =
    closed_append (head_keys head) (keys_in items)
    (closed_append (class_keys head.name) (class_keys head.superclass) (class_closed head.name) (class_closed head.superclass))
    (items_closed items)

-- ---- the texts of strings

operand_texts : (opcode : ℕ) (operand : Operand) → AllByRecursion (λ t. IsIn (Text t) (operand_keys opcode operand)) (operand_strings operand)
operand_texts opcode Nothing = tt
operand_texts opcode (Constant n) = tt
operand_texts opcode (LocalAndConstant local change) = tt
operand_texts opcode (Label name) = tt
operand_texts opcode (Quotation bytes) = ((0, refl), tt)
operand_texts opcode (ClassName name) = tt
operand_texts opcode (FieldName m) = tt
operand_texts opcode (MethodName m) = tt
operand_texts opcode (ArrayName name dimensions) = tt

item_texts : (item : Item) → AllByRecursion (λ t. IsIn (Text t) (item_keys item)) (item_strings item)
item_texts (Field flags name desc) = tt
item_texts (Method flags name desc frame) = tt
item_texts Initializer = tt
item_texts (Try start end handler catch) = tt
item_texts (Instruction label opcode operand) = operand_texts opcode operand

items_texts : (items : List Item) → AllByRecursion (λ t. IsIn (Text t) (keys_in items)) (strings_of items)
items_texts [] = tt
items_texts (item ∷ items) =
    let here = item_keys item in
    let rest = keys_in items in
    all_append (λ t. IsIn (Text t) (here ++ rest)) (item_strings item) (strings_of items)
    (all_mapped (λ t. IsIn (Text t) here) (λ t. IsIn (Text t) (here ++ rest)) (item_strings item) (λ t. in_front (Text t) here rest) (item_texts item))
    (all_mapped (λ t. IsIn (Text t) rest) (λ t. IsIn (Text t) (here ++ rest)) (strings_of items) (λ t. in_back (Text t) here rest) (items_texts items))

pub texts_closed : (head : Head) (items : List Item) → AllByRecursion (λ t. IsIn (Text t) (keys_of head items)) (strings_of items)
texts_closed head items =
    all_mapped (λ t. IsIn (Text t) (keys_in items)) (λ t. IsIn (Text t) (keys_of head items)) (strings_of items)
    (λ t. in_back (Text t) (head_keys head) (keys_in items)) (items_texts items)
