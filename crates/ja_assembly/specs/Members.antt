-- What a listed class has: its fields, and its methods with their instructions and exception tables (JVM specification 4.5,
-- 4.6, 4.7.3). Nothing here speaks of bytes or of the constant pool.
use Rattle.std.specs.Prelude.{ℕ, ◌+◌, ◌-◌, ◌%◌, ◌^◌, Bool, false, not, ◌&&◌, ◌||◌, List, [], ◌∷◌, Option, Some, None, bytes_eq, codes, nat_lt, ◌==◌, if◌then◌else◌}
use Rattle.std.specs.List.{flat_map}
use Rattle.ja_code.specs.Number.{aload_0, invokespecial, return}
use Rattle.ja_code.specs.declared.form.Form.{Form}
use Rattle.ja_code.specs.Opcode.{form_at}
use Rattle.ja_code.specs.Faults.{front_size}
use Rattle.ja_listing.specs.declared.number.Number.{Number}
use Rattle.ja_listing.specs.declared.item.Frame.{Frame}
use Rattle.ja_listing.specs.declared.item.Operand.{Operand}
use Rattle.ja_listing.specs.declared.item.Operand.TheVariants.{Nothing, MethodName}
use Rattle.ja_listing.specs.declared.item.Item.{Item}
use Rattle.ja_listing.specs.declared.item.Item.TheVariants.{Field, Method, Initializer, Try, Instruction}
use Rattle.ja_listing.specs.Listed.{Listed}

-- ---- numbers in fields

-- a number fits an unsigned field of so many bits
abbrev pub fits : ℕ → Number → Bool
fits bits n = nat_lt n.size (2 ^ bits) && (not n.negative || n.size == 0)

-- a number fits a field of so many bits and a sign, in two's complement
abbrev pub fits_signed : ℕ → Number → Bool
fits_signed bits n = if n.negative then nat_lt n.size (2 ^ bits + 1) else nat_lt n.size (2 ^ bits)

-- the unsigned number whose bits stand for a number in two's complement
abbrev pub unsigned : ℕ → Number → ℕ
unsigned bits n = if n.negative then (2 ^ bits - n.size) % 2 ^ bits else n.size

abbrev pub plain_number : ℕ → Number
plain_number n = record { negative = false; size = n }

-- ---- the members of a class

-- a field or the head of a method
pub record Member : Type 0 where
  pub flags : Number
  pub name : List ℕ
  pub desc : List ℕ

-- an instruction of a method, and an entry of its exception table
pub record Labelled : Type 0 where
  pub label : Option (List ℕ)
  pub opcode : ℕ
  pub operand : Operand

pub record Range : Type 0 where
  pub start : List ℕ
  pub end : List ℕ
  pub handler : List ℕ
  pub catch : Option (List ℕ)

-- a method with its instructions and its entries, each in order
pub record Body : Type 0 where
  pub member : Member
  pub frame : Option Frame
  pub instructions : List Labelled
  pub ranges : List Range

abbrev pub instruction : ℕ → Operand → Item
instruction opcode operand = Instruction None opcode operand

-- the constructor that calls that of a superclass: `aload_0`, `invokespecial` and `return`
abbrev pub initializer_head : Item
initializer_head = Method (plain_number 1) (codes "<init>") (codes "()V") (Some (record { stack = plain_number 1; locals = plain_number 1 }))

abbrev pub initializer_call : List ℕ → Item
initializer_call superclass = instruction invokespecial (MethodName (record { class = superclass; name = codes "<init>"; desc = codes "()V" }))

abbrev pub initializer : List ℕ → List Item
initializer superclass = initializer_head ∷ instruction aload_0 Nothing ∷ initializer_call superclass ∷ instruction return Nothing ∷ []

-- what an item stands for
abbrev pub expanded : List ℕ → Item → List Item
expanded superclass (Field flags name desc) = Field flags name desc ∷ []
expanded superclass (Method flags name desc frame) = Method flags name desc frame ∷ []
expanded superclass Initializer = initializer superclass
expanded superclass (Try start end handler catch) = Try start end handler catch ∷ []
expanded superclass (Instruction label opcode operand) = Instruction label opcode operand ∷ []

-- the items that a listed class stands for
abbrev pub items_of_class : Listed → List Item
items_of_class class = flat_map (expanded class.head.superclass) class.items

-- the fields among items
abbrev pub fields : List Item → List Member
fields [] = []
fields (Field flags name desc ∷ items) = record { flags = flags; name = name; desc = desc } ∷ fields items
fields (Method flags name desc frame ∷ items) = fields items
fields (Initializer ∷ items) = fields items
fields (Try start end handler catch ∷ items) = fields items
fields (Instruction label opcode operand ∷ items) = fields items

-- the instructions up to the next method
abbrev pub instructions : List Item → List Labelled
instructions [] = []
instructions (Field flags name desc ∷ items) = instructions items
instructions (Method flags name desc frame ∷ items) = []
instructions (Initializer ∷ items) = instructions items
instructions (Try start end handler catch ∷ items) = instructions items
instructions (Instruction label opcode operand ∷ items) = record { label = label; opcode = opcode; operand = operand } ∷ instructions items

-- the entries of the exception table up to the next method
abbrev pub ranges : List Item → List Range
ranges [] = []
ranges (Field flags name desc ∷ items) = ranges items
ranges (Method flags name desc frame ∷ items) = []
ranges (Initializer ∷ items) = ranges items
ranges (Try start end handler catch ∷ items) = record { start = start; end = end; handler = handler; catch = catch } ∷ ranges items
ranges (Instruction label opcode operand ∷ items) = ranges items

-- the methods among items
abbrev pub methods : List Item → List Body
methods [] = []
methods (Field flags name desc ∷ items) = methods items
methods (Method flags name desc frame ∷ items) =
    record { member = record { flags = flags; name = name; desc = desc }; frame = frame; instructions = instructions items; ranges = ranges items }
    ∷ methods items
methods (Initializer ∷ items) = methods items
methods (Try start end handler catch ∷ items) = methods items
methods (Instruction label opcode operand ∷ items) = methods items

-- the instructions that items stand for, up to the next method, in a class with this superclass
abbrev pub instructions_in : List ℕ → List Item → List Labelled
instructions_in superclass items = instructions (flat_map (expanded superclass) items)

-- the entries of the exception table that they stand for
abbrev pub ranges_in : List ℕ → List Item → List Range
ranges_in superclass items = ranges (flat_map (expanded superclass) items)

-- ---- places in the code

abbrev pub size_of_form : Option Form → ℕ
size_of_form None = 0
size_of_form (Some form) = front_size form 0

-- the number of bytes of an instruction: its form alone tells it, since no switch is in the notation
abbrev pub size_of_opcode : ℕ → ℕ
size_of_opcode opcode = size_of_form (form_at opcode)

-- the number of bytes of instructions
abbrev pub code_size : List Labelled → ℕ
code_size [] = 0
code_size (i ∷ is) = size_of_opcode i.opcode + code_size is

abbrev pub is_label_of : List ℕ → Option (List ℕ) → Bool
is_label_of name None = false
is_label_of name (Some label) = bytes_eq label name

-- where the instruction with a label begins, where the first of all begins at pc
abbrev pub place_of_label : ℕ → List Labelled → List ℕ → Option ℕ
place_of_label pc [] name = None
place_of_label pc (i ∷ is) name =
    if is_label_of name i.label then Some pc
    else place_of_label (pc + size_of_opcode i.opcode) is name
