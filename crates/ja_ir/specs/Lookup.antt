-- Where the things of a program are found, and what their access flags say.
use Rattle.std.specs.Prelude.{◌≡◌, ℕ, ◌<◌, ◌==◌, ◌&&◌, Bool, false, not, bit_and, bytes_eq, List, [], ◌∷◌, Option, Some, None, Contains, length, slice_get, if◌then◌else◌}
use Rattle.ja_base.specs.AccessFlags.{acc_static, acc_abstract, acc_interface}
use Rattle.std.specs.List.{list_any, position_from}
use Rattle.ja_ir.specs.declared.program.Parts.{Parts}
use Rattle.ja_ir.specs.declared.class.ClassInfo.{ClassInfo}
use Rattle.ja_ir.specs.declared.class.Selection.{Selection}
use Rattle.ja_ir.specs.declared.class.Field.{Field}
use Rattle.ja_ir.specs.declared.class.MethodAt.{MethodAt}
use Rattle.ja_ir.specs.declared.class.MethodAt.TheVariants.{Library}
use Rattle.ja_ir.specs.declared.method.Method.{Method}
use Rattle.ja_ir.specs.declared.method.Instr.{Instr}
use Rattle.ja_ir.specs.declared.op.Op.{Op}

-- an access flag is set (JVM specification 4.1, 4.5, 4.6)
abbrev pub has_flag : (flags mask : ℕ) → Bool
has_flag flags mask = not (bit_and flags mask == 0)

-- ACC_STATIC: the field or method belongs to the class
abbrev pub is_static : (flags : ℕ) → Bool
is_static flags = has_flag flags acc_static

-- the field or method belongs to an object
abbrev pub is_member : (flags : ℕ) → Bool
is_member flags = not (is_static flags)

-- ACC_ABSTRACT: the class has no objects of its own, or the method has no code
abbrev pub is_abstract : (flags : ℕ) → Bool
is_abstract flags = has_flag flags acc_abstract

-- ACC_INTERFACE: the class is an interface
abbrev pub is_interface : (flags : ℕ) → Bool
is_interface flags = has_flag flags acc_interface

-- the method has instructions
abbrev pub HasCode : Method → Type 0
HasCode method = 0 < length method.code

-- the instructions of a method, if there is one
abbrev pub code_of : Option Method → List Instr
code_of None = []
code_of (Some method) = method.code

-- instruction i of method m
abbrev pub instr_at : Parts → (m i : ℕ) → Option Instr
instr_at p m i = slice_get (code_of (slice_get p.methods m)) i

-- instruction i of method m has this operation, and before it there are so many values on the stack
pub record OpAt (p : Parts) (m i : ℕ) (op : Op) (height : ℕ) : Type 0 where
  pub instr : Instr
  pub found : instr_at p m i ≡ Some instr
  pub is_op : instr.op ≡ op
  pub is_height : instr.height ≡ height

-- a normal end of instruction i of method m may lead to instruction j
pub record Leads (p : Parts) (m i j : ℕ) : Type 0 where
  pub instr : Instr
  pub found : instr_at p m i ≡ Some instr
  pub listed : Contains instr.next j

-- the program class of a name
abbrev pub class_named : Parts → List ℕ → Option ℕ
class_named p name = position_from (λ (class : ClassInfo). bytes_eq class.name name) 0 p.classes

-- the class, if there is one, has class c at or above it
abbrev pub has_above : Option ClassInfo → ℕ → Bool
has_above None c = false
has_above (Some class) c = list_any (λ s. s.0 == c) class.supers

-- the token is a program class at or below class c
abbrev pub at_or_below : Parts → (token c : ℕ) → Bool
at_or_below p token c = has_above (slice_get p.classes token) c

-- what the first selection of this name and descriptor answers, and the library where none has them
abbrev pub selection_among : (name desc : List ℕ) → List Selection → MethodAt
selection_among name desc [] = Library
selection_among name desc (s ∷ selections) =
    if bytes_eq s.name name && bytes_eq s.desc desc then s.target else selection_among name desc selections

-- the selections of a class, if there is one
abbrev pub selections_of : Option ClassInfo → List Selection
selections_of None = []
selections_of (Some class) = class.selections

-- what a virtual call on an object of this token selects (JVM specification 6.5, invokevirtual)
abbrev pub select : Parts → (token : ℕ) (name desc : List ℕ) → MethodAt
select p token name desc = selection_among name desc (selections_of (slice_get p.classes token))

-- the field is one that each object of class c has: it is not static, and c or a program supertype declares it
abbrev pub is_instance_field : Parts → (c : ℕ) → Field → Bool
is_instance_field p c field = is_member field.flags && at_or_below p c field.class.0
