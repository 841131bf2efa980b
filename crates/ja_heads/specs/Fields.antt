-- The fields of a program.
use Rattle.std.specs.Prelude.{◌≡◌, ℕ, suc, List, [], ◌∷◌, ◌++◌, map}
use Rattle.ja_ir.specs.declared.head.ClassHead.{ClassHead}
use Rattle.ja_ir.specs.declared.head.HeadField.{HeadField}
use Rattle.ja_ir.specs.declared.class.Field.{Field}

-- a field that class c declares
abbrev pub field_of : (c : ℕ) → HeadField → Field
field_of c field = record { class = record { 0 = c }; name = field.name; desc = field.desc; flags = field.flags; text = field.text }

-- the fields that these classes declare, of which the first has number c, in the order of the classes and, in a class, as declared
abbrev pub fields_from : (c : ℕ) → List ClassHead → List Field
fields_from c [] = []
fields_from c (head ∷ heads) = map (field_of c) head.fields ++ fields_from (suc c) heads

-- the fields of all classes
abbrev pub AreFields : List ClassHead → List Field → Type 0
AreFields heads fields = fields ≡ fields_from 0 heads
