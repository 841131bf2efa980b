-- What the class that a class file says has of a listed class (JVM specification 4.1, 4.5, 4.6, 4.7.3).
use Rattle.std.specs.Prelude.{◌≡◌, Bool, true, false, List, [], ◌∷◌, map, Option, Some, None}
use Rattle.ja_code.specs.declared.code.Code.{Code}
use Rattle.ja_pool.specs.Table.{Table}
use Rattle.ja_ir.specs.declared.head.HeadField.{HeadField}
use Rattle.ja_ir.specs.declared.head.HeadMethod.{HeadMethod}
use Rattle.ja_class.specs.declared.class.ClassMethod.{ClassMethod}
use Rattle.ja_class.specs.Meaning.{ClassSpelled}
use Rattle.ja_listing.specs.declared.item.Frame.{Frame}
use Rattle.ja_listing.specs.Number.{has_code}
use Rattle.ja_listing.specs.Listed.{Listed}
use Rattle.ja_assembly.specs.Members.{Member, Body, items_of_class, fields, methods}
use Rattle.ja_assembly.specs.Wanted.{pool_strings}
use Rattle.ja_assembly.specs.Written.{SaysCode, IsOrdered}

-- a listed field; none begins as a constant text
abbrev pub head_field : Member → HeadField
head_field m = record { name = m.name; desc = m.desc; flags = m.flags.size; text = false }

-- a listed method, apart from its code
abbrev pub head_method : Body → HeadMethod
head_method b = record { name = b.member.name; desc = b.member.desc; flags = b.member.flags.size }

-- a method has code, and it is the listed one
pub record HasListedCode (table : Table) (body : Body) (frame : Frame) (m : ClassMethod) : Type 0 where
  pub code : Code
  pub has_it : m.code ≡ Some code
  pub says : SaysCode table body frame m.max_stack m.max_locals code

-- the code of a method that has some by its flags, or not
abbrev pub HasCodeOf : Table → Body → Option Frame → (code : Bool) → ClassMethod → Type 0
HasCodeOf table body frame false m = m ≡ record { code = None; max_stack = 0; max_locals = 0 }
HasCodeOf table body None true m = ⊥
HasCodeOf table body (Some frame) true m = HasListedCode table body frame m

-- the codes of methods, in order
abbrev pub HaveCodesOf : Table → List Body → List ClassMethod → Type 0
HaveCodesOf table [] [] = Unit {0}
HaveCodesOf table [] (m ∷ ms) = ⊥
HaveCodesOf table (b ∷ bs) [] = ⊥
HaveCodesOf table (b ∷ bs) (m ∷ ms) = HasCodeOf table b b.frame (has_code b.member.flags) m × HaveCodesOf table bs ms

-- a class has what was listed, and no more
pub record IsAsListed (c : Listed) (class : ClassSpelled) : Type 0 where
  pub name : class.head.name ≡ c.head.name
  pub superclass : class.head.superclass ≡ Some c.head.superclass
  pub interfaces : class.head.interfaces ≡ []
  pub flags : class.head.flags ≡ c.head.flags.size
  pub fields_are : class.head.fields ≡ map head_field (fields (items_of_class c))
  pub methods_are : class.head.methods ≡ map head_method (methods (items_of_class c))
  pub codes_are : HaveCodesOf class.pool (methods (items_of_class c)) class.methods
  pub order : IsOrdered class.pool (pool_strings (items_of_class c))
