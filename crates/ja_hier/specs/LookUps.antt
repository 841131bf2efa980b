-- Look-ups of fields and methods (JVM specification 5.4.3.2, 5.4.3.3).
use Rattle.std.specs.Prelude.{◌≡◌, ℕ, ◌+◌, ◌&&◌, Bool, true, false, not, List, [], ◌∷◌, ◌++◌, Option, Some, None, bytes_eq, position, slice_get, sum_by, take}
use Rattle.ja_ir.specs.declared.head.ClassHead.{ClassHead}
use Rattle.ja_ir.specs.declared.head.HeadField.{HeadField}
use Rattle.ja_ir.specs.declared.head.HeadMethod.{HeadMethod}
use Rattle.ja_ir.specs.declared.class.MethodAt.{MethodAt}
use Rattle.ja_ir.specs.declared.class.MethodAt.TheVariants.{Program as AtProgram, Abstract as AtAbstract, Library as AtLibrary}
use Rattle.ja_ir.specs.Lookup.{is_abstract}
use Rattle.ja_hier.specs.declared.field_at.FieldAt.{FieldAt}
use Rattle.ja_hier.specs.declared.field_at.FieldAt.TheVariants.{Program, Library, Missing}
use Rattle.ja_hier.specs.declared.skip.Skip.{Skip}
use Rattle.ja_hier.specs.declared.skip.Skip.TheVariants.{NoMethod, NotVirtual, NoDefault}
use Rattle.ja_hier.specs.declared.starts.Member.TheVariants.{Field, Method}
use Rattle.ja_hier.specs.Members.{count_of}
use Rattle.ja_hier.specs.Faults.{is_virtual}
use Rattle.ja_supertypes.specs.Supertypes.{supertypes_of, superclass_of, IsSuperinterface, HasLibrarySupertype}

-- the fields that a class declares
abbrev pub fields_of : Option ClassHead → List HeadField
fields_of None = []
fields_of (Some head) = head.fields

-- the methods that a class declares
abbrev pub methods_of : Option ClassHead → List HeadMethod
methods_of None = []
methods_of (Some head) = head.methods

-- the number of field k of class c: fields are counted in the order of the classes and, in a class, as declared
abbrev pub field_number : List ClassHead → (c k : ℕ) → ℕ
field_number heads c k = sum_by (count_of Field) (take c heads) + k

-- the number of method k of class c, counted in the same way
abbrev pub method_number : List ClassHead → (c k : ℕ) → ℕ
method_number heads c k = sum_by (count_of Method) (take c heads) + k

-- the place of the first field of this name and descriptor that class c itself declares
abbrev pub field_in : List ClassHead → (name desc : List ℕ) → (c : ℕ) → Option ℕ
field_in heads name desc c =
    position (λ (field : HeadField). bytes_eq field.name name && bytes_eq field.desc desc) (fields_of (slice_get heads c))

-- a search for a field through classes in order, in which a class that does not declare it gives way to its direct
-- superinterfaces and then its superclass (JVM specification 5.4.3.2)
pub data FieldSearch (heads : List ClassHead) (name desc : List ℕ) : (classes : List ℕ) → (found : Option ℕ) → Type 0 where
  nowhere : FieldSearch heads name desc [] None
  here : {c k : ℕ} {classes : List ℕ} → field_in heads name desc c ≡ Some k → FieldSearch heads name desc (c ∷ classes) (Some (field_number heads c k))
  further : {c : ℕ} {classes : List ℕ} {found : Option ℕ} → field_in heads name desc c ≡ None
      → FieldSearch heads name desc (supertypes_of heads c ++ classes) found → FieldSearch heads name desc (c ∷ classes) found

-- where the look-up of a field that is named in class c ends
pub data FindsField (heads : List ClassHead) (name desc : List ℕ) (c : ℕ) : FieldAt → Type 0 where
  in_program : {f : ℕ} → FieldSearch heads name desc (c ∷ []) (Some f) → FindsField heads name desc c (Program (record { 0 = f }))
  in_library : FieldSearch heads name desc (c ∷ []) None → HasLibrarySupertype heads c → FindsField heads name desc c Library
  missing : FieldSearch heads name desc (c ∷ []) None → (HasLibrarySupertype heads c → ⊥) → FindsField heads name desc c Missing

-- a look-up passes over methods of these flags
abbrev pub skips : Skip → (flags : ℕ) → Bool
skips NoMethod flags = false
skips NotVirtual flags = not (is_virtual flags)
skips NoDefault flags = not (is_virtual flags && not (is_abstract flags))

-- the place of the first method of this name and descriptor that class c itself declares and the look-up does not pass over
abbrev pub method_in : List ClassHead → Skip → (name desc : List ℕ) → (c : ℕ) → Option ℕ
method_in heads skip name desc c =
    position (λ (method : HeadMethod). bytes_eq method.name name && bytes_eq method.desc desc && not (skips skip method.flags)) (methods_of (slice_get heads c))

-- a method as an answer, by whether it is abstract
abbrev pub answer_by : (abstract : Bool) → (number : ℕ) → MethodAt
answer_by true number = AtAbstract (record { 0 = number })
answer_by false number = AtProgram (record { 0 = number })

-- the access flags of a method, if there is one
abbrev pub flags_of : Option HeadMethod → ℕ
flags_of None = 0
flags_of (Some method) = method.flags

-- method k of class c as an answer
abbrev pub answer_at : List ClassHead → (c k : ℕ) → MethodAt
answer_at heads c k = answer_by (is_abstract (flags_of (slice_get (methods_of (slice_get heads c)) k))) (method_number heads c k)

-- a search for a method in class c and its program superclasses upwards: the first declaration that is not passed over
pub data ClassSearch (heads : List ClassHead) (skip : Skip) (name desc : List ℕ) : (c : ℕ) → (found : Option MethodAt) → Type 0 where
  declared : {c k : ℕ} → method_in heads skip name desc c ≡ Some k → ClassSearch heads skip name desc c (Some (answer_at heads c k))
  inherited : {c d : ℕ} {found : Option MethodAt} → method_in heads skip name desc c ≡ None → superclass_of heads c ≡ Some d
      → ClassSearch heads skip name desc d found → ClassSearch heads skip name desc c found
  at_end : {c : ℕ} → method_in heads skip name desc c ≡ None → superclass_of heads c ≡ None → ClassSearch heads skip name desc c None

-- method k of the superinterface i of class c has code and may be inherited from there; a method without code is no
-- candidate and hides none, unlike in 5.4.3.3
pub record IsCandidate (heads : List ClassHead) (name desc : List ℕ) (c i k : ℕ) : Type 0 where
  pub above : IsSuperinterface heads c i
  pub declared : method_in heads NoDefault name desc i ≡ Some k

-- a candidate whose interface is no proper superinterface of another candidate's interface
pub record IsLeft (heads : List ClassHead) (name desc : List ℕ) (c i k : ℕ) : Type 0 where
  pub candidate : IsCandidate heads name desc c i k
  pub least : (j l : ℕ) → IsCandidate heads name desc c j l → IsSuperinterface heads j i → ⊥

-- the one method with code that class c inherits from its superinterfaces, where exactly one is left
pub data FindsDefault (heads : List ClassHead) (name desc : List ℕ) (c : ℕ) : (found : Option ℕ) → Type 0 where
  one : (i k : ℕ) → IsLeft heads name desc c i k → ((j l : ℕ) → IsLeft heads name desc c j l → j ≡ i)
      → FindsDefault heads name desc c (Some (method_number heads i k))
  nothing_left : ((j l : ℕ) → IsLeft heads name desc c j l → ⊥) → FindsDefault heads name desc c None
  several : (i k j l : ℕ) → IsLeft heads name desc c i k → IsLeft heads name desc c j l → (i ≡ j → ⊥) → FindsDefault heads name desc c None

-- where the look-up of a method that is named in class c ends: in a class from c upwards, else in a superinterface, else in the library
pub data Finds (heads : List ClassHead) (skip : Skip) (name desc : List ℕ) (c : ℕ) : MethodAt → Type 0 where
  in_class : {found : MethodAt} → ClassSearch heads skip name desc c (Some found) → Finds heads skip name desc c found
  as_default : {m : ℕ} → ClassSearch heads skip name desc c None → FindsDefault heads name desc c (Some m) → Finds heads skip name desc c (AtProgram (record { 0 = m }))
  in_no_class : ClassSearch heads skip name desc c None → FindsDefault heads name desc c None → Finds heads skip name desc c AtLibrary
