-- Objects that are made new.
use Rattle.std.specs.Prelude.{ℕ, zero, suc, ◌+◌, ◌==◌, List, [], ◌∷◌, length, if◌then◌else◌}
use Rattle.ja_base.specs.declared.java_type.Kind.{Kind}
use Rattle.ja_base.specs.declared.java_type.Kind.TheVariants.{R}
use Rattle.ja_base.specs.declared.java_type.JavaType.{JavaType}
use Rattle.ja_ir.specs.declared.program.Parts.{Parts}
use Rattle.ja_ir.specs.declared.class.Field.{Field}
use Rattle.ja_ir.specs.Lookup.{is_instance_field}
use Rattle.ja_ir.specs.Descriptors.{is_reference}
use Rattle.ja_ir.specs.Tokens.{text_token, lib_token, rarr_token, parr_token, Shape, InProgram, Primitives, References, Strings, Objects, Elsewhere, array_shape, shape_of, before_semicolon}
use Rattle.ja_machine.specs.declared.heap.Value.{Value}
use Rattle.ja_machine.specs.declared.heap.Value.TheVariants.{Prim, Null, Ref}
use Rattle.ja_machine.specs.declared.heap.FieldValue.{FieldValue}
use Rattle.ja_machine.specs.declared.heap.Object.{Object}
use Rattle.ja_machine.specs.Marks.{none}
use Rattle.ja_machine.specs.Reach.{references}
use Rattle.ja_machine.specs.State.{World, changed, with_object, decide}

-- the value with which a field of this descriptor begins (JVM specification 2.3, 2.4)
abbrev pub default_of : (desc : List ℕ) → Value
default_of desc = if is_reference desc then Null else Prim none

-- the fields from number k on that each object of class c has, with their defaults
abbrev pub defaults : Parts → (c k : ℕ) → List Field → List FieldValue
defaults p c k [] = []
defaults p c k (field ∷ fields) =
    if is_instance_field p c field
    then record { field = record { 0 = k }; value = default_of field.desc } ∷ defaults p c (k + 1) fields
    else defaults p c (k + 1) fields

-- a new object with these marks and these places in its bag; one of a program class has its fields, and others have none
abbrev pub new_object : Parts → (token : ℕ) (mark : ℕ) (bag : List ℕ) → Object
new_object p token mark bag = record { token = record { 0 = token }; fields = defaults p token 0 p.fields; mark = mark; bag = bag }

-- a value that was made, and the world after that
pub record Made : Type 0 where
  pub value : Value
  pub world : World

-- nothing was made
abbrev pub none_made : World → Made
none_made world = record { value = Null; world = world }

-- an object was made at the end of the heap
abbrev pub object_made : Object → World → Made
object_made object world = record { value = Ref (length world.store.heap); world = changed (with_object object) world }

-- an array of references, with what was made before it in its bag
abbrev pub around : Parts → (mark : ℕ) → Made → Made
around p mark inner = object_made (new_object p (rarr_token p) mark (references (inner.value ∷ []))) inner.world

-- something new for java/lang/Object, of the way that was picked: a library object, an array of primitives, or an array of references with a
-- library object in its bag
abbrev pub fresh_object : Parts → (mark : ℕ) → World → ℕ → Made
fresh_object p mark world zero = object_made (new_object p (lib_token p) mark []) world
fresh_object p mark world (suc zero) = object_made (new_object p (parr_token p) mark []) world
fresh_object p mark world (suc (suc k)) = around p mark (object_made (new_object p (lib_token p) mark []) world)

-- something new for a type of the shape other than an array of references; for a program class that is null
abbrev pub fresh_plain : Parts → Shape → (mark : ℕ) → World → Made
fresh_plain p (InProgram c) mark world = none_made world
fresh_plain p Primitives mark world = object_made (new_object p (parr_token p) mark []) world
fresh_plain p References mark world = none_made world
fresh_plain p Strings mark world = object_made (new_object p (text_token p) mark []) world
fresh_plain p Objects mark world = decide 3 world (λ k rest. fresh_object p mark rest k)
fresh_plain p Elsewhere mark world = object_made (new_object p (lib_token p) mark []) world

-- an array of the shape, where this was made for what it has inside; an array of primitives has nothing inside
abbrev pub fresh_array : Parts → Shape → (mark : ℕ) → World → (inner : Made) → Made
fresh_array p References mark world inner = around p mark inner
fresh_array p shape mark world inner = fresh_plain p Primitives mark world

-- something new for the reference type of this descriptor; the innermost is made first
abbrev pub fresh_of : Parts → (desc : List ℕ) → (mark : ℕ) → World → Made
fresh_of p [] mark world = none_made world
fresh_of p (b ∷ bytes) mark world =
    if b == 91 then fresh_array p (array_shape bytes) mark world (fresh_of p bytes mark world)
    else if b == 76 then fresh_plain p (shape_of p (before_semicolon bytes)) mark world
    else none_made world

-- something new for the reference type of this shape and name
abbrev pub fresh_named : Parts → Shape → (name : List ℕ) → (mark : ℕ) → World → Made
fresh_named p References name mark world = fresh_of p name mark world
fresh_named p shape name mark world = fresh_plain p shape mark world

-- something new for a type of a kind: for a primitive type a primitive with these marks
abbrev pub fresh_in : Parts → Kind → (name : List ℕ) → (mark : ℕ) → World → Made
fresh_in p R name mark world = fresh_named p (shape_of p name) name mark world
fresh_in p _ name mark world = record { value = Prim mark; world = world }

-- something new for a type, with these marks on each object that is made
abbrev pub fresh : Parts → JavaType → (mark : ℕ) → World → Made
fresh p type mark world = fresh_in p type.kind type.name mark world
