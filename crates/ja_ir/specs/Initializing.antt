-- Which class initialisers an instruction may run before it does its operation. The JVM specification (5.5) runs each once, after those of the
-- superclass; here each of the program supertypes' initialisers may run, any number of times and in any order.
use Rattle.std.specs.Prelude.{◌≡◌, ℕ, List, [], Option, Some, None, Contains, slice_get}
use Rattle.ja_base.specs.declared.id.MethodId.{MethodId}
use Rattle.ja_ir.specs.declared.program.Parts.{Parts}
use Rattle.ja_ir.specs.declared.class.ClassInfo.{ClassInfo}
use Rattle.ja_ir.specs.declared.class.Field.{Field}
use Rattle.ja_ir.specs.declared.class.MethodAt.{MethodAt}
use Rattle.ja_ir.specs.declared.class.MethodAt.TheVariants.{Program}
use Rattle.ja_ir.specs.declared.method.Method.{Method}
use Rattle.ja_ir.specs.declared.method.Instr.{Instr}
use Rattle.ja_ir.specs.declared.op.CallKind.{CallKind}
use Rattle.ja_ir.specs.declared.op.CallKind.TheVariants.{Static}
use Rattle.ja_ir.specs.declared.op.Op.{Op}
use Rattle.ja_ir.specs.declared.op.Op.TheVariants.{New, GetStatic, PutStatic, Call}
use Rattle.ja_ir.specs.Lookup.{instr_at}

-- the class initialisers of a class, if there is one
abbrev pub inits_of_class : Option ClassInfo → List MethodId
inits_of_class None = []
inits_of_class (Some class) = class.inits

-- the class initialisers of the class that declares a field, if there is one
abbrev pub inits_of_field : Parts → Option Field → List MethodId
inits_of_field p None = []
inits_of_field p (Some field) = inits_of_class (slice_get p.classes field.class.0)

-- the class initialisers of the class that declares a method, if there is one
abbrev pub inits_of_method : Parts → Option Method → List MethodId
inits_of_method p None = []
inits_of_method p (Some method) = inits_of_class (slice_get p.classes method.class.0)

-- the class initialisers for a call of this kind that found this: where a static call found a method with code, those of the class that declares it
abbrev pub inits_of_call : Parts → CallKind → Option MethodAt → List MethodId
inits_of_call p Static (Some (Program m)) = inits_of_method p (slice_get p.methods m.0)
inits_of_call p _ _ = []

-- the class initialisers that an operation may run: those of the class of which it makes an object, that declares the field which GetStatic or
-- PutStatic names, or that declares the method with code which a static call found
abbrev pub inits_of : Parts → Op → List MethodId
inits_of p (New token) = inits_of_class (slice_get p.classes token.0)
inits_of p (GetStatic field) = inits_of_field p (slice_get p.fields field.0)
inits_of p (PutStatic field) = inits_of_field p (slice_get p.fields field.0)
inits_of p (Call call) = inits_of_call p call.kind call.found
inits_of p _ = []

-- instruction i of method m may run class initialiser n before it does its operation
pub record InitAt (p : Parts) (m i n : ℕ) : Type 0 where
  pub instr : Instr
  pub found : instr_at p m i ≡ Some instr
  pub listed : Contains (inits_of p instr.op) (record { 0 = n })
