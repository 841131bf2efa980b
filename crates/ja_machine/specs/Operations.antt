-- Each operation's normal and exceptional ends, at small heaps.
use Rattle.std.specs.Prelude.{◌≡◌, ℕ, true, false, List, [], ◌∷◌, Some, None, codes}
use Rattle.ja_base.specs.declared.java_type.Kind.TheVariants.{P1, R}
use Rattle.ja_ir.specs.declared.program.Parts.{Parts}
use Rattle.ja_ir.specs.declared.class.Field.{Field}
use Rattle.ja_ir.specs.declared.class.MethodAt.TheVariants.{Program, Abstract}
use Rattle.ja_ir.specs.declared.row.RowFlow.{RowFlow}
use Rattle.ja_ir.specs.declared.row.RowFlow.TheVariants.{Always, Args}
use Rattle.ja_ir.specs.declared.row.RowEffect.{RowEffect}
use Rattle.ja_ir.specs.declared.row.RowEffect.TheVariants.{Quiet, Absorb, Blend}
use Rattle.ja_ir.specs.declared.row.RowResult.{RowResult}
use Rattle.ja_ir.specs.declared.row.RowResult.TheVariants.{Fresh, Argument, Member, Any}
use Rattle.ja_ir.specs.declared.op.CallOp.{CallOp}
use Rattle.ja_ir.specs.declared.op.CallKind.{CallKind}
use Rattle.ja_ir.specs.declared.op.CallKind.TheVariants.{Virtual, Special, Static, StaticField, MemberField}
use Rattle.ja_ir.specs.declared.op.Op.{Op}
use Rattle.ja_ir.specs.declared.op.Op.TheVariants.{Nop, Const, Text, New, Load, Store, ArrLoad, ArrStore, Shuffle, Mix, Branch, Return, GetStatic, PutStatic, GetField, PutField, Call, NewArray, ArrLen, Throw, Cast, InstanceOf, Monitor}
use Rattle.ja_ir.specs.Examples.{class, method, named}
use Rattle.ja_machine.specs.declared.heap.Value.{Value}
use Rattle.ja_machine.specs.declared.heap.Value.TheVariants.{Prim, Null, Ref}
use Rattle.ja_machine.specs.declared.heap.FieldValue.{FieldValue}
use Rattle.ja_machine.specs.declared.heap.Object.{Object}
use Rattle.ja_machine.specs.State.{Frame, World, Next, Goes, Throws, Ends, Enters, NoRule}
use Rattle.ja_machine.specs.Marks.{none}
use Rattle.ja_machine.specs.Act.{act}
use Rattle.ja_machine.specs.Examples.{string, lib_row}

-- a class A with a field a, and a static field s of type java/lang/String; an interface I. Token 0 is A, 1 is I, 2 a text, 3 a library object,
-- 4 an array of references and 5 an array of primitives. Method 0 is static, method 1 is not, and their code is empty
abbrev pub tiny : Parts
tiny = record {
  classes = class (codes "A") 0x0021 (0 ∷ []) [] ∷ class (codes "I") 0x0601 (1 ∷ []) [] ∷ [];
  methods = method 0 (codes "f") 0x0008 0 0 [] [] ∷ method 0 (codes "f") 0 0 0 [] [] ∷ [];
  fields = field (codes "a") (codes "I") 0 ∷ field (codes "s") (codes "Ljava/lang/String;") 0x0008 ∷ [];
  entries = [];
  sites = [];
  categories = [];
}
  where
    field : (name desc : List ℕ) (flags : ℕ) → Field
    field name desc flags = record { class = record { 0 = 0 }; name = name; desc = desc; flags = flags; text = false }

-- an object of a token, with these fields, marks and bag
abbrev pub object : (token : ℕ) (fields : List FieldValue) (mark : ℕ) (bag : List ℕ) → Object
object token fields mark bag = record { token = record { 0 = token }; fields = fields; mark = mark; bag = bag }

-- an object of class A whose field has this value
abbrev pub an_a : Value → Object
an_a value = object 0 (record { field = record { 0 = 0 }; value = value } ∷ []) none []

-- a text
abbrev pub a_text : Object
a_text = object 2 [] none []

-- a library object
abbrev pub a_lib : Object
a_lib = object 3 [] none []

-- an array of references to these places
abbrev pub references_to : List ℕ → Object
references_to bag = object 4 [] none bag

-- an array of primitives with these marks
abbrev pub primitives : (mark : ℕ) → Object
primitives mark = object 5 [] mark []

-- a frame with two locals and this stack
abbrev pub clean : List Value → Frame
clean stack = record { locals = Null ∷ Prim 1 ∷ []; stack = stack; dirt = none }

-- a frame with two locals and this stack, whose dirt is of these categories
abbrev pub dirty_in : (dirt : ℕ) (stack : List Value) → Frame
dirty_in dirt stack = record { locals = Null ∷ Prim 1 ∷ []; stack = stack; dirt = dirt }

-- the same with dirt of category 0
abbrev pub dirty : List Value → Frame
dirty stack = dirty_in 1 stack

-- these objects and these choices, and nothing written yet
abbrev pub world : List Object → List ℕ → World
world heap choices = record { choices = choices; store = record { heap = heap; statics = Prim none ∷ Null ∷ []; written = []; set = []; events = [] } }

-- the world after one write of the object at a place
abbrev pub wrote_at : (place : ℕ) → World → World
wrote_at place it = record { choices = it.choices; store = record it.store { written = place ∷ [] } }

-- the world after one write of the object at place 0
abbrev pub wrote : World → World
wrote it = wrote_at 0 it

-- what an operation does in the program `tiny`
abbrev pub does : Op → Frame → World → Next
does = act tiny

-- the operation that does a call
abbrev pub call : CallOp → Op
call c = Call c

-- a static call of method 0
abbrev pub calling_f : CallOp
calling_f = record {
  kind = Static;
  class = codes "A";
  name = codes "f";
  desc = codes "()V";
  params = [];
  result = None;
  row = lib_row Args Quiet Argument [];
  found = Some (Program (record { 0 = 0 }));
}

-- a virtual call of a library method that answers its receiver, as a text
abbrev pub calling_self : CallOp
calling_self = record {
  kind = Virtual;
  class = codes "java/lang/Object";
  name = codes "g";
  desc = codes "()Ljava/lang/String;";
  params = [];
  result = Some string;
  row = lib_row Args Quiet Argument [];
  found = None;
}

-- the same, which may put its receiver into the receiver's bag
abbrev pub absorbing_self : CallOp
absorbing_self = record calling_self { row = lib_row Args Absorb Argument [] }

-- a call of this kind that found method 1
abbrev pub calling_member : CallKind → CallOp
calling_member kind = record calling_f { kind = kind; found = Some (Program (record { 0 = 1 })) }

-- the same library call by another row
abbrev pub by_row : RowFlow → RowEffect → RowResult → CallOp
by_row flow effect result = record calling_self { row = lib_row flow effect result [] }

-- a library call that marks what it makes in the second of two categories
abbrev pub marking_second : CallOp
marking_second = record calling_self { row = record (lib_row Always Quiet Fresh []) { marks = false ∷ true ∷ [] } }

-- a library call that answers a new object of any kind
abbrev pub making_object : CallOp
making_object = record (by_row Args Quiet Fresh) { result = Some (named (codes "java/lang/Object")) }

-- a read of a library field with a text
abbrev pub reading_field : CallKind → CallOp
reading_field kind = record (by_row Args Quiet Fresh) { kind = kind; desc = codes "Ljava/lang/String;" }

-- a write of such a field
abbrev pub writing_field : CallOp
writing_field = record (by_row Args Absorb Fresh) { kind = MemberField; desc = codes "Ljava/lang/String;"; params = string ∷ []; result = None }

-- what operations come to in single instances; a choice of 1 lets one throw that may
pub record OperationsDo : Type 0 where
  pub nop : does Nop (clean []) (world [] []) ≡ Goes (clean []) (world [] [])
  pub const_null : does (Const R) (clean []) (world [] []) ≡ Goes (clean (Null ∷ [])) (world [] [])
  pub const_number : does (Const P1) (clean []) (world [] []) ≡ Goes (clean (Prim none ∷ [])) (world [] [])
  pub text : does Text (clean []) (world [] []) ≡ Goes (clean (Ref 0 ∷ [])) (world (a_text ∷ []) [])
  pub new : does (New (record { 0 = 0 })) (clean []) (world [] []) ≡ Goes (clean (Ref 0 ∷ [])) (world (an_a (Prim none) ∷ []) [])
  pub new_of_library : does (New (record { 0 = 3 })) (clean []) (world [] []) ≡ Goes (clean (Ref 0 ∷ [])) (world (a_lib ∷ []) [])
  pub new_throws : does (New (record { 0 = 0 })) (clean []) (world [] (1 ∷ [])) ≡ Throws 0 (clean []) (world (a_lib ∷ []) [])
  pub new_interface_throws : does (New (record { 0 = 1 })) (clean []) (world [] (0 ∷ [])) ≡ Throws 0 (clean []) (world (a_lib ∷ []) (0 ∷ []))
  pub load : does (Load P1 1) (clean []) (world [] []) ≡ Goes (clean (Prim 1 ∷ [])) (world [] [])
  pub store : does (Store P1 1) (clean (Prim none ∷ [])) (world [] []) ≡ Goes (record { locals = Null ∷ Prim none ∷ []; stack = []; dirt = none }) (world [] [])
  pub swap : does (Shuffle 2 (1 ∷ 0 ∷ [])) (clean (Null ∷ Prim 1 ∷ [])) (world [] []) ≡ Goes (clean (Prim 1 ∷ Null ∷ [])) (world [] [])
  pub dup_x1 : does (Shuffle 2 (1 ∷ 0 ∷ 1 ∷ [])) (clean (Null ∷ Prim 1 ∷ [])) (world [] []) ≡ Goes (clean (Null ∷ Prim 1 ∷ Null ∷ [])) (world [] [])
  pub mix : does (Mix 2 P1 false) (clean (Prim none ∷ Prim 1 ∷ [])) (world [] []) ≡ Goes (clean (Prim 1 ∷ [])) (world [] [])
  pub mix_throws : does (Mix 2 P1 true) (clean (Prim none ∷ Prim 1 ∷ [])) (world [] (1 ∷ [])) ≡ Throws 0 (clean []) (world (a_lib ∷ []) [])
  pub mix_of_reference : does (Mix 2 P1 false) (clean (Prim none ∷ Null ∷ [])) (world [] []) ≡ NoRule
  pub mix_of_reference_throws : does (Mix 1 P1 true) (clean (Ref 0 ∷ [])) (world [] (1 ∷ [])) ≡ Throws 0 (clean []) (world (a_lib ∷ []) [])
  pub mix_of_reference_goes_on : does (Mix 1 P1 true) (clean (Ref 0 ∷ [])) (world [] (0 ∷ [])) ≡ NoRule
  pub mix_of_categories : does (Mix 2 P1 false) (clean (Prim 1 ∷ Prim 2 ∷ [])) (world [] []) ≡ Goes (clean (Prim 3 ∷ [])) (world [] [])
  pub branch : does (Branch 1) (clean (Prim 1 ∷ Null ∷ [])) (world [] []) ≡ Goes (clean (Null ∷ [])) (world [] [])
  pub return_value : does (Return (Some R)) (dirty (Null ∷ [])) (world [] []) ≡ Ends (Some Null) 1 (world [] [])
  pub return_nothing : does (Return None) (clean []) (world [] []) ≡ Ends None none (world [] [])
  pub throw : does Throw (clean (Ref 0 ∷ [])) (world (a_lib ∷ []) []) ≡ Throws 0 (clean []) (world (a_lib ∷ []) [])
  pub throw_null : does Throw (clean (Null ∷ [])) (world [] []) ≡ Throws 0 (clean []) (world (a_lib ∷ []) [])
  pub get_field : does (GetField (record { 0 = 0 })) (clean (Ref 0 ∷ [])) (world (an_a (Prim 1) ∷ []) []) ≡ Goes (clean (Prim 1 ∷ [])) (world (an_a (Prim 1) ∷ []) [])
  pub get_field_throws : does (GetField (record { 0 = 0 })) (clean (Null ∷ [])) (world [] []) ≡ Throws 0 (clean []) (world (a_lib ∷ []) [])
  pub get_field_throws_by_choice : does (GetField (record { 0 = 0 })) (clean (Ref 0 ∷ [])) (world (an_a (Prim 1) ∷ []) (1 ∷ [])) ≡ Throws 1 (clean []) (world (an_a (Prim 1) ∷ a_lib ∷ []) [])
  pub get_field_of_another : does (GetField (record { 0 = 0 })) (clean (Ref 0 ∷ [])) (world (a_text ∷ []) []) ≡ NoRule
  pub put_field : does (PutField (record { 0 = 0 })) (clean (Prim 1 ∷ Ref 0 ∷ [])) (world (an_a (Prim none) ∷ []) []) ≡ Goes (dirty []) (wrote (world (an_a (Prim 1) ∷ []) []))
  pub put_field_of_category : does (PutField (record { 0 = 0 })) (clean (Prim 2 ∷ Ref 0 ∷ [])) (world (an_a (Prim none) ∷ []) []) ≡ Goes (dirty_in 2 []) (wrote (world (an_a (Prim 2) ∷ []) []))
  pub put_field_of_equal_value : does (PutField (record { 0 = 0 })) (clean (Prim none ∷ Ref 0 ∷ [])) (world (an_a (Prim none) ∷ []) []) ≡ Goes (clean []) (wrote (world (an_a (Prim none) ∷ []) []))
  pub put_field_throws : does (PutField (record { 0 = 0 })) (clean (Prim 1 ∷ Null ∷ [])) (world [] []) ≡ Throws 0 (clean []) (world (a_lib ∷ []) [])
  pub put_field_throws_by_choice : does (PutField (record { 0 = 0 })) (clean (Prim 1 ∷ Ref 0 ∷ [])) (world (an_a (Prim none) ∷ []) (1 ∷ [])) ≡ Throws 1 (clean []) (world (an_a (Prim none) ∷ a_lib ∷ []) [])
  pub put_field_of_another : does (PutField (record { 0 = 0 })) (clean (Prim 1 ∷ Ref 0 ∷ [])) (world (a_text ∷ []) []) ≡ NoRule
  pub get_static : does (GetStatic (record { 0 = 1 })) (clean []) (world [] []) ≡ Goes (clean (Null ∷ [])) (world [] [])
  pub get_static_of_member : does (GetStatic (record { 0 = 0 })) (clean []) (world [] []) ≡ NoRule
  pub put_static : does (PutStatic (record { 0 = 1 })) (clean (Ref 0 ∷ [])) (world (a_text ∷ []) []) ≡
      Goes (clean []) (record { choices = []; store = record { heap = a_text ∷ []; statics = Prim none ∷ Ref 0 ∷ []; written = []; set = 1 ∷ []; events = [] } })
  pub put_static_of_member : does (PutStatic (record { 0 = 0 })) (clean (Prim none ∷ [])) (world [] []) ≡ NoRule
  pub new_array : does (NewArray (record { 0 = 5 }) 2) (clean (Prim none ∷ Prim none ∷ [])) (world [] []) ≡ Goes (clean (Ref 1 ∷ [])) (world (primitives none ∷ references_to (0 ∷ []) ∷ []) [])
  pub new_array_throws : does (NewArray (record { 0 = 5 }) 1) (clean (Prim none ∷ [])) (world [] (1 ∷ [])) ≡ Throws 0 (clean []) (world (a_lib ∷ []) [])
  pub array_load : does (ArrLoad R) (clean (Prim none ∷ Ref 0 ∷ [])) (world (references_to (1 ∷ []) ∷ a_text ∷ []) (0 ∷ 1 ∷ [])) ≡ Goes (clean (Ref 1 ∷ [])) (world (references_to (1 ∷ []) ∷ a_text ∷ []) [])
  pub array_load_null_element : does (ArrLoad R) (clean (Prim none ∷ Ref 0 ∷ [])) (world (references_to [] ∷ []) (0 ∷ 1 ∷ [])) ≡ Goes (clean (Null ∷ [])) (world (references_to [] ∷ []) (1 ∷ []))
  pub array_load_number : does (ArrLoad P1) (clean (Prim none ∷ Ref 0 ∷ [])) (world (primitives 1 ∷ []) []) ≡ Goes (clean (Prim 1 ∷ [])) (world (primitives 1 ∷ []) [])
  pub array_load_throws : does (ArrLoad R) (clean (Prim none ∷ Null ∷ [])) (world [] []) ≡ Throws 0 (clean []) (world (a_lib ∷ []) [])
  pub array_load_throws_by_choice : does (ArrLoad R) (clean (Prim none ∷ Ref 0 ∷ [])) (world (references_to (1 ∷ []) ∷ a_text ∷ []) (1 ∷ 1 ∷ [])) ≡ Throws 2 (clean []) (world (references_to (1 ∷ []) ∷ a_text ∷ a_lib ∷ []) (1 ∷ []))
  pub array_load_of_another : does (ArrLoad P1) (clean (Prim none ∷ Ref 0 ∷ [])) (world (references_to [] ∷ []) []) ≡ NoRule
  pub array_store : does (ArrStore R) (clean (Ref 1 ∷ Prim none ∷ Ref 0 ∷ [])) (world (references_to [] ∷ a_text ∷ []) []) ≡ Goes (clean []) (wrote (world (references_to (1 ∷ []) ∷ a_text ∷ []) []))
  pub array_store_number : does (ArrStore P1) (clean (Prim 1 ∷ Prim none ∷ Ref 0 ∷ [])) (world (primitives none ∷ []) []) ≡ Goes (dirty []) (wrote (world (primitives 1 ∷ []) []))
  pub array_store_throws : does (ArrStore R) (clean (Null ∷ Prim none ∷ Ref 0 ∷ [])) (world (references_to [] ∷ []) (1 ∷ [])) ≡ Throws 1 (clean []) (world (references_to [] ∷ a_lib ∷ []) [])
  pub array_store_on_null : does (ArrStore R) (clean (Null ∷ Prim none ∷ Null ∷ [])) (world [] []) ≡ Throws 0 (clean []) (world (a_lib ∷ []) [])
  pub array_store_in_another : does (ArrStore R) (clean (Null ∷ Prim none ∷ Ref 0 ∷ [])) (world (primitives 1 ∷ []) []) ≡ NoRule
  pub array_length : does ArrLen (clean (Ref 0 ∷ [])) (world (primitives 1 ∷ []) []) ≡ Goes (clean (Prim none ∷ [])) (world (primitives 1 ∷ []) [])
  pub array_length_throws : does ArrLen (clean (Null ∷ [])) (world [] []) ≡ Throws 0 (clean []) (world (a_lib ∷ []) [])
  pub array_length_throws_by_choice : does ArrLen (clean (Ref 0 ∷ [])) (world (primitives 1 ∷ []) (1 ∷ [])) ≡ Throws 1 (clean []) (world (primitives 1 ∷ a_lib ∷ []) [])
  pub cast : does (Cast (codes "A")) (clean (Ref 0 ∷ [])) (world (an_a Null ∷ []) []) ≡ Goes (clean (Ref 0 ∷ [])) (world (an_a Null ∷ []) [])
  pub cast_null : does (Cast (codes "A")) (clean (Null ∷ [])) (world [] []) ≡ Goes (clean (Null ∷ [])) (world [] [])
  pub cast_throws : does (Cast (codes "A")) (clean (Ref 0 ∷ [])) (world (a_lib ∷ []) (0 ∷ [])) ≡ Throws 1 (clean []) (world (a_lib ∷ a_lib ∷ []) (0 ∷ []))
  pub cast_throws_by_choice : does (Cast (codes "A")) (clean (Ref 0 ∷ [])) (world (an_a Null ∷ []) (1 ∷ [])) ≡ Throws 1 (clean []) (world (an_a Null ∷ a_lib ∷ []) [])
  pub cast_null_throws_by_choice : does (Cast (codes "A")) (clean (Null ∷ [])) (world [] (1 ∷ [])) ≡ Throws 0 (clean []) (world (a_lib ∷ []) [])
  pub cast_to_string : does (Cast (codes "java/lang/String")) (clean (Ref 0 ∷ [])) (world (a_lib ∷ []) []) ≡ Goes (clean (Ref 0 ∷ [])) (world (a_lib ∷ []) [])
  pub instance_of : does InstanceOf (clean (Ref 0 ∷ [])) (world (a_lib ∷ []) []) ≡ Goes (clean (Prim none ∷ [])) (world (a_lib ∷ []) [])
  pub monitor : does Monitor (clean (Ref 0 ∷ [])) (world (a_lib ∷ []) []) ≡ Goes (clean []) (world (a_lib ∷ []) [])
  pub monitor_throws : does Monitor (clean (Null ∷ [])) (world [] []) ≡ Throws 0 (clean []) (world (a_lib ∷ []) [])
  pub monitor_throws_by_choice : does Monitor (clean (Ref 0 ∷ [])) (world (a_lib ∷ []) (1 ∷ [])) ≡ Throws 1 (clean []) (world (a_lib ∷ a_lib ∷ []) [])
  pub call_enters : does (call calling_f) (clean []) (world [] []) ≡ Enters 0 [] (clean []) (world [] [])
  pub call_of_abstract : does (call (record calling_f { found = Some (Abstract (record { 0 = 0 })) })) (clean []) (world [] []) ≡ Throws 0 (clean []) (world (a_lib ∷ []) [])
  pub special_call_of_static : does (call (record calling_f { kind = Special })) (clean (Ref 0 ∷ [])) (world (an_a Null ∷ []) []) ≡ NoRule
  pub static_call_of_member : does (call (calling_member Static)) (clean []) (world [] []) ≡ NoRule
  pub special_call_enters : does (call (calling_member Special)) (clean (Ref 0 ∷ [])) (world (an_a Null ∷ []) []) ≡ Enters 1 (Ref 0 ∷ []) (clean []) (world (an_a Null ∷ []) [])
  pub special_call_on_null : does (call (calling_member Special)) (clean (Null ∷ [])) (world [] []) ≡ Throws 0 (clean []) (world (a_lib ∷ []) [])
  pub call_on_another_class : does (call (record calling_self { class = codes "I" })) (clean (Ref 0 ∷ [])) (world (an_a Null ∷ []) []) ≡ NoRule
  pub call_of_class_on_text : does (call (record calling_self { class = codes "A" })) (clean (Ref 0 ∷ [])) (world (a_text ∷ []) []) ≡ NoRule
  pub call_on_null : does (call calling_self) (clean (Null ∷ [])) (world [] []) ≡ Throws 0 (clean []) (world (a_lib ∷ []) [])
  pub call_of_library : does (call calling_self) (clean (Ref 0 ∷ [])) (world (a_text ∷ []) []) ≡ Goes (clean (Ref 0 ∷ [])) (world (a_text ∷ []) [])
  pub call_of_library_absorbs : does (call absorbing_self) (clean (Ref 0 ∷ [])) (world (a_lib ∷ []) (1 ∷ 1 ∷ 1 ∷ 0 ∷ [])) ≡
      Goes (clean (Ref 0 ∷ [])) (wrote (world (object 3 [] none (0 ∷ []) ∷ []) []))
  pub call_of_library_picks : does (call absorbing_self) (clean (Ref 0 ∷ [])) (world (a_lib ∷ []) (1 ∷ 0 ∷ 0 ∷ 0 ∷ [])) ≡ Goes (clean (Ref 0 ∷ [])) (wrote (world (a_lib ∷ []) []))
  pub call_of_library_passes_over : does (call absorbing_self) (clean (Ref 0 ∷ [])) (world (a_lib ∷ []) (0 ∷ 0 ∷ [])) ≡ Goes (clean (Ref 0 ∷ [])) (world (a_lib ∷ []) [])
  pub call_of_library_throws : does (call calling_self) (clean (Ref 0 ∷ [])) (world (a_text ∷ []) (1 ∷ [])) ≡ Throws 1 (clean []) (world (a_text ∷ a_lib ∷ []) [])
  pub result_does_not_fit : does (call calling_self) (clean (Ref 0 ∷ [])) (world (references_to [] ∷ []) []) ≡ NoRule
  pub tainted_exception : does (call (by_row Always Quiet Fresh)) (clean (Ref 0 ∷ [])) (world (a_text ∷ []) (1 ∷ [])) ≡ Throws 1 (clean []) (world (a_text ∷ object 3 [] 1 [] ∷ []) [])
  pub result_is_new : does (call (by_row Always Quiet Fresh)) (clean (Ref 0 ∷ [])) (world (a_text ∷ []) []) ≡ Goes (clean (Ref 1 ∷ [])) (world (a_text ∷ object 2 [] 1 [] ∷ []) [])
  pub result_is_marked : does (call marking_second) (clean (Ref 0 ∷ [])) (world (object 2 [] 1 [] ∷ []) []) ≡ Goes (clean (Ref 1 ∷ [])) (world (object 2 [] 1 [] ∷ object 2 [] 3 [] ∷ []) [])
  pub result_is_array : does (call making_object) (clean (Ref 0 ∷ [])) (world (a_text ∷ []) (0 ∷ 2 ∷ [])) ≡ Goes (clean (Ref 2 ∷ [])) (world (a_text ∷ a_lib ∷ references_to (1 ∷ []) ∷ []) [])
  pub result_is_member : does (call (by_row Args Quiet Member)) (clean (Ref 0 ∷ [])) (world (references_to (1 ∷ []) ∷ a_text ∷ []) (0 ∷ 2 ∷ [])) ≡ Goes (clean (Ref 1 ∷ [])) (world (references_to (1 ∷ []) ∷ a_text ∷ []) [])
  pub result_is_no_member : does (call (by_row Args Quiet Member)) (clean (Ref 0 ∷ [])) (world (an_a (Ref 1) ∷ a_text ∷ []) (0 ∷ 2 ∷ [])) ≡ Goes (clean (Null ∷ [])) (world (an_a (Ref 1) ∷ a_text ∷ []) [])
  pub result_is_any : does (call (by_row Args Quiet Any)) (clean (Ref 0 ∷ [])) (world (an_a (Ref 1) ∷ a_text ∷ []) (0 ∷ 2 ∷ [])) ≡ Goes (clean (Ref 1 ∷ [])) (world (an_a (Ref 1) ∷ a_text ∷ []) [])
  pub call_of_library_blends : does (call (by_row Always Blend Fresh)) (clean (Ref 0 ∷ [])) (world (an_a (Ref 1) ∷ a_lib ∷ []) (1 ∷ 1 ∷ 0 ∷ 0 ∷ [])) ≡
      Goes (dirty (Ref 2 ∷ [])) (wrote_at 1 (world (an_a (Ref 1) ∷ object 3 [] 1 [] ∷ object 2 [] 1 [] ∷ []) []))
  pub library_field : does (call (reading_field StaticField)) (clean []) (world [] []) ≡ Goes (clean (Ref 0 ∷ [])) (world (a_text ∷ []) [])
  pub library_field_throws : does (call (reading_field StaticField)) (clean []) (world [] (1 ∷ [])) ≡ Throws 0 (clean []) (world (a_lib ∷ []) [])
  pub library_field_of_object : does (call (reading_field MemberField)) (clean (Ref 0 ∷ [])) (world (a_lib ∷ []) []) ≡ Goes (clean (Ref 1 ∷ [])) (world (a_lib ∷ a_text ∷ []) [])
  pub library_field_of_null : does (call (reading_field MemberField)) (clean (Null ∷ [])) (world [] []) ≡ Throws 0 (clean []) (world (a_lib ∷ []) [])
  pub library_field_written : does (call writing_field) (clean (Ref 1 ∷ Ref 0 ∷ [])) (world (a_lib ∷ a_text ∷ []) (1 ∷ 0 ∷ 0 ∷ 1 ∷ 0 ∷ [])) ≡ Goes (clean []) (wrote (world (object 3 [] none (1 ∷ []) ∷ a_text ∷ []) []))
