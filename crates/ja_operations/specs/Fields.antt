-- What accesses of fields do (JVM specification 5.4.3.2, 6.5).
use Rattle.std.specs.Prelude.{◌≡◌, ℕ, List, [], ◌∷◌, Option, Some, None}
use Rattle.ja_base.specs.declared.java_type.JavaType.{JavaType}
use Rattle.ja_base.specs.declared.id.FieldId.{FieldId}
use Rattle.ja_base.specs.Descriptor.{IsField}
use Rattle.ja_ir.specs.declared.head.ClassHead.{ClassHead}
use Rattle.ja_ir.specs.declared.row.RowFlow.{RowFlow}
use Rattle.ja_ir.specs.declared.row.RowFlow.TheVariants.{Never, Args}
use Rattle.ja_ir.specs.declared.row.RowEffect.{RowEffect}
use Rattle.ja_ir.specs.declared.row.RowEffect.TheVariants.{Quiet, Absorb}
use Rattle.ja_ir.specs.declared.row.RowResult.{RowResult}
use Rattle.ja_ir.specs.declared.row.RowResult.TheVariants.{Fresh, Any}
use Rattle.ja_ir.specs.declared.row.LibRow.{LibRow}
use Rattle.ja_ir.specs.declared.op.CallOp.{CallOp}
use Rattle.ja_ir.specs.declared.op.CallKind.{CallKind}
use Rattle.ja_ir.specs.declared.op.CallKind.TheVariants.{StaticField, MemberField}
use Rattle.ja_ir.specs.declared.op.Op.{Op}
use Rattle.ja_ir.specs.declared.op.Op.TheVariants.{Call}
use Rattle.ja_lib.specs.Content.{all_marks}
use Rattle.ja_supertypes.specs.Supertypes.{class_named}
use Rattle.ja_hier.specs.LookUps.{FindsField}
use Rattle.ja_hier.specs.declared.field_at.FieldAt.{FieldAt}
use Rattle.ja_hier.specs.declared.field_at.FieldAt.TheVariants.{Program, Library}
use Rattle.ja_operations.specs.declared.member.MemberRef.{MemberRef}

-- where the look-up of a field ends; one that is named in a library class or an array class is a field of the library
pub data IsFieldAt (heads : List ClassHead) (member : MemberRef) : FieldAt → Type 0 where
  in_program : {c : ℕ} {at : FieldAt} → class_named heads member.class ≡ Some c → FindsField heads member.name member.desc c at
      → IsFieldAt heads member at
  in_library : class_named heads member.class ≡ None → IsFieldAt heads member Library

-- the row of an access of a library field, which names no sink and says what it says of each of these categories of marks
abbrev pub field_row : (categories : List (List ℕ)) → RowFlow → RowEffect → RowResult → LibRow
field_row categories flow effect result = record { flow = flow; effect = effect; result = result; sinks = []; marks = all_marks categories; category = 0 }

-- the call that such an access is
abbrev pub field_call : CallKind → MemberRef → List JavaType → Option JavaType → LibRow → CallOp
field_call kind member params result row = record {
  kind = kind;
  class = member.class;
  name = member.name;
  desc = member.desc;
  params = params;
  result = result;
  row = row;
  found = None;
}

-- a read of a static library field gives something new and untainted
abbrev pub static_read : (categories : List (List ℕ)) → MemberRef → JavaType → CallOp
static_read categories member type = field_call StaticField member [] (Some type) (field_row categories Never Quiet Fresh)

-- a read of another library field gives something new or something that the object reaches
abbrev pub member_read : (categories : List (List ℕ)) → MemberRef → JavaType → CallOp
member_read categories member type = field_call MemberField member [] (Some type) (field_row categories Args Quiet Any)

-- a write of another library field puts the value into an absorbing object that the object reaches; there is no result
abbrev pub member_write : (categories : List (List ℕ)) → MemberRef → JavaType → CallOp
member_write categories member type = field_call MemberField member (type ∷ []) None (field_row categories Args Absorb Fresh)

-- the call is that of the library for a field of the type that the member's descriptor spells
pub record CallsForeign (member : MemberRef) (foreign : JavaType → CallOp) (call : CallOp) : Type 0 where
  pub type : JavaType
  pub spelled : IsField member.desc type
  pub is : call ≡ foreign type

-- an access does this to a program field, and is a call of the library for a library field
pub data Accesses (heads : List ClassHead) (member : MemberRef) (own : FieldId → Op) (foreign : JavaType → CallOp) : Op → Type 0 where
  of_program : {f : FieldId} → IsFieldAt heads member (Program f) → Accesses heads member own foreign (own f)
  of_library : {call : CallOp} → IsFieldAt heads member Library → CallsForeign member foreign call → Accesses heads member own foreign (Call call)

-- a write of a static field, which must be one of the program
pub data WritesStatic (heads : List ClassHead) (member : MemberRef) (own : FieldId → Op) : Op → Type 0 where
  static_of_program : {f : FieldId} → IsFieldAt heads member (Program f) → WritesStatic heads member own (own f)
