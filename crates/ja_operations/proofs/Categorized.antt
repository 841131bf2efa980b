-- The rows of calls are about the categories of the table.
use Rattle.std.proofs.Common.{◌≡◌, ℕ, ◌<◌, Bool, true, false, cond, length, List, [], ◌∷◌, Option, Some, None, option_map, refl, sym, ap, subst, ◌∙◌, arith}
use Rattle.std.specs.Prelude.{All, nat_eq, unwrap_or, if◌then◌else◌}
use Rattle.std.specs.List.{find}
use Rattle.std.specs.Option.{option_or}
use Rattle.std.proofs.lemmas.Option.{same_Some}
use Rattle.std.proofs.lemmas.List.{length-replicate}
use Rattle.std.proofs.lemmas.List.Elements.{All-head, All-tail}
use Rattle.ja_base.specs.declared.java_type.Kind.TheVariants.{P1}
use Rattle.ja_base.specs.declared.java_type.JavaType.{JavaType}
use Rattle.ja_base.specs.declared.id.FieldId.{FieldId}
use Rattle.ja_pool.specs.Table.{Table}
use Rattle.ja_code.specs.declared.instr.RawInstr.{RawInstr}
use Rattle.ja_ir.specs.declared.head.ClassHead.{ClassHead}
use Rattle.ja_ir.specs.declared.row.LibRow.{LibRow}
use Rattle.ja_ir.specs.declared.op.CallOp.{CallOp}
use Rattle.ja_ir.specs.declared.op.CallKind.{CallKind}
use Rattle.ja_ir.specs.declared.op.CallKind.TheVariants.{Static}
use Rattle.ja_ir.specs.declared.op.Op.{Op}
use Rattle.ja_ir.specs.declared.op.Op.TheVariants as ops
use Rattle.ja_ir.specs.Categories.{count_of_names}
use Rattle.ja_lib.specs.declared.row.TableRow.{TableRow}
use Rattle.ja_lib.specs.Content.{Content, IsCategorized, IsMeaningAbout, all_marks}
use Rattle.ja_lib.specs.Rows.{fits, row_for}
use Rattle.ja_kinds.specs.declared.state.KindState.{KindState}
use Rattle.ja_code.specs.declared.behaviour.Behaviour.{Behaviour}
use Rattle.ja_code.specs.declared.behaviour.FieldAccess.TheVariants.{GetStatic, PutStatic, GetField, PutField}
use Rattle.ja_code.specs.declared.behaviour.Behaviour.TheVariants as does
use Rattle.ja_operations.specs.declared.member.MemberRef.{MemberRef}
use Rattle.ja_operations.specs.Names.{member_in}
use Rattle.ja_operations.specs.Tokens.{library_token}
use Rattle.ja_operations.specs.Fields as fields
use Rattle.ja_operations.specs.Fields.{Accesses, static_read, member_read, member_write}
use Rattle.ja_operations.specs.Rows.{IsRow, default_row, first_row}
use Rattle.ja_operations.specs.Targets.{call_kind}
use Rattle.ja_operations.specs.Operation.{loaded as loaded_op, Calls, OperatesAs, IsOperation}
use Rattle.ja_operations.specs.Agreement.{IsRowAbout}
use Rattle.ja_kinds.specs.Effect.{tag_named}

-- ---- rows of the table

some_category : (names : List (List ℕ)) → 0 < count_of_names names
some_category [] = omega arith
some_category (n ∷ names) = omega arith

-- marks of every category, and the first category
every_mark : (names : List (List ℕ)) (row : LibRow) → row.marks ≡ all_marks names → row.category ≡ 0 → IsMeaningAbout names row
every_mark names row m c = record {
  marks = ap (λ (l : List Bool). length l) m ∙ length-replicate (count_of_names names) true;
  category = subst (λ (n : ℕ). n < count_of_names names) (sym c) (some_category names);
}

module _ (names : List (List ℕ)) where
  abbrev About : TableRow → Type 0
  About row = IsMeaningAbout names row.meaning

  found_about : (test : TableRow → Bool) (rows : List TableRow) → All About rows → (row : LibRow) → option_map (λ (r : TableRow). r.meaning) (find test rows) ≡ Some row → IsMeaningAbout names row
  found_about test [] all row e = absurd (cc e)
  found_about test (r ∷ rows) all row e = by (test r) e (found_about test rows (All-tail About r rows all) row)
    where
      by : (b : Bool) → option_map (λ (x : TableRow). x.meaning) (cond b (Some r) (find test rows)) ≡ Some row
          → (option_map (λ (x : TableRow). x.meaning) (find test rows) ≡ Some row → IsMeaningAbout names row) → IsMeaningAbout names row
      by true f rest = subst (λ (x : LibRow). IsMeaningAbout names x) (same_Some r.meaning row f) (All-head About r rows all)
      by false f rest = rest f

  first_about : (rows : List TableRow) → All About rows → (classes : List (List ℕ)) (method desc : List ℕ) (row : LibRow) → first_row rows classes method desc ≡ Some row
      → IsMeaningAbout names row
  first_about rows all [] method desc row e = absurd (cc e)
  first_about rows all (class ∷ classes) method desc row e = by (row_for rows class method desc) refl e (first_about rows all classes method desc row)
    where
      by : (o : Option LibRow) → row_for rows class method desc ≡ o → option_or o (first_row rows classes method desc) ≡ Some row
          → (first_row rows classes method desc ≡ Some row → IsMeaningAbout names row) → IsMeaningAbout names row
      by None f g rest = rest g
      by (Some r) f g rest = found_about (fits class method desc) rows all row (f ∙ g)

-- the row of a call of a method
row_about : (heads : List ClassHead) (table : Content) → IsCategorized table → (member : MemberRef) (row : LibRow) → IsRow heads table member row → IsMeaningAbout table.categories row
row_about heads table whole member row is = by is.found is.is is.first.is
  where
    by : (o : Option LibRow) → row ≡ unwrap_or o (default_row table.categories) → o ≡ first_row table.rows is.first.names member.name member.desc → IsMeaningAbout table.categories row
    by None e f = every_mark table.categories row (ap (λ (r : LibRow). r.marks) e) (ap (λ (r : LibRow). r.category) e)
    by (Some r) e f =
        subst (λ (x : LibRow). IsMeaningAbout table.categories x) (sym e) (first_about table.categories table.rows whole.rows is.first.names member.name member.desc r (sym f))

-- ---- operations

about_as : (names : List (List ℕ)) (op other : Op) → op ≡ other → IsRowAbout names other → IsRowAbout names op
about_as names op other e s = subst (λ (x : Op). IsRowAbout names x) (sym e) s

about_access : (names : List (List ℕ)) (heads : List ClassHead) (member : MemberRef) (own : FieldId → Op) (foreign : JavaType → CallOp) (op : Op) → ((x : FieldId) → IsRowAbout names (own x))
    → ((type : JavaType) → IsMeaningAbout names (foreign type).row) → Accesses heads member own foreign op → IsRowAbout names op
about_access names heads member own foreign op ours theirs (fields.of_program {f = x} p) = ours x
about_access names heads member own foreign op ours theirs (fields.of_library {call = call} p r) =
    about_as names (ops.Call call) (ops.Call (foreign r.type)) (ap ops.Call r.is) (theirs r.type)

loaded_about : (names : List (List ℕ)) (heads : List ClassHead) (tag : ℕ) → IsRowAbout names (loaded_op heads tag)
loaded_about names heads tag = by_tests (nat_eq tag 8) (nat_eq tag 7)
  where
    by_tests : (a b : Bool) → IsRowAbout names (if a then ops.Text else if b then ops.New (library_token heads) else ops.Const P1)
    by_tests true b = tt
    by_tests false true = tt
    by_tests false false = tt

module _ (heads : List ClassHead) (table : Content) (whole : IsCategorized table) (c : ℕ) (pool : Table) (i : RawInstr) (before : Option KindState) where
  abbrev names : List (List ℕ)
  names = table.categories

  about_call : (kind : CallKind) (op : Op) → Calls heads table c kind (member_in pool i) op → IsRowAbout names op
  about_call kind op p = about_as names op (ops.Call p.call) p.is (row_about heads table whole (member_in pool i) p.call.row p.made.row)

  about_by : (b : Behaviour) (op : Op) → OperatesAs heads table c pool i before b op → IsRowAbout names op
  about_by does.Loaded op p = about_as names op _ p (loaded_about names heads (tag_named pool i))
  about_by (does.Access GetStatic) op p =
      about_access names heads (member_in pool i) ops.GetStatic (static_read names (member_in pool i)) op (λ x. tt) (λ type. every_mark names (static_read names (member_in pool i) type).row refl refl) p
  about_by (does.Access PutStatic) op (fields.static_of_program p) = tt
  about_by (does.Access GetField) op p =
      about_access names heads (member_in pool i) ops.GetField (member_read names (member_in pool i)) op (λ x. tt) (λ type. every_mark names (member_read names (member_in pool i) type).row refl refl) p
  about_by (does.Access PutField) op p =
      about_access names heads (member_in pool i) ops.PutField (member_write names (member_in pool i)) op (λ x. tt) (λ type. every_mark names (member_write names (member_in pool i) type).row refl refl) p
  about_by (does.Invoke how) op p = about_call (call_kind how) op p
  about_by does.New op p = about_as names op _ p tt
  about_by (does.NewArray elements) op p = about_as names op _ p tt
  about_by does.NewArrays op p = about_as names op _ p tt
  about_by does.Nothing op p = about_as names op _ p tt
  about_by (does.Constant kind) op p = about_as names op _ p tt
  about_by (does.Load kind source) op p = about_as names op _ p tt
  about_by (does.Store kind source) op p = about_as names op _ p tt
  about_by does.Increment op p = about_as names op _ p tt
  about_by (does.ArrayLoad kind) op p = about_as names op _ p tt
  about_by (does.ArrayStore kind) op p = about_as names op _ p tt
  about_by (does.Rearrange how) op p = about_as names op _ p tt
  about_by (does.Compute operands kind throws) op p = about_as names op _ p tt
  about_by (does.Test operands) op p = about_as names op _ p tt
  about_by does.Jump op p = about_as names op _ p tt
  about_by does.Switch op p = about_as names op _ p tt
  about_by (does.Return kind) op p = about_as names op _ p tt
  about_by does.ArrayLength op p = about_as names op _ p tt
  about_by does.Throw op p = about_as names op _ p tt
  about_by does.Cast op p = about_as names op _ p tt
  about_by does.InstanceOf op p = about_as names op _ p tt
  about_by does.Monitor op p = about_as names op _ p tt

pub rows_are_about : (heads : List ClassHead) (table : Content) → IsCategorized table → (c : ℕ) (pool : Table) (i : RawInstr) (op : Op) (before : Option KindState)
    → IsOperation heads table c pool i before op → IsRowAbout table.categories op
rows_are_about heads table whole c pool i op before is = about_by heads table whole c pool i before is.behaviour op is.operates
