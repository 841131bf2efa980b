-- What instructions of a method name is there: its fields; and the methods of classes of the profile are whole parts of a program.
use Rattle.std.proofs.Common.{◌≡◌, ℕ, zero, suc, ◌+◌, ◌<◌, Bool, true, false, List, [], ◌∷◌, length, take, get_or, refl, sym, ap, subst, arith}
use Rattle.std.specs.Prelude.{◌&&◌, Option, Some, None, All, bytes_eq, nat_eq, slice_get, sum_by, if◌then◌else◌}
use Rattle.std.proofs.lemmas.List.Elements.{All-nil}
use Rattle.std.proofs.lemmas.List.Quantifiers.{position-Some}
use Rattle.std.proofs.lemmas.List.Sums.{sum_by-cons}
use Rattle.std.proofs.lemmas.Option.{get_or_from_slice_get, slice_get-get_or, slice_get_within}
use Rattle.ja_base.specs.declared.id.FieldId.{FieldId}
use Rattle.ja_base.specs.declared.java_type.JavaType.{JavaType}
use Rattle.ja_base.specs.declared.java_type.Kind.TheVariants.{P1}
use Rattle.ja_pool.specs.Table.{Table, tag_at}
use Rattle.ja_code.specs.declared.code.Code.{Code}
use Rattle.ja_code.specs.declared.instr.RawInstr.{RawInstr}
use Rattle.ja_ir.specs.declared.head.ClassHead.{ClassHead}
use Rattle.ja_ir.specs.declared.head.HeadField.{HeadField}
use Rattle.ja_ir.specs.declared.method.Handler.{Handler}
use Rattle.ja_ir.specs.declared.method.Instr.{Instr}
use Rattle.ja_ir.specs.declared.method.Method.{Method}
use Rattle.ja_ir.specs.declared.op.CallOp.{CallOp}
use Rattle.ja_ir.specs.declared.op.Op.{Op}
use Rattle.ja_ir.specs.declared.op.Op.TheVariants as ops
use Rattle.ja_class.specs.ClassFile.{IsSpelled}
use Rattle.ja_class.specs.Meaning.{ClassSpelled}
use Rattle.ja_lib.specs.Content.{Content, IsCategorized}
use Rattle.ja_hier.specs.declared.field_at.FieldAt.{FieldAt}
use Rattle.ja_hier.specs.declared.field_at.FieldAt.TheVariants.{Program, Library, Missing}
use Rattle.ja_hier.specs.declared.starts.Member.TheVariants.{Field as OfFields}
use Rattle.ja_hier.specs.LookUps.{fields_of, FieldSearch, nowhere, here, further, FindsField, in_program, in_library, missing}
use Rattle.ja_hier.specs.Members.{count_of}
use Rattle.ja_kinds.specs.declared.state.KindState.{KindState}
use Rattle.ja_code.specs.declared.behaviour.Behaviour.{Behaviour}
use Rattle.ja_code.specs.declared.behaviour.FieldAccess.TheVariants.{GetStatic, PutStatic, GetField, PutField}
use Rattle.ja_code.specs.declared.behaviour.Behaviour.TheVariants as does
use Rattle.ja_operations.specs.declared.member.MemberRef.{MemberRef}
use Rattle.ja_code.specs.Grammar.{operand_at}
use Rattle.ja_operations.specs.Names.{member_in}
use Rattle.ja_operations.specs.Tokens.{library_token}
use Rattle.ja_operations.specs.Fields as fields
use Rattle.ja_operations.specs.Fields.{Accesses, IsFieldAt, static_read, member_read, member_write}
use Rattle.ja_operations.specs.Agreement.{IsRowAbout}
use Rattle.ja_operations.specs.Operation.{OperatesAs, loaded as loaded_op}
use Rattle.ja_methods.specs.Method.{HasContent, IsMethodOf}
use Rattle.ja_methods.specs.Whole.{IsWholeIn}
use Rattle.ja_lower.specs.Program.{code_length, heads_of}
use Rattle.ja_lower.proofs.WholeProgram.{AreWholeParts, NamesItsField}

-- ---- numbers of fields

no-field : HeadField
no-field = record { name = []; desc = []; flags = 0; text = false }

number-fits : (heads : List ClassHead) (c k : ℕ) → k < length (fields_of (slice_get heads c)) → sum_by (count_of OfFields) (take c heads) + k < sum_by (count_of OfFields) heads
number-fits [] c k lt = absurd (omega arith)
number-fits (h ∷ heads) zero k lt = omega (arith, sum_by-cons (count_of OfFields) h heads)
number-fits (h ∷ heads) (suc c) k lt = omega (arith, sum_by-cons (count_of OfFields) h heads, sum_by-cons (count_of OfFields) h (take c heads), number-fits heads c k lt)

-- the number, if there is one, is that of a field
abbrev IsNumber : List ClassHead → Option ℕ → Type 0
IsNumber heads None = Unit {0}
IsNumber heads (Some f) = f < sum_by (count_of OfFields) heads

searched : (heads : List ClassHead) (name desc : List ℕ) (classes : List ℕ) (o : Option ℕ) → FieldSearch heads name desc classes o → IsNumber heads o
searched heads name desc classes o nowhere = tt
searched heads name desc classes o (here {c = c} {k = k} e) =
    number-fits heads c k (position-Some (λ (field : HeadField). bytes_eq field.name name && bytes_eq field.desc desc) (fields_of (slice_get heads c)) k no-field e).0
searched heads name desc classes o (further {c = c} {classes = rest} e s) = searched heads name desc _ o s

abbrev IsPlace : List ClassHead → FieldAt → Type 0
IsPlace heads (Program f) = f.0 < sum_by (count_of OfFields) heads
IsPlace heads Library = Unit {0}
IsPlace heads Missing = Unit {0}

found-place : (heads : List ClassHead) (name desc : List ℕ) (c : ℕ) (at : FieldAt) → FindsField heads name desc c at → IsPlace heads at
found-place heads name desc c at (in_program {f = f} s) = searched heads name desc (c ∷ []) (Some f) s
found-place heads name desc c at (in_library s l) = tt
found-place heads name desc c at (missing s l) = tt

member-place : (heads : List ClassHead) (member : MemberRef) (at : FieldAt) → IsFieldAt heads member at → IsPlace heads at
member-place heads member at (fields.in_program {c = c} e f) = found-place heads member.name member.desc c at f
member-place heads member at (fields.in_library e) = tt

-- ---- operations

module _ (heads : List ClassHead) where
  named-as : (op other : Op) → op ≡ other → NamesItsField heads other → NamesItsField heads op
  named-as op other e s = subst (λ (x : Op). NamesItsField heads x) (sym e) s

  access-named : (member : MemberRef) (own : FieldId → Op) (foreign : JavaType → CallOp) (op : Op) → ((x : FieldId) → x.0 < sum_by (count_of OfFields) heads → NamesItsField heads (own x)) → Accesses heads member own foreign op
      → NamesItsField heads op
  access-named member own foreign op ours (fields.of_program {f = x} p) = ours x (member-place heads member (Program x) p)
  access-named member own foreign op ours (fields.of_library p r) = tt

  write-named : (member : MemberRef) (op : Op) → fields.WritesStatic heads member ops.PutStatic op → NamesItsField heads op
  write-named member op (fields.static_of_program {f = x} p) = member-place heads member (Program x) p

  loaded-named : (tag : ℕ) → NamesItsField heads (loaded_op heads tag)
  loaded-named tag = by_tests (nat_eq tag 8) (nat_eq tag 7)
    where
      by_tests : (a b : Bool) → NamesItsField heads (if a then ops.Text else if b then ops.New (library_token heads) else ops.Const P1)
      by_tests true b = tt
      by_tests false true = tt
      by_tests false false = tt

  module _ (rows : Content) (c : ℕ) (pool : Table) (i : RawInstr) (before : Option KindState) where
    named-by : (b : Behaviour) (op : Op) → OperatesAs heads rows c pool i before b op → NamesItsField heads op
    named-by does.Loaded op p = named-as op _ p (loaded-named (tag_at pool (operand_at i 0)))
    named-by (does.Access GetStatic) op p = access-named (member_in pool i) ops.GetStatic (static_read rows.categories (member_in pool i)) op (λ x lt. lt) p
    named-by (does.Access PutStatic) op p = write-named (member_in pool i) op p
    named-by (does.Access GetField) op p = access-named (member_in pool i) ops.GetField (member_read rows.categories (member_in pool i)) op (λ x lt. lt) p
    named-by (does.Access PutField) op p = access-named (member_in pool i) ops.PutField (member_write rows.categories (member_in pool i)) op (λ x lt. lt) p
    named-by (does.Invoke how) op p = named-as op _ p.is tt
    named-by does.New op p = named-as op _ p tt
    named-by (does.NewArray elements) op p = named-as op _ p tt
    named-by does.NewArrays op p = named-as op _ p tt
    named-by does.Nothing op p = named-as op _ p tt
    named-by (does.Constant kind) op p = named-as op _ p tt
    named-by (does.Load kind source) op p = named-as op _ p tt
    named-by (does.Store kind source) op p = named-as op _ p tt
    named-by does.Increment op p = named-as op _ p tt
    named-by (does.ArrayLoad kind) op p = named-as op _ p tt
    named-by (does.ArrayStore kind) op p = named-as op _ p tt
    named-by (does.Rearrange how) op p = named-as op _ p tt
    named-by (does.Compute operands kind throws) op p = named-as op _ p tt
    named-by (does.Test operands) op p = named-as op _ p tt
    named-by does.Jump op p = named-as op _ p tt
    named-by does.Switch op p = named-as op _ p tt
    named-by (does.Return kind) op p = named-as op _ p tt
    named-by does.ArrayLength op p = named-as op _ p tt
    named-by does.Throw op p = named-as op _ p tt
    named-by does.Cast op p = named-as op _ p tt
    named-by does.InstanceOf op p = named-as op _ p tt
    named-by does.Monitor op p = named-as op _ p tt

-- ---- methods

content-size : (heads : List ClassHead) (rows : Content) (class : ClassSpelled) (c m : ℕ) (o : Option Code) (list : List Instr) (handlers : List Handler) → HasContent heads rows class c m o list handlers → length list ≡ code_length o
content-size heads rows class c m None list handlers is = ap (λ (l : List Instr). length l) is.0
content-size heads rows class c m (Some code) list handlers is = is.instrs.size

there : {A : Type 0} (xs : List A) (k : ℕ) → k < length xs → (x : A) × (slice_get xs k ≡ Some x)
there [] k lt = absurd (omega arith)
there (y ∷ ys) zero lt = (y, refl)
there (y ∷ ys) (suc k) lt = there ys k (omega arith)

content-named : (heads : List ClassHead) (rows : Content) (class : ClassSpelled) (c m : ℕ) (o : Option Code) (list : List Instr) (handlers : List Handler) → HasContent heads rows class c m o list handlers
    → All (λ instr. NamesItsField heads instr.op) list
content-named heads rows class c m None list handlers is = subst (λ (l : List Instr). All (λ instr. NamesItsField heads instr.op) l) (sym is.0) (All-nil (λ (instr : Instr). NamesItsField heads instr.op))
content-named heads rows class c m (Some code) list handlers is = λ k d lt.
    let raw : (r : RawInstr) × (slice_get code.instrs k ≡ Some r) = there code.instrs k (omega (arith, is.instrs.size)) in
    let x = (is.instrs.each k raw.0 (get_or list k d) raw.1 (slice_get-get_or list k d lt)).operation in
    named-by heads rows c class.pool raw.0 _ x.behaviour (get_or list k d).op x.operates

-- each method of classes of the profile is a whole part
pub whole-parts : ((heads : List ClassHead) (rows : Content) (class : ClassSpelled) → IsSpelled class → (c m : ℕ) (method : Method) → IsMethodOf heads rows class c m method → IsWholeIn heads method)
    → ((heads : List ClassHead) (rows : Content) → IsCategorized rows → (class : ClassSpelled) → IsSpelled class → (c m : ℕ) (method : Method) → IsMethodOf heads rows class c m method
    → All (λ instr. IsRowAbout rows.categories instr.op) method.code)
    → (rows : Content) → IsCategorized rows → (classes : List ClassSpelled) → All IsSpelled classes → AreWholeParts rows classes
whole-parts law about rows categorized classes all c k class method at lt is =
    let spelled : IsSpelled class = subst IsSpelled (get_or_from_slice_get classes c class class at) (all c class (slice_get_within classes c class at)) in
    record {
      inside = law (heads_of classes) rows class spelled c k method is;
      rows = about (heads_of classes) rows categorized class spelled c k method is;
      fields = content-named (heads_of classes) rows class c k is.body.code method.code method.handlers is.content;
      size = content-size (heads_of classes) rows class c k is.body.code method.code method.handlers is.content;
    }
