-- The bytes of one instruction spell it, and say what is listed: one lemma for each form.
use Rattle.std.proofs.Common.{◌≡◌, ℕ, zero, suc, ◌-◌, ◌/◌, ◌%◌, ◌^◌, ◌<◌, ◌≤◌, ◌⊎◌, inl, inr, Bool, true, false, cond, ◌&&◌, leb, eqb, List, [], ◌∷◌, length, take, Option, Some, None, refl, sym, ap, subst, ◌∙◌, arith, slice_index}
use Rattle.std.specs.Prelude.{IsTrue}
use Rattle.std.specs.List.{take_while}
use Rattle.std.proofs.lemmas.Bool.{and_parts, leb-true, not-false, false_from_ne_true, true_from_ne_false, false≢true}
use Rattle.std.proofs.lemmas.List.Sums.{take_while-cons}
use Rattle.ja_code.specs.declared.form.Entry.{Entry}
use Rattle.ja_code.specs.declared.form.Entry.TheVariants as entry_kinds
use Rattle.ja_code.specs.declared.form.Form.{Form}
use Rattle.ja_code.specs.declared.form.Form.TheVariants as forms
use Rattle.ja_code.specs.Opcode.{form_at, is_refused}
use Rattle.ja_code.specs.Bytes.{u2, u4, near, far, names}
use Rattle.ja_code.specs.Grammar.{Takes, Names, narrow, IsInstr}
use Rattle.ja_pool.specs.Table.{Table, tag_at, tags_of, dims_of, is_bracket}
use Rattle.ja_listing.specs.declared.number.Number.{Number}
use Rattle.ja_listing.specs.declared.item.MemberName.{MemberName}
use Rattle.ja_listing.specs.declared.item.Operand.{Operand}
use Rattle.ja_listing.specs.declared.item.Operand.TheVariants.{Nothing, Constant, LocalAndConstant, Label, Quotation, ClassName, FieldName, MethodName, ArrayName}
use Rattle.ja_assembly.specs.declared.key.Key.TheVariants as keys
use Rattle.ja_assembly.specs.Members.{fits, fits_signed, unsigned, size_of_form}
use Rattle.ja_assembly.specs.Wanted.{class_keys, member_keys, method_tag, operand_keys, operand_strings}
use Rattle.ja_assembly.specs.Unwritable.{is_no_constant, IsNoValue, IsNoTarget, IsNoDimensions, IsTooFar, suits, dimensions_of}
use Rattle.ja_assembly.specs.Assembled.{Pool, class_index, string_index, member_index, place_or_0, offset, branch_bytes, operand_bytes}
use Rattle.ja_assembly.specs.Arguments.{argument_words}
use Rattle.ja_assembly.specs.Written.{constant_of, SaysOperand}
use Rattle.ja_assembly.specs.Right.{AreIn, TellsClass, TellsString, TellsMember, IsRightPool}
use Rattle.ja_assembly.proofs.Offsets.{number_1, number_2, number_4, size_fits, unsigned_fits_8, unsigned_fits_16, offset_16, offset_32, near_place, far_place}

-- the operands that a listed one stands for
abbrev pub operands_of : Pool → (List ℕ → Option ℕ) → Option Form → Operand → List ℕ
operands_of pool labels form Nothing = []
operands_of pool labels form (Constant n) = constant_of form n ∷ []
operands_of pool labels form (LocalAndConstant local change) = local.size ∷ unsigned 8 change ∷ []
operands_of pool labels form (Label name) = place_or_0 (labels name) ∷ []
operands_of pool labels form (Quotation text) = string_index pool text ∷ []
operands_of pool labels form (ClassName name) = class_index pool name ∷ []
operands_of pool labels form (FieldName m) = member_index pool 9 m ∷ []
operands_of pool labels form (MethodName m) = member_index pool (method_tag form) m ∷ []
operands_of pool labels form (ArrayName name dimensions) = class_index pool name ∷ dimensions.size ∷ []

-- the bytes of an instruction spell it, and it says what is listed
pub record IsSpelled (pool : Pool) (table : Table) (labels : List ℕ → Option ℕ) (pc op : ℕ) (form : Option Form) (operand : Operand) : Type 0 where
  pub is : IsInstr (tags_of table) (dims_of table) pc (op ∷ operand_bytes pool labels pc form operand) (narrow pc op (operands_of pool labels form operand) (size_of_form form))
  pub says : SaysOperand table labels form operand (operands_of pool labels form operand)
  pub size : length (op ∷ operand_bytes pool labels pc form operand) ≡ size_of_form form

-- ---- numbers of one and two bytes

module _ (tags dims : List ℕ) (pc op : ℕ) where
  -- an instruction with one byte behind the opcode, which the grammar has for each byte
  one_byte : (v : ℕ) → v < 256 → ((b : ℕ) → b ≡ v → IsInstr tags dims pc (op ∷ b ∷ []) (narrow pc op (b ∷ []) 2)) → IsInstr tags dims pc (op ∷ v % 256 ∷ []) (narrow pc op (v ∷ []) 2)
  one_byte v small by = rw (number_1 v small) (by v refl)

  -- one with two bytes
  two_bytes : (v : ℕ) → v < 2 ^ 16 → ((a b : ℕ) → u2 a b ≡ v → IsInstr tags dims pc (op ∷ a ∷ b ∷ []) (narrow pc op (u2 a b ∷ []) 3))
      → IsInstr tags dims pc (op ∷ v / 256 % 256 ∷ v % 256 ∷ []) (narrow pc op (v ∷ []) 3)
  two_bytes v small by =
      subst (λ (n : ℕ). IsInstr tags dims pc (op ∷ v / 256 % 256 ∷ v % 256 ∷ []) (narrow pc op (n ∷ []) 3)) (number_2 v small) (by (v / 256 % 256) (v % 256) (number_2 v small))

-- ---- dimensions

more_brackets : (test : Bool) (x n : ℕ) (a b : List ℕ) → (n - 1 ≤ length a → n - 1 ≤ length b) → n ≤ length (cond test (x ∷ a) []) → n ≤ length (cond test (x ∷ b) [])
more_brackets true x n a b more there = let one : n - 1 ≤ length b = more (omega arith) in omega arith
more_brackets false x n a b more there = there

-- at most so many brackets begin a name as its first bytes tell
few_brackets : (k n : ℕ) (xs : List ℕ) → n ≤ k → n ≤ length (take_while is_bracket xs) → n ≤ length (take_while is_bracket (take k xs))
few_brackets zero n xs few there = omega arith
few_brackets (suc k) n [] few there = there
few_brackets (suc k) n (x ∷ xs) few there =
    rw (take_while-cons is_bracket x (take k xs))
    (more_brackets (eqb x 91) x n (take_while is_bracket xs) (take_while is_bracket (take k xs)) (few_brackets k (n - 1) xs (omega arith)) (rw (take_while-cons is_bracket x xs) at there))

module _ (pool : Pool) (table : Table) (right : IsRightPool pool table) (labels : List ℕ → Option ℕ) (placed : (name : List ℕ) (place : ℕ) → labels name ≡ Some place → place < 2 ^ 16)
    (pc : ℕ) (here : pc < 2 ^ 16) (op : ℕ) where
  named : (entry : Entry) (i tag : ℕ) → tag_at table i ≡ tag → IsTrue (names entry tag) → Names (tags_of table) i entry
  named entry i tag e is = subst (λ (t : ℕ). IsTrue (names entry t)) (sym e) is

  -- ---- constants and local variables

  byte_spelled : (n : Number) → Takes op forms.Byte → is_no_constant (Some forms.Byte) n ≡ false → IsSpelled pool table labels pc op (Some forms.Byte) (Constant n)
  byte_spelled n takes good =
      record {
        is = one_byte (tags_of table) (dims_of table) pc op (unsigned 8 n) (unsigned_fits_8 n (not-false _ good)) (λ b e. IsInstr.byte takes);
        says = refl;
        size = refl;
      }

  short_spelled : (n : Number) → Takes op forms.Short → is_no_constant (Some forms.Short) n ≡ false → IsSpelled pool table labels pc op (Some forms.Short) (Constant n)
  short_spelled n takes good =
      record {
        is = two_bytes (tags_of table) (dims_of table) pc op (unsigned 16 n) (unsigned_fits_16 n (not-false _ good)) (λ a b e. IsInstr.short takes);
        says = refl;
        size = refl;
      }

  local_spelled : (n : Number) → Takes op forms.Local → is_no_constant (Some forms.Local) n ≡ false → IsSpelled pool table labels pc op (Some forms.Local) (Constant n)
  local_spelled n takes good =
      record {
        is = one_byte (tags_of table) (dims_of table) pc op n.size (size_fits 8 n (not-false _ good)) (λ b e. IsInstr.local takes);
        says = refl;
        size = refl;
      }

  array_type_spelled : (n : Number) → Takes op forms.ArrayType → is_no_constant (Some forms.ArrayType) n ≡ false → IsSpelled pool table labels pc op (Some forms.ArrayType) (Constant n)
  array_type_spelled n takes good =
      let parts = and_parts (fits 8 n) (leb 4 n.size && leb n.size 11) (not-false _ good) in
      let bounds = and_parts (leb 4 n.size) (leb n.size 11) parts.1 in
      let least : 4 ≤ n.size = leb-true 4 n.size bounds.0 in
      let most : n.size ≤ 11 = leb-true n.size 11 bounds.1 in
      record {
        is = one_byte (tags_of table) (dims_of table) pc op n.size (size_fits 8 n parts.0) (λ b e. IsInstr.array_type takes (rw e least) (rw e most));
        says = refl;
        size = refl;
      }

  increment_spelled : (local change : Number) → Takes op forms.Increment → ((fits 8 local ≡ false) ⊎ (fits_signed 7 change ≡ false) → ⊥)
      → IsSpelled pool table labels pc op (Some forms.Increment) (LocalAndConstant local change)
  increment_spelled local change takes good =
      let v : ℕ = unsigned 8 change in
      let first : local.size % 256 ≡ local.size = number_1 local.size (size_fits 8 local (true_from_ne_false _ (λ e. good (inl e)))) in
      let second : v % 256 ≡ v = number_1 v (unsigned_fits_8 change (true_from_ne_false _ (λ e. good (inr e)))) in
      let by_first = subst (λ (a : ℕ). IsInstr (tags_of table) (dims_of table) pc (op ∷ a ∷ v ∷ []) (narrow pc op (local.size ∷ v ∷ []) 3)) (sym first) (IsInstr.increment takes) in
      record {
        is = subst (λ (b : ℕ). IsInstr (tags_of table) (dims_of table) pc (op ∷ local.size % 256 ∷ b ∷ []) (narrow pc op (local.size ∷ v ∷ []) 3)) (sym second) by_first;
        says = refl;
        size = refl;
      }

  -- ---- entries of the pool

  string_spelled : (text : List ℕ) → Takes op forms.ByteIndex → AreIn (keys.Text text ∷ []) pool.keys → AreIn (operand_strings (Quotation text)) pool.strings
      → IsSpelled pool table labels pc op (Some forms.ByteIndex) (Quotation text)
  string_spelled text takes keyed strung =
      let tells : TellsString pool table text = right.strings text strung.0 keyed.0 in
      let i : ℕ = string_index pool text in
      record {
        is = one_byte (tags_of table) (dims_of table) pc op i tells.fits (λ b e. IsInstr.byte_index takes (rw e (named entry_kinds.Loadable i 8 tells.names.tag refl)));
        says = (i, tells.names, refl);
        size = refl;
      }

  index_spelled : (entry : Entry) (i tag : ℕ) → Takes op (forms.Index entry) → i < 2 ^ 16 → tag_at table i ≡ tag → IsTrue (names entry tag)
      → IsInstr (tags_of table) (dims_of table) pc (op ∷ i / 256 % 256 ∷ i % 256 ∷ []) (narrow pc op (i ∷ []) 3)
  index_spelled entry i tag takes small e is = two_bytes (tags_of table) (dims_of table) pc op i small (λ a b same. IsInstr.index takes (rw same (named entry i tag e is)))

  class_spelled : (name : List ℕ) → Takes op (forms.Index entry_kinds.Class) → AreIn (class_keys name) pool.keys → IsSpelled pool table labels pc op (Some (forms.Index entry_kinds.Class)) (ClassName name)
  class_spelled name takes keyed =
      let tells : TellsClass pool table name = right.classes name keyed in
      let i : ℕ = class_index pool name in
      record { is = index_spelled entry_kinds.Class i 7 takes tells.fits tells.names.tag refl; says = (i, tells.names, refl); size = refl }

  field_spelled : (m : MemberName) → Takes op (forms.Index entry_kinds.Field) → AreIn (member_keys 9 m) pool.keys → IsSpelled pool table labels pc op (Some (forms.Index entry_kinds.Field)) (FieldName m)
  field_spelled m takes keyed =
      let tells : TellsMember pool table 9 m = right.members 9 m keyed in
      let i : ℕ = member_index pool 9 m in
      record { is = index_spelled entry_kinds.Field i 9 takes tells.fits tells.names.tag_is refl; says = (i, tells.names, refl); size = refl }

  method_spelled : (m : MemberName) → Takes op (forms.Index entry_kinds.Method) → AreIn (member_keys 10 m) pool.keys → IsSpelled pool table labels pc op (Some (forms.Index entry_kinds.Method)) (MethodName m)
  method_spelled m takes keyed =
      let tells : TellsMember pool table 10 m = right.members 10 m keyed in
      let i : ℕ = member_index pool 10 m in
      record { is = index_spelled entry_kinds.Method i 10 takes tells.fits tells.names.tag_is refl; says = (i, tells.names, refl); size = refl }

  any_method_spelled : (m : MemberName) → Takes op (forms.Index entry_kinds.AnyMethod) → AreIn (member_keys 10 m) pool.keys
      → IsSpelled pool table labels pc op (Some (forms.Index entry_kinds.AnyMethod)) (MethodName m)
  any_method_spelled m takes keyed =
      let tells : TellsMember pool table 10 m = right.members 10 m keyed in
      let i : ℕ = member_index pool 10 m in
      record { is = index_spelled entry_kinds.AnyMethod i 10 takes tells.fits tells.names.tag_is refl; says = (i, tells.names, refl); size = refl }

  interface_spelled : (m : MemberName) → Takes op forms.Interface → AreIn (member_keys 11 m) pool.keys → IsSpelled pool table labels pc op (Some forms.Interface) (MethodName m)
  interface_spelled m takes keyed =
      let tells : TellsMember pool table 11 m = right.members 11 m keyed in
      let i : ℕ = member_index pool 11 m in
      let words : ℕ = argument_words m.desc % 256 in
      let same : u2 (i / 256 % 256) (i % 256) ≡ i = number_2 i tells.fits in
      record {
        is =
            subst (λ (n : ℕ). IsInstr (tags_of table) (dims_of table) pc (op ∷ i / 256 % 256 ∷ i % 256 ∷ words ∷ 0 ∷ []) (narrow pc op (n ∷ []) 5)) same
            (IsInstr.interface takes (rw same (named entry_kinds.InterfaceMethod i 11 tells.names.tag_is refl)));
        says = (i, tells.names, refl);
        size = refl;
      }

  array_spelled : (name : List ℕ) (dimensions : Number) → Takes op forms.Dimensions → AreIn (class_keys name) pool.keys → (IsNoDimensions name dimensions → ⊥)
      → IsSpelled pool table labels pc op (Some forms.Dimensions) (ArrayName name dimensions)
  array_spelled name dimensions takes keyed good =
      let tells : TellsClass pool table name = right.classes name keyed in
      let i : ℕ = class_index pool name in
      let d : ℕ = dimensions.size in
      let small : d < 256 = size_fits 8 dimensions (true_from_ne_false _ (λ e. good (inl e))) in
      let some : 1 ≤ d = not_none (λ e. good (inr (inl e))) in
      let has : d ≤ dimensions_of name = not_more (λ e. good (inr (inr e))) in
      let there : d ≤ slice_index (dims_of table) i = rw tells.dims (few_brackets 255 d name (omega arith) has) in
      let same : u2 (i / 256 % 256) (i % 256) ≡ i = number_2 i tells.fits in
      let spelled =
      subst (λ (n : ℕ). IsInstr (tags_of table) (dims_of table) pc (op ∷ i / 256 % 256 ∷ i % 256 ∷ d ∷ []) (narrow pc op (n ∷ d ∷ []) 4)) same
      (IsInstr.dimensions takes (rw same (named entry_kinds.Class i 7 tells.names.tag refl)) some (rw same there)) in
      record {
        is = subst (λ (x : ℕ). IsInstr (tags_of table) (dims_of table) pc (op ∷ i / 256 % 256 ∷ i % 256 ∷ x ∷ []) (narrow pc op (i ∷ d ∷ []) 4)) (sym (number_1 d small)) spelled;
        says = (i, tells.names, refl);
        size = refl;
      }
    where
      not_none : (dimensions.size ≡ 0 → ⊥) → 1 ≤ dimensions.size
      not_none h = omega arith

      not_more : (dimensions_of name < dimensions.size → ⊥) → dimensions.size ≤ dimensions_of name
      not_more h = omega arith

  -- ---- branches

  branch_to : (name : List ℕ) (place : ℕ) → labels name ≡ Some place → Takes op forms.Branch → (IsTooFar pc place → ⊥) → IsSpelled pool table labels pc op (Some forms.Branch) (Label name)
  branch_to name place e takes reached =
      let v : ℕ = offset 16 pc place in
      let same : near pc (u2 (v / 256 % 256) (v % 256)) ≡ place = ap (near pc) (number_2 v (offset_16 pc place)) ∙ near_place pc place here (placed name place e) reached in
      let spelled =
      subst (λ (n : ℕ). IsInstr (tags_of table) (dims_of table) pc (op ∷ v / 256 % 256 ∷ v % 256 ∷ []) (narrow pc op (n ∷ []) 3)) same (IsInstr.branch takes) in
      record {
        is =
            subst (λ (o : Option ℕ). IsInstr (tags_of table) (dims_of table) pc (op ∷ branch_bytes (Some forms.Branch) pc (place_or_0 o)) (narrow pc op (place_or_0 o ∷ []) 3)) (sym e) spelled;
        says = (place, e, ap (λ (o : Option ℕ). place_or_0 o ∷ []) e);
        size = refl;
      }

  far_branch_to : (name : List ℕ) (place : ℕ) → labels name ≡ Some place → Takes op forms.FarBranch → IsSpelled pool table labels pc op (Some forms.FarBranch) (Label name)
  far_branch_to name place e takes =
      let v : ℕ = offset 32 pc place in
      let same : far pc (u4 (v / 16777216 % 256) (v / 65536 % 256) (v / 256 % 256) (v % 256)) ≡ place =
      ap (far pc) (number_4 v (offset_32 pc place)) ∙ far_place pc place here (placed name place e) in
      let spelled =
      subst (λ (n : ℕ). IsInstr (tags_of table) (dims_of table) pc (op ∷ v / 16777216 % 256 ∷ v / 65536 % 256 ∷ v / 256 % 256 ∷ v % 256 ∷ []) (narrow pc op (n ∷ []) 5)) same
      (IsInstr.far_branch takes) in
      record {
        is =
            subst (λ (o : Option ℕ). IsInstr (tags_of table) (dims_of table) pc (op ∷ branch_bytes (Some forms.FarBranch) pc (place_or_0 o)) (narrow pc op (place_or_0 o ∷ []) 5)) (sym e) spelled;
        says = (place, e, ap (λ (o : Option ℕ). place_or_0 o ∷ []) e);
        size = refl;
      }

  branch_spelled : (name : List ℕ) (target : Option ℕ) → labels name ≡ target → Takes op forms.Branch → (IsNoTarget (Some forms.Branch) pc target → ⊥)
      → IsSpelled pool table labels pc op (Some forms.Branch) (Label name)
  branch_spelled name None e takes good = absurd (good tt)
  branch_spelled name (Some place) e takes good = branch_to name place e takes good

  far_branch_spelled : (name : List ℕ) (target : Option ℕ) → labels name ≡ target → Takes op forms.FarBranch → (IsNoTarget (Some forms.FarBranch) pc target → ⊥)
      → IsSpelled pool table labels pc op (Some forms.FarBranch) (Label name)
  far_branch_spelled name None e takes good = absurd (good tt)
  far_branch_spelled name (Some place) e takes good = far_branch_to name place e takes

  -- ---- an instruction of any form

  of_form : (m : MemberName) (form : Option Form) → form_at op ≡ form → AreIn (operand_keys op (MethodName m)) pool.keys → AreIn (member_keys (method_tag form) m) pool.keys
  of_form m form e keyed = subst (λ (f : Option Form). AreIn (member_keys (method_tag f) m) pool.keys) e keyed

  pub form_spelled : (form : Option Form) (operand : Operand) → form_at op ≡ form → is_refused op ≡ false → suits form operand ≡ true → (IsNoValue labels pc form operand → ⊥)
      → AreIn (operand_keys op operand) pool.keys → AreIn (operand_strings operand) pool.strings → IsSpelled pool table labels pc op form operand
  form_spelled (Some forms.Plain) Nothing e free suited good keyed strung = record { is = IsInstr.plain (e, free); says = refl; size = refl }
  form_spelled (Some forms.Byte) (Constant n) e free suited good keyed strung = byte_spelled n (e, free) (false_from_ne_true _ good)
  form_spelled (Some forms.Short) (Constant n) e free suited good keyed strung = short_spelled n (e, free) (false_from_ne_true _ good)
  form_spelled (Some forms.Local) (Constant n) e free suited good keyed strung = local_spelled n (e, free) (false_from_ne_true _ good)
  form_spelled (Some forms.ArrayType) (Constant n) e free suited good keyed strung = array_type_spelled n (e, free) (false_from_ne_true _ good)
  form_spelled (Some forms.Increment) (LocalAndConstant local change) e free suited good keyed strung = increment_spelled local change (e, free) good
  form_spelled (Some forms.ByteIndex) (Quotation text) e free suited good keyed strung = string_spelled text (e, free) keyed strung
  form_spelled (Some (forms.Index entry_kinds.Class)) (ClassName name) e free suited good keyed strung = class_spelled name (e, free) keyed
  form_spelled (Some (forms.Index entry_kinds.Field)) (FieldName m) e free suited good keyed strung = field_spelled m (e, free) keyed
  form_spelled (Some (forms.Index entry_kinds.Method)) (MethodName m) e free suited good keyed strung =
      method_spelled m (e, free) (of_form m (Some (forms.Index entry_kinds.Method)) e keyed)
  form_spelled (Some (forms.Index entry_kinds.AnyMethod)) (MethodName m) e free suited good keyed strung =
      any_method_spelled m (e, free) (of_form m (Some (forms.Index entry_kinds.AnyMethod)) e keyed)
  form_spelled (Some forms.Interface) (MethodName m) e free suited good keyed strung = interface_spelled m (e, free) (of_form m (Some forms.Interface) e keyed)
  form_spelled (Some forms.Dimensions) (ArrayName name dimensions) e free suited good keyed strung = array_spelled name dimensions (e, free) keyed (λ bad. good (inr bad))
  form_spelled (Some forms.Branch) (Label name) e free suited good keyed strung = branch_spelled name (labels name) refl (e, free) good
  form_spelled (Some forms.FarBranch) (Label name) e free suited good keyed strung = far_branch_spelled name (labels name) refl (e, free) good
  form_spelled form operand e free suited good keyed strung = absurd (false≢true suited)
