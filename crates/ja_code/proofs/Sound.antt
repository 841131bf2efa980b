-- Bytes whose checks pass spell the instruction that is read.
use Rattle.std.proofs.Common.{◌≡◌, ℕ, suc, ◌+◌, ◌-◌, ◌*◌, ◌≤◌, ◌<◌, Bool, true, false, ◌&&◌, ltb, leb, eqb, List, [], ◌∷◌, ◌++◌, length, take, drop, Option, Some, None, refl, sym, ap, subst, ◌∙◌, arith, slice_index}
use Rattle.std.proofs.lemmas.Bool.{ltb-true, leb-true, eqb-true, not-false, and_parts, or_from, both_ways, false_from_ne_true}
use Rattle.std.proofs.lemmas.Bool.Decides.{nat_tests}
use Rattle.ja_code.specs.declared.form.Entry.{Entry}
use Rattle.ja_code.specs.declared.form.Entry.TheVariants.{Loadable, InterfaceMethod, Class}
use Rattle.ja_code.specs.declared.form.Form.{Form}
use Rattle.ja_code.specs.declared.form.Form.TheVariants.{Plain, Byte, Short, Local, Increment, ByteIndex, Index, Interface, Dynamic, ArrayType, Dimensions, Branch, FarBranch, TableSwitch, LookupSwitch, Wide}
use Rattle.ja_code.specs.Opcode.{form_at, is_refused}
use Rattle.ja_code.specs.Bytes.{u2_at, u4_at, near, far, places, rank, padding, tag_at, names}
use Rattle.ja_code.specs.Grammar.{Takes, Names, narrow, widened, IsInstr}
use Rattle.ja_code.specs.Faults.{Check, first_failing, has, right, unless, is_handle, front_size, size_at, least_key, greatest_key, pair_count, can_widen, wide_size, index_checks, opcode_checks, operand_checks, instr_checks}
use Rattle.ja_code.specs.InnerReading.{wide_operands, operands_at, instr_of, instr_with, instr_at}
use Rattle.ja_code.proofs.Pieces.{places_same, piece_at, piece_length, piece_number, table_text, lookup_text}
use Rattle.ja_code.proofs.Passing.{pass, has_there, size_there, size_some}

-- a check of operands that passes holds
right_holds : (pc : ℕ) (ok : Bool) (cs : List Check) → first_failing (right pc ok ∷ cs) ≡ None → ok ≡ true
right_holds pc ok cs e = not-false ok (pass (right pc ok) cs e).0

-- invokedynamic is refused
dynamic_refused : (op : ℕ) → form_at op ≡ Some Dynamic → is_refused op ≡ true
unfolding form_at
dynamic_refused op e =
    let here : op ≡ 186 = grind (arith, nat_tests) in
    rw here refl

-- an opcode with a wide form is accepted where it isn't ret
widened_accepted : (op : ℕ) → can_widen (form_at op) ≡ true → eqb op 169 ≡ false → is_refused op ≡ false
unfolding form_at
widened_accepted op can e =
    let other : (n : ℕ) → can_widen (form_at n) ≡ false → eqb op n ≡ false =
    λ n cannot. false_from_ne_true (eqb op n) (λ same. both_ways (can_widen (form_at n)) cannot (subst (λ (m : ℕ). can_widen (form_at m) ≡ true) (eqb-true op n same) can)) in
    or_from _ _ (or_from _ _ (or_from _ _ (other 168 refl) e) (other 186 refl)) (other 201 refl)

module _ (tags dims : List ℕ) (pc : ℕ) where
  plain_is : (bytes : List ℕ) → 1 ≤ length bytes → Takes (slice_index bytes 0) Plain → IsInstr tags dims pc (take 1 bytes) (narrow pc (slice_index bytes 0) [] 1)
  plain_is (op ∷ more) there takes = IsInstr.plain takes
  plain_is bytes there takes = absurd (omega arith)

  byte_is : (bytes : List ℕ) → 2 ≤ length bytes → Takes (slice_index bytes 0) Byte → IsInstr tags dims pc (take 2 bytes) (narrow pc (slice_index bytes 0) (slice_index bytes 1 ∷ []) 2)
  byte_is (op ∷ b ∷ more) there takes = IsInstr.byte takes
  byte_is bytes there takes = absurd (omega arith)

  short_is : (bytes : List ℕ) → 3 ≤ length bytes → Takes (slice_index bytes 0) Short → IsInstr tags dims pc (take 3 bytes) (narrow pc (slice_index bytes 0) (u2_at bytes 1 ∷ []) 3)
  short_is (op ∷ a ∷ b ∷ more) there takes = IsInstr.short takes
  short_is bytes there takes = absurd (omega arith)

  local_is : (bytes : List ℕ) → 2 ≤ length bytes → Takes (slice_index bytes 0) Local → IsInstr tags dims pc (take 2 bytes) (narrow pc (slice_index bytes 0) (slice_index bytes 1 ∷ []) 2)
  local_is (op ∷ n ∷ more) there takes = IsInstr.local takes
  local_is bytes there takes = absurd (omega arith)

  increment_is : (bytes : List ℕ) → 3 ≤ length bytes → Takes (slice_index bytes 0) Increment → IsInstr tags dims pc (take 3 bytes) (narrow pc (slice_index bytes 0) (slice_index bytes 1 ∷ slice_index bytes 2 ∷ []) 3)
  increment_is (op ∷ n ∷ c ∷ more) there takes = IsInstr.increment takes
  increment_is bytes there takes = absurd (omega arith)

  byte_index_is : (bytes : List ℕ) → 2 ≤ length bytes → Takes (slice_index bytes 0) ByteIndex → Names tags (slice_index bytes 1) Loadable
      → IsInstr tags dims pc (take 2 bytes) (narrow pc (slice_index bytes 0) (slice_index bytes 1 ∷ []) 2)
  byte_index_is (op ∷ i ∷ more) there takes named = IsInstr.byte_index takes named
  byte_index_is bytes there takes named = absurd (omega arith)

  index_is : (entry : Entry) (bytes : List ℕ) → 3 ≤ length bytes → Takes (slice_index bytes 0) (Index entry) → Names tags (u2_at bytes 1) entry
      → IsInstr tags dims pc (take 3 bytes) (narrow pc (slice_index bytes 0) (u2_at bytes 1 ∷ []) 3)
  index_is entry (op ∷ a ∷ b ∷ more) there takes named = IsInstr.index takes named
  index_is entry bytes there takes named = absurd (omega arith)

  interface_is : (bytes : List ℕ) → 5 ≤ length bytes → Takes (slice_index bytes 0) Interface → Names tags (u2_at bytes 1) InterfaceMethod
      → IsInstr tags dims pc (take 5 bytes) (narrow pc (slice_index bytes 0) (u2_at bytes 1 ∷ []) 5)
  interface_is (op ∷ a ∷ b ∷ x ∷ y ∷ more) there takes named = IsInstr.interface takes named
  interface_is bytes there takes named = absurd (omega arith)

  array_type_is : (bytes : List ℕ) → 2 ≤ length bytes → Takes (slice_index bytes 0) ArrayType → 4 ≤ slice_index bytes 1 → slice_index bytes 1 ≤ 11
      → IsInstr tags dims pc (take 2 bytes) (narrow pc (slice_index bytes 0) (slice_index bytes 1 ∷ []) 2)
  array_type_is (op ∷ t ∷ more) there takes least most = IsInstr.array_type takes least most
  array_type_is bytes there takes least most = absurd (omega arith)

  dimensions_is : (bytes : List ℕ) → 4 ≤ length bytes → Takes (slice_index bytes 0) Dimensions → Names tags (u2_at bytes 1) Class
      → 1 ≤ slice_index bytes 3 → slice_index bytes 3 ≤ slice_index dims (u2_at bytes 1)
      → IsInstr tags dims pc (take 4 bytes) (narrow pc (slice_index bytes 0) (u2_at bytes 1 ∷ slice_index bytes 3 ∷ []) 4)
  dimensions_is (op ∷ a ∷ b ∷ d ∷ more) there takes named least most = IsInstr.dimensions takes named least most
  dimensions_is bytes there takes named least most = absurd (omega arith)

  branch_is : (bytes : List ℕ) → 3 ≤ length bytes → Takes (slice_index bytes 0) Branch → IsInstr tags dims pc (take 3 bytes) (narrow pc (slice_index bytes 0) (near pc (u2_at bytes 1) ∷ []) 3)
  branch_is (op ∷ a ∷ b ∷ more) there takes = IsInstr.branch takes
  branch_is bytes there takes = absurd (omega arith)

  far_branch_is : (bytes : List ℕ) → 5 ≤ length bytes → Takes (slice_index bytes 0) FarBranch → IsInstr tags dims pc (take 5 bytes) (narrow pc (slice_index bytes 0) (far pc (u4_at bytes 1) ∷ []) 5)
  far_branch_is (op ∷ a ∷ b ∷ c ∷ d ∷ more) there takes = IsInstr.far_branch takes
  far_branch_is bytes there takes = absurd (omega arith)

  wide_local_is : (bytes : List ℕ) → 4 ≤ length bytes → Takes (slice_index bytes 0) Wide → Takes (slice_index bytes 1) Local
      → IsInstr tags dims pc (take 4 bytes) (widened pc (slice_index bytes 1) (u2_at bytes 2 ∷ []) 4)
  wide_local_is (w ∷ op ∷ a ∷ b ∷ more) there wide takes = IsInstr.wide_local wide takes
  wide_local_is bytes there wide takes = absurd (omega arith)

  wide_increment_is : (bytes : List ℕ) → 6 ≤ length bytes → Takes (slice_index bytes 0) Wide → Takes (slice_index bytes 1) Increment
      → IsInstr tags dims pc (take 6 bytes) (widened pc (slice_index bytes 1) (u2_at bytes 2 ∷ u2_at bytes 4 ∷ []) 6)
  wide_increment_is (w ∷ op ∷ a ∷ b ∷ c ∷ d ∷ more) there wide takes = IsInstr.wide_increment wide takes
  wide_increment_is bytes there wide takes = absurd (omega arith)

  table_switch_is : (bytes : List ℕ) (count : ℕ) → padding pc + 13 + 4 * count ≤ length bytes → Takes (slice_index bytes 0) TableSwitch
      → least_key pc bytes ≤ greatest_key pc bytes → count + least_key pc bytes ≡ greatest_key pc bytes + 1
      → IsInstr tags dims pc (take (padding pc + 13 + 4 * count) bytes)
      (narrow pc (slice_index bytes 0) (far pc (u4_at bytes (padding pc + 1)) ∷ places pc bytes 4 (padding pc + 13) count) (padding pc + 13 + 4 * count))
  table_switch_is [] count there takes order all = absurd (omega arith)
  table_switch_is (op ∷ rest) count there takes order all =
      let p : ℕ = padding pc in
      let bytes : List ℕ = op ∷ rest in
      let gap : List ℕ = take p (drop 1 bytes) in
      let default : List ℕ = take 4 (drop (1 + p) bytes) in
      let low : List ℕ = take 4 (drop (1 + p + 4) bytes) in
      let high : List ℕ = take 4 (drop (1 + p + 4 + 4) bytes) in
      let table : List ℕ = take (4 * count) (drop (1 + p + 4 + 4 + 4) bytes) in
      let default_is : u4_at default 0 ≡ u4_at bytes (p + 1) = piece_number bytes (1 + p) (p + 1) (omega arith) in
      let low_is : u4_at low 0 ≡ u4_at bytes (p + 5) = piece_number bytes (1 + p + 4) (p + 5) (omega arith) in
      let high_is : u4_at high 0 ≡ u4_at bytes (p + 9) = piece_number bytes (1 + p + 4 + 4) (p + 9) (omega arith) in
      let table_is : places pc table 4 0 count ≡ places pc bytes 4 (p + 13) count =
      places_same pc 4 table bytes 0 (p + 13) count (4 * count) (omega arith) (λ k below. piece_at bytes (4 * count) (1 + p + 4 + 4 + 4) 0 (p + 13) k (omega arith) (omega arith)) in
      let here : length bytes ≡ suc (length rest) = refl in
      let least_is : rank (u4_at low 0) ≡ least_key pc bytes = ap rank low_is in
      let greatest_is : rank (u4_at high 0) ≡ greatest_key pc bytes = ap rank high_is in
      let spelled = IsInstr.table_switch {op = op} gap default low high table count takes
      (piece_length bytes p 1 (omega arith)) (piece_length bytes 4 (1 + p) (omega arith))
      (piece_length bytes 4 (1 + p + 4) (omega arith)) (piece_length bytes 4 (1 + p + 4 + 4) (omega arith))
      (omega (arith, least_is, greatest_is, order)) (omega (arith, least_is, greatest_is, all))
      (piece_length bytes (4 * count) (1 + p + 4 + 4 + 4) (omega arith)) in
      let operands : far pc (u4_at default 0) ∷ places pc table 4 0 count ≡ far pc (u4_at bytes (p + 1)) ∷ places pc bytes 4 (p + 13) count =
      ap (λ (t : ℕ). far pc t ∷ places pc table 4 0 count) default_is ∙ ap (λ (ts : List ℕ). far pc (u4_at bytes (p + 1)) ∷ ts) table_is in
      subst (λ (t : List ℕ). IsInstr tags dims pc t (narrow pc op (far pc (u4_at bytes (p + 1)) ∷ places pc bytes 4 (p + 13) count) (p + 13 + 4 * count)))
      (sym (table_text op rest p (4 * count)))
      (subst (λ (ts : List ℕ). IsInstr tags dims pc (op ∷ (gap ++ (default ++ (low ++ (high ++ table))))) (narrow pc op ts (p + 13 + 4 * count))) operands spelled)

  lookup_switch_is : (bytes : List ℕ) (n : ℕ) → padding pc + 9 + 8 * n ≤ length bytes → Takes (slice_index bytes 0) LookupSwitch
      → n ≡ pair_count pc bytes → n < 2147483648
      → IsInstr tags dims pc (take (padding pc + 9 + 8 * n) bytes)
      (narrow pc (slice_index bytes 0) (far pc (u4_at bytes (padding pc + 1)) ∷ places pc bytes 8 (padding pc + 13) n) (padding pc + 9 + 8 * n))
  lookup_switch_is [] n there takes counted below = absurd (omega arith)
  lookup_switch_is (op ∷ rest) n there takes counted below =
      let p : ℕ = padding pc in
      let bytes : List ℕ = op ∷ rest in
      let here : length bytes ≡ suc (length rest) = refl in
      let gap : List ℕ = take p (drop 1 bytes) in
      let default : List ℕ = take 4 (drop (1 + p) bytes) in
      let count : List ℕ = take 4 (drop (1 + p + 4) bytes) in
      let pairs : List ℕ = take (8 * n) (drop (1 + p + 4 + 4) bytes) in
      let default_is : u4_at default 0 ≡ u4_at bytes (p + 1) = piece_number bytes (1 + p) (p + 1) (omega arith) in
      let count_is : u4_at count 0 ≡ n = piece_number bytes (1 + p + 4) (p + 5) (omega arith) ∙ sym counted in
      let pairs_is : places pc pairs 8 4 n ≡ places pc bytes 8 (p + 13) n =
      places_same pc 8 pairs bytes 4 (p + 13) n (8 * n - 4) (omega arith) (λ k within. piece_at bytes (8 * n) (1 + p + 4 + 4) 4 (p + 13) k (omega arith) (omega arith)) in
      let spelled = IsInstr.lookup_switch {op = op} gap default count pairs takes
      (piece_length bytes p 1 (omega arith)) (piece_length bytes 4 (1 + p) (omega arith)) (piece_length bytes 4 (1 + p + 4) (omega arith))
      (rw count_is below) (rw count_is (piece_length bytes (8 * n) (1 + p + 4 + 4) (omega arith))) in
      let text : List ℕ = op ∷ (gap ++ (default ++ (count ++ pairs))) in
      let counted_so = subst (λ (m : ℕ). IsInstr tags dims pc text (narrow pc op (far pc (u4_at default 0) ∷ places pc pairs 8 4 m) (p + 9 + 8 * m))) count_is spelled in
      let operands : far pc (u4_at default 0) ∷ places pc pairs 8 4 n ≡ far pc (u4_at bytes (p + 1)) ∷ places pc bytes 8 (p + 13) n =
      ap (λ (t : ℕ). far pc t ∷ places pc pairs 8 4 n) default_is ∙ ap (λ (ts : List ℕ). far pc (u4_at bytes (p + 1)) ∷ ts) pairs_is in
      subst (λ (t : List ℕ). IsInstr tags dims pc t (narrow pc op (far pc (u4_at bytes (p + 1)) ∷ places pc bytes 8 (p + 13) n) (p + 9 + 8 * n)))
      (sym (lookup_text op rest p (8 * n)))
      (subst (λ (ts : List ℕ). IsInstr tags dims pc text (narrow pc op ts (p + 9 + 8 * n))) operands counted_so)

  -- an index that passes names what it must
  named : (entry : Entry) (op tag : ℕ) → first_failing (index_checks entry pc op tag) ≡ None → names entry tag ≡ true
  named entry op tag e =
      let a = pass (unless pc op (is_handle entry tag)) (right pc (names entry tag) ∷ []) e in
      not-false _ (pass (right pc (names entry tag)) [] a.1).0

  wide_is : (bytes : List ℕ) (o : Option Form) → form_at (slice_index bytes 1) ≡ o → can_widen o ≡ true → is_refused (slice_index bytes 1) ≡ false
      → wide_size o ≤ length bytes → Takes (slice_index bytes 0) Wide
      → IsInstr tags dims pc (take (wide_size o) bytes) (widened pc (slice_index bytes 1) (wide_operands o bytes) (wide_size o))
  wide_is bytes None e can free there takes = absurd cc
  wide_is bytes (Some Local) e can free there takes = wide_local_is bytes there takes (e, free)
  wide_is bytes (Some Increment) e can free there takes = wide_increment_is bytes there takes (e, free)
  wide_is bytes (Some _) e can free there takes = absurd cc

  by_form : (form : Form) (bytes : List ℕ) → front_size form pc ≤ length bytes → size_at form pc bytes ≤ length bytes → Takes (slice_index bytes 0) form
      → first_failing (operand_checks form tags dims pc bytes) ≡ None
      → IsInstr tags dims pc (take (size_at form pc bytes) bytes) (instr_of form pc bytes)
  unfolding size_at operand_checks operands_at
  by_form Plain bytes front there takes e = plain_is bytes front takes
  by_form Byte bytes front there takes e = byte_is bytes front takes
  by_form Short bytes front there takes e = short_is bytes front takes
  by_form Local bytes front there takes e = local_is bytes front takes
  by_form Increment bytes front there takes e = increment_is bytes front takes
  by_form ByteIndex bytes front there takes e = byte_index_is bytes front takes (named Loadable (slice_index bytes 0) (tag_at tags (slice_index bytes 1)) e)
  by_form (Index entry) bytes front there takes e = index_is entry bytes front takes (named entry (slice_index bytes 0) (tag_at tags (u2_at bytes 1)) e)
  by_form Interface bytes front there takes e = interface_is bytes front takes (named InterfaceMethod (slice_index bytes 0) (tag_at tags (u2_at bytes 1)) e)
  by_form Dynamic bytes front there takes e = absurd (both_ways _ takes.1 (dynamic_refused (slice_index bytes 0) takes.0))
  by_form ArrayType bytes front there takes e =
      let a = and_parts (leb 4 (slice_index bytes 1)) (leb (slice_index bytes 1) 11) (right_holds pc _ [] e) in
      array_type_is bytes front takes (leb-true _ _ a.0) (leb-true _ _ a.1)
  by_form Dimensions bytes front there takes e =
      let class : Bool = names Class (tag_at tags (u2_at bytes 1)) in
      let number : Bool = leb 1 (slice_index bytes 3) && leb (slice_index bytes 3) (slice_index dims (u2_at bytes 1)) in
      let a = and_parts _ _ (right_holds pc number [] (pass (right pc class) (right pc number ∷ []) e).1) in
      dimensions_is bytes front takes (right_holds pc class (right pc number ∷ []) e) (leb-true _ _ a.0) (leb-true _ _ a.1)
  by_form Branch bytes front there takes e = branch_is bytes front takes
  by_form FarBranch bytes front there takes e = far_branch_is bytes front takes
  by_form TableSwitch bytes front there takes e =
      let least : ℕ = least_key pc bytes in
      let greatest : ℕ = greatest_key pc bytes in
      let order : least ≤ greatest = leb-true _ _ (right_holds pc (leb least greatest) (has pc bytes (size_at TableSwitch pc bytes) ∷ []) e) in
      table_switch_is bytes (greatest + 1 - least) there takes order (omega (arith, order))
  by_form LookupSwitch bytes front there takes e =
      let below : pair_count pc bytes < 2147483648 = ltb-true _ _ (right_holds pc (ltb (pair_count pc bytes) 2147483648) (has pc bytes (size_at LookupSwitch pc bytes) ∷ []) e) in
      lookup_switch_is bytes (pair_count pc bytes) there takes refl below
  by_form Wide bytes front there takes e =
      let there_too = has pc bytes (size_at Wide pc bytes) in
      let widens : Bool = can_widen (form_at (slice_index bytes 1)) in
      let a = pass (unless pc (slice_index bytes 0) (eqb (slice_index bytes 1) 169)) (right pc widens ∷ there_too ∷ []) e in
      let can = right_holds pc widens (there_too ∷ []) a.1 in
      wide_is bytes (form_at (slice_index bytes 1)) refl can (widened_accepted (slice_index bytes 1) can a.0) there takes

  -- the bytes of an instruction whose checks pass, by the form of its opcode
  by_opcode : (o : Option Form) (bytes : List ℕ) → form_at (slice_index bytes 0) ≡ o → first_failing (opcode_checks o tags dims pc bytes) ≡ None
      → IsInstr tags dims pc (take (instr_with o pc bytes).length bytes) (instr_with o pc bytes)
      × ((instr_with o pc bytes).length ≤ length bytes) × (0 < (instr_with o pc bytes).length)
  by_opcode None bytes o e = absurd cc
  by_opcode (Some form) bytes o e =
      let op : ℕ = slice_index bytes 0 in
      let rest : List Check = operand_checks form tags dims pc bytes in
      let a = pass (unless pc op (is_refused op)) (has pc bytes (front_size form pc) ∷ rest) e in
      let b = pass (has pc bytes (front_size form pc)) rest a.1 in
      let front = has_there pc bytes (front_size form pc) rest a.1 in
      let there = size_there form tags dims pc bytes front b.1 in
      (by_form form bytes front there (o, a.0) b.1, there, size_some form pc bytes)

  -- Bytes whose checks pass begin with the instruction that is read.
  pub instr_is : (bytes : List ℕ) → first_failing (instr_checks tags dims pc bytes) ≡ None
      → IsInstr tags dims pc (take (instr_at pc bytes).length bytes) (instr_at pc bytes)
      × ((instr_at pc bytes).length ≤ length bytes) × (0 < (instr_at pc bytes).length)
  unfolding instr_checks instr_at
  instr_is bytes e = by_opcode (form_at (slice_index bytes 0)) bytes refl e
