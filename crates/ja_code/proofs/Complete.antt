-- The bytes of a spelled instruction pass their checks, and are read as that instruction.
use Rattle.std.proofs.Common.{◌≡◌, ℕ, ◌+◌, ◌-◌, ◌*◌, ◌≤◌, ◌<◌, Bool, true, false, ◌&&◌, ◌||◌, cond, ltb, leb, eqb, List, [], ◌∷◌, ◌++◌, length, get_or, Option, Some, None, refl, ap, subst, ◌∙◌, arith, slice_index, append_assoc, zero-add}
use Rattle.std.proofs.lemmas.Bool.{lt-ltb, le-ltb, le-leb, and_from, or_parts, not_from_true}
use Rattle.std.proofs.lemmas.List.{length-append, get_or-append-add, get_or_append_left}
use Rattle.std.proofs.lemmas.Bool.Decides.{nat_tests}
use Rattle.ja_code.specs.declared.form.Entry.{Entry}
use Rattle.ja_code.specs.declared.form.Entry.TheVariants.{Loadable, InterfaceMethod, Class}
use Rattle.ja_code.specs.declared.form.Form.{Form}
use Rattle.ja_code.specs.declared.form.Form.TheVariants.{Plain, Byte, Short, Local, Increment, ByteIndex, Index, Interface, ArrayType, Dimensions, Branch, FarBranch, TableSwitch, LookupSwitch, Wide}
use Rattle.ja_code.specs.declared.instr.RawInstr.{RawInstr}
use Rattle.ja_code.specs.declared.fault.CodeFault.{CodeFault}
use Rattle.ja_code.specs.Opcode.{form_at, is_refused}
use Rattle.ja_code.specs.Bytes.{u2, u4_at, far, places, rank, padding, tag_at, names}
use Rattle.ja_code.specs.Grammar.{Takes, narrow, widened, IsInstr}
use Rattle.ja_code.specs.Faults.{Check, first_failing, has, right, unless, is_handle, front_size, size_at, least_key, greatest_key, pair_count, can_widen, wide_size, index_checks, operand_checks, instr_checks}
use Rattle.ja_code.specs.InnerReading.{wide_operands, operands_at, instr_of, instr_at}
use Rattle.ja_code.proofs.Pieces.{places_same, u4_same}

-- checks that pass
abbrev pub Pass : List Check → Type 0
Pass cs = first_failing cs ≡ None

pub goes : (c : Check) (cs : List Check) → c.fails ≡ false → Pass cs → Pass (c ∷ cs)
goes c cs e more = by_cases c.fails c.fault (first_failing cs) e more
  where
    by_cases : (b : Bool) (f : CodeFault) (o : Option CodeFault) → b ≡ false → o ≡ None → cond b (Some f) o ≡ None
    by_cases true f o e more = absurd cc
    by_cases false f o e more = more

has_goes : (pc : ℕ) (bytes : List ℕ) (n : ℕ) (cs : List Check) → n ≤ length bytes → Pass cs → Pass (has pc bytes n ∷ cs)
has_goes pc bytes n cs there more = goes (has pc bytes n) cs (le-ltb _ _ there) more

right_goes : (pc : ℕ) (ok : Bool) (cs : List Check) → ok ≡ true → Pass cs → Pass (right pc ok ∷ cs)
right_goes pc ok cs holds more = goes (right pc ok) cs (not_from_true ok holds) more

-- no entry that is named is a handle
not_handle : (entry : Entry) (tag : ℕ) → names entry tag ≡ true → is_handle entry tag ≡ false
not_handle Loadable tag e = grind (arith, nat_tests)
not_handle entry tag e = refl

index_goes : (entry : Entry) (pc op tag : ℕ) → names entry tag ≡ true → Pass (index_checks entry pc op tag)
index_goes entry pc op tag named =
    goes (unless pc op (is_handle entry tag)) (right pc (names entry tag) ∷ []) (not_handle entry tag named) (right_goes pc (names entry tag) [] named refl)

-- a byte of a part
part_at : (bytes front part behind : List ℕ) (place k : ℕ) → bytes ≡ front ++ (part ++ behind) → length front ≡ place → k < length part
    → get_or bytes (place + k) 0 ≡ get_or part (0 + k) 0
part_at bytes front part behind place k e len below =
    rw (e, zero-add, ← len, get_or-append-add front (part ++ behind) k 0, get_or_append_left part behind 0 k below) refl

-- the number of a part of four bytes
part_number : (bytes front part behind : List ℕ) (place : ℕ) → bytes ≡ front ++ (part ++ behind) → length front ≡ place → length part ≡ 4
    → u4_at bytes place ≡ u4_at part 0
part_number bytes front part behind place e len four = u4_same bytes part place 0 (λ k below. part_at bytes front part behind place k e len (omega arith))

-- what the bytes of an instruction are read as, whatever follows them
pub record Reads (tags dims : List ℕ) (pc : ℕ) (bytes : List ℕ) (i : RawInstr) : Type 0 where
  pub passes : first_failing (instr_checks tags dims pc bytes) ≡ None
  pub value : instr_at pc bytes ≡ i

module _ (tags dims : List ℕ) (pc : ℕ) where
  -- an instruction is read by its form
  reads : (form : Form) (op : ℕ) (rest : List ℕ) → Takes op form → front_size form pc ≤ length (op ∷ rest)
      → Pass (operand_checks form tags dims pc (op ∷ rest)) → Reads tags dims pc (op ∷ rest) (instr_of form pc (op ∷ rest))
  unfolding instr_checks instr_at
  reads form op rest takes front passes =
      let bytes : List ℕ = op ∷ rest in
      let all = goes (unless pc op (is_refused op)) (has pc bytes (front_size form pc) ∷ operand_checks form tags dims pc bytes) takes.1
      (has_goes pc bytes (front_size form pc) (operand_checks form tags dims pc bytes) front passes) in
      record {
        passes = rw (takes.0) all;
        value = rw (takes.0) refl;
      }

  table_reads : (op : ℕ) (gap default low high table rest : List ℕ) (count : ℕ) → Takes op TableSwitch
      → length gap ≡ padding pc → length default ≡ 4 → length low ≡ 4 → length high ≡ 4
      → rank (u4_at low 0) ≤ rank (u4_at high 0) → count + rank (u4_at low 0) ≡ rank (u4_at high 0) + 1 → length table ≡ 4 * count
      → Reads tags dims pc (op ∷ ((gap ++ (default ++ (low ++ (high ++ table)))) ++ rest))
      (narrow pc op (far pc (u4_at default 0) ∷ places pc table 4 0 count) (padding pc + 13 + 4 * count))
  unfolding operand_checks operands_at size_at
  table_reads op gap default low high table rest count takes lg ld ll lh order all lt =
      let p : ℕ = padding pc in
      let tail : List ℕ = (gap ++ (default ++ (low ++ (high ++ table)))) ++ rest in
      let bytes : List ℕ = op ∷ tail in
      let f1 : List ℕ = op ∷ gap in
      let f2 : List ℕ = f1 ++ default in
      let f3 : List ℕ = f2 ++ low in
      let f4 : List ℕ = f3 ++ high in
      let l1 : length f1 ≡ p + 1 = omega arith in
      let l2 : length f2 ≡ p + 5 = omega (arith, length-append f1 default) in
      let l3 : length f3 ≡ p + 9 = omega (arith, length-append f2 low) in
      let l4 : length f4 ≡ p + 13 = omega (arith, length-append f3 high) in
      let e4 : bytes ≡ f4 ++ (table ++ rest) = simp append_assoc in
      let default_is : u4_at bytes (p + 1) ≡ u4_at default 0 = part_number bytes f1 default (low ++ (high ++ (table ++ rest))) (p + 1) (simp append_assoc) l1 ld in
      let low_is : u4_at bytes (p + 5) ≡ u4_at low 0 = part_number bytes f2 low (high ++ (table ++ rest)) (p + 5) (simp append_assoc) l2 ll in
      let high_is : u4_at bytes (p + 9) ≡ u4_at high 0 = part_number bytes f3 high (table ++ rest) (p + 9) (simp append_assoc) l3 lh in
      let least_is : least_key pc bytes ≡ rank (u4_at low 0) = ap rank low_is in
      let greatest_is : greatest_key pc bytes ≡ rank (u4_at high 0) = ap rank high_is in
      let count_is : greatest_key pc bytes + 1 - least_key pc bytes ≡ count = omega (arith, least_is, greatest_is, order, all) in
      let len : length bytes ≡ p + 13 + (4 * count + length rest) = ap length e4 ∙ omega (arith, length-append f4 (table ++ rest), length-append table rest) in
      let table_is : places pc bytes 4 (p + 13) count ≡ places pc table 4 0 count =
      places_same pc 4 bytes table (p + 13) 0 count (4 * count) (omega arith) (λ k below. part_at bytes f4 table rest (p + 13) k e4 l4 (omega arith)) in
      let there : padding pc + 13 + 4 * (greatest_key pc bytes + 1 - least_key pc bytes) ≤ length bytes = rw count_is (omega (arith, len)) in
      let passes : Pass (operand_checks TableSwitch tags dims pc bytes) =
      right_goes pc (leb (least_key pc bytes) (greatest_key pc bytes)) (has pc bytes (size_at TableSwitch pc bytes) ∷ []) (le-leb _ _ (omega (arith, least_is, greatest_is, order)))
      (has_goes pc bytes (size_at TableSwitch pc bytes) [] there refl) in
      let value : instr_of TableSwitch pc bytes ≡ narrow pc op (far pc (u4_at default 0) ∷ places pc table 4 0 count) (p + 13 + 4 * count) =
      ap (λ (m : ℕ). narrow pc op (far pc (u4_at bytes (p + 1)) ∷ places pc bytes 4 (p + 13) m) (p + 13 + 4 * m)) count_is
      ∙ ap (λ (t : ℕ). narrow pc op (far pc t ∷ places pc bytes 4 (p + 13) count) (p + 13 + 4 * count)) default_is
      ∙ ap (λ (ts : List ℕ). narrow pc op (far pc (u4_at default 0) ∷ ts) (p + 13 + 4 * count)) table_is in
      subst (λ (i : RawInstr). Reads tags dims pc bytes i) value (reads TableSwitch op tail takes (omega (arith, len)) passes)

  lookup_reads : (op : ℕ) (gap default count pairs rest : List ℕ) → Takes op LookupSwitch
      → length gap ≡ padding pc → length default ≡ 4 → length count ≡ 4 → u4_at count 0 < 2147483648 → length pairs ≡ 8 * u4_at count 0
      → Reads tags dims pc (op ∷ ((gap ++ (default ++ (count ++ pairs))) ++ rest))
      (narrow pc op (far pc (u4_at default 0) ∷ places pc pairs 8 4 (u4_at count 0)) (padding pc + 9 + 8 * u4_at count 0))
  unfolding operand_checks operands_at size_at
  lookup_reads op gap default count pairs rest takes lg ld lc below lp =
      let p : ℕ = padding pc in
      let n : ℕ = u4_at count 0 in
      let tail : List ℕ = (gap ++ (default ++ (count ++ pairs))) ++ rest in
      let bytes : List ℕ = op ∷ tail in
      let f1 : List ℕ = op ∷ gap in
      let f2 : List ℕ = f1 ++ default in
      let f3 : List ℕ = f2 ++ count in
      let l1 : length f1 ≡ p + 1 = omega arith in
      let l2 : length f2 ≡ p + 5 = omega (arith, length-append f1 default) in
      let l3 : length f3 ≡ p + 9 = omega (arith, length-append f2 count) in
      let e3 : bytes ≡ f3 ++ (pairs ++ rest) = simp append_assoc in
      let default_is : u4_at bytes (p + 1) ≡ u4_at default 0 = part_number bytes f1 default (count ++ (pairs ++ rest)) (p + 1) (simp append_assoc) l1 ld in
      let count_is : pair_count pc bytes ≡ n = part_number bytes f2 count (pairs ++ rest) (p + 5) (simp append_assoc) l2 lc in
      let len : length bytes ≡ p + 9 + (8 * n + length rest) = ap length e3 ∙ omega (arith, length-append f3 (pairs ++ rest), length-append pairs rest) in
      let pairs_is : places pc bytes 8 (p + 13) n ≡ places pc pairs 8 4 n =
      places_same pc 8 bytes pairs (p + 13) 4 n (8 * n - 4) (omega arith) (λ k within. pair_at bytes f3 pairs rest p k e3 l3 (omega arith)) in
      let there : padding pc + 9 + 8 * pair_count pc bytes ≤ length bytes = rw count_is (omega (arith, len)) in
      let passes : Pass (operand_checks LookupSwitch tags dims pc bytes) =
      right_goes pc (ltb (pair_count pc bytes) 2147483648) (has pc bytes (size_at LookupSwitch pc bytes) ∷ []) (lt-ltb _ _ (rw count_is below))
      (has_goes pc bytes (size_at LookupSwitch pc bytes) [] there refl) in
      let value : instr_of LookupSwitch pc bytes ≡ narrow pc op (far pc (u4_at default 0) ∷ places pc pairs 8 4 n) (p + 9 + 8 * n) =
      ap (λ (m : ℕ). narrow pc op (far pc (u4_at bytes (p + 1)) ∷ places pc bytes 8 (p + 13) m) (p + 9 + 8 * m)) count_is
      ∙ ap (λ (t : ℕ). narrow pc op (far pc t ∷ places pc bytes 8 (p + 13) n) (p + 9 + 8 * n)) default_is
      ∙ ap (λ (ts : List ℕ). narrow pc op (far pc (u4_at default 0) ∷ ts) (p + 9 + 8 * n)) pairs_is in
      subst (λ (i : RawInstr). Reads tags dims pc bytes i) value (reads LookupSwitch op tail takes (omega (arith, len)) passes)
    where
      pair_at : (bytes front pairs behind : List ℕ) (p k : ℕ) → bytes ≡ front ++ (pairs ++ behind) → length front ≡ p + 9 → 4 + k < length pairs
          → get_or bytes (p + 13 + k) 0 ≡ get_or pairs (4 + k) 0
      pair_at bytes front pairs behind p k e len below =
          let place : p + 13 + k ≡ length front + (4 + k) = omega arith in
          rw (e, place, get_or-append-add front (pairs ++ behind) (4 + k) 0, get_or_append_left pairs behind 0 (4 + k) below) refl

  wide_reads : (wide op : ℕ) (form : Form) (rest : List ℕ) → Takes wide Wide → Takes op form → can_widen (Some form) ≡ true
      → wide_size (Some form) ≤ length (wide ∷ op ∷ rest)
      → Reads tags dims pc (wide ∷ op ∷ rest) (widened pc op (wide_operands (Some form) (wide ∷ op ∷ rest)) (wide_size (Some form)))
  unfolding operand_checks operands_at size_at
  wide_reads wide op form rest takes widens can there =
      let bytes : List ℕ = wide ∷ op ∷ rest in
      let not_ret : eqb op 169 ≡ false =
      (or_parts (eqb op 168) (eqb op 169) (or_parts (eqb op 168 || eqb op 169) (eqb op 186) (or_parts (eqb op 168 || eqb op 169 || eqb op 186) (eqb op 201) widens.1).0).0).1 in
      let passes : Pass (operand_checks Wide tags dims pc bytes) =
      goes (unless pc wide (eqb op 169)) (right pc (can_widen (form_at op)) ∷ has pc bytes (wide_size (form_at op)) ∷ []) not_ret
      (right_goes pc (can_widen (form_at op)) (has pc bytes (wide_size (form_at op)) ∷ []) (rw widens.0 can)
      (has_goes pc bytes (wide_size (form_at op)) [] (rw widens.0 there) refl)) in
      subst (λ (o : Option Form). Reads tags dims pc bytes (widened pc op (wide_operands o bytes) (wide_size o))) widens.0
      (reads Wide wide (op ∷ rest) takes (omega arith) passes)

  pub instr_reads : (text : List ℕ) (i : RawInstr) → IsInstr tags dims pc text i → (rest : List ℕ) → Reads tags dims pc (text ++ rest) i
  unfolding operand_checks operands_at size_at
  instr_reads text i (IsInstr.plain {op} takes) rest = reads Plain op rest takes (omega arith) refl
  instr_reads text i (IsInstr.byte {op} {b} takes) rest = reads Byte op (b ∷ rest) takes (omega arith) refl
  instr_reads text i (IsInstr.short {op} {a} {b} takes) rest = reads Short op (a ∷ b ∷ rest) takes (omega arith) refl
  instr_reads text i (IsInstr.local {op} {n} takes) rest = reads Local op (n ∷ rest) takes (omega arith) refl
  instr_reads text i (IsInstr.increment {op} {n} {c} takes) rest = reads Increment op (n ∷ c ∷ rest) takes (omega arith) refl
  instr_reads text i (IsInstr.byte_index {op} {i = n} takes named) rest = reads ByteIndex op (n ∷ rest) takes (omega arith) (index_goes Loadable pc op (tag_at tags n) named)
  instr_reads text i (IsInstr.index {op} {a} {b} {entry} takes named) rest =
      reads (Index entry) op (a ∷ b ∷ rest) takes (omega arith) (index_goes entry pc op (tag_at tags (u2 a b)) named)
  instr_reads text i (IsInstr.interface {op} {a} {b} {x} {y} takes named) rest =
      reads Interface op (a ∷ b ∷ x ∷ y ∷ rest) takes (omega arith) (index_goes InterfaceMethod pc op (tag_at tags (u2 a b)) named)
  instr_reads text i (IsInstr.array_type {op} {t} takes least most) rest =
      reads ArrayType op (t ∷ rest) takes (omega arith) (right_goes pc (leb 4 t && leb t 11) [] (and_from _ _ (le-leb _ _ least) (le-leb _ _ most)) refl)
  instr_reads text i (IsInstr.dimensions {op} {a} {b} {d} takes named least most) rest =
      let number : Bool = leb 1 d && leb d (slice_index dims (u2 a b)) in
      reads Dimensions op (a ∷ b ∷ d ∷ rest) takes (omega arith)
      (right_goes pc (names Class (tag_at tags (u2 a b))) (right pc number ∷ []) named
      (right_goes pc number [] (and_from _ _ (le-leb _ _ least) (le-leb _ _ most)) refl))
  instr_reads text i (IsInstr.branch {op} {a} {b} takes) rest = reads Branch op (a ∷ b ∷ rest) takes (omega arith) refl
  instr_reads text i (IsInstr.far_branch {op} {a} {b} {c} {d} takes) rest = reads FarBranch op (a ∷ b ∷ c ∷ d ∷ rest) takes (omega arith) refl
  instr_reads text i (IsInstr.table_switch {op} gap default low high table count takes lg ld ll lh order all lt) rest =
      table_reads op gap default low high table rest count takes lg ld ll lh order all lt
  instr_reads text i (IsInstr.lookup_switch {op} gap default count pairs takes lg ld lc below lp) rest =
      lookup_reads op gap default count pairs rest takes lg ld lc below lp
  instr_reads text i (IsInstr.wide_local {wide} {op} {a} {b} takes widens) rest = wide_reads wide op Local (a ∷ b ∷ rest) takes widens refl (omega arith)
  instr_reads text i (IsInstr.wide_increment {wide} {op} {a} {b} {c} {d} takes widens) rest =
      wide_reads wide op Increment (a ∷ b ∷ c ∷ d ∷ rest) takes widens refl (omega arith)

  -- an instruction is as long as it says, and has a byte
  pub instr_length : (text : List ℕ) (i : RawInstr) → IsInstr tags dims pc text i → (length text ≡ i.length) × (0 < length text)
  instr_length text i (IsInstr.plain takes) = (refl, omega arith)
  instr_length text i (IsInstr.byte takes) = (refl, omega arith)
  instr_length text i (IsInstr.short takes) = (refl, omega arith)
  instr_length text i (IsInstr.local takes) = (refl, omega arith)
  instr_length text i (IsInstr.increment takes) = (refl, omega arith)
  instr_length text i (IsInstr.byte_index takes named) = (refl, omega arith)
  instr_length text i (IsInstr.index takes named) = (refl, omega arith)
  instr_length text i (IsInstr.interface takes named) = (refl, omega arith)
  instr_length text i (IsInstr.array_type takes least most) = (refl, omega arith)
  instr_length text i (IsInstr.dimensions takes named least most) = (refl, omega arith)
  instr_length text i (IsInstr.branch takes) = (refl, omega arith)
  instr_length text i (IsInstr.far_branch takes) = (refl, omega arith)
  instr_length text i (IsInstr.table_switch gap default low high table count takes lg ld ll lh order all lt) =
      (simp length-append (omega arith), omega arith)
  instr_length text i (IsInstr.lookup_switch gap default count pairs takes lg ld lc below lp) = (simp length-append (omega arith), omega arith)
  instr_length text i (IsInstr.wide_local wide takes) = (refl, omega arith)
  instr_length text i (IsInstr.wide_increment wide takes) = (refl, omega arith)
