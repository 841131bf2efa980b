-- The bytes of the instructions of a method and its exception table spell its code, and say what is listed.
use Rattle.std.proofs.Common.{◌≡◌, ℕ, ◌+◌, ◌^◌, ◌<◌, ◌≤◌, Bool, true, false, cond, ◌||◌, eqb, ltb, List, [], ◌∷◌, length, map, Option, Some, None, refl, sym, ap, subst, ◌∙◌, arith}
use Rattle.std.specs.Prelude.{◌==◌}
use Rattle.std.specs.List.{list_all, AllByRecursion}
use Rattle.std.proofs.lemmas.Bool.{and_from, or_left, or_right, lt-ltb, eq-eqb, false≢true}
use Rattle.std.proofs.lemmas.List.{length-append}
use Rattle.ja_code.specs.declared.form.Entry.TheVariants as entry_kinds
use Rattle.ja_code.specs.declared.form.Form.{Form}
use Rattle.ja_code.specs.declared.form.Form.TheVariants as forms
use Rattle.ja_code.specs.declared.instr.RawInstr.{RawInstr}
use Rattle.ja_code.specs.Opcode.{form_at}
use Rattle.ja_code.specs.Bytes.{names}
use Rattle.ja_code.specs.Grammar.{narrow, AreInstrs, is_start, is_branch, leads_to_starts, is_handler}
use Rattle.ja_pool.specs.Table.{Table, tag_at, tags_of, dims_of}
use Rattle.ja_attributes.specs.Attribute.{IsHandler}
use Rattle.ja_listing.specs.declared.item.Operand.{Operand}
use Rattle.ja_listing.specs.declared.item.Operand.TheVariants.{Label}
use Rattle.ja_assembly.specs.Members.{Labelled, Range, size_of_opcode, code_size, is_label_of, place_of_label}
use Rattle.ja_assembly.specs.Wanted.{catch_keys}
use Rattle.ja_assembly.specs.Unwritable.{suits, IsNoValue, IsNoTarget}
use Rattle.ja_assembly.specs.Assembled.{Pool, class_index, place_or_0, operand_bytes, instruction_bytes, catch_index, row_of}
use Rattle.ja_assembly.specs.Written.{SayInstructions, SaysCatch, SayRanges}
use Rattle.ja_assembly.specs.Right.{AreIn, TellsClass, IsRightPool, IsRightInstruction, AreRightInstructions, IsRightRange}
use Rattle.ja_assembly.proofs.Spelled.{operands_of, IsSpelled, form_spelled}

-- ---- the decoded instructions

abbrev pub decoded : Pool → (List ℕ → Option ℕ) → ℕ → Labelled → RawInstr
decoded pool labels pc i = narrow pc i.opcode (operands_of pool labels (form_at i.opcode) i.operand) (size_of_opcode i.opcode)

abbrev pub all_decoded : Pool → (List ℕ → Option ℕ) → ℕ → List Labelled → List RawInstr
all_decoded pool labels pc [] = []
all_decoded pool labels pc (i ∷ is) = decoded pool labels pc i ∷ all_decoded pool labels (pc + size_of_opcode i.opcode) is

-- ---- labels

first_label : (test : Bool) (pc size : ℕ) (others : Option ℕ) (place : ℕ) → cond test (Some pc) others ≡ Some place → (others ≡ Some place → place ≤ pc + size) → place ≤ pc + size
first_label true pc size others place e more = let same : pc ≡ place = cc in omega arith
first_label false pc size others place e more = more e

-- a label stands in the code
pub label_within : (pc : ℕ) (is : List Labelled) (name : List ℕ) (place : ℕ) → place_of_label pc is name ≡ Some place → place ≤ pc + code_size is
label_within pc [] name place e = absurd cc
label_within pc (i ∷ is) name place e =
    first_label (is_label_of name i.label) pc (size_of_opcode i.opcode + code_size is) (place_of_label (pc + size_of_opcode i.opcode) is name) place e
    (λ later. let h : place ≤ pc + size_of_opcode i.opcode + code_size is = label_within (pc + size_of_opcode i.opcode) is name place later in omega arith)

first_start : (test : Bool) (pc : ℕ) (others : Option ℕ) (place : ℕ) (later : Bool) → cond test (Some pc) others ≡ Some place → (others ≡ Some place → later ≡ true) → (eqb pc place || later) ≡ true
first_start true pc others place later e more = or_left (eqb pc place) later (eq-eqb pc place cc)
first_start false pc others place later e more = or_right (eqb pc place) later (more e)

-- an instruction begins where a label stands
pub label_starts : (pool : Pool) (labels : List ℕ → Option ℕ) (pc : ℕ) (is : List Labelled) (name : List ℕ) (place : ℕ) → place_of_label pc is name ≡ Some place
    → is_start (all_decoded pool labels pc is) place ≡ true
label_starts pool labels pc [] name place e = absurd cc
label_starts pool labels pc (i ∷ is) name place e =
    first_start (is_label_of name i.label) pc (place_of_label (pc + size_of_opcode i.opcode) is name) place (is_start (all_decoded pool labels (pc + size_of_opcode i.opcode) is) place) e
    (label_starts pool labels (pc + size_of_opcode i.opcode) is name place)

module _ (pool : Pool) (table : Table) (right : IsRightPool pool table) (labels : List ℕ → Option ℕ) (placed : (name : List ℕ) (place : ℕ) → labels name ≡ Some place → place < 2 ^ 16) where
  -- ---- instructions

  instruction_spelled : (pc : ℕ) (i : Labelled) → pc < 2 ^ 16 → IsRightInstruction pool labels pc i → IsSpelled pool table labels pc i.opcode (form_at i.opcode) i.operand
  instruction_spelled pc i here r =
      form_spelled pool table right labels placed pc here i.opcode (form_at i.opcode) i.operand refl r.taken r.suits_it r.value r.keys r.strings

  -- instructions, the first of them at pc, are spelled and say what is listed
  pub record AreSpelled (pc : ℕ) (is : List Labelled) : Type 0 where
    pub are : AreInstrs (tags_of table) (dims_of table) pc (instruction_bytes pool labels pc is) (all_decoded pool labels pc is)
    pub say : SayInstructions table labels pc is (all_decoded pool labels pc is)
    pub size : length (instruction_bytes pool labels pc is) ≡ code_size is

  more_spelled : (pc : ℕ) (i : Labelled) (is : List Labelled) → IsSpelled pool table labels pc i.opcode (form_at i.opcode) i.operand → AreSpelled (pc + size_of_opcode i.opcode) is → AreSpelled pc (i ∷ is)
  more_spelled pc i is one more =
      let text : List ℕ = i.opcode ∷ operand_bytes pool labels pc (form_at i.opcode) i.operand in
      let next : ℕ = pc + size_of_opcode i.opcode in
      let behind = subst (λ (n : ℕ). AreInstrs (tags_of table) (dims_of table) (pc + n) (instruction_bytes pool labels next is) (all_decoded pool labels next is)) (sym one.size) more.are in
      record {
        are = AreInstrs.next text (instruction_bytes pool labels next is) one.is behind;
        say = (refl, refl, refl, one.says, more.say);
        size = length-append text (instruction_bytes pool labels next is) ∙ ap (λ (n : ℕ). n + length (instruction_bytes pool labels next is)) one.size ∙ ap (λ (n : ℕ). size_of_opcode i.opcode + n) more.size;
      }

  pub instructions_spelled : (pc : ℕ) (is : List Labelled) → pc + code_size is < 2 ^ 16 → AreRightInstructions pool labels pc is → AreSpelled pc is
  instructions_spelled pc [] short r = record { are = AreInstrs.none; say = tt; size = refl }
  instructions_spelled pc (i ∷ is) short r =
      more_spelled pc i is (instruction_spelled pc i (omega arith) r.0) (instructions_spelled (pc + size_of_opcode i.opcode) is (omega arith) r.1)

  -- ---- the exception table

  caught : (catch : Option (List ℕ)) → AreIn (catch_keys catch) pool.keys
      → (catch_index pool catch < 2 ^ 16) × SaysCatch table catch (catch_index pool catch) × ((catch_index pool catch == 0 || names entry_kinds.Class (tag_at table (catch_index pool catch))) ≡ true)
  caught None keyed = (omega arith, refl, refl)
  caught (Some name) keyed =
      let tells : TellsClass pool table name = right.classes name keyed in
      let i : ℕ = class_index pool name in
      (tells.fits, tells.names, or_right (eqb i 0) _ (rw tells.names.tag refl))

  row_fits : (r : Range) → IsRightRange pool labels r → IsHandler (row_of pool labels r)
  row_fits r is =
      let to : (name : List ℕ) (place : ℕ) → labels name ≡ Some place → place_or_0 (labels name) < 2 ^ 16 = λ name place e. rw e (placed name place e) in
      record {
        start = to r.start is.start is.start_is;
        end = to r.end is.end is.end_is;
        handler = to r.handler is.handler is.handler_is;
        catch_type = (caught r.catch is.keys).0;
      }

  pub rows_fit : (rs : List Range) → AllByRecursion (IsRightRange pool labels) rs → AllByRecursion IsHandler (map (row_of pool labels) rs)
  rows_fit [] r = tt
  rows_fit (x ∷ xs) r = (row_fits x r.0, rows_fit xs r.1)

  place_told : (name : List ℕ) (place : ℕ) → labels name ≡ Some place → labels name ≡ Some (place_or_0 (labels name))
  place_told name place e = e ∙ ap (λ (o : Option ℕ). Some (place_or_0 o)) (sym e)

  pub rows_say : (rs : List Range) → AllByRecursion (IsRightRange pool labels) rs → SayRanges table labels rs (map (row_of pool labels) rs)
  rows_say [] r = tt
  rows_say (x ∷ xs) r =
      (place_told x.start r.0.start r.0.start_is, place_told x.end r.0.end r.0.end_is, place_told x.handler r.0.handler r.0.handler_is, (caught x.catch r.0.keys).1, rows_say xs r.1)

  -- ---- places where instructions begin

  module _ (starts : ℕ → Bool) (started : (name : List ℕ) (place : ℕ) → labels name ≡ Some place → starts place ≡ true) where
    label_leads : (form : Option Form) (pc : ℕ) (name : List ℕ) (target : Option ℕ) → labels name ≡ target → (IsNoTarget form pc target → ⊥) → list_all starts (place_or_0 (labels name) ∷ []) ≡ true
    label_leads form pc name None e good = absurd (good tt)
    label_leads form pc name (Some place) e good = rw e (and_from (starts place) true (started name place e) refl)

    form_leads : (form : Option Form) (pc : ℕ) (operand : Operand) → suits form operand ≡ true → (IsNoValue labels pc form operand → ⊥)
        → list_all starts (cond (is_branch form) (operands_of pool labels form operand) []) ≡ true
    form_leads (Some forms.Branch) pc (Label name) suited good = label_leads (Some forms.Branch) pc name (labels name) refl good
    form_leads (Some forms.FarBranch) pc (Label name) suited good = label_leads (Some forms.FarBranch) pc name (labels name) refl good
    form_leads (Some forms.Branch) pc operand suited good = absurd (false≢true suited)
    form_leads (Some forms.FarBranch) pc operand suited good = absurd (false≢true suited)
    form_leads (Some forms.TableSwitch) pc operand suited good = absurd (false≢true suited)
    form_leads (Some forms.LookupSwitch) pc operand suited good = absurd (false≢true suited)
    form_leads form pc operand suited good = refl

    -- each branch leads to an instruction
    pub instructions_lead : (pc : ℕ) (is : List Labelled) → AreRightInstructions pool labels pc is → list_all (leads_to_starts starts) (all_decoded pool labels pc is) ≡ true
    instructions_lead pc [] r = refl
    instructions_lead pc (i ∷ is) r =
        and_from _ _ (form_leads (form_at i.opcode) pc i.operand r.0.suits_it r.0.value) (instructions_lead (pc + size_of_opcode i.opcode) is r.1)

    row_right : (size : ℕ) (r : Range) → IsRightRange pool labels r → is_handler (tags_of table) starts size (row_of pool labels r) ≡ true
    row_right size r is =
        let to : (name : List ℕ) (place : ℕ) → labels name ≡ Some place → starts (place_or_0 (labels name)) ≡ true = λ name place e. rw e (started name place e) in
        let ordered : ltb (place_or_0 (labels r.start)) (place_or_0 (labels r.end)) ≡ true = rw (is.start_is, is.end_is) (lt-ltb is.start is.end is.some) in
        and_from _ _
        (and_from _ _ (and_from _ _ (and_from _ _ ordered (to r.start is.start is.start_is)) (or_right _ _ (to r.end is.end is.end_is))) (to r.handler is.handler is.handler_is))
        (caught r.catch is.keys).2

    pub rows_right : (size : ℕ) (rs : List Range) → AllByRecursion (IsRightRange pool labels) rs → list_all (is_handler (tags_of table) starts size) (map (row_of pool labels) rs) ≡ true
    rows_right size [] r = refl
    rows_right size (x ∷ xs) r = and_from _ _ (row_right size x r.0) (rows_right size xs r.1)
